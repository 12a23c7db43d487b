use Rattle.std.proofs.Common.{ap, ◌∙◌, sym, subst, slice_get, map, rules}
use Rattle.std.specs.List.{position_or_len}
use Rattle.std.specs.Str.{bytes_eq}
use Rattle.deck_lines.specs.Names.{key_number_names_with_name}
use Rattle.deck_lines.specs.NumberedNames.{AreKeyNamesUpTo, NumberedKeyNames}
use Rattle.deck_lines.proofs.NameNumbers.{AreUpTo-more, AreUpTo-with_name, key_number_put_inserts_name, place_seen}
use Rattle.deck_lines.proofs.NameNumbers.{put_name_has_its_key_number}
use Rattle.deck_lines.proofs.store.name_set.NameSet.put.Goals as goal

pub returns-clause-names : goal.returns-clause-names
returns-clause-names c =
    ap (map (λ name. name.items)) c.in-Ok.ensures.keys
    ∙ key_number_put_inserts_name (λ name. name.items) c.args.name c.self.inside.names.keys
    ∙ ap (λ (s : NumberedKeyNames). key_number_names_with_name c.args.name.items s.names) c.self.view_is

pub returns-clause-number : goal.returns-clause-number
returns-clause-number c =
    ap (λ n. slice_get (map (λ name. name.items) c.insert_full.new.self.keys) n)
    (c.in-Ok.number-is ∙ c.in-Ok.ensures.index
    ∙ sym (place_seen (λ name. name.items) c.args.name.items c.self.inside.names.keys))
    ∙ ap (λ names. slice_get names
    (position_or_len (bytes_eq c.args.name.items) (map (λ name. name.items) c.self.inside.names.keys)))
    (ap (map (λ name. name.items)) c.in-Ok.ensures.keys
    ∙ key_number_put_inserts_name (λ name. name.items) c.args.name c.self.inside.names.keys)
    ∙ put_name_has_its_key_number c.args.name.items (map (λ name. name.items) c.self.inside.names.keys)

pub invariant_of-self : goal.invariant_of-self
invariant_of-self c =
    let names = map (λ name. name.items) c.self.inside.names.keys in
    subst (AreKeyNamesUpTo c.max-self-inside.result)
    (sym (ap (map (λ name. name.items)) c.in-Ok.ensures.keys
    ∙ key_number_put_inserts_name (λ name. name.items) c.args.name c.self.inside.names.keys))
    (AreUpTo-with_name c.max-self-inside.result c.args.name.items names (search rules)
    (AreUpTo-more c.self.inside.longest c.max-self-inside.result names (search rules) c.self.invariant))
