use Rattle.std.proofs.Common.{ap, subst}
use Rattle.deck_lines.specs.NumberedNames.{AreKeyNamesUpTo, NumberedKeyNames}
use Rattle.deck_lines.proofs.NameNumbers.{key_number_of_name_lookup, longer_name_has_no_key_number}
use Rattle.deck_lines.proofs.store.name_set.NameSet.number_of.Goals as goal

pub returns-then-self-name : goal.returns-then-self-name
returns-then-self-name c =
    longer_name_has_no_key_number c.args.name.now c.self.inside.longest _
    (subst (AreKeyNamesUpTo c.self.inside.longest) (ap (λ (s : NumberedKeyNames). s.names) c.self.view_is)
    c.self.invariant)
    c.if-self-name.true

pub returns : goal.returns
returns c =
    key_number_of_name_lookup (λ name. name.items) c.args.name.now c.self.inside.names.keys c.get_index_of.result _
    (ap (λ (s : NumberedKeyNames). s.names) c.self.view_is) c.get_index_of.ensures.index c.get_index_of.ensures.found
