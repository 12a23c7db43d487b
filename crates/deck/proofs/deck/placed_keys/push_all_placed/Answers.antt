use Rattle.std.proofs.Common.{◌++◌, List, map, ap, ◌∙◌}
use Rattle.def_entry.specs.declared.key.Key.{Key}
use Rattle.def_entry.specs.declared.key.Kind.{Kind}
use Rattle.def_entry.specs.declared.key.Kind.TheVariants as kind
use Rattle.deck_lines.specs.Names.{key_number_names_of_kind}
use Rattle.deck.specs.SubstringKeys.{is_deck_number_holding_text}
use Rattle.deck.specs.Numbers.{deck_keys_where}
use Rattle.deck.specs.PlacedKeys.{placed_deck_key}
use Rattle.deck.proofs.DistinctKeys.{four_lists}
use Rattle.deck.proofs.deck.placed_keys.push_all_placed.Goals as goal

pub returns-clause-keys : goal.returns-clause-keys
returns-clause-keys c =
    let names = c.args.store.now.names in
    let of : Kind
    → List Key = λ k. deck_keys_where (is_deck_number_holding_text names c.args.last.now c.args.finder.now) k 0
    (key_number_names_of_kind names k) in
    c.in_ok-push_placed-4.ensures.keys
    ∙ ap (λ ks. ks ++ of kind.List)
    (c.in_ok-push_placed-3.ensures.keys ∙ ap (λ ks. ks ++ of kind.Func) (c.in_ok-push_placed-2.ensures.keys
    ∙ ap (λ ks. ks ++ of kind.Prefix)
    (c.in_ok-push_placed.ensures.keys ∙ ap (λ ks. map placed_deck_key ks ++ of kind.Unit) c.requires.none)))
    ∙ four_lists (of kind.Unit) (of kind.Prefix) (of kind.Func) (of kind.List)
