use Rattle.std.proofs.Common.{◌≡◌, [], All, sym, ap, subst, ◌∙◌, Some, option_map}
use Rattle.std.proofs.lemmas.List.Elements.{All-append, All-cons, All-nil}
use Rattle.std.specs.Option.{option_copied}
use Rattle.def_entry.specs.Keys.{key}
use Rattle.deck.specs.PlacedKeys.{IsKeyInDefinitionPlace, deck_key_at_place}
use Rattle.deck.proofs.deck.placed_keys.push_if_placed.Goals as goal

pub returns-clause-in_place : goal.returns-clause-in_place
returns-clause-in_place c =
    let lines = c.args.store.now.lines in
    let there : deck_key_at_place lines c.in-Some.place ≡ Some (key c.args.n.kind c.in-Some-name.name.now) =
    c.requires.places c.args.n c.in-Some.place (sym c.get.ensures ∙ c.in-Some.is)
    ∙ ap (option_map (key c.args.n.kind)) (sym c.name.ensures ∙ ap option_copied c.in-Some-name.is) in
    subst (All (IsKeyInDefinitionPlace lines)) (sym c.in_ok-push.ensures.items)
    (All-append (IsKeyInDefinitionPlace lines) c.args.keys.now.items _ c.requires.placed
    (All-cons (IsKeyInDefinitionPlace lines) _ [] there (All-nil (IsKeyInDefinitionPlace lines))))
