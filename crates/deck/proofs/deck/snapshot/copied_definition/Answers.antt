use Rattle.std.proofs.Common.{◌∙◌, ap, Some, option_map}
use Rattle.def_entry.specs.Keys.{key}
use Rattle.def_entry.specs.Views.{entry_view}
use Rattle.deck.proofs.CopiedLines.{deck_definition_by_parts}
use Rattle.deck.proofs.deck.snapshot.copied_definition.Goals as goal

pub returns : goal.returns
returns c = λ x at.
    let kind = c.in-Some.number.kind in
    deck_definition_by_parts c.args.store.now.lines c.args.place x (key kind c.in_ok-name.name) c.in_ok-what.what
    (entry_view c.in-Some-entry.entry) at
    (ap (λ name. Some (Some (key kind name))) c.in_ok-name.ensures
    ∙ ap (λ name. Some (option_map (key kind) name)) c.in-Some-name.ensures
    ∙ c.in-Some.ensures.number)
    c.in-Some-entry.ensures c.in_ok-what.ensures
