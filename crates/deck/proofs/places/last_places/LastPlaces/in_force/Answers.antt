use Rattle.std.proofs.Common.{length, ap, subst, ◌∙◌}
use Rattle.std.specs.Prelude.{IfOk}
use Rattle.deck_lines.specs.StoreEdits.{StoreEdit}
use Rattle.deck.specs.LastPlaces.{AreLastDefinitionPlaces}
use Rattle.deck.specs.Tables.{DeckDefinitions, active_definitions, active_definitions_among}
use Rattle.deck.proofs.ActiveLineFlags.{length-active_line_flags}
use Rattle.deck.proofs.places.last_places.LastPlaces.in_force.Goals as goal

pub of_edited-requires : goal.of_edited-requires
of_edited-requires c = ap length (c.as_slice.ensures.value ∙ c.in_ok-flags.ensures)
    ∙ length-active_line_flags _ _ c.without_change-edited.result.new_lines

pub returns-clause-last : goal.returns-clause-last
unfolding active_definitions
returns-clause-last c =
    subst (λ (e : StoreEdit). IfOk c.of_edited.result
    (λ last. AreLastDefinitionPlaces e.names (active_definitions c.args.settings.now e.new_lines) last))
    c.without_change-edited.ensures.is
    (subst (λ (ds : DeckDefinitions). IfOk c.of_edited.result
    (λ last. AreLastDefinitionPlaces c.without_change-edited.result.names ds last))
    (ap (λ fs. active_definitions_among fs c.without_change-edited.result.new_lines)
    (c.as_slice.ensures.value ∙ c.in_ok-flags.ensures))
    c.of_edited.ensures)
