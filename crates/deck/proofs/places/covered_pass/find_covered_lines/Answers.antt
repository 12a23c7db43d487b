use Rattle.std.proofs.Common.{◌≡◌, Bool, List, Some, length, ap, subst, sym, ◌∙◌}
use Rattle.std.specs.Prelude.{IfOk}
use Rattle.deck_lines.specs.StoreEdits.{StoreEdit}
use Rattle.deck.specs.Active.{active_lines, deck_surroundings_at_start}
use Rattle.deck.specs.CoveredLines.{MayCoverDefinitions}
use Rattle.deck.specs.Tables.{active_definitions, active_definitions_among}
use Rattle.deck.proofs.ActiveLineFlags.{length-active_line_flags}
use Rattle.deck.proofs.places.covered_pass.find_covered_lines.Goals as goal

pub covered_lines_among-requires : goal.covered_lines_among-requires
covered_lines_among-requires c =
    let settings = c.args.settings.now in
    ap length (c.as_slice.ensures.value ∙ c.in_ok-flags.ensures)
    ∙ length-active_line_flags settings.locale (deck_surroundings_at_start settings) c.args.store.now.lines
    ∙ ap (λ (e : StoreEdit). length e.new_lines) (sym c.without_change.ensures.is)

pub returns : goal.returns
unfolding active_definitions
returns c =
    let lines = c.args.store.now.lines in
    let flags : List Bool = active_lines c.args.settings.now lines in
    let edited : StoreEdit = c.without_change.result in
    subst (λ (e : StoreEdit). IfOk c.covered_lines_among.result
    (λ covered. MayCoverDefinitions (length e.new_lines) (active_definitions_among flags e.new_lines) (Some covered)))
    c.without_change.ensures.is
    (subst (λ (fs : List Bool). IfOk c.covered_lines_among.result
    (λ covered. MayCoverDefinitions (length edited.new_lines) (active_definitions_among fs edited.new_lines)
    (Some covered)))
    (c.as_slice.ensures.value ∙ c.in_ok-flags.ensures) c.covered_lines_among.ensures)
