use Rattle.std.proofs.Common.{◌≡◌, ◌∷◌, false, ap, subst, ◌∙◌}
use Rattle.std.specs.Prelude.{reverse}
use Rattle.def_lines.specs.Blanks.{trimmed_of_blanks}
use Rattle.deck_lines.specs.ClosedBlocks.{AreBlocksClosed}
use Rattle.deck_lines.specs.Limits.{pass_store_limit}
use Rattle.deck.specs.Decks.{DeckContents}
use Rattle.edit_history.specs.Histories.{UndoStacks}
use Rattle.edit_history.specs.declared.step.Step.TheVariants.{Undefine}
use Rattle.edit_history.proofs.Defining.{redone_text_trimmed_twice}
use Rattle.edit_history.proofs.GoingBack.{can_undefine, undefine_again}
use Rattle.edit_history.proofs.Noting.{history_follows_recorded_edit, undo_course_with_recorded_step}
use Rattle.edit_history.proofs.history.History.define.Goals as goal

pub returns-clause-follows : goal.returns-clause-follows
returns-clause-follows c =
    let old = c.args.table.now.deck in
    let new = c.define_shadowing.new.self.deck in
    let text = trimmed_of_blanks c.args.line.now in
    let s = Undefine c.in_ok-uncovered.uncovered in
    let closed = subst (λ (d : DeckContents). AreBlocksClosed d.lines) c.deck.ensures.deck c.lines_closed.ensures.closed
    in
    let within = subst (λ (d : DeckContents). pass_store_limit d.lines ≡ false) c.deck.ensures.deck
    c.lines_closed.ensures.within
    in
    let is = undo_course_with_recorded_step s (reverse c.put.new.steps.items) c.clear.new.self.items
    c.args.self.now.done_steps
    (c.put.ensures ∙ ap (λ xs. s ∷ reverse xs) c.make_room.ensures.items
    ∙ ap (λ (h : UndoStacks). s ∷ h.done_steps) c.self.view_is)
    c.clear.ensures.items in
    history_follows_recorded_edit s c.args.self.now _ old new is
    (can_undefine text (redone_text_trimmed_twice c.args.line.now) c.in_ok-uncovered.uncovered old new
    c.in_ok-uncovered.ensures.0
    c.in_ok-uncovered.ensures.2 closed within)
    (undefine_again text (redone_text_trimmed_twice c.args.line.now) c.in_ok-uncovered.uncovered old new
    c.in_ok-uncovered.ensures.0
    c.in_ok-uncovered.ensures.2 closed within)
    c.requires

pub returns-clause-noted : goal.returns-clause-noted
returns-clause-noted c =
    let old = c.args.table.now.deck in
    let new = c.define_shadowing.new.self.deck in
    let text = trimmed_of_blanks c.args.line.now in
    let s = Undefine c.in_ok-uncovered.uncovered in
    let closed = subst (λ (d : DeckContents). AreBlocksClosed d.lines) c.deck.ensures.deck c.lines_closed.ensures.closed
    in
    let within = subst (λ (d : DeckContents). pass_store_limit d.lines ≡ false) c.deck.ensures.deck
    c.lines_closed.ensures.within
    in
    let is = undo_course_with_recorded_step s (reverse c.put.new.steps.items) c.clear.new.self.items
    c.args.self.now.done_steps
    (c.put.ensures ∙ ap (λ xs. s ∷ reverse xs) c.make_room.ensures.items
    ∙ ap (λ (h : UndoStacks). s ∷ h.done_steps) c.self.view_is)
    c.clear.ensures.items in (
      s,
      is,
      undefine_again text (redone_text_trimmed_twice c.args.line.now) c.in_ok-uncovered.uncovered old new
          c.in_ok-uncovered.ensures.0 c.in_ok-uncovered.ensures.2 closed within,
    )
