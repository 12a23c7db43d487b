use Rattle.std.proofs.Common.{◌≡◌, ◌∷◌, ◌+◌, ◌-◌, false, length, length-append, sym, ap, subst, ◌∙◌, arith}
use Rattle.std.specs.Prelude.{map, reverse}
use Rattle.std.proofs.lemmas.List.{length-map}
use Rattle.deck_lines.specs.ClosedBlocks.{AreBlocksClosed}
use Rattle.deck_lines.specs.Limits.{pass_store_limit}
use Rattle.deck_lines.specs.Marks.{store_line_without_mark}
use Rattle.deck_lines.specs.Transcripts.{IsTranscript, files_model}
use Rattle.deck.specs.Decks.{DeckContents}
use Rattle.edit_history.specs.Histories.{UndoStacks}
use Rattle.edit_history.specs.declared.step.Step.TheVariants.{Exchange}
use Rattle.edit_history.proofs.Noting.{LeadsBack, history_follows_recorded_edit, recorded_append_adds_lines}
use Rattle.edit_history.proofs.Noting.{recorded_append_can_be_undone, undo_course_with_recorded_step}
use Rattle.edit_history.proofs.history.History.append.Goals as goal

pub overflow_sub-cut : goal.overflow_sub-cut
overflow_sub-cut g c =
    let old = c.args.table.now.deck in
    let new = c.append.new.self.deck in
    let more = recorded_append_adds_lines c.appends_keep_lines.ensures
    (IsTranscript (files_model g.F.Files.files g.F.Files.faults g.F.Files.is_fetch) c.args.files.now c.append.new.files)
    c.args.name.now old.lines
    (record { lines = new.lines; notices = new.notices }) c.in_ok-append.ensures.loads in
    let before : c.len-at.result ≡ length old.lines = c.len-at.ensures ∙ ap length c.lines.ensures.is
    ∙ ap (λ (d : DeckContents). length (map store_line_without_mark d.lines)) c.deck.ensures.deck
    ∙ length-map old.lines store_line_without_mark in
    let after : c.len.result ≡ length new.lines = c.len.ensures ∙ ap length c.lines-2.ensures.is
    ∙ ap (λ (d : DeckContents). length (map store_line_without_mark d.lines)) c.deck-2.ensures.deck
    ∙ length-map new.lines store_line_without_mark in
    omega (arith, before, after, ap length more.1, length-append old.lines more.0)

pub returns-clause-follows : goal.returns-clause-follows
returns-clause-follows g c =
    let old = c.args.table.now.deck in
    let new = c.append.new.self.deck in
    let more = recorded_append_adds_lines c.appends_keep_lines.ensures
    (IsTranscript (files_model g.F.Files.files g.F.Files.faults g.F.Files.is_fetch) c.args.files.now c.append.new.files)
    c.args.name.now old.lines
    (record { lines = new.lines; notices = new.notices }) c.in_ok-append.ensures.loads in
    let before : c.len-at.result ≡ length old.lines = c.len-at.ensures ∙ ap length c.lines.ensures.is
    ∙ ap (λ (d : DeckContents). length (map store_line_without_mark d.lines)) c.deck.ensures.deck
    ∙ length-map old.lines store_line_without_mark in
    let after : c.len.result ≡ length new.lines = c.len.ensures ∙ ap length c.lines-2.ensures.is
    ∙ ap (λ (d : DeckContents). length (map store_line_without_mark d.lines)) c.deck-2.ensures.deck
    ∙ length-map new.lines store_line_without_mark in
    let cut : c.len-at.result + (c.len.result - c.len-at.result) ≡ length new.lines =
    omega (arith, before, after, ap length more.1, length-append old.lines more.0) in
    let s = Exchange c.replace.new.self in
    let back = subst (λ t. LeadsBack t old new) (sym (ap Exchange c.replace.ensures.after))
    (recorded_append_can_be_undone c.len-at.result (c.len.result - c.len-at.result) c.new-put.result more.0 old new
    more.1
    c.append.ensures.settings before cut c.new-put.ensures
    (subst (λ (d : DeckContents). AreBlocksClosed d.lines) c.deck.ensures.deck c.lines.ensures.closed)
    (subst (λ (d : DeckContents). pass_store_limit d.lines ≡ false) c.deck.ensures.deck c.lines.ensures.within)) in
    let is = undo_course_with_recorded_step s (reverse c.put.new.steps.items) c.clear.new.self.items
    c.args.self.now.done_steps
    (c.put.ensures ∙ ap (λ xs. s ∷ reverse xs) c.make_room.ensures.items
    ∙ ap (λ (h : UndoStacks). s ∷ h.done_steps) c.self.view_is)
    c.clear.ensures.items in
    history_follows_recorded_edit s c.args.self.now _ old new is back.can back.again c.requires

pub returns-clause-noted : goal.returns-clause-noted
returns-clause-noted g c =
    let old = c.args.table.now.deck in
    let new = c.append.new.self.deck in
    let more = recorded_append_adds_lines c.appends_keep_lines.ensures
    (IsTranscript (files_model g.F.Files.files g.F.Files.faults g.F.Files.is_fetch) c.args.files.now c.append.new.files)
    c.args.name.now old.lines
    (record { lines = new.lines; notices = new.notices }) c.in_ok-append.ensures.loads in
    let before : c.len-at.result ≡ length old.lines = c.len-at.ensures ∙ ap length c.lines.ensures.is
    ∙ ap (λ (d : DeckContents). length (map store_line_without_mark d.lines)) c.deck.ensures.deck
    ∙ length-map old.lines store_line_without_mark in
    let after : c.len.result ≡ length new.lines = c.len.ensures ∙ ap length c.lines-2.ensures.is
    ∙ ap (λ (d : DeckContents). length (map store_line_without_mark d.lines)) c.deck-2.ensures.deck
    ∙ length-map new.lines store_line_without_mark in
    let cut : c.len-at.result + (c.len.result - c.len-at.result) ≡ length new.lines =
    omega (arith, before, after, ap length more.1, length-append old.lines more.0) in
    let s = Exchange c.replace.new.self in
    let back = subst (λ t. LeadsBack t old new) (sym (ap Exchange c.replace.ensures.after))
    (recorded_append_can_be_undone c.len-at.result (c.len.result - c.len-at.result) c.new-put.result more.0 old new
    more.1
    c.append.ensures.settings before cut c.new-put.ensures
    (subst (λ (d : DeckContents). AreBlocksClosed d.lines) c.deck.ensures.deck c.lines.ensures.closed)
    (subst (λ (d : DeckContents). pass_store_limit d.lines ≡ false) c.deck.ensures.deck c.lines.ensures.within)) in
    let is = undo_course_with_recorded_step s (reverse c.put.new.steps.items) c.clear.new.self.items
    c.args.self.now.done_steps
    (c.put.ensures ∙ ap (λ xs. s ∷ reverse xs) c.make_room.ensures.items
    ∙ ap (λ (h : UndoStacks). s ∷ h.done_steps) c.self.view_is)
    c.clear.ensures.items in
    (s, is, back.again)
