-- Edits that the history records.
use Rattle.std.proofs.Common.{◌≡◌, ◌++◌, ◌∷◌, ◌+◌, ◌-◌, ◌≤◌, [], ℕ, List, Bool, true, false, cond, length, refl, sym}
use Rattle.std.proofs.Common.{ap, subst, ◌∙◌, arith, append_assoc, Some, Result, Ok, Err}
use Rattle.std.specs.Prelude.{reverse}
use Rattle.def_entry.specs.declared.key.Key.{Key}
use Rattle.deck_lines.specs.ClosedBlocks.{AreBlocksClosed}
use Rattle.deck_lines.specs.Excerpts.{Excerpt}
use Rattle.deck_lines.specs.Limits.{pass_store_limit}
use Rattle.deck_lines.specs.Origins.{exchanged_store_lines}
use Rattle.deck_lines.specs.Transcripts.{HasTranscript, TranscriptFetch}
use Rattle.deck_lines.specs.declared.line.DeckLine.{DeckLine}
use Rattle.deck.specs.Decks.{DeckContents}
use Rattle.deck.specs.Edits.{deck_after_dropping, deck_without_line, deck_without_some_line}
use Rattle.deck.specs.FileLoads.{AppendedDeckLinesLaw, deck_excerpt_of_lines, deck_load_of_name}
use Rattle.deck.specs.Splices.{DeckSpliceInverseLaw, deck_after_splicing, lines_from_deck_place}
use Rattle.deck.specs.Tables.{last_definition_place}
use Rattle.deck.specs.declared.fault.DeckFault.{DeckFault}
use Rattle.deck.specs.declared.splice.Splice.{Splice}
use Rattle.edit_history.specs.Histories.{IsHistoryOf, IsUndoStepPath, UndoStacks}
use Rattle.edit_history.specs.Steps.{CanMakeUndoStep, version_after_undo_step}
use Rattle.edit_history.specs.Versions.{history_version}
use Rattle.edit_history.specs.declared.step.Step.{Step}
use Rattle.edit_history.proofs.Exchanges.{exchange_step}
use Rattle.edit_history.proofs.GoingBack.{equal_history_versions}
use Rattle.edit_history.proofs.Placed.{last_history_place_is_within}
use Rattle.edit_history.proofs.Stepping.{can_go_back, lines_back, splice, undo_cut_leaves_lines_before}
use Rattle.edit_history.proofs.Stepping.{undo_lines_can_be_exchanged}

-- with one more step, back to the version before, the history belongs to the deck after
pub history_follows_recorded_edit : (s : Step) (old new : UndoStacks) (before after : DeckContents)
    → new ≡ record { done_steps = s ∷ old.done_steps; undone = [] }
    → CanMakeUndoStep s (history_version after) → version_after_undo_step s (history_version after) ≡ history_version
    before → IsHistoryOf old before
    → IsHistoryOf new after
history_follows_recorded_edit s old new before after is can again f =
    subst (λ h. IsHistoryOf h after) (sym is)
    (record { done_path = (can, subst (IsUndoStepPath old.done_steps) (sym again) f.done_path); undone_path = tt })

-- a history with these lists
abbrev course : (done undone : List Step) → UndoStacks
course done undone = record { done_steps = done; undone = undone }

pub undo_course_with_recorded_step : (s : Step) (done undone rest : List Step) → done ≡ s ∷ rest → undone ≡ []
    → course done (reverse undone) ≡ course (s ∷ rest) []
undo_course_with_recorded_step s done undone rest e f = λ i. course (e i) (reverse (f i))

-- a step that can be made and restores the version before
pub record LeadsBack (s : Step) (before after : DeckContents) : Type 0 where
  pub can : CanMakeUndoStep s (history_version after)
  pub again : version_after_undo_step s (history_version after) ≡ history_version before

-- an outcome gives only one deck
pub recorded_deck_is_unique : (d e : DeckContents) → ◌≡◌ {A = Result DeckContents DeckFault} (Ok d) (Ok e) → d ≡ e
recorded_deck_is_unique d e h = cc

-- a line was removed, and the step back puts it in its place
pub recorded_drop_can_be_undone : DeckSpliceInverseLaw → (k : Key) (at : ℕ) (put : List DeckLine)
    (before after : DeckContents)
    → last_definition_place before.settings before.lines k ≡ Some at
    → deck_after_dropping k before ≡ Ok after → put ≡ lines_from_deck_place at 1 before.lines
    → AreBlocksClosed before.lines
    → pass_store_limit before.lines ≡ false
    → LeadsBack (exchange_step at 0 put) before after
recorded_drop_can_be_undone law k at put before after last outcome put_is closed within = record {
  can = subst (λ ls. CanMakeUndoStep (exchange_step at 0 ls) (history_version after)) (sym put_is)
      (record { splice = can_go_back law s before after is places closed within; step_right = tt });
  again =
      ap (λ ls. version_after_undo_step (exchange_step at 0 ls) (history_version after)) put_is
      ∙ equal_history_versions _ before.lines after.settings before.settings (lines_back law s before after is places)
      (ap (λ (d : DeckContents). d.settings) is);
}
  where
    s : Splice
    s = splice at 1 [] before.settings

    is : after ≡ deck_after_splicing s before
    is = sym (recorded_deck_is_unique (deck_without_line at before) after
        (sym (ap (λ o. deck_without_some_line o before) last) ∙ outcome))

    places : at + 1 ≤ length before.lines
    places = omega (arith, last_history_place_is_within before.settings before.lines k at last)

-- lines were appended, and the step back cuts them off
pub recorded_append_can_be_undone : (at cut : ℕ) (put more : List DeckLine) (before after : DeckContents)
    → after.lines ≡ before.lines ++ more
    → after.settings ≡ before.settings
    → at ≡ length before.lines → at + cut ≡ length after.lines → put ≡ [] → AreBlocksClosed before.lines
    → pass_store_limit before.lines ≡ false
    → LeadsBack (exchange_step at cut put) before after
recorded_append_can_be_undone at cut put more before after lines settings here all none closed within = record {
  can = subst (λ ls. CanMakeUndoStep (exchange_step at cut ls) (history_version after)) (sym none)
      (record {
        splice = undo_lines_can_be_exchanged at cut [] after.lines before.lines (omega (arith, all)) gone closed within;
        step_right = tt;
      });
  again =
      ap (λ ls. version_after_undo_step (exchange_step at cut ls) (history_version after)) none
      ∙ equal_history_versions _ before.lines after.settings before.settings gone settings;
}
  where
    gone : exchanged_store_lines at cut [] after.lines ≡ before.lines
    gone = undo_cut_leaves_lines_before at cut before.lines more after.lines lines here all

-- an append of a file appends lines to the present ones
pub recorded_append_adds_lines : AppendedDeckLinesLaw → (are_made : List TranscriptFetch → Type 0) (name : List ℕ)
    (lines : List DeckLine)
    (given : Excerpt) → HasTranscript are_made (deck_load_of_name name (deck_excerpt_of_lines lines)) (Ok given)
    → (more : List DeckLine) × (given.lines ≡ lines ++ more)
recorded_append_adds_lines law are_made name lines given h = law name (deck_excerpt_of_lines lines) given (h.0 ++ []) []
    (h.2 [])
