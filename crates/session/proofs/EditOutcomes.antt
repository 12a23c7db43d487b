-- Edits that were made, and those that changed nothing.
use Rattle.std.proofs.Common.{◌≡◌, ℕ, List, sym, ap, ◌∙◌, Ok}
use Rattle.std.specs.Prelude.{Result}
use Rattle.deck.specs.Decks.{DeckContents}
use Rattle.deck.specs.declared.fault.DeckFault.{DeckFault}
use Rattle.edit_history.specs.Calls.{IsEditRecorded}
use Rattle.edit_history.specs.Histories.{UndoStacks}
use Rattle.edit_history.specs.Laws.{HistoryTimelineLaw}
use Rattle.live_table.specs.Calls.{IsAcceptedLiveEdit}
use Rattle.live_table.specs.TableView.{LiveView}
use Rattle.session.specs.EditResults.{Made, session_edit_result}
use Rattle.session.specs.Parts.{MakesSessionEdit}
use Rattle.session.specs.Versions.{session_table_with_versions, session_versions}

pub equal_session_tables_and_versions : (old new : LiveView) (before after : UndoStacks) → new ≡ old → after ≡ before
    → session_table_with_versions new after ≡ session_table_with_versions old before
equal_session_tables_and_versions old new before after stays same =
    ap (λ (s : LiveView). session_table_with_versions s after) stays
    ∙ ap (λ (h : UndoStacks). session_table_with_versions old h) same

pub session_edit_is_made : HistoryTimelineLaw → (outcome : Result DeckContents DeckFault) (named : List ℕ)
    (old new : LiveView)
    (before after : UndoStacks) → outcome ≡ Ok new.deck → IsAcceptedLiveEdit old new
    → IsEditRecorded before after old.deck new.deck (Ok tt)
    → MakesSessionEdit (session_edit_result outcome named (session_table_with_versions old before))
    (session_table_with_versions old before)
    (session_table_with_versions new after)
session_edit_is_made law outcome named old new before after made edit noted = record {
  result_is = ap (λ o. session_edit_result o named (session_table_with_versions old before)) made
      ∙ ap (λ t. Made new.deck (session_versions t)) (sym (law.edit before after old.deck new.deck noted));
  edit = edit;
}
