-- The effect of an edit, given its answer.
use Rattle.std.proofs.Common.{◌≡◌, ◌≢◌, ◌<◌, ◌∙◌, ℕ, List, true, Result, Ok, Err, refl, sym, ap, subst, arith, inl, inr}
use Rattle.std.specs.Prelude.{IfErr, IfOk, IsErr}
use Rattle.std.specs.declared.alloc.AllocError.{AllocError}
use Rattle.deck.specs.Decks.{DeckContents}
use Rattle.deck.specs.declared.fault.DeckFault.{DeckFault}
use Rattle.deck.specs.declared.fault.DeckFault.TheVariants as fault
use Rattle.def_entry.specs.declared.fault.EntryFault.TheVariants as entry
use Rattle.edit_history.specs.Calls.{IsEditRecorded}
use Rattle.edit_history.specs.Histories.{UndoStacks}
use Rattle.edited_table.specs.TableValue.{EditedTableView}
use Rattle.expr_tree.specs.declared.fault.ParseFault.TheVariants as parse
use Rattle.live_table.specs.Edits.{IsLiveEditOf}
use Rattle.live_table.specs.TableView.{LiveView}
use Rattle.edited_table.specs.EditAnswers.{HasCMessage, IsAnsweredCEdit, c_deck_after_edit, c_edited_answer}
use Rattle.edited_table.specs.EditAnswers.{has_own_c_message}
use Rattle.edited_table.specs.EditAnswers.{c_refusal_answer}
use Rattle.edited_table.specs.Statuses.{status_code}
use Rattle.edited_table.specs.TableValue.{c_definitions_of}
use Rattle.edited_table.specs.declared.answer.Answer.{Answer}

-- the code of a refusal with its own message is greater than the codes of `Done` and `NoMemory`
refusal_status_code : (why : DeckFault) (named : List ℕ) → has_own_c_message why ≡ true → why ≢ fault.OutOfMemory
    → 1 < status_code (c_refusal_answer why named).status
refusal_status_code (fault.BadLine (entry.BadName name)) named has_words other = omega arith
refusal_status_code (fault.BadLine entry.BadForm) named has_words other = omega arith
refusal_status_code (fault.BadLine entry.BadTable) named has_words other = omega arith
refusal_status_code (fault.BadLine (entry.Parse (parse.Syntax place))) named has_words other = omega arith
refusal_status_code (fault.BadLine (entry.Parse parse.NumeralTooLong)) named has_words other = omega arith
refusal_status_code (fault.BadLine (entry.Parse parse.NestedTooDeep)) named has_words other = omega arith
refusal_status_code (fault.BadLine (entry.Parse parse.OutOfMemory)) named has_words other = absurd (cc)
refusal_status_code (fault.BadLine entry.OutOfMemory) named has_words other = absurd (cc)
refusal_status_code fault.NoSuchKey named has_words other = omega arith
refusal_status_code fault.DeckFull named has_words other = omega arith
refusal_status_code fault.Absent named has_words other = omega arith
refusal_status_code fault.TooLong named has_words other = omega arith
refusal_status_code fault.ReadFailed named has_words other = omega arith
refusal_status_code fault.OutOfMemory named has_words other = absurd (other refl)

-- tables with equal parts have the same definitions
pub same_c_definitions : (old new : EditedTableView) → new.table ≡ old.table → new.history ≡ old.history
    → c_definitions_of new ≡ c_definitions_of old
same_c_definitions old new table history =
    ap (λ (t : LiveView). c_definitions_of (record { table = t; history = new.history })) table
    ∙ ap (λ (h : UndoStacks). c_definitions_of (record { table = old.table; history = h })) history

module _ (outcome : Result DeckContents DeckFault) (named : List ℕ) (old new : EditedTableView) where
  -- a refused edit leaves the deck and the history unchanged
  edit_refused : (why : DeckFault) (answer : Answer) → new.table ≡ old.table → new.history ≡ old.history
      → has_own_c_message why ≡ true → answer ≡ c_refusal_answer why named → why ≢ fault.OutOfMemory → outcome ≡ Err why
      → IsAnsweredCEdit (c_deck_after_edit outcome old.table.deck) (Ok answer) old new
  edit_refused why answer table history has_words is other same =
      let above : 1 < status_code answer.status =
      subst (λ (a : Answer). 1 < status_code a.status) (sym is) (refusal_status_code why named has_words other) in
      record {
        deck =
            ap (λ (t : LiveView). t.deck) table
            ∙ sym (ap (λ (o : Result DeckContents DeckFault). c_deck_after_edit o old.table.deck) same);
        change_noted = λ done. absurd (omega arith);
        no_note = λ _. history;
        without_text = λ done. absurd (omega arith);
        memory = λ m. omega arith;
      }

  -- an edit leaves the deck of its outcome
  pub edit_left : (edited : Result (Unit {0}) DeckFault) (answered : Result Answer AllocError)
      → IsLiveEditOf outcome old.table new.table edited
      → IsEditRecorded old.history new.history old.table.deck new.table.deck edited
      → HasCMessage edited
      → IfOk answered (λ answer. answer ≡ c_edited_answer edited named)
      → IfOk answered (λ _. edited ≢ Err fault.OutOfMemory)
      → IfErr answered (λ _. IsErr edited)
      → IsAnsweredCEdit (c_deck_after_edit outcome old.table.deck) answered old new
  edit_left (Ok u) (Ok answer) edit noted has_words is known refused =
      let done : status_code answer.status ≡ 0 = ap (λ (a : Answer). status_code a.status) is in record {
        deck = sym (ap (λ (o : Result DeckContents DeckFault). c_deck_after_edit o old.table.deck) edit.0);
        change_noted = λ _. noted;
        no_note = λ other. absurd (other done);
        without_text = λ _. ap (λ (a : Answer). a.text) is;
        memory = λ m. omega arith;
      }
  edit_left (Err why) (Ok answer) edit noted has_words is known refused = elim edit.1 [
    | inl memory ↦ absurd (known (cc))
    | inr same ↦ edit_refused why answer edit.0 noted has_words is (λ m. known (cc)) same
  ]
  edit_left (Ok u) (Err e) edit noted has_words is known refused = absurd (cc)
  edit_left (Err why) (Err e) edit noted has_words is known refused = same_c_definitions old new edit.0 noted
