-- The effect of a call on the caller's table, derived from its effect on the content.
use Rattle.std.proofs.Common.{◌≡◌, ◌≢◌, ◌<◌, ◌≤◌, ℕ, List, Option, Some, Result, Ok, Err, sym, ap, subst, arith, length, inl, inr}
use Rattle.std.specs.Prelude.{IfErr, IfOk}
use Rattle.std.specs.declared.alloc.AllocError.{AllocError}
use Rattle.deck.specs.Decks.{DeckContents}
use Rattle.edit_history.specs.Histories.{UndoStacks}
use Rattle.edited_table.specs.TableValue.{EditedTableView}
use Rattle.units_c.specs.Delivery.{IsAnswerHandedToC, IsNothingHandedToC}
use Rattle.edited_table.specs.EditAnswers.{IsAnsweredCEdit}
use Rattle.units_c.specs.Edits.{NotesCEdit, TurnsCTable}
use Rattle.units_c.specs.Tables.{IsCTableAnswered}
use Rattle.edited_table.specs.Statuses.{status_code}
use Rattle.edited_table.specs.TurnAnswers.{IsAnsweredCTurn}
use Rattle.edited_table.specs.declared.answer.Answer.{Answer}
use Rattle.edited_table.specs.declared.status.Status.TheVariants as status

-- a call on an open table delivers its answer
pub open_answered : (held : Option EditedTableView) (e : EditedTableView) (answer : EditedTableView → Answer)
    (answered : Result Answer AllocError) (before : List ℕ) (result written : ℕ) (out : List ℕ) → Some e ≡ held
    → IfErr answered (λ _. IsNothingHandedToC (status_code status.NoMemory) result written before out)
    → IfOk answered (λ a. IsAnswerHandedToC a before result written out) → IfOk answered (λ a. a ≡ answer e)
    → IsCTableAnswered held answer before result written out
open_answered held e answer (Ok a) before result written out taken memory handed is =
    subst (λ (h : Option EditedTableView). IsCTableAnswered h answer before result written out) taken
    (inl (subst (λ (b : Answer). IsAnswerHandedToC b before result written out) is handed))
open_answered held e answer (Err x) before result written out taken memory handed is =
    subst (λ (h : Option EditedTableView). IsCTableAnswered h answer before result written out) taken
    (inr memory)

-- a call whose result is `Done` has an answer with the status `Done`; the text of the answer has `n` bytes
c_call_is_done : (n room result s : ℕ) → (n ≤ room → result ≡ s) → (room < n → result ≡ 2) → result ≡ 0
    → s ≡ 0
c_call_is_done n room result s fits short done = grind arith

c_call_is_not_done : (n room result s : ℕ) → (n ≤ room → result ≡ s) → (s ≡ 0 → n ≡ 0) → result ≢ 0
    → s ≢ 0
c_call_is_not_done n room result s fits silent other done = grind arith

-- an edit of an open table with this answer satisfies `NotesCEdit`
c_edit_is_noted : (e e' : EditedTableView) (deck : DeckContents) (answered : Result Answer AllocError)
    (before : List ℕ) (result written : ℕ) (out : List ℕ)
    → IfErr answered (λ _. IsNothingHandedToC (status_code status.NoMemory) result written before out)
    → IfOk answered (λ answer. IsAnswerHandedToC answer before result written out)
    → IsAnsweredCEdit deck answered e e' → NotesCEdit result (Some e) (Some e')
c_edit_is_noted e e' deck (Ok answer) before result written out memory handed is = (
  (λ done. is.change_noted
      (c_call_is_done (length answer.text) (length before) result (status_code answer.status) handed.status_is_result
      handed.no_room
      done)),
  (λ other. is.no_note (λ done. c_call_is_not_done (length answer.text) (length before) result (status_code answer.status)
      handed.status_is_result
      (λ d. ap length (is.without_text d)) other done)),
)
c_edit_is_noted e e' deck (Err x) before result written out memory handed is =
    let code = memory.status_is_result in
    ((λ done. absurd (omega arith)), (λ _. ap (λ (d : DeckContents × UndoStacks). d.1) is))

-- an undo or a redo of an open table with this answer satisfies `TurnsCTable`
c_table_turns : (IsTurn : EditedTableView → EditedTableView → Type 0) (e e' : EditedTableView)
    (answered : Result Answer AllocError)
    (before : List ℕ) (result written : ℕ) (out : List ℕ)
    → IfErr answered (λ _. IsNothingHandedToC (status_code status.NoMemory) result written before out)
    → IfOk answered (λ answer. IsAnswerHandedToC answer before result written out)
    → IsAnsweredCTurn IsTurn answered e e' → TurnsCTable IsTurn result (Some e) (Some e')
c_table_turns IsTurn e e' (Ok answer) before result written out memory handed is = (
  (λ done. is.turn_made
      (c_call_is_done (length answer.text) (length before) result (status_code answer.status) handed.status_is_result
      handed.no_room done)),
  (λ other. is.no_turn (λ done. c_call_is_not_done (length answer.text) (length before) result (status_code answer.status)
      handed.status_is_result (λ d. ap length (is.without_text d)) other done)),
)
c_table_turns IsTurn e e' (Err x) before result written out memory handed is =
    let code = memory.status_is_result in
    ((λ done. absurd (omega arith)), (λ _. is))

module _ (held left : Option EditedTableView) (e e' : EditedTableView) (taken : Some e ≡ held) (put : left ≡ Some e')
    (answered : Result Answer AllocError) (before : List ℕ) (result written : ℕ) (out : List ℕ)
    (memory : IfErr answered (λ _. IsNothingHandedToC (status_code status.NoMemory) result written before out))
    (handed : IfOk answered (λ answer. IsAnswerHandedToC answer before result written out)) where
  pub open_noted : (deck : DeckContents) → IsAnsweredCEdit deck answered e e' → NotesCEdit result held left
  open_noted deck is =
      subst (λ (h : Option EditedTableView). NotesCEdit result h left) taken
      (subst (λ (h : Option EditedTableView). NotesCEdit result (Some e) h) (sym put)
      (c_edit_is_noted e e' deck answered before result written out memory handed is))

  pub open_turn : (IsTurn : EditedTableView → EditedTableView → Type 0) → IsAnsweredCTurn IsTurn answered e e'
      → TurnsCTable IsTurn result held left
  open_turn IsTurn is =
      subst (λ (h : Option EditedTableView). TurnsCTable IsTurn result h left) taken
      (subst (λ (h : Option EditedTableView). TurnsCTable IsTurn result (Some e) h) (sym put)
      (c_table_turns IsTurn e e' answered before result written out memory handed is))
