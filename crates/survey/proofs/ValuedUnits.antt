-- The value of a unit, from a query for an optional value.
use Rattle.std.proofs.Common.{◌≡◌, ◌++◌, ◌∷◌, ◌∙◌, ℕ, ap, refl, inl, inr, Bool, List, [], if◌then◌else◌}
use Rattle.std.specs.Prelude.{IfErr, IfOk, OnOk, Option, Some, None, Result, Ok, Err}
use Rattle.std.specs.declared.alloc.AllocError.{AllocError}
use Rattle.quantity.specs.Amount.{Amount}
use Rattle.tree_eval.specs.Steps.{ValueOrFault}
use Rattle.table_names.specs.declared.fault.NameFault.{NameFault}
use Rattle.live_table.specs.declared.fault.QueryFault.{QueryFault}
use Rattle.live_table.specs.declared.fault.QueryFault.TheVariants as query
use Rattle.live_table.specs.Answers.{live_answer_of_value, live_answer_value}
use Rattle.live_table.specs.Calls.{AreLiveQueries}
use Rattle.live_table.specs.TableView.{LiveView}
use Rattle.live_table.specs.States.{LiveEvent}
use Rattle.live_table.proofs.QuerySequence.{whole_event_is_live_query}
use Rattle.reply.specs.Calls.{IsInquiryAnswered, inquiry_identity, inquiry_result}
use Rattle.reply.specs.Inquiries.{inquiry_answer, inquiry_of_single_query}
use Rattle.reply.proofs.InquirySequence.{query_inquired}
use Rattle.survey.specs.Conformable.{is_conformable_result, is_conformable_value}

-- the answer of a query for an optional value
abbrev pub answer_of : Result Amount QueryFault → Result (Option Amount) AllocError → Result Amount QueryFault
answer_of answer (Ok value) = answer
answer_of answer (Err e) = Err query.OutOfMemory

-- a query for an optional value is an inquiry
pub conformable_value_is_inquiry : (e : LiveEvent) (answer : Result Amount QueryFault)
    (found : Result (Option Amount) AllocError)
    (a b : LiveView) (n m : ℕ) → b.deck ≡ a.deck → AreLiveQueries (e ∷ []) found a b n m
    → IsInquiryAnswered inquiry_identity (inquiry_of_single_query e answer) (inquiry_result (answer_of answer found)) a
    b n m
conformable_value_is_inquiry e answer (Ok value) a b n m deck made =
    query_inquired e answer a b n m answer (inr refl) (whole_event_is_live_query e answer a b n m deck made)
conformable_value_is_inquiry e answer (Err x) a b n m deck made = query_inquired e answer a b n m
    (Err query.OutOfMemory) (inl refl) made

-- no query answers that memory ran out if it did not
conformable_query_has_memory : (name : Option NameFault) (value_or_fault : ValueOrFault)
    → live_answer_of_value name value_or_fault ≡ Err query.OutOfMemory → ⊥
conformable_query_has_memory (Some fault) value_or_fault e = cc
conformable_query_has_memory None (Ok x) e = cc
conformable_query_has_memory None (Err fault) e = cc

pub conformable_value_has_memory : (name : Option NameFault) (value_or_fault : ValueOrFault)
    (found : Result (Option Amount) AllocError)
    (q : Result (Unit {0}) AllocError) → OnOk q (IfErr found (λ _. ⊥))
    → OnOk q (answer_of (live_answer_of_value name value_or_fault) found ≡ Err query.OutOfMemory → ⊥)
conformable_value_has_memory name value_or_fault (Ok value) (Ok u) memory =
    conformable_query_has_memory name value_or_fault
conformable_value_has_memory name value_or_fault (Err x) (Ok u) memory = λ e. memory
conformable_value_has_memory name value_or_fault found (Err x) memory = memory

-- the value conforms exactly if the answer does
conformable_value_by_answer : (from : Amount) (answer : Result Amount QueryFault)
    → is_conformable_value from (live_answer_value answer) ≡ is_conformable_result from (inquiry_answer answer)
conformable_value_by_answer from (Ok x) = refl
conformable_value_by_answer from (Err (query.Name fault)) = refl
conformable_value_by_answer from (Err (query.Value fault)) = refl
conformable_value_by_answer from (Err query.OutOfMemory) = refl

pub conformable_value_row : (from : Amount) (answer : Result Amount QueryFault)
    (found : Result (Option Amount) AllocError)
    (q : Result (Unit {0}) AllocError) (before after row : List ℕ)
    → IfOk found (λ value. value ≡ live_answer_value answer)
    → OnOk q (IfOk found (λ value. after ≡ before ++ (if is_conformable_value from value then row else [])))
    → OnOk q (IfErr found (λ _. ⊥))
    → OnOk q (after ≡ before ++ (if is_conformable_result from (inquiry_answer (answer_of answer found)) then row else
    []))
conformable_value_row from answer (Ok value) (Ok u) before after row is rows memory =
    rows ∙ ap (λ (b : Bool). before ++ (if b then row else []))
    (ap (is_conformable_value from) is ∙ conformable_value_by_answer from answer)
conformable_value_row from answer (Err x) (Ok u) before after row is rows memory = absurd memory
conformable_value_row from answer found (Err x) before after row is rows memory = rows
