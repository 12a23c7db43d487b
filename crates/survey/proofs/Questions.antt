-- The fault of names, from a query whose value does not matter.
use Rattle.std.proofs.Common.{◌≡◌, inl, inr, refl, sym, ap, subst, ℕ, [], ◌∷◌}
use Rattle.std.specs.Prelude.{Result, Ok, Err, Option, Some, None}
use Rattle.quantity.specs.Amount.{Amount}
use Rattle.tree_eval.specs.Steps.{ValueOrFault}
use Rattle.table_names.specs.declared.fault.NameFault.{NameFault}
use Rattle.live_table.specs.declared.fault.QueryFault.{QueryFault}
use Rattle.live_table.specs.declared.fault.QueryFault.TheVariants as query
use Rattle.live_table.specs.Answers.{IsLiveQueryResult, live_answer_of_value}
use Rattle.live_table.specs.Calls.{IsLiveQuery}
use Rattle.live_table.specs.TableView.{IsAfterLiveEvents, LiveView}
use Rattle.live_table.specs.States.{LiveEvent}
use Rattle.reply.specs.Calls.{IsInquiryAnswered, inquiry_identity, inquiry_result}
use Rattle.reply.specs.Inquiries.{Inquiry}
use Rattle.survey.specs.Calls.{check_of_names_alone}
use Rattle.survey.specs.Checks.{check_names_answer}

-- the inquiry for the names alone
abbrev pub names-asked : LiveEvent → Option NameFault → Inquiry (Unit {0})
names-asked e fault = record { events = e ∷ []; answer = check_names_answer fault }

module _ (e : LiveEvent) (fault : Option NameFault) (w : ValueOrFault) (a b : LiveView) (n m : ℕ) where
  -- the result of the query, without its value, is the answer of the inquiry
  abbrev answers-names : Result Amount QueryFault → Type 0
  answers-names r = IsInquiryAnswered inquiry_identity (names-asked e fault) (inquiry_result (check_of_names_alone r)) a
      b n m

  answered : IsAfterLiveEvents (e ∷ []) a b n m → (f : Option NameFault) (w : ValueOrFault) → f ≡ fault
      → answers-names (live_answer_of_value f w)
  answered h (Some f) w is = (ap check_names_answer (sym is), h)
  answered h None (Ok x) is = (ap check_names_answer (sym is), h)
  answered h None (Err v) is = (ap check_names_answer (sym is), h)

  -- the result is the fault of the names, or there is none
  pub names-inquired : (r : Result Amount QueryFault) → IsLiveQueryResult r (live_answer_of_value fault w)
      → IsLiveQuery e r a b n m
      → answers-names r
  names-inquired (Ok x) h q = elim h [
    | inl p ↦ cc
    | inr p ↦ subst answers-names (sym p) (answered q fault w refl)
  ]
  names-inquired (Err (query.Name f)) h q = elim h [
    | inl p ↦ cc
    | inr p ↦ subst answers-names (sym p) (answered q fault w refl)
  ]
  names-inquired (Err (query.Value f)) h q = elim h [
    | inl p ↦ cc
    | inr p ↦ subst answers-names (sym p) (answered q fault w refl)
  ]
  names-inquired (Err query.OutOfMemory) h q = q
