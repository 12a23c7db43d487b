-- The result of a query, from the result of querying its names.
use Rattle.std.proofs.Common.{◌≡◌, ℕ, Option, None, refl, sym, ap, subst, inl, inr}
use Rattle.std.specs.Prelude.{Result, Err}
use Rattle.quantity.specs.Amount.{Amount}
use Rattle.tree_eval.specs.Steps.{ValueOrFault}
use Rattle.table_names.specs.declared.fault.NameFault.{NameFault}
use Rattle.live_table.specs.declared.fault.QueryFault.{QueryFault}
use Rattle.live_table.specs.declared.fault.QueryFault.TheVariants.{Name, Value, OutOfMemory}
use Rattle.live_table.specs.Answers.{IsLiveQueryResult, live_answer_of_value}
use Rattle.live_table.specs.QueryEffects.{IsLiveQueryEffect}
use Rattle.live_table.specs.Calls.{IsLiveQuery}
use Rattle.live_table.specs.TableView.{LiveView}
use Rattle.live_table.specs.States.{LiveEvent}

module _ {A : Type 0} (event : LiveEvent) (fault : Option NameFault) (Given : A → Type 0) (before now : LiveView)
    (old new : ℕ) where
  pub fault_answer : (value_or_fault : ValueOrFault) (q : QueryFault) → IsLiveQueryEffect event fault Given
      (Err q) before now
      old new
      → IsLiveQueryResult (Err q) (live_answer_of_value fault value_or_fault)
  fault_answer value_or_fault (Name f) a =
      inr (sym (ap (λ (o : Option NameFault). live_answer_of_value o value_or_fault) a.0))
  fault_answer value_or_fault (Value v) a = absurd a
  fault_answer value_or_fault OutOfMemory a = inl refl

  pub fault_query : (q : QueryFault) → IsLiveQueryEffect event fault Given (Err q) before now old new
      → IsLiveQuery event (Err q) before now old new
  fault_query (Name f) a = a.1
  fault_query (Value v) a = absurd a
  fault_query OutOfMemory a = a

-- if there is no name fault, the result of the query is that of the evaluation
pub live_answer_without_name_fault : (fault : Option NameFault) (value_or_fault : ValueOrFault)
    (r : Result Amount QueryFault)
    → fault ≡ None
    → IsLiveQueryResult r (live_answer_of_value None value_or_fault)
    → IsLiveQueryResult r (live_answer_of_value fault value_or_fault)
live_answer_without_name_fault fault value_or_fault r e a =
    subst (λ (o : Option NameFault). IsLiveQueryResult r (live_answer_of_value o value_or_fault)) (sym e) a
