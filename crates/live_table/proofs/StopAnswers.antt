-- The results of queries that stop.
use Rattle.std.proofs.Common.{◌≡◌, ◌⊎◌, ℕ, List, [], ◌∷◌, Option, Some, None, refl, sym, ◌∙◌, ap, subst, inl, inr}
use Rattle.std.specs.Prelude.{Result, Ok, Err, IfOk, OnErr, OnOk, option_map}
use Rattle.std.specs.declared.alloc.AllocError.{AllocError}
use Rattle.std.proofs.lemmas.Option.{same_Some}
use Rattle.quantity.specs.Amount.{Amount}
use Rattle.def_entry.specs.Tables.{EntryTable}
use Rattle.name_walk.specs.declared.step.Step.{Step}
use Rattle.name_walk.specs.Findings.{IsFaultyWalkStep, IsWalkQueryFault}
use Rattle.name_walk.specs.Faults as walk
use Rattle.name_walk.specs.Trails.{Faults}
use Rattle.table_names.specs.NumberedNames.{fault_by_name}
use Rattle.tree_eval.specs.Steps.{ValueOrFault}
use Rattle.table_names.specs.declared.fault.NameFault.{NameFault}
use Rattle.live_table.specs.declared.dead_end.DeadEnd.{DeadEnd}
use Rattle.live_table.specs.declared.fault.QueryFault.{QueryFault}
use Rattle.live_table.specs.declared.fault.QueryFault.TheVariants as fault
use Rattle.live_table.specs.declared.stop.Stop.{Stop}
use Rattle.live_table.specs.declared.stop.Stop.TheVariants.{At, Below, OutOfMemory}
use Rattle.live_table.specs.Answers.{live_answer_of_value, live_answer_value}
use Rattle.live_table.specs.Answers as spec
use Rattle.live_table.specs.QueryEffects.{IsLiveQueryAnswered, IsLiveQueryEffect, live_query_fault}
use Rattle.live_table.specs.Calls.{AreLiveQueries, IsLiveQuery}
use Rattle.live_table.specs.ExploredNames.{explored_dead_end_fault, explored_fault_at}
use Rattle.live_table.specs.QueryWords.{explored_fault_before}
use Rattle.live_table.specs.TableView.{IsAfterLiveEvents, LiveView}
use Rattle.live_table.specs.States.{LiveEvent}
use Rattle.live_table.specs.Stops.{HoldsOfNamedLiveResult, IsCutLiveStop, IsLiveFaultBelow, IsLiveStopFault}
use Rattle.live_table.specs.Stops.{IsNamedLiveResult}
use Rattle.live_table.specs.TableContents.{NodeLists, node_key_at}
use Rattle.live_table.proofs.QueryAnswers.{fault_answer, fault_query}
use Rattle.live_table.proofs.QuerySequence.{whole_event_is_live_query}

module _ {A : Type 0} (t : EntryTable) (l : NodeLists) (ends : List DeadEnd) (fs : Faults)
    (Holds : Result A QueryFault → Type 0) where
  -- the result is lack of memory
  pub no_memory : (result : Result A Stop) → result ≡ Err OutOfMemory → Holds (Err fault.OutOfMemory)
      → HoldsOfNamedLiveResult t l ends fs result Holds
  no_memory result e h =
      subst (λ (r : Result A Stop). HoldsOfNamedLiveResult t l ends fs r Holds) (sym e)
      (record {
        named_answer = Err fault.OutOfMemory;
        result_named = (fault.OutOfMemory, refl, refl);
        answer_holds =
            h;
      })

  -- the result has no stop
  pub answers_ok : (x : A) → HoldsOfNamedLiveResult t l ends fs (Ok x) Holds → Holds (Ok x)
  answers_ok x a = subst Holds a.result_named a.answer_holds

  pub answered_ok : (result : Result A Stop) (x : A) → result ≡ Ok x → HoldsOfNamedLiveResult t l ends fs result Holds
      → Holds (Ok x)
  answered_ok result x e a =
      answers_ok x (subst (λ (r : Result A Stop). HoldsOfNamedLiveResult t l ends fs r Holds) e a)

  -- the result is a stop that was named
  pub answers_err : (stop : Stop) → HoldsOfNamedLiveResult t l ends fs (Err stop) Holds
      → (q : QueryFault) × IsLiveStopFault t l ends fs stop q × Holds (Err q)
  answers_err stop a = (a.result_named.0, a.result_named.1, subst Holds a.result_named.2 a.answer_holds)

  pub answered_err : (result : Result A Stop) (stop : Stop) → result ≡ Err stop
      → HoldsOfNamedLiveResult t l ends fs result Holds → (q : QueryFault) × IsLiveStopFault t l ends fs stop q × Holds
      (Err q)
  answered_err result stop e a =
      answers_err stop (subst (λ (r : Result A Stop). HoldsOfNamedLiveResult t l ends fs r Holds) e a)

  -- a stop of a part is a stop of the whole
  pub passed_on : {B : Type 0} (Part : Result B QueryFault → Type 0) (stop : Stop)
      → HoldsOfNamedLiveResult t l ends fs (Err stop) Part → ((q : QueryFault) → Part (Err q) → Holds (Err q))
      → (result : Result A Stop) → result ≡ Err stop → HoldsOfNamedLiveResult t l ends fs result Holds
  passed_on {B} Part stop a whole result e =
      subst (λ (r : Result A Stop). HoldsOfNamedLiveResult t l ends fs r Holds) (sym e) (record {
        named_answer = Err a.result_named.0;
        result_named = (a.result_named.0, a.result_named.1, refl);
        answer_holds = whole a.result_named.0 (subst Part a.result_named.2 a.answer_holds);
      })

  -- a query is cut before a word that leads nowhere, or memory ran out
  pub cut_or_no_memory : (old : List DeadEnd) → ends ≡ old → (query : List Step) (end : DeadEnd) (stop : Stop)
      → (stop ≡ OutOfMemory) ⊎ IsCutLiveStop t l old fs query end stop → Holds (Err fault.OutOfMemory)
      → ((name : NameFault) → explored_fault_before (live_query_fault t l old query) end ≡ Some name
      → Holds (Err (fault.Name name)))
      → HoldsOfNamedLiveResult t l ends fs (Err stop) Holds
  cut_or_no_memory old same query end stop (inl e) memory named = no_memory (Err stop) (ap Err e) memory
  cut_or_no_memory old same query end stop (inr cut) memory named = record {
    named_answer = Err (fault.Name cut.name);
    result_named = (
      fault.Name cut.name,
      subst (λ (es : List DeadEnd). IsLiveStopFault t l es fs stop (fault.Name cut.name)) (sym same) cut.stop_named,
      refl,
    );
    answer_holds = named cut.name cut.fault_first;
  }

-- ---- the fault of a step
module _ (t : EntryTable) (l : NodeLists) (ends : List DeadEnd) (fs : Faults) (query : List Step) (x : Step)
    (of : IsWalkQueryFault l.graph query x) (known : IsFaultyWalkStep fs x) where
  abbrev name_there : NameFault
  name_there = fault_by_name t (node_key_at l.keys) (explored_fault_at ends) of.fault_there

  pub fault_below : IsLiveFaultBelow t l ends fs x (fault.Name name_there)
  fault_below = record {
    step_faulty = known;
    name = name_there;
    fault_found = ap (option_map (fault_by_name t (node_key_at l.keys) (explored_fault_at ends))) of.of_step;
    query_fault = refl;
  }

  pub first_below : live_query_fault t l ends query ≡ Some name_there
  first_below = ap (option_map (fault_by_name t (node_key_at l.keys) (explored_fault_at ends))) of.of_query

  -- a query that stops at the step
  pub stopped_below : (now : LiveView) (n : ℕ)
      → HoldsOfNamedLiveResult t l ends fs (Err (Below x))
      (λ (answer : Result (Unit {0}) QueryFault). IsLiveQueryAnswered t l ends query answer now now n n)
  stopped_below now n = record {
    named_answer = Err (fault.Name name_there);
    result_named = (fault.Name name_there, fault_below, refl);
    answer_holds = (
      record { fault = of.fault_there; is_fault = of.of_query; by_name = refl },
      record { table_after = refl; steps = refl },
    );
  }

-- a query that stops at the step, from its fault by number
pub live_stop_by_number : (t : EntryTable) (l : NodeLists) (ends : List DeadEnd) (x : Step) (w : walk.NameFault)
    → walk.steps_fault_after_path l.graph [] (x ∷ []) ≡ Some w → (r : Result NameFault AllocError)
    → IfOk r (λ f. (t : EntryTable) → f ≡ fault_by_name t (node_key_at l.keys) (explored_fault_at ends) w)
    → IfOk r (λ f. live_query_fault t l ends (x ∷ []) ≡ Some f)
live_stop_by_number t l ends x w e (Ok f) h =
    ap (option_map (fault_by_name t (node_key_at l.keys) (explored_fault_at ends))) e ∙ ap Some (sym (h t))
live_stop_by_number t l ends x w e (Err z) h = h

-- ---- stops by name
module _ (t : EntryTable) (l : NodeLists) (ends : List DeadEnd) (fs : Faults) where
  pub at_named : (end : DeadEnd) (stop : Stop) → stop ≡ At end → (r : Result NameFault AllocError)
      → IfOk r (λ f. f ≡ explored_dead_end_fault (Some end) None)
      → IfOk r (λ f. (q : QueryFault) → IsLiveStopFault t l ends fs stop q → q ≡ fault.Name f)
  at_named end stop e (Ok f) h =
      λ q is. subst (λ (s : Stop). IsLiveStopFault t l ends fs s q) e is ∙ ap fault.Name (sym h)
  at_named end stop e (Err x) h = h

  pub below_known : (x : Step) (stop : Stop) → stop ≡ Below x → (q : QueryFault) → IsLiveStopFault t l ends fs stop q
      → IsFaultyWalkStep fs x
  below_known x stop e q is = (subst (λ (s : Stop). IsLiveStopFault t l ends fs s q) e is).step_faulty

  pub below_named : (x : Step) (stop : Stop) → stop ≡ Below x → (r : Result NameFault AllocError)
      → IfOk r (λ f. live_query_fault t l ends (x ∷ []) ≡ Some f)
      → IfOk r (λ f. (q : QueryFault) → IsLiveStopFault t l ends fs stop q → q ≡ fault.Name f)
  below_named x stop e (Ok f) h =
      λ q is. let below = subst (λ (s : Stop). IsLiveStopFault t l ends fs s q) e is in
      below.query_fault ∙ ap fault.Name (same_Some below.name f (sym below.fault_found ∙ h))
  below_named x stop e (Err z) h = h

-- ---- a query that is cut before a word that leads nowhere
pub live_stop_below_cut : (t : EntryTable) (l : NodeLists) (ends : List DeadEnd) (fs : Faults) (query : List Step)
    (end : DeadEnd)
    (x : Step) → IsWalkQueryFault l.graph query x → IsFaultyWalkStep fs x → IsCutLiveStop t l ends fs query end
    (Below x)
live_stop_below_cut t l ends fs query end x of known = record {
  name = fault_by_name t (node_key_at l.keys) (explored_fault_at ends) of.fault_there;
  stop_named = fault_below t l ends fs query x of known;
  fault_first = ap (λ (o : Option NameFault). explored_fault_before o end) (first_below t l ends fs query x of known);
}

pub live_stop_at_cut : (t : EntryTable) (l : NodeLists) (ends : List DeadEnd) (fs : Faults) (query : List Step)
    (end : DeadEnd)
    → walk.steps_fault_after_path l.graph [] query ≡ None → IsCutLiveStop t l ends fs query end (At end)
live_stop_at_cut t l ends fs query end none = record {
  name = explored_dead_end_fault (Some end) None;
  stop_named = refl;
  fault_first = ap (λ (o : Option walk.NameFault).
      explored_fault_before (option_map (fault_by_name t (node_key_at l.keys) (explored_fault_at ends)) o) end)
      none;
}

-- ---- the result of a call from that of a query
module _ {A : Type 0} (event : LiveEvent) (name : Option NameFault) (Given : A → Type 0) (before now : LiveView)
    (old new : ℕ) (q : QueryFault) (asked : IsLiveQueryEffect event name Given (Err q) before now old new) where
  -- the result is the fault, or lack of memory
  pub named_answer : (value_or_fault : ValueOrFault) (r : QueryFault) → (r ≡ fault.OutOfMemory) ⊎ (r ≡ q)
      → spec.IsLiveQueryResult (Err r) (live_answer_of_value name value_or_fault)
  named_answer value_or_fault r (inl e) = inl (ap Err e)
  named_answer value_or_fault r (inr e) =
      subst (λ (x : QueryFault). spec.IsLiveQueryResult (Err x) (live_answer_of_value name value_or_fault)) (sym e)
      (fault_answer event name Given before now old new value_or_fault q asked)

  cut_query : now.deck ≡ before.deck → (p : QueryFault) → IsLiveQueryEffect event name Given (Err p) before now old new
      → IsLiveQuery event (Err fault.OutOfMemory) before now old new
  cut_query same (fault.Name f) a = whole_event_is_live_query event (Err fault.OutOfMemory) before now old new same a.1
  cut_query same (fault.Value v) a = absurd a
  cut_query same fault.OutOfMemory a = a

  pub named_query : now.deck ≡ before.deck → (r : QueryFault) → (r ≡ fault.OutOfMemory) ⊎ (r ≡ q)
      → IsLiveQuery event (Err r) before now old new
  named_query same r (inl e) =
      subst (λ (x : QueryFault). IsLiveQuery event (Err x) before now old new) (sym e) (cut_query same q asked)
  named_query same r (inr e) =
      subst (λ (x : QueryFault). IsLiveQuery event (Err x) before now old new) (sym e)
      (fault_query event name Given before now old new q asked)

-- ---- lack of memory is distinguished
live_memory_fault_is_memory_stop : (t : EntryTable) (l : NodeLists) (ends : List DeadEnd) (fs : Faults) (stop : Stop)
    (q : QueryFault)
    → IsLiveStopFault t l ends fs stop q → q ≡ fault.OutOfMemory → stop ≡ OutOfMemory
live_memory_fault_is_memory_stop t l ends fs (At end) q is e = let x : fault.Name _ ≡ fault.OutOfMemory = sym is ∙ e in
    cc
live_memory_fault_is_memory_stop t l ends fs (Below x) q is e = let y : fault.Name is.name ≡ fault.OutOfMemory =
    sym is.query_fault ∙ e in
    cc
live_memory_fault_is_memory_stop t l ends fs OutOfMemory q is e = refl

pub memory_stop_is_live_memory_fault : (t : EntryTable) (l : NodeLists) (ends : List DeadEnd) (fs : Faults)
    (stop : Stop) (q : QueryFault)
    → IsLiveStopFault t l ends fs stop q → stop ≡ OutOfMemory → q ≡ fault.OutOfMemory
memory_stop_is_live_memory_fault t l ends fs (At end) q is e = cc
memory_stop_is_live_memory_fault t l ends fs (Below x) q is e = cc
memory_stop_is_live_memory_fault t l ends fs OutOfMemory q is e = is

module _ {A : Type 0} (t : EntryTable) (l : NodeLists) (ends : List DeadEnd) (fs : Faults) where
  pub result_memory : (result : Result A Stop) (answer : Result A QueryFault)
      → IsNamedLiveResult t l ends fs result answer → answer ≡ Err fault.OutOfMemory → result ≡ Err OutOfMemory
  result_memory (Ok x) answer is e = let y : Ok x ≡ Err fault.OutOfMemory = sym is ∙ e in cc
  result_memory (Err stop) answer is e =
      let y : Err is.0 ≡ Err fault.OutOfMemory = sym is.2 ∙ e in
      let z : is.0 ≡ fault.OutOfMemory = cc in ap Err (live_memory_fault_is_memory_stop t l ends fs stop is.0 is.1 z)

  pub memory_result : (result : Result A Stop) (answer : Result A QueryFault)
      → IsNamedLiveResult t l ends fs result answer → result ≡ Err OutOfMemory → answer ≡ Err fault.OutOfMemory
  memory_result (Ok x) answer is e = cc
  memory_result (Err stop) answer is e =
      let s : stop ≡ OutOfMemory = cc in is.2 ∙ ap Err (memory_stop_is_live_memory_fault t l ends fs stop is.0 is.1 s)

  -- if the stop is not lack of memory, the named result is not either
  pub ok_by_name : (result : Result A Stop) (answer : Result A QueryFault) (done : Result (Unit {0}) AllocError)
      → IsNamedLiveResult t l ends fs result answer → OnOk done (result ≡ Err OutOfMemory → ⊥)
      → OnOk done (answer ≡ Err fault.OutOfMemory → ⊥)
  ok_by_name result answer (Ok u) is ok = λ e. ok (result_memory result answer is e)
  ok_by_name result answer (Err x) is ok = ok

  pub err_by_name : (result : Result A Stop) (answer : Result A QueryFault) (done : Result (Unit {0}) AllocError)
      → IsNamedLiveResult t l ends fs result answer → OnErr done (result ≡ Err OutOfMemory)
      → OnErr done (answer ≡ Err fault.OutOfMemory)
  err_by_name result answer (Ok u) is err = err
  err_by_name result answer (Err x) is err = memory_result result answer is err

-- ---- a stop alone
module _ {A : Type 0} (t : EntryTable) (l : NodeLists) (ends : List DeadEnd) (fs : Faults) (stop : Stop)
    (done : Result A AllocError) (q : QueryFault) (is : IsLiveStopFault t l ends fs stop q) where
  pub some_named : OnOk done (stop ≡ OutOfMemory → ⊥) → OnOk done (q ≡ fault.OutOfMemory → ⊥)
  some_named = by done
    where
      by : (d : Result A AllocError) → OnOk d (stop ≡ OutOfMemory → ⊥) → OnOk d (q ≡ fault.OutOfMemory → ⊥)
      by (Ok x) some = λ e. some (live_memory_fault_is_memory_stop t l ends fs stop q is e)
      by (Err x) some = some

  pub memory_if_named : OnErr done (stop ≡ OutOfMemory) → OnErr done (q ≡ fault.OutOfMemory)
  memory_if_named = by done
    where
      by : (d : Result A AllocError) → OnErr d (stop ≡ OutOfMemory) → OnErr d (q ≡ fault.OutOfMemory)
      by (Ok x) err = err
      by (Err x) err = memory_stop_is_live_memory_fault t l ends fs stop q is err

-- ---- the value of a query, if it has one
module _ {A : Type 0} (event : LiveEvent) (name : Option NameFault) (Given : A → Type 0) (before now : LiveView)
    (old new : ℕ) (same : now.deck ≡ before.deck) where
  -- there is no value if the names have a fault
  pub no_value_in : (value_or_fault : ValueOrFault) (q : QueryFault) → (q ≡ fault.OutOfMemory → ⊥)
      → IsLiveQueryEffect event name Given (Err q) before now old new
      → None ≡ live_answer_value (live_answer_of_value name value_or_fault)
  no_value_in value_or_fault (fault.Name f) some a =
      ap (λ (o : Option NameFault). live_answer_value (live_answer_of_value o value_or_fault)) (sym a.0)
  no_value_in value_or_fault (fault.Value v) some a = absurd a
  no_value_in value_or_fault fault.OutOfMemory some a = absurd (some refl)

  pub none_value : (done : Result (Option Amount) AllocError) (value_or_fault : ValueOrFault) (q : QueryFault)
      → IfOk done (λ x. x ≡ None) → OnOk done (q ≡ fault.OutOfMemory → ⊥)
      → IsLiveQueryEffect event name Given (Err q) before now old new
      → IfOk done (λ x. x ≡ live_answer_value (live_answer_of_value name value_or_fault))
  none_value (Ok x) value_or_fault q is some a = is ∙ no_value_in value_or_fault q some a
  none_value (Err e) value_or_fault q is some a = is

  pub no_value_queries : (done : Result (Option Amount) AllocError) (q : QueryFault)
      → OnOk done (q ≡ fault.OutOfMemory → ⊥) → OnErr done (q ≡ fault.OutOfMemory)
      → IsLiveQueryEffect event name Given (Err q) before now old new
      → AreLiveQueries (event ∷ []) done before now old new
  no_value_queries (Ok x) (fault.Name f) ok err a = a.1
  no_value_queries (Ok x) (fault.Value v) ok err a = absurd a
  no_value_queries (Ok x) fault.OutOfMemory ok err a = absurd (ok refl)
  no_value_queries (Err e) q ok err a =
      subst (λ (x : QueryFault). IsLiveQueryEffect event name Given (Err x) before now old new) err a

  -- otherwise the value is that of the evaluation
  pub value_queries : (done : Result (Option Amount) AllocError) → IsAfterLiveEvents (event ∷ []) before now old new
      → AreLiveQueries (event ∷ []) done before now old new
  value_queries (Ok x) follows = follows
  value_queries (Err e) follows = whole_event_is_live_query event (Err fault.OutOfMemory) before now old new same
      follows

pub live_answer_value_is_found : (done : Result (Option Amount) AllocError) (r answer : Result Amount QueryFault)
    → IfOk done (λ x. x ≡ live_answer_value r) → OnOk done (r ≡ Err fault.OutOfMemory → ⊥)
    → spec.IsLiveQueryResult r answer
    → IfOk done (λ x. x ≡ live_answer_value answer)
live_answer_value_is_found (Ok x) r answer is some (inl e) = absurd (some e)
live_answer_value_is_found (Ok x) r answer is some (inr e) = is ∙ ap live_answer_value e
live_answer_value_is_found (Err z) r answer is some a = is
