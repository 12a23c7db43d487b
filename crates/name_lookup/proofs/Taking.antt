-- Steps of a search, one after another.
use Rattle.std.proofs.Common.{◌≡◌, Result, Ok, Err, IfOk, Bool, true, false, List, ◌∙◌, arith}
use Rattle.def_entry.specs.declared.key.Key.{Key}
use Rattle.name_lookup.specs.declared.targets.Targets.{Targets}
use Rattle.name_lookup.specs.declared.targets.Targets.TheVariants.{Nowhere, Last, LastTwo}
use Rattle.name_lookup.specs.Plans.{LookupPlan}
use Rattle.name_lookup.specs.Steps.{IsLookupStepTaken}
use Rattle.name_lookup.specs.Targets.{are_some}

-- a step that ends a search ends it, whatever follows
pub ended_lookup_step_ends_plan :
    (has : Key → Bool) (s t : LookupPlan → LookupPlan) (old new : List Key) (targets : Targets)
    → are_some targets ≡ true
    → IsLookupStepTaken has s old new targets → IsLookupStepTaken has (λ next. s (t next)) old new targets
ended_lookup_step_ends_plan has s t old new Nowhere e h = cc
ended_lookup_step_ends_plan has s t old new Last e h = record { runs = λ next. h.runs (t next); enough = h.enough }
ended_lookup_step_ends_plan has s t old new LastTwo e h = record { runs = λ next. h.runs (t next); enough = h.enough }

-- a step that does not end a search is followed by the next step
pub unended_lookup_step_goes_on :
    (has : Key → Bool) (s t : LookupPlan → LookupPlan) (old mid new : List Key) (first second : Targets)
    → are_some first ≡ false
    → IsLookupStepTaken has s old mid first → IsLookupStepTaken has t mid new second
    → IsLookupStepTaken has (λ next. s (t next)) old new second
unended_lookup_step_goes_on has s t old mid new Nowhere second e h i =
    record {
      runs = λ next. h.runs (t next) ∙ i.runs next;
      enough = let a = h.enough in let b =
          i.enough in omega arith;
    }
unended_lookup_step_goes_on has s t old mid new Last second e h i = cc
unended_lookup_step_goes_on has s t old mid new LastTwo second e h i = cc

-- the next step may fail with an error
pub last_lookup_step_may_fail :
    {E : Type 0} (has : Key → Bool) (s t : LookupPlan → LookupPlan) (old mid new : List Key) (first : Targets)
    (r : Result Targets E)
    → are_some first ≡ false → IsLookupStepTaken has s old mid first
    → IfOk r (λ targets. IsLookupStepTaken has t mid new targets)
    → IfOk r (λ targets. IsLookupStepTaken has (λ next. s (t next)) old new targets)
last_lookup_step_may_fail has s t old mid new first (Ok second) e h i = unended_lookup_step_goes_on has s t old mid new
    first second e h i
last_lookup_step_may_fail has s t old mid new first (Err f) e h i = i
