-- Plans: keys that are looked up one after another, each with the plan that follows if it is present and the plan that
-- follows if it is absent. The code executes such a plan; `CandidatesLaw` states its result.
use Rattle.std.specs.Prelude.{Bool, if◌then◌else◌, List, [], ◌∷◌}
use Rattle.def_entry.specs.declared.key.Key.{Key}
pub use Rattle.name_lookup.specs.Candidates.{LookupResult}

pub data LookupPlan : Type 0 where
  Gives : List Key → LookupPlan
  Asks : Key → LookupPlan → LookupPlan → LookupPlan

-- a result with one more key looked at before the others
abbrev pub lookup_result_after : Key → LookupResult → LookupResult
lookup_result_after k f = record { targets = f.targets; keys_looked_at = k ∷ f.keys_looked_at }

-- the result of a plan, given which keys are present
abbrev pub run_lookup_plan : (Key → Bool) → LookupPlan → LookupResult
run_lookup_plan has (Gives targets) = record { targets = targets; keys_looked_at = [] }
run_lookup_plan has (Asks k present absent) =
    lookup_result_after k (if has k then run_lookup_plan has present else run_lookup_plan has absent)
