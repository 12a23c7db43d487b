-- The steps of a plan that a search has taken.
use Rattle.std.specs.Prelude.{◌≡◌, ◌++◌, ◌+◌, ◌≤◌, Bool, List, length}
use Rattle.def_entry.specs.declared.key.Key.{Key}
use Rattle.name_lookup.specs.declared.targets.Targets.{Targets}
use Rattle.name_lookup.specs.declared.targets.Targets.TheVariants.{Nowhere, Last, LastTwo}
use Rattle.name_lookup.specs.Candidates.{LookupResult}
use Rattle.name_lookup.specs.Plans.{LookupPlan, run_lookup_plan}
use Rattle.name_lookup.specs.Targets.{last_lookup_keys, lookup_target_count}

-- a result with the keys that were looked at earlier put before its own
abbrev pub lookup_result_in_rest : List Key → LookupResult → LookupResult
lookup_result_in_rest before f = record { targets = f.targets; keys_looked_at = before ++ f.keys_looked_at }

-- the overall result after these keys were looked at: the targets if there are any, or else the result of the rest of
-- the plan
abbrev pub with_rest_lookup_result : Targets → List Key → LookupResult → LookupResult
with_rest_lookup_result Nowhere looked f = lookup_result_in_rest looked f
with_rest_lookup_result Last looked f = record { targets = last_lookup_keys 1 looked; keys_looked_at = looked }
with_rest_lookup_result LastTwo looked f = record { targets = last_lookup_keys 2 looked; keys_looked_at = looked }

-- a step was taken: the search has ended with these targets, or continues with the rest of the plan
pub record IsLookupStepTaken (has : Key → Bool) (step : LookupPlan → LookupPlan) (before after : List Key)
    (targets : Targets) : Type 0 where
  pub runs : (next : LookupPlan)
      → lookup_result_in_rest before (run_lookup_plan has (step next)) ≡ with_rest_lookup_result targets after
      (run_lookup_plan has next)
  pub enough : length before + lookup_target_count targets ≤ length after
