-- The prefixes of a word, the longest first.
use Rattle.std.proofs.Common.{◌≡◌, ℕ, zero, suc, ◌-◌, ◌<◌, ◌≤◌, Bool, true, false, List, length, take, drop}
use Rattle.std.proofs.Common.{subst, ◌∙◌, arith}
use Rattle.def_entry.specs.declared.key.Key.{Key}
use Rattle.def_entry.specs.declared.key.Kind.TheVariants as kind
use Rattle.def_entry.specs.Keys.{key}
use Rattle.name_lookup.specs.declared.targets.Targets.{Targets}
use Rattle.name_lookup.specs.declared.targets.Targets.TheVariants.{Nowhere, Last, LastTwo}
use Rattle.name_lookup.specs.Order.{try_prefix, try_prefixes, with_prefix}
use Rattle.name_lookup.specs.Plans.{LookupPlan, Asks, run_lookup_plan}
use Rattle.name_lookup.specs.Steps.{IsLookupStepTaken, lookup_result_in_rest}
use Rattle.name_lookup.specs.Targets.{are_some}

-- tries a prefix with the rest of its word
abbrev pub split_step : List ℕ → List ℕ → LookupPlan → LookupPlan
split_step front rest next = Asks (key kind.Prefix front) (with_prefix (key kind.Prefix front) rest next) next

-- the prefixes of at most k bytes are still to be tried
pub record AreTried (has : Key → Bool) (word : List ℕ) (before now : List Key) (k : ℕ) : Type 0 where
  pub taken : (next : LookupPlan)
      → lookup_result_in_rest before (run_lookup_plan has (try_prefixes (length word) word next))
      ≡ lookup_result_in_rest now
      (run_lookup_plan has (try_prefixes k word next))
  pub enough : length before ≤ length now

-- the step for a front and a rest of a word is that for the prefix of the front's length
prefix_split_at_length :
    (has : Key → Bool) (word front rest : List ℕ) (k : ℕ) (old new : List Key) (targets : Targets) → front ≡ take k word
    → rest ≡ drop k word → IsLookupStepTaken has (split_step front rest) old new targets
    → IsLookupStepTaken has (try_prefix k word) old new targets
prefix_split_at_length has word front rest k old new targets f r h =
    subst (λ (x : List ℕ). IsLookupStepTaken has (split_step (take k word) x) old new targets) r
    (subst (λ (x : List ℕ). IsLookupStepTaken has (split_step x rest) old new targets) f h)

module _ (has : Key → Bool) (word front rest : List ℕ) where
  pub ended :
      (k : ℕ) (old mid new : List Key) (targets : Targets) → 0 < k → AreTried has word old mid k → front ≡ take k word
      → rest ≡ drop k word → are_some targets ≡ true → IsLookupStepTaken has (split_step front rest) mid new targets
      → IsLookupStepTaken has (try_prefixes (length word) word) old new targets
  ended zero old mid new targets z a f r s h = absurd (omega arith)
  ended (suc k) old mid new Nowhere z a f r s h = cc
  ended (suc k) old mid new Last z a f r s h =
      let t = prefix_split_at_length has word front rest (suc k) mid new Last f r h in
      record {
        runs = λ next. a.taken next ∙ t.runs (try_prefixes k word next);
        enough = let e = a.enough in let g = t.enough in omega arith;
      }
  ended (suc k) old mid new LastTwo z a f r s h =
      let t = prefix_split_at_length has word front rest (suc k) mid new LastTwo f r h in
      record {
        runs = λ next. a.taken next ∙ t.runs (try_prefixes k word next);
        enough = let e = a.enough in let g = t.enough in omega arith;
      }

  pub went_on :
      (k l : ℕ) (old mid new : List Key) (targets : Targets) → 0 < k → l ≡ k - 1 → AreTried has word old mid k
      → front ≡ take k word
      → rest ≡ drop k word → are_some targets ≡ false → IsLookupStepTaken has (split_step front rest) mid new targets
      → AreTried has word old new l
  went_on zero l old mid new targets z m a f r s h = absurd (omega arith)
  went_on (suc k) l old mid new Nowhere z m a f r s h =
      let t = prefix_split_at_length has word front rest (suc k) mid new Nowhere f r h in
      let e : k ≡ l = omega arith in
      subst (λ (x : ℕ). AreTried has word old new x) e
      (record {
        taken = λ next. a.taken next ∙ t.runs (try_prefixes k word next);
        enough = let b = a.enough in let g = t.enough in omega arith;
      })
  went_on (suc k) l old mid new Last z m a f r s h = cc
  went_on (suc k) l old mid new LastTwo z m a f r s h = cc
