-- A search for a whole word finds the targets.
use Rattle.std.proofs.Common.{◌≡◌, ℕ, ◌+◌, ◌-◌, ◌≤◌, List, [], ◌++◌, length, drop, Result, Ok, Err, IfOk, Bool, ap, sym}
use Rattle.std.proofs.Common.{◌∙◌, arith, refl, subst}
use Rattle.std.proofs.Math.ListN.{drop_of_length-le}
use Rattle.std.proofs.Math.Seq.{drop-append-add}
use Rattle.std.proofs.lemmas.List.{append-nil, length-append, length-drop}
use Rattle.expr_tree.specs.declared.word_list.WordKind.{WordKind}
use Rattle.def_entry.specs.declared.key.Key.{Key}
use Rattle.name_lookup.specs.declared.targets.Targets.{Targets}
use Rattle.name_lookup.specs.declared.targets.Targets.TheVariants.{Nowhere, Last, LastTwo}
use Rattle.name_lookup.specs.Candidates.{LookupResult, candidates, found_targets}
use Rattle.name_lookup.specs.Order.{lookup_plan, try_word}
use Rattle.name_lookup.specs.Plans.{Gives, run_lookup_plan}
use Rattle.name_lookup.specs.Steps.{IsLookupStepTaken, lookup_result_in_rest, with_rest_lookup_result}
use Rattle.name_lookup.specs.Targets.{AreLookupTargetsFound, last_lookup_keys, lookup_target_count}
use Rattle.name_lookup.proofs.Candidates.{candidates_law}

-- the result without targets and keys that were looked at
abbrev nothing : LookupResult
nothing = record { targets = []; keys_looked_at = [] }

-- the last keys of two joined lists are those of the second list, if that is long enough
last_lookup_keys_in_rest : (n : ℕ) (before looked : List Key) → n ≤ length looked
    → last_lookup_keys n (before ++ looked) ≡ last_lookup_keys n looked
last_lookup_keys_in_rest n before looked h =
    let l = length-append before looked in
    let e : length (before ++ looked) - n ≡ length before + (length looked - n) = omega arith in
    ap (λ k. drop k (before ++ looked)) e ∙ drop-append-add before looked (length looked - n)

-- the list of the last n keys has length n, if there are n keys
length_of_last_lookup_keys : (n : ℕ) (keys : List Key) → n ≤ length keys → length (last_lookup_keys n keys) ≡ n
length_of_last_lookup_keys n keys h = let l = length-drop (length keys - n) keys in omega arith

-- if the targets are the last of the keys that were looked at, they are found
last_lookup_keys_are_found :
    (which : Targets) (n : ℕ) (before after : List Key) (found_targets : LookupResult) → lookup_target_count which ≡ n
    → length before + n ≤ length after
    → found_targets.targets ≡ last_lookup_keys n after → before ++ found_targets.keys_looked_at ≡ after
    → AreLookupTargetsFound which before after found_targets
last_lookup_keys_are_found which n before after found_targets c enough t l =
    let m = length-append before found_targets.keys_looked_at in
    let a = ap length l in
    let h : n ≤ length found_targets.keys_looked_at = omega arith in
    let last : found_targets.targets ≡ last_lookup_keys n found_targets.keys_looked_at =
    t ∙ (ap (last_lookup_keys n) (sym l) ∙ last_lookup_keys_in_rest n before found_targets.keys_looked_at h) in
    record {
      looks_appended = sym l;
      targets = last ∙ ap (λ k. last_lookup_keys k found_targets.keys_looked_at) (sym c);
      many = ap length last ∙ (length_of_last_lookup_keys n found_targets.keys_looked_at h ∙ sym c);
    }

-- if a search ends with some targets, they are found
ended_lookup_targets_are_found :
    (which : Targets) (before after : List Key) (found_targets : LookupResult)
    → lookup_result_in_rest before found_targets ≡ with_rest_lookup_result which after nothing
    → length before + lookup_target_count which ≤ length after → AreLookupTargetsFound which before after found_targets
ended_lookup_targets_are_found Nowhere before after found_targets runs enough =
    let t : found_targets.targets ≡ [] = ap (λ (f : LookupResult). f.targets) runs in
    let l : before ++ found_targets.keys_looked_at ≡ after = ap (λ (f : LookupResult). f.keys_looked_at) runs
    ∙ append-nil after in
    record {
      looks_appended = sym l;
      targets = t ∙ sym (drop_of_length-le found_targets.keys_looked_at (omega arith));
      many =
          ap length t;
    }
ended_lookup_targets_are_found Last before after found_targets runs enough =
    last_lookup_keys_are_found Last 1 before after found_targets refl enough (ap (λ (f : LookupResult). f.targets) runs)
    (ap (λ (f : LookupResult). f.keys_looked_at) runs)
ended_lookup_targets_are_found LastTwo before after found_targets runs enough =
    last_lookup_keys_are_found LastTwo 2 before after found_targets refl enough
    (ap (λ (f : LookupResult). f.targets) runs)
    (ap (λ (f : LookupResult). f.keys_looked_at) runs)

-- a search by the plan of a word finds the result of the plan
pub lookup_finds_result_of_plan :
    {E : Type 0} (has : Key → Bool) (kind : WordKind) (word : List ℕ) (before after : List Key) (r : Result Targets E)
    → IfOk r (λ which. IsLookupStepTaken has (try_word kind word) before after which)
    → IfOk r (λ which. AreLookupTargetsFound which before after (run_lookup_plan has (lookup_plan kind word)))
lookup_finds_result_of_plan has kind word before after (Ok which) h =
    ended_lookup_targets_are_found which before after (run_lookup_plan has (lookup_plan kind word)) (h.runs (Gives []))
    h.enough
lookup_finds_result_of_plan has kind word before after (Err e) h = h

-- a search by the plan of a word finds the first candidate whose keys are all present
pub lookup_finds_first_candidate :
    {E : Type 0} (has : Key → Bool) (kind : WordKind) (word : List ℕ) (before after : List Key) (r : Result Targets E)
    → IfOk r (λ which. IsLookupStepTaken has (try_word kind word) before after which)
    → IfOk r (λ which. AreLookupTargetsFound which before after (found_targets has (candidates kind word)))
lookup_finds_first_candidate {E} has kind word before after (Ok which) h =
    subst (AreLookupTargetsFound which before after) (candidates_law has kind word)
    (lookup_finds_result_of_plan {E = E} has kind word before after (Ok which) h)
lookup_finds_first_candidate {E} has kind word before after (Err e) h = h
