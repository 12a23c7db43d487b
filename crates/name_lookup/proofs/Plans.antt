-- The keys that the run of a plan depends on.
use Rattle.std.proofs.Common.{◌≡◌, ◌⊎◌, ℕ, zero, suc, Bool, true, false, List, [], ◌∷◌, ◌++◌, length, take, drop, codes}
use Rattle.std.proofs.Common.{if◌then◌else◌, ◌<◌, slice_index_or, Contains, refl, sym, ◌∙◌, ap, subst, inl, inr, arith}
use Rattle.expr_tree.specs.declared.word_list.WordKind.{WordKind}
use Rattle.expr_tree.specs.declared.word_list.WordKind.TheVariants as place
use Rattle.def_entry.specs.declared.key.Key.{Key}
use Rattle.def_entry.specs.declared.key.Kind.{Kind}
use Rattle.def_entry.specs.declared.key.Kind.TheVariants as kind
use Rattle.def_entry.specs.Keys.{key}
use Rattle.name_lookup.specs.Candidates.{LookupResult, candidates, found_targets}
use Rattle.name_lookup.specs.Laws.{LookupTargetsLaw, SameLookupLaw}
use Rattle.name_lookup.specs.Order.{lookup_plan, try_key, try_kinds, try_prefixes, try_stem, try_stem_if, try_stems}
use Rattle.name_lookup.specs.Order.{with_prefix}
use Rattle.name_lookup.specs.Plans.{LookupPlan, Gives, Asks, lookup_result_after, run_lookup_plan}
use Rattle.name_lookup.specs.Plurals.{has_plural_ending, stem_without_end}
use Rattle.name_lookup.proofs.Candidates.{candidates_law}

-- the key is in the list, by recursion
abbrev IsIn : Key → List Key → Type 0
IsIn k [] = ⊥
IsIn k (x ∷ xs) = (k ≡ x) ⊎ IsIn k xs

-- the key at a place of a list is in the list
lookup_key_is_in_list : (xs : List Key) (k : Key) (i : ℕ) → i < length xs → slice_index_or xs i k ≡ k → IsIn k xs
lookup_key_is_in_list [] k i within is = absurd (omega arith)
lookup_key_is_in_list (x ∷ xs) k zero within is = inl (sym is)
lookup_key_is_in_list (x ∷ xs) k (suc i) within is = inr (lookup_key_is_in_list xs k i (omega arith) is)

-- a key in a list is contained in it
lookup_key_in_list_is_contained : (xs : List Key) (k : Key) → IsIn k xs → Contains xs k
lookup_key_in_list_is_contained [] k i = absurd i
lookup_key_in_list_is_contained (x ∷ xs) k (inl is) = (0, omega arith, sym is)
lookup_key_in_list_is_contained (x ∷ xs) k (inr i) = let there : Contains xs k =
    lookup_key_in_list_is_contained xs k i in (suc there.0, omega (arith, there.1), there.2)

-- a plan is honest after some present keys: each target that it gives was looked up and present
abbrev IsHonest : List Key → LookupPlan → Type 0
IsHonest ks (Gives ts) = (n : Key) → IsIn n ts → IsIn n ks
IsHonest ks (Asks k present absent) = IsHonest (k ∷ ks) present × IsHonest ks absent

-- if a key and all keys of a list are present, then all keys of the list with that key in front are present
lookup_key_before_present_keys : (has : Key → Bool) (k : Key) (ks : List Key) → has k ≡ true
    → ((q : Key) → IsIn q ks → has q ≡ true)
    → (q : Key) → IsIn q (k ∷ ks) → has q ≡ true
lookup_key_before_present_keys has k ks e there q (inl f) = subst (λ (x : Key). has x ≡ true) (sym f) e
lookup_key_before_present_keys has k ks e there q (inr f) = there q f

-- a disjunction of three cases may be regrouped with the second case first
lookup_cases_regrouped : (A B C : Type 0) → ((A ⊎ B) ⊎ C) → B ⊎ (A ⊎ C)
lookup_cases_regrouped A B C (inl (inl a)) = inr (inl a)
lookup_cases_regrouped A B C (inl (inr b)) = inl b
lookup_cases_regrouped A B C (inr c) = inr (inr c)

-- the result of the rest of a plan after the answer for a key
abbrev rest_of : (Key → Bool) → LookupPlan → LookupPlan → Bool → LookupResult
rest_of has present absent b = if b then run_lookup_plan has present else run_lookup_plan has absent

-- each target of an honest plan is present, and was looked up before the plan or by it
honest_lookup_targets_are_present :
    (has : Key → Bool) (ks : List Key) (p : LookupPlan) → ((k : Key) → IsIn k ks → has k ≡ true) → IsHonest ks p
    → (n : Key) → IsIn n (run_lookup_plan has p).targets
    → (has n ≡ true) × (IsIn n ks ⊎ IsIn n (run_lookup_plan has p).keys_looked_at)
honest_lookup_targets_are_present has ks (Gives ts) there h n i = (there n (h n i), inl (h n i))
honest_lookup_targets_are_present has ks (Asks k present absent) there h n i =
    (elim (has k) as
    (λ b. has k ≡ b → IsIn n (rest_of has present absent b).targets
    → (has n ≡ true) × (IsIn n ks ⊎ ((n ≡ k) ⊎ IsIn n (rest_of has present absent b).keys_looked_at))) [
      | true ↦ λ e j.
          let r : (has n ≡ true) × (IsIn n (k ∷ ks) ⊎ IsIn n (run_lookup_plan has present).keys_looked_at) =
          honest_lookup_targets_are_present has (k ∷ ks) present (lookup_key_before_present_keys has k ks e there) h.0 n
          j in
          (r.0, lookup_cases_regrouped (n ≡ k) (IsIn n ks) (IsIn n (run_lookup_plan has present).keys_looked_at) r.1)
      | false ↦ λ e j.
          let r : (has n ≡ true) × (IsIn n ks ⊎ IsIn n (run_lookup_plan has absent).keys_looked_at) =
          honest_lookup_targets_are_present has ks absent there h.1 n j in
          (r.0, elim r.1 [ inl f ↦ inl f | inr f ↦ inr (inr f) ])
    ]) refl i

-- a plan is sound if it is honest whatever keys were looked up before
abbrev IsSound : LookupPlan → Type 0
IsSound p = (ks : List Key) → IsHonest ks p

-- a plan without targets is sound
lookup_without_targets_is_sound : IsSound (Gives [])
lookup_without_targets_is_sound ks n i = absurd i

-- a single target is the key that was looked up last
lookup_gives_last_key : (ks : List Key) (k n : Key) → IsIn n (k ∷ []) → IsIn n (k ∷ ks)
lookup_gives_last_key ks k n (inl e) = inl e
lookup_gives_last_key ks k n (inr e) = absurd e

-- two targets are the two keys that were looked up last
lookup_gives_last_two_keys : (ks : List Key) (p u n : Key) → IsIn n (p ∷ u ∷ []) → IsIn n (u ∷ p ∷ ks)
lookup_gives_last_two_keys ks p u n (inl e) = inr (inl e)
lookup_gives_last_two_keys ks p u n (inr (inl e)) = inl e
lookup_gives_last_two_keys ks p u n (inr (inr e)) = absurd e

-- trying a key before a sound plan is a sound plan
lookup_key_is_sound : (k : Key) (next : LookupPlan) → IsSound next → IsSound (try_key k next)
lookup_key_is_sound k next h ks = (lookup_gives_last_key ks k, h ks)

-- trying a unit after a present prefix, before a sound plan, is honest
with_prefix_sound : (p : Key) (rest : List ℕ) (next : LookupPlan) → IsSound next → (ks : List Key)
    → IsHonest (p ∷ ks) (with_prefix p rest next)
with_prefix_sound p [] next h ks = lookup_gives_last_key ks p
with_prefix_sound p (b ∷ bs) next h ks = (lookup_gives_last_two_keys ks p (key kind.Unit (b ∷ bs)), h (p ∷ ks))

-- trying prefixes before a sound plan is a sound plan
prefixes_sound : (k : ℕ) (w : List ℕ) (next : LookupPlan) → IsSound next → IsSound (try_prefixes k w next)
prefixes_sound zero w next h ks = h ks
prefixes_sound (suc k) w next h ks = (
  with_prefix_sound (key kind.Prefix (take (suc k) w)) (drop (suc k) w) (try_prefixes k w next)
      (prefixes_sound k w next h) ks,
  prefixes_sound k w next h ks,
)

-- trying a stem before a sound plan is a sound plan
stem_sound : (v : List ℕ) (next : LookupPlan) → IsSound next → IsSound (try_stem v next)
stem_sound v next h = lookup_key_is_sound (key kind.Unit v) (try_prefixes (length v) v next)
    (prefixes_sound (length v) v next h)

-- trying an optional stem before a sound plan is a sound plan
stem_if_sound : (b : Bool) (v : List ℕ) (next : LookupPlan) → IsSound next → IsSound (try_stem_if b v next)
stem_if_sound true v next h = stem_sound v next h
stem_if_sound false v next h = h

-- trying the stems of a plural before a sound plan is a sound plan
stems_sound : (w : List ℕ) (next : LookupPlan) → IsSound next → IsSound (try_stems w next)
stems_sound w next h =
    let third = try_stem_if (has_plural_ending 4 (codes "ies") w) (stem_without_end 3 w ++ codes "y") next in
    let second = try_stem_if (has_plural_ending 3 (codes "es") w) (stem_without_end 2 w) third in
    let third_sound : IsSound third = stem_if_sound (has_plural_ending 4 (codes "ies") w)
    (stem_without_end 3 w ++ codes "y") next h
    in
    let second_sound : IsSound second = stem_if_sound (has_plural_ending 3 (codes "es") w) (stem_without_end 2 w) third
    third_sound
    in
    stem_if_sound (has_plural_ending 2 (codes "s") w) (stem_without_end 1 w) second second_sound

-- trying two kinds and then the parts of a word is a sound plan
lookup_kinds_are_sound : (first second : Kind) (w : List ℕ) → IsSound (try_kinds first second w (Gives []))
lookup_kinds_are_sound first second w =
    let parts = try_prefixes (length w) w (Gives []) in
    let stems = try_stems w parts in
    let stems_are : IsSound stems =
    stems_sound w parts (prefixes_sound (length w) w (Gives []) lookup_without_targets_is_sound) in
    lookup_key_is_sound (key first w) (try_key (key second w) stems)
    (lookup_key_is_sound (key second w) stems stems_are)

-- the plan of each word is sound
lookup_plan_is_sound : (at : WordKind) (w : List ℕ) → IsSound (lookup_plan at w)
lookup_plan_is_sound place.Plain w = lookup_kinds_are_sound kind.Unit kind.Func w
lookup_plan_is_sound place.Call w = lookup_kinds_are_sound kind.Func kind.Unit w
lookup_plan_is_sound place.Inverse w = lookup_key_is_sound (key kind.Func w) (Gives []) lookup_without_targets_is_sound

-- if no key was looked up before, a key that was looked up was looked up by the plan
looked_up_by_lookup_plan : (A : Type 0) → (⊥ ⊎ A) → A
looked_up_by_lookup_plan A (inl e) = absurd e
looked_up_by_lookup_plan A (inr a) = a

-- each target of the plan of a word was looked at and is present
lookup_plan_target_is_present : (has : Key → Bool) (at : WordKind) (w : List ℕ) (k : Key)
    → Contains (run_lookup_plan has (lookup_plan at w)).targets k
    → Contains (run_lookup_plan has (lookup_plan at w)).keys_looked_at k × (has k ≡ true)
lookup_plan_target_is_present has at w k i =
    let r : (has k ≡ true) × (IsIn k [] ⊎ IsIn k (run_lookup_plan has (lookup_plan at w)).keys_looked_at) =
    honest_lookup_targets_are_present has [] (lookup_plan at w) (λ q j. absurd j) (lookup_plan_is_sound at w []) k
    (lookup_key_is_in_list _ k i.0 i.1 i.2) in (
      lookup_key_in_list_is_contained _ k
          (looked_up_by_lookup_plan (IsIn k (run_lookup_plan has (lookup_plan at w)).keys_looked_at) r.1),
      r.0,
    )

-- the law of targets
pub targets_are_present : LookupTargetsLaw
targets_are_present has at w k i =
    let e : run_lookup_plan has (lookup_plan at w) ≡ found_targets has (candidates at w) = candidates_law has at w in
    subst (λ (f : LookupResult). Contains f.keys_looked_at k × (has k ≡ true)) e
    (lookup_plan_target_is_present has at w k (subst (λ (f : LookupResult). Contains f.targets k) (sym e) i))

-- equal answers after a key give equal results
same_lookup_rest :
    (has had : Key → Bool) (present absent : LookupPlan) (b c : Bool) → b ≡ c
    → (((k : Key) → IsIn k (run_lookup_plan has present).keys_looked_at → has k ≡ had k)
    → run_lookup_plan has present ≡ run_lookup_plan had present)
    → (((k : Key) → IsIn k (run_lookup_plan has absent).keys_looked_at → has k ≡ had k)
    → run_lookup_plan has absent ≡ run_lookup_plan had absent)
    → ((q : Key) → IsIn q (rest_of has present absent b).keys_looked_at → has q ≡ had q)
    → rest_of has present absent b ≡ rest_of had present absent c
same_lookup_rest has had present absent true true e f g h = f h
same_lookup_rest has had present absent true false e f g h = cc
same_lookup_rest has had present absent false true e f g h = cc
same_lookup_rest has had present absent false false e f g h = g h

-- equal answers to the keys that a plan looks at give equal results
same_lookup_run : (has had : Key → Bool) (p : LookupPlan)
    → ((k : Key) → IsIn k (run_lookup_plan has p).keys_looked_at → has k ≡ had k)
    → run_lookup_plan has p ≡ run_lookup_plan had p
same_lookup_run has had (Gives ts) h = refl
same_lookup_run has had (Asks k present absent) h =
    ap (lookup_result_after k)
    (same_lookup_rest has had present absent (has k) (had k) (h k (inl refl)) (same_lookup_run has had present)
    (same_lookup_run has had absent) (λ q i. h q (inr i)))

-- the law of equal answers
pub same_answers : SameLookupLaw
same_answers has had at w h =
    let e : run_lookup_plan has (lookup_plan at w) ≡ found_targets has (candidates at w) = candidates_law has at w in
    sym e ∙ (same_lookup_run has had (lookup_plan at w)
    (λ k i. h k (subst (λ (f : LookupResult). Contains f.keys_looked_at k) e (lookup_key_in_list_is_contained _ k i)))
    ∙ candidates_law had at w)
