-- Chains turned so that they begin with one of their keys.
use Rattle.std.proofs.Common.{◌≡◌, ◌∙◌, ◌+◌, ◌||◌, ℕ, Bool, true, false, cond, List, [], ◌∷◌, ◌++◌, length, take, drop}
use Rattle.std.proofs.Common.{Some, None, refl, sym, ap, arith, append_assoc, length-append}
use Rattle.std.specs.List.{position, position_from}
use Rattle.std.proofs.Math.Seq.{drop-append_seam, take-append_seam}
use Rattle.std.proofs.lemmas.Iterator.Adapters.{position_from-zero}
use Rattle.std.proofs.lemmas.Bool.{or_parts}
use Rattle.def_entry.specs.declared.key.Key.{Key}
use Rattle.def_entry.specs.SameKeys.{is_entry_key_among, is_same_entry_key}
use Rattle.def_entry.proofs.SameKeys.{same_entry_keys}
use Rattle.table_names.specs.Faults.{name_fault_cycle_chain}
use Rattle.table_names.proofs.KeyLists.{key_off_longer_name_fault_path}
use Rattle.survey.specs.PrefixFaults.{checked_chain_from_key, checked_chain_turned_to}

module _ (k : Key) where
  from_off : (i : ℕ) (xs : List Key) → is_entry_key_among xs k ≡ false → position_from (is_same_entry_key k) i xs ≡ None
  from_off i [] e = refl
  from_off i (x ∷ xs) e =
      let h = or_parts (is_same_entry_key k x) (is_entry_key_among xs k) e in
      ap (λ b. cond b (Some i) (position_from (is_same_entry_key k) (i + 1) xs)) h.0 ∙ from_off (i + 1) xs h.1

  from_at : (i : ℕ) (front back : List Key) → is_entry_key_among front k ≡ false
      → position_from (is_same_entry_key k) i (front ++ k ∷ back) ≡ Some (i + length front)
  from_at i [] back e =
      let z : i ≡ i + 0 = omega arith in
      ap (λ b. cond b (Some i) (position_from (is_same_entry_key k) (i + 1) back)) ((same_entry_keys k k).1 refl)
      ∙ ap Some z
  from_at i (x ∷ front) back e =
      let h = or_parts (is_same_entry_key k x) (is_entry_key_among front k) e in
      let z : (i + 1) + length front ≡ i + length (x ∷ front) = omega arith in
      ap (λ b. cond b (Some i) (position_from (is_same_entry_key k) (i + 1) (front ++ k ∷ back))) h.0
      ∙ (from_at (i + 1) front back h.1 ∙ ap Some z)

  -- a chain that does not contain the key stays as it is
  pub turned_off : (keys : List Key) → is_entry_key_among keys k ≡ false → checked_chain_from_key k keys ≡ keys
  turned_off keys e =
      ap (λ o. checked_chain_turned_to o keys) (position_from-zero (is_same_entry_key k) keys ∙ from_off 0 keys e)

  -- a chain from the first place of another key on does not contain this key if the path does not
  pub chain_off : (h : Key) (path : List Key) → is_same_entry_key k h ≡ false → is_entry_key_among path k ≡ false
      → is_entry_key_among (name_fault_cycle_chain h path) k ≡ false
  chain_off h [] other e = ap (λ b. b || false) other
  chain_off h (x ∷ path) other e =
      let p = or_parts (is_same_entry_key k x) (is_entry_key_among path k) e in
      go (is_same_entry_key h x) p.0 p.1 (chain_off h path other p.1)
    where
      go : (b : Bool) → is_same_entry_key k x ≡ false → is_entry_key_among path k ≡ false
          → is_entry_key_among (name_fault_cycle_chain h path) k ≡ false
          → is_entry_key_among (cond b (x ∷ (path ++ h ∷ [])) (name_fault_cycle_chain h path)) k ≡ false
      go true at behind rest =
          ap (λ b. b || is_entry_key_among (path ++ h ∷ []) k) at
          ∙ key_off_longer_name_fault_path path h k behind (λ q. unlike q)
        where
          unlike : k ≡ h → ⊥
          unlike q = let s : is_same_entry_key k h ≡ true = ap (is_same_entry_key k) (sym q)
              ∙ (same_entry_keys k k).1 refl in cc (s, other)
      go false at behind rest = rest

  -- a chain that returns to the key before its end is turned to begin with the key
  pub turned_back : (h : Key) (more : List Key) → is_entry_key_among (h ∷ more) k ≡ false
      → checked_chain_from_key k (h ∷ ((more ++ k ∷ []) ++ h ∷ [])) ≡ k ∷ (h ∷ (more ++ k ∷ []))
  turned_back h more e =
      ap (λ o. checked_chain_turned_to o (h ∷ ((more ++ k ∷ []) ++ h ∷ []))) place
      ∙ (λ i. front i ++ back i)
    where
      parts : h ∷ ((more ++ k ∷ []) ++ h ∷ []) ≡ (h ∷ more) ++ k ∷ (h ∷ [])
      parts = ap (λ xs. h ∷ xs) (append_assoc more (k ∷ []) (h ∷ []))

      place : position (is_same_entry_key k) (h ∷ ((more ++ k ∷ []) ++ h ∷ [])) ≡ Some (length (h ∷ more))
      place =
          position_from-zero (is_same_entry_key k) (h ∷ ((more ++ k ∷ []) ++ h ∷ []))
          ∙ (ap (position_from (is_same_entry_key k) 0) parts
          ∙ (from_at 0 (h ∷ more) (h ∷ []) e
          ∙ (let z : 0 + length (h ∷ more) ≡ length (h ∷ more) = omega arith in ap Some z)))

      front : drop (length (h ∷ more)) (h ∷ ((more ++ k ∷ []) ++ h ∷ [])) ≡ k ∷ (h ∷ [])
      front = ap (drop (length (h ∷ more))) parts ∙ drop-append_seam (h ∷ more) (k ∷ (h ∷ []))

      back : take (length (h ∷ more)) (drop 1 (h ∷ ((more ++ k ∷ []) ++ h ∷ []))) ≡ more ++ k ∷ []
      back =
          let z : length (h ∷ more) ≡ length (more ++ k ∷ []) = omega (arith, length-append more (k ∷ [])) in
          ap (λ n. take n ((more ++ k ∷ []) ++ h ∷ [])) z ∙ take-append_seam (more ++ k ∷ []) (h ∷ [])

  -- a chain of the key alone stays as it is
  pub turned_here : checked_chain_from_key k (k ∷ (k ∷ [])) ≡ k ∷ (k ∷ [])
  turned_here =
      ap (λ o. checked_chain_turned_to o (k ∷ (k ∷ []))) (position_from-zero (is_same_entry_key k) (k ∷ (k ∷ []))
      ∙ from_at 0 [] (k ∷ []) refl)
