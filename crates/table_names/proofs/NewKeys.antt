-- The keys of the numbers that a walk newly closes.
use Rattle.std.proofs.Common.{◌≡◌, ◌⊎◌, ℕ, Bool, true, false, List, [], ◌∷◌, map, Contains, Option}
use Rattle.std.proofs.Common.{refl, sym, ◌∙◌, ap, subst, inl, inr}
use Rattle.std.proofs.lemmas.Bool.{both_ways, false_from_ne_true}
use Rattle.expr_tree.specs.declared.word_list.WordUse.{WordUse}
use Rattle.def_entry.specs.declared.key.Key.{Key}
use Rattle.def_entry.specs.SameKeys.{SameEntryKeysLaw}
use Rattle.def_entry.specs.Tables.{EntryTable}
use Rattle.name_walk.specs.declared.step.Step.{Step}
use Rattle.name_walk.specs.declared.step.Step.TheVariants.{To}
use Rattle.name_walk.specs.ClosedNames.{IsSettledInGraph}
use Rattle.name_walk.specs.NewlyClosed.{AreNewlyClosedByWalk, IsReachedInGraph}
use Rattle.name_walk.specs.Steps.{Graph}
use Rattle.table_names.specs.declared.fault.NameFault.{NameFault}
use Rattle.table_names.specs.ClosedKeys.{AreClosedWords, IsClosedKey}
use Rattle.table_names.specs.ClosedLaws.{ClosedWordLaw}
use Rattle.table_names.specs.Leads.{TableNameReaches, TableWordsReach}
use Rattle.table_names.specs.NumberedNames.{AreNumbered, AreWords, LeadToKnownNumbers}
use Rattle.table_names.specs.SettlingLaws.{AreNewNumberedKeys, AreNumberedNameMarks, NumberedNameSettlingLaw}
use Rattle.table_names.proofs.NumberPaths.{AllKnown, distinct_keys}
use Rattle.table_names.proofs.ReachedNumbers.{key_reached, key_way, known_reached, number_below, number_reached}
use Rattle.general_lemmas.proofs.Members.{no_member, member_first, member_later, member_cases}

-- the key of a member of some numbers is a member of their keys
pub key_of_numbered_name_is_member : (key : ℕ → Key) (ns : List ℕ) (n : ℕ) → Contains ns n
    → Contains (map key ns) (key n)
key_of_numbered_name_is_member key [] n i = absurd (no_member n i)
key_of_numbered_name_is_member key (m ∷ ns) n i = elim (member_cases n m ns i) [
  | inl e ↦ member_first (key n) (key m) (map key ns) (ap key e)
  | inr j ↦ member_later (key n) (key m) (map key ns) (key_of_numbered_name_is_member key ns n j)
]

-- a member of the keys of some numbers is the key of one of them
pub numbered_name_of_key_member : (key : ℕ → Key) (ns : List ℕ) (k : Key) → Contains (map key ns) k
    → (n : ℕ) × (k ≡ key n) × Contains ns n
numbered_name_of_key_member key [] k i = absurd (no_member k i)
numbered_name_of_key_member key (m ∷ ns) k i = elim (member_cases k (key m) (map key ns) i) [
  | inl e ↦ (m, e, member_first m m ns refl)
  | inr j ↦ let r : (n : ℕ) × (k ≡ key n) × Contains ns n = numbered_name_of_key_member key ns k j in
      (r.0, r.1, member_later r.0 m ns r.2)
]

-- if each number of a list is known, then all are known
known_numbers_are_all_known : (known : ℕ → Bool) (ns : List ℕ) → ((n : ℕ) → Contains ns n → known n ≡ true)
    → AllKnown known ns
known_numbers_are_all_known known [] h = tt
known_numbers_are_all_known known (n ∷ ns) h =
    (h n (member_first n n ns refl), known_numbers_are_all_known known ns (λ m i. h m (member_later m n ns i)))

module _ (same_keys : SameEntryKeysLaw) (closed_law : ClosedWordLaw) (table : EntryTable) (key : ℕ → Key)
    (dead_end : ℕ → Option Key → NameFault) (g : Graph) (known : ℕ → Bool) (marks : List Bool) (settled : Key → Bool)
    (numbered : AreNumbered table key dead_end g known) (are_marks : AreNumberedNameMarks key known marks settled) where
  all_reached : (xs : List Step) → LeadToKnownNumbers known xs → (n : ℕ) → IsReachedInGraph g xs n → known n ≡ true
  all_reached = known_reached table key dead_end g known numbered

  -- the new keys of a query that reaches the same keys by number and by name
  new_keys :
      (Asked : Key → Type 0) (xs : List Step) (order : List ℕ) → LeadToKnownNumbers known xs
      → AreNewlyClosedByWalk g marks xs order
      → ((n : ℕ) → IsReachedInGraph g xs n → Asked (key n))
      → ((m : Key) → Asked m → (n : ℕ) × (m ≡ key n) × IsReachedInGraph g xs n)
      → AreNewNumberedKeys settled Asked (map key order)
  new_keys Asked xs order ks closed to_key to_number = record {
    unsettled_keys = λ m. (asked m, listed m);
    keys_listed_once = distinct_keys same_keys key known numbered.keys_apart order
        (known_numbers_are_all_known known order (λ n i. all_reached xs ks n ((closed.names_reached n).0 i).0))
        closed.names_listed_once;
  }
    where
      unsettled : (n : ℕ) → IsReachedInGraph g xs n → (IsSettledInGraph marks n → ⊥) → settled (key n) ≡ false
      unsettled n r fresh =
          false_from_ne_true (settled (key n)) (λ e. fresh ((are_marks n (all_reached xs ks n r)).1 e))

      asked : (m : Key) → Contains (map key order) m → Asked m × (settled m ≡ false)
      asked m i =
          let n : (n : ℕ) × (m ≡ key n) × Contains order n = numbered_name_of_key_member key order m i in
          let r : IsReachedInGraph g xs n.0 × (IsSettledInGraph marks n.0 → ⊥) = (closed.names_reached n.0).0 n.2 in
          subst (λ (k : Key). Asked k × (settled k ≡ false)) (sym n.1) (to_key n.0 r.0, unsettled n.0 r.0 r.1)

      listed : (m : Key) → Asked m × (settled m ≡ false) → Contains (map key order) m
      listed m h =
          let n : (n : ℕ) × (m ≡ key n) × IsReachedInGraph g xs n = to_number m h.0 in
          let off : settled (key n.0) ≡ false = ap settled (sym n.1) ∙ h.1 in
          let fresh : IsSettledInGraph marks n.0 → ⊥ =
          λ s. both_ways (settled (key n.0)) off ((are_marks n.0 (all_reached xs ks n.0 n.2)).0 s) in
          let i : Contains order n.0 = (closed.names_reached n.0).1 (n.2, fresh) in
          subst (λ (k : Key). Contains (map key order) k) (sym n.1) (key_of_numbered_name_is_member key order n.0 i)

  pub words_settle :
      (us : List WordUse) (xs : List Step) (order : List ℕ)
      → AreWords table key dead_end us xs → LeadToKnownNumbers known xs → AreClosedWords table us
      → AreNewlyClosedByWalk g marks xs order
      → AreNewNumberedKeys settled (TableWordsReach table us) (map key order)
  words_settle us xs order w ks e closed =
      new_keys (TableWordsReach table us) xs order ks closed
      (key_reached table key dead_end g known numbered us xs w ks)
      (number_reached table key dead_end g known numbered closed_law us xs w ks e)

  pub key_settles :
      (n : ℕ) (order : List ℕ) → known n ≡ true → IsClosedKey table (key n)
      → AreNewlyClosedByWalk g marks (To n ∷ []) order
      → AreNewNumberedKeys settled (λ m. (m ≡ key n) ⊎ TableNameReaches table (key n) m) (map key order)
  key_settles n order k e closed =
      new_keys (λ m. (m ≡ key n) ⊎ TableNameReaches table (key n) m) (To n ∷ []) order there closed to_key to_number
    where
      one : (m : ℕ) → Contains (To n ∷ []) (To m) → m ≡ n
      one m i = elim (member_cases (To m) (To n) [] i) [ inl q ↦ cc | inr j ↦ absurd (no_member (To m) j) ]

      there : LeadToKnownNumbers known (To n ∷ [])
      there m i = ap known (one m i) ∙ k

      to_key : (m : ℕ) → IsReachedInGraph g (To n ∷ []) m → (key m ≡ key n) ⊎ TableNameReaches table (key n) (key m)
      to_key m r =
          let q : r.0 ≡ n = one r.0 r.1 in
          elim r.2 [
            | inl f ↦ inl (ap key (f ∙ q))
            | inr way ↦
                let below : TableNameReaches table (key r.0) (key m) =
                key_way table key dead_end g known numbered r.0 m (there r.0 r.1) way in
                inr (subst (λ (x : ℕ). TableNameReaches table (key x) (key m)) q below)
          ]

      to_number :
          (m : Key) → (m ≡ key n) ⊎ TableNameReaches table (key n) m
          → (r : ℕ) × (m ≡ key r) × IsReachedInGraph g (To n ∷ []) r
      to_number m (inl f) = (n, f, (n, member_first (To n) (To n) [] refl, inl refl))
      to_number m (inr r) = number_below table key dead_end g known numbered closed_law n k e m r

-- the law of newly settled keys
pub numbered_name_settling_law : SameEntryKeysLaw → ClosedWordLaw → NumberedNameSettlingLaw
numbered_name_settling_law same_keys closed_law = record {
  words = words_settle same_keys closed_law;
  key = key_settles same_keys closed_law;
}
