-- The computed name fault is the only one that satisfies the recursion.
use Rattle.std.proofs.Common.{◌≡◌, ℕ, zero, suc, ◌+◌, ◌-◌, ◌≤◌, Bool, true, false, cond, List, [], ◌∷◌, ◌++◌, length}
use Rattle.std.proofs.Common.{Contains, Option, Some, refl, sym, ◌∙◌, ap, arith, length-append, None}
use Rattle.std.specs.List.{last_or}
use Rattle.expr_tree.specs.declared.word_list.WordUse.{WordUse}
use Rattle.expr_tree.specs.Names.{is_refused}
use Rattle.def_entry.specs.declared.key.Key.{Key}
use Rattle.def_entry.specs.SameKeys.{is_entry_key_among}
use Rattle.def_entry.specs.Tables.{EntryTable}
use Rattle.table_names.specs.declared.fault.NameFault.{NameFault}
use Rattle.table_names.specs.declared.fault.NameFault.TheVariants.{Cycle, Refused}
use Rattle.table_names.specs.FaultLaws.{IsNameFaultPath, IsWordsNameFault, WordsNameFaultLaw}
use Rattle.table_names.specs.Faults.{DeeperNameFault, key_fault_within, name_fault_cycle_chain, target_fault}
use Rattle.table_names.specs.Faults.{targets_fault, word_fault, words_fault}
use Rattle.table_names.specs.Leads.{table_word_targets}
use Rattle.table_names.specs.Words.{table_words_of_key}
use Rattle.table_names.proofs.Lookups.{target_present}
use Rattle.table_names.proofs.Members.{first_same}
use Rattle.table_names.proofs.Paths.{longer, path_fits_table}

-- the fault of the words in the entry of the last key of a path
abbrev by_words : EntryTable → (List Key → List WordUse → Option NameFault) → DeeperNameFault
by_words table f path n = f path (table_words_of_key table n)

-- two conditionals are equal if their second branches are equal whenever they are chosen
unless : {A : Type 0} (b : Bool) (x y z : A) → (b ≡ false → y ≡ z) → cond b x y ≡ cond b x z
unless true x y z h = refl
unless false x y z h = h refl

module _ (table : EntryTable) where
  -- the fault of a word depends on deeper faults only in the entries of targets that are not on the path
  word_same :
      (f g : DeeperNameFault) (path : List Key) (u : WordUse)
      → ((n : Key) → Contains (table_word_targets table u) n → is_entry_key_among path n ≡ false
      → f (path ++ n ∷ []) n ≡ g (path ++ n ∷ []) n)
      → word_fault table f path u ≡ word_fault table g path u
  word_same f g path u h =
      ap (λ o. cond (is_refused u.text) (Some (Refused u.text (last_or None path))) o)
      (targets_same (table_word_targets table u) h)
    where
      targets_same :
          (ns : List Key) → ((n : Key) → Contains ns n → is_entry_key_among path n ≡ false
          → f (path ++ n ∷ []) n ≡ g (path ++ n ∷ []) n)
          → targets_fault table f path u ns ≡ targets_fault table g path u ns
      targets_same [] e = refl
      targets_same (n ∷ ns) e =
          first_same (target_fault table f path) (target_fault table g path) (n ∷ ns)
          (λ m i. unless (is_entry_key_among path m) (Some (Cycle (name_fault_cycle_chain m path)))
          (f (path ++ m ∷ []) m)
          (g (path ++ m ∷ []) m)
          (e m i))

  -- the bound on depth is large enough for the keys that are not on the path
  room_left :
      (path : List Key) (n : Key) → IsNameFaultPath table (path ++ n ∷ [])
      → key_fault_within table (length table - length path) (path ++ n ∷ []) n
      ≡ words_fault table (path ++ n ∷ []) (table_words_of_key table n)
  room_left path n is =
      let l : length (path ++ n ∷ []) ≤ length table = path_fits_table table (path ++ n ∷ []) is in
      let left : length table - length path ≡ suc (length table - length (path ++ n ∷ [])) =
      omega (arith, length-append path (n ∷ [])) in
      ap (λ k. key_fault_within table k (path ++ n ∷ []) n) left

  fault_is : IsWordsNameFault table (words_fault table)
  fault_is path words is =
      first_same (word_fault table (key_fault_within table (length table - length path)) path)
      (word_fault table (by_words table (words_fault table)) path) words
      (λ u i. word_same (key_fault_within table (length table - length path)) (by_words table (words_fault table)) path
      u
      (λ n t off. room_left path n (longer table path n is off (target_present table u n t))))

  -- two functions that satisfy the recursion agree, by induction over the number of keys that are not on the path
  one_by :
      (f : List Key → List WordUse → Option NameFault) → IsWordsNameFault table f
      → (k : ℕ) (path : List Key) (words : List WordUse) → IsNameFaultPath table path
      → length path + k ≡ length table + 1
      → f path words ≡ words_fault table path words
  one_by f is zero path words p room = absurd (let l : length path ≤ length table = path_fits_table table path p in
      omega arith)
  one_by f is (suc k) path words p room =
      is path words p
      ∙ (first_same (word_fault table (by_words table f) path)
      (word_fault table (by_words table (words_fault table)) path) words
      (λ u i. word_same (by_words table f) (by_words table (words_fault table)) path u
      (λ n t off. one_by f is k (path ++ n ∷ []) (table_words_of_key table n)
      (longer table path n p off (target_present table u n t))
      (omega (arith, length-append path (n ∷ [])))))
      ∙ sym (fault_is path words p))

  one_is :
      (f : List Key → List WordUse → Option NameFault) → IsWordsNameFault table f
      → (path : List Key) (words : List WordUse) → IsNameFaultPath table path
      → f path words ≡ words_fault table path words
  one_is f is path words p =
      let l : length path ≤ length table = path_fits_table table path p in
      let e : length path + (length table + 1 - length path) ≡ length table + 1 = omega arith in
      one_by f is (length table + 1 - length path) path words p e

-- the law of the name fault
pub words_name_fault_law : WordsNameFaultLaw
words_name_fault_law = record { first_fault_is = fault_is; fault_is_only = one_is }
