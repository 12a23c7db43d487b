-- The step at which words first lead to a fault, whatever path precedes them.
use Rattle.std.proofs.Common.{◌≡◌, ◌∙◌, ◌++◌, ◌-◌, Bool, true, false, if◌then◌else◌, List, [], ◌∷◌, Contains, length}
use Rattle.std.proofs.Common.{Option, Some, None, refl, sym, ap, subst, inl, inr, ℕ, is_some}
use Rattle.std.specs.Option.{option_or}
use Rattle.std.proofs.lemmas.Bool.{cases_Bool, false_from_ne_true}
use Rattle.expr_tree.specs.declared.word_list.WordUse.{WordUse}
use Rattle.expr_tree.specs.Names.{is_refused}
use Rattle.def_entry.specs.declared.key.Key.{Key}
use Rattle.def_entry.specs.Entries.{Entry}
use Rattle.def_entry.specs.SameKeys.{is_entry_key_among}
use Rattle.def_entry.specs.Tables.{EntryTable, entry_at, is_entry_present}
use Rattle.name_walk.specs.Lists.{first_some}
use Rattle.std.specs.List.{last_or}
use Rattle.table_names.specs.declared.fault.NameFault.{NameFault}
use Rattle.table_names.specs.declared.fault.NameFault.TheVariants.{Unknown, Refused, Cycle}
use Rattle.table_names.specs.ClosedKeys.{IsClosedKey}
use Rattle.table_names.specs.FaultLaws.{IsNameFaultPath}
use Rattle.table_names.specs.Faults.{DeeperNameFault, key_fault, key_fault_within, name_fault_cycle_chain, target_fault}
use Rattle.table_names.specs.Faults.{words_fault, targets_fault, word_fault}
use Rattle.table_names.specs.Leads.{TableNameReaches, table_word_targets}
use Rattle.table_names.specs.Words.{table_words_of_entry, table_words_of_key}
use Rattle.table_names.proofs.ClosedLaws.{closed_word_law}
use Rattle.table_names.proofs.EndingWays.{words_end}
use Rattle.table_names.proofs.KeyLists.{key_off_longer_name_fault_path}
use Rattle.table_names.proofs.Lookups.{target_present}
use Rattle.table_names.proofs.OneFault.{words_name_fault_law}
use Rattle.table_names.proofs.Paths.{closed_ending, ending_closed, key_words_closed, longer, no_fault, words_closed_key}
use Rattle.general_lemmas.proofs.Members.{member_first, member_later}

-- a step to a fault: a word that leads nowhere, a name that is refused, or a key that is not closed
pub data Step (table : EntryTable) : Type 0 where
  Lost : List ℕ → Step table
  Barred : List ℕ → Step table
  Open : (n : Key) → (IsClosedKey table n → ⊥) → Step table

-- a key without an entry has no words, and so is closed
checked_absent_key_has_no_words : (o : Option Entry) → is_some o ≡ false → table_words_of_entry o ≡ []
checked_absent_key_has_no_words None e = refl
checked_absent_key_has_no_words (Some x) e = cc

module _ (table : EntryTable) where
  pub open_present : (n : Key) → (IsClosedKey table n → ⊥) → is_entry_present table n ≡ true
  open_present n h =
      elim (cases_Bool (is_entry_present table n)) [
        | inl there ↦ there
        | inr absent ↦ absurd
            (h (subst (λ ws. first_some (word_fault table (key_fault_within table (length table - 1)) (n ∷ [])) ws
            ≡ None)
            (sym (checked_absent_key_has_no_words (entry_at table n) absent)) refl))
      ]

  pub faulty_not_closed : (n : Key) (f : NameFault) → key_fault table n ≡ Some f → IsClosedKey table n → ⊥
  faulty_not_closed n f e closed = cc

  abbrev key_step : (n : Key) (o : Option NameFault) → key_fault table n ≡ o → Option (Step table)
  key_step n None e = None
  key_step n (Some f) e = Some (Open n (faulty_not_closed n f e))

  abbrev target_step : Key → Option (Step table)
  target_step n = key_step n (key_fault table n) refl

  abbrev targets_step : WordUse → List Key → Option (Step table)
  targets_step u [] = Some (Lost u.text)
  targets_step u (n ∷ ns) = first_some target_step (n ∷ ns)

  abbrev word_step : WordUse → Option (Step table)
  word_step u = if is_refused u.text then Some (Barred u.text) else targets_step u (table_word_targets table u)

  -- the step at which words first lead to a fault, if they lead to one
  abbrev pub step : List WordUse → Option (Step table)
  step words = first_some word_step words

  -- the fault of the words of a key after a path
  abbrev pub by_words : DeeperNameFault
  by_words path n = words_fault table path (table_words_of_key table n)

  -- the fault that a step leads to after a path
  abbrev pub meet : List Key → Step table → Option NameFault
  meet path (Lost word) = Some (Unknown word (last_or None path))
  meet path (Barred word) = Some (Refused word (last_or None path))
  meet path (Open n h) = target_fault table by_words path n

  -- a fault is the one that a step leads to
  abbrev pub Fits : List Key → Option NameFault → Option (Step table) → Type 0
  Fits path o None = o ≡ None
  Fits path o (Some s) = (o ≡ meet path s) × ((f : NameFault) × (o ≡ Some f))

  -- no key of a path is closed
  abbrev pub AreOpen : List Key → Type 0
  AreOpen path = (n : Key) → is_entry_key_among path n ≡ true → IsClosedKey table n → ⊥

  fits_both : (path : List Key) (o p : Option NameFault) (s t : Option (Step table)) → Fits path o s → Fits path p t
      → Fits path (option_or o p) (option_or s t)
  fits_both path o p None t h k = subst (λ (x : Option NameFault). Fits path (option_or x p) t) (sym h) k
  fits_both path o p (Some s) t h k =
      subst (λ (x : Option NameFault). Fits path (option_or x p) (Some s)) (sym h.1.1)
      (sym h.1.1 ∙ h.0, (h.1.0, refl))

  fits_first : {A : Type 0} (path : List Key) (f : A → Option NameFault) (g : A → Option (Step table)) (xs : List A)
      → ((x : A) → Contains xs x → Fits path (f x) (g x)) → Fits path (first_some f xs) (first_some g xs)
  fits_first path f g [] h = refl
  fits_first path f g (x ∷ xs) h =
      fits_both path (f x) (first_some f xs) (g x) (first_some g xs) (h x (member_first x x xs refl))
      (fits_first path f g xs (λ y i. h y (member_later y x xs i)))

  module _ (path : List Key) (is : IsNameFaultPath table path) (all_open : AreOpen path) where
    off : (n : Key) → IsClosedKey table n → is_entry_key_among path n ≡ false
    off n e = false_from_ne_true (is_entry_key_among path n) (λ on. all_open n on e)

    -- after such a path, a closed key has no fault
    closed_passes : (n : Key) → is_entry_present table n ≡ true → IsClosedKey table n
        → target_fault table by_words path n ≡ None
    closed_passes n there e =
        ap (λ b. if b then Some (Cycle (name_fault_cycle_chain n path)) else by_words (path ++ n ∷ []) n) (off n e)
        ∙ no_fault table (length table) (path ++ n ∷ []) (table_words_of_key table n)
        (closed_ending table (table_words_of_key table n) (key_words_closed table n e))
        (longer table path n is (off n e) there)
        (λ m r. key_off_longer_name_fault_path path n m
        (off m (closed_word_law.reached_words_closed table (table_words_of_key table n) (key_words_closed table n e) m
        r))
        (λ q. closed_word_law.no_cycle table n e (subst (λ (x : Key). TableNameReaches table n x) q r)))

    -- any other key has a fault
    open_some : (n : Key) → (IsClosedKey table n → ⊥) → (f : NameFault) × (target_fault table by_words path n ≡ Some f)
    open_some n h = go (is_entry_key_among path n) (by_words (path ++ n ∷ []) n) refl
      where
        go : (b : Bool) (o : Option NameFault) → by_words (path ++ n ∷ []) n ≡ o
            → (f : NameFault) × ((if b then Some (Cycle (name_fault_cycle_chain n path)) else o) ≡ Some f)
        go true o e = (Cycle (name_fault_cycle_chain n path), refl)
        go false (Some f) e = (f, refl)
        go false None e =
            absurd (h (words_closed_key table n (ending_closed table (length table - length (path ++ n ∷ []))
            (table_words_of_key table n) (words_end table (length table - length (path ++ n ∷ [])) (path ++ n ∷ [])
            (table_words_of_key table n) e))))

    fits_target : (n : Key) → is_entry_present table n ≡ true → Fits path (target_fault table by_words path n)
        (target_step n)
    fits_target n there = go (key_fault table n) refl
      where
        go : (o : Option NameFault) (e : key_fault table n ≡ o)
            → Fits path (target_fault table by_words path n) (key_step n o e)
        go None e = closed_passes n there e
        go (Some f) e = (refl, open_some n (faulty_not_closed n f e))

    fits_word : (u : WordUse) → Fits path (word_fault table by_words path u) (word_step u)
    fits_word u = go (is_refused u.text)
      where
        by_targets : (ns : List Key) → ((n : Key) → Contains ns n → is_entry_present table n ≡ true)
            → Fits path (targets_fault table by_words path u ns) (targets_step u ns)
        by_targets [] h = (refl, (Unknown u.text (last_or None path), refl))
        by_targets (n ∷ ns) h =
            fits_first path (target_fault table by_words path) target_step (n ∷ ns) (λ m i. fits_target m (h m i))

        go : (b : Bool) → Fits path
            (if b then Some (Refused u.text (last_or None path)) else targets_fault table by_words path u
            (table_word_targets table u))
            (if b then Some (Barred u.text) else targets_step u (table_word_targets table u))
        go true = (refl, (Refused u.text (last_or None path), refl))
        go false = by_targets (table_word_targets table u) (λ n i. target_present table u n i)

    -- if no key of a path is closed, the fault of words after it is the fault that their step leads to
    pub fits_words : (words : List WordUse) → Fits path (words_fault table path words) (step words)
    fits_words words =
        subst (λ (o : Option NameFault). Fits path o (step words))
        (sym (words_name_fault_law.first_fault_is table path words is))
        (fits_first path (word_fault table by_words path) word_step words (λ u i. fits_word u))
