-- The fault of the words of a key, reported as the fault of the key.
use Rattle.std.proofs.Common.{◌≡◌, ◌⊎◌, ◌∙◌, ◌+◌, ◌-◌, ◌≤◌, ◌||◌, ℕ, zero, suc, Bool, true, false, if◌then◌else◌, List}
use Rattle.std.proofs.Common.{[], ◌∷◌, ◌++◌}
use Rattle.std.proofs.Common.{length, Option, Some, None, refl, sym, ap, subst, inl, inr, arith, length-append}
use Rattle.std.specs.Option.{option_map}
use Rattle.std.proofs.lemmas.Bool.{false_from_ne_true}
use Rattle.std.specs.List.{last_or}
use Rattle.expr_tree.specs.declared.word_list.WordUse.{WordUse}
use Rattle.def_entry.specs.declared.key.Key.{Key}
use Rattle.def_entry.specs.SameKeys.{is_entry_key_among, is_same_entry_key}
use Rattle.def_entry.specs.Tables.{EntryTable, is_entry_present}
use Rattle.def_entry.proofs.SameKeys.{same_entry_keys}
use Rattle.table_names.specs.declared.fault.NameFault.{NameFault}
use Rattle.table_names.specs.declared.fault.NameFault.TheVariants.{Unknown, Refused, Cycle}
use Rattle.table_names.specs.ClosedKeys.{IsClosedKey}
use Rattle.table_names.specs.FaultLaws.{IsNameFaultPath}
use Rattle.table_names.specs.Faults.{key_fault, name_fault, name_fault_cycle_chain, words_fault}
use Rattle.table_names.specs.Words.{table_words_of_key}
use Rattle.table_names.proofs.KeyLists.{key_off_longer_name_fault_path, key_on_longer_name_fault_path}
use Rattle.table_names.proofs.Paths.{empty_is_path, key_words_closed, longer, path_fits_table, words_closed_key}
use Rattle.survey.specs.PrefixFaults.{CheckedPrefixLaw, checked_prefix_fault}
use Rattle.survey.proofs.FaultSteps.{AreOpen, Barred, Fits, Lost, Open, Step, by_words, faulty_not_closed, fits_words}
use Rattle.survey.proofs.FaultSteps.{open_present, step}
use Rattle.survey.proofs.ChainTurns.{chain_off, turned_back, turned_here, turned_off}

-- ---- the key in which a word is reported
checked_unknown_word_in_last_key : (k : Key) (word : List ℕ) (x : Key) (path : List Key)
    → checked_prefix_fault k (Unknown word (last_or None (x ∷ path))) ≡ Unknown word (last_or None (x ∷ path))
checked_unknown_word_in_last_key k word x [] = refl
checked_unknown_word_in_last_key k word x (y ∷ path) = checked_unknown_word_in_last_key k word y path

-- a refused word after a nonempty path is reported in the last key of that path
checked_refused_word_in_last_key : (k : Key) (word : List ℕ) (x : Key) (path : List Key)
    → checked_prefix_fault k (Refused word (last_or None (x ∷ path))) ≡ Refused word (last_or None (x ∷ path))
checked_refused_word_in_last_key k word x [] = refl
checked_refused_word_in_last_key k word x (y ∷ path) = checked_refused_word_in_last_key k word y path

-- an unknown word is reported in the prefix if there is no other key in between
checked_unknown_word_in_prefix : (k : Key) (word : List ℕ) (path : List Key)
    → checked_prefix_fault k (Unknown word (last_or None path)) ≡ Unknown word (last_or None (k ∷ path))
checked_unknown_word_in_prefix k word [] = refl
checked_unknown_word_in_prefix k word (x ∷ path) = checked_unknown_word_in_last_key k word x path

-- a refused word is reported in the prefix if there is no other key in between
checked_refused_word_in_prefix : (k : Key) (word : List ℕ) (path : List Key)
    → checked_prefix_fault k (Refused word (last_or None path)) ≡ Refused word (last_or None (k ∷ path))
checked_refused_word_in_prefix k word [] = refl
checked_refused_word_in_prefix k word (x ∷ path) = checked_refused_word_in_last_key k word x path

-- the first key of a path
abbrev front : List Key → Option Key
front [] = None
front (x ∷ path) = Some x

-- adding a key at the end of a path does not change its first key
longer_checked_path_keeps_front : (path : List Key) (h x : Key) → front path ≡ Some x → front (path ++ h ∷ []) ≡ Some x
longer_checked_path_keeps_front [] h x e = cc
longer_checked_path_keeps_front (y ∷ path) h x e = e

module _ (table : EntryTable) (k : Key) (k_open : IsClosedKey table k → ⊥) where
  -- a path that can be continued both after the key and without it
  record IsBoth (path : List Key) : Type 0 where
    pub behind : IsNameFaultPath table (k ∷ path)
    pub without : IsNameFaultPath table path
    pub off : is_entry_key_among path k ≡ false
    pub none_closed : AreOpen table path

  -- the fault of words without the key in front, reported as the prefix does, is the fault after the key
  abbrev IsReportableResult : List Key → List WordUse → NameFault → Type 0
  IsReportableResult path words f =
      (g : NameFault) × (words_fault table path words ≡ Some g) × (checked_prefix_fault k g ≡ f)

  -- after the key the chain comes back to it; without the key, the words of the key are followed after the way to it
  record IsBack (path : List Key) (words : List WordUse) (f : NameFault) : Type 0 where
    pub way : List Key
    pub begins : (x : Key) → front path ≡ Some x → front way ≡ Some x
    pub both : IsBoth way
    pub is : f ≡ Cycle (k ∷ (way ++ k ∷ []))
    pub goes : words_fault table path words ≡ words_fault table (way ++ k ∷ []) (table_words_of_key table k)

  abbrev Comes : List Key → List WordUse → Type 0
  Comes path words =
      (f : NameFault) × (words_fault table (k ∷ path) words ≡ Some f)
      × (IsReportableResult path words f ⊎ IsBack path words f)

  behind_open : (path : List Key) → AreOpen table path → AreOpen table (k ∷ path)
  behind_open path none n on closed = go (is_same_entry_key n k) refl on
    where
      go : (b : Bool) → is_same_entry_key n k ≡ b → (b || is_entry_key_among path n) ≡ true → ⊥
      go true e h = k_open (subst (IsClosedKey table) ((same_entry_keys n k).0 e) closed)
      go false e h = none n h closed

  both_longer : (path : List Key) (h : Key) → IsBoth path → (h ≡ k → ⊥) → is_entry_key_among path h ≡ false
      → (IsClosedKey table h → ⊥) → IsBoth (path ++ h ∷ [])
  both_longer path h b other off h_open = record {
    behind =
        longer table (k ∷ path) h b.behind
        (ap (λ (x : Bool). x || is_entry_key_among path h)
        (false_from_ne_true (is_same_entry_key h k) (λ e. other ((same_entry_keys h k).0 e))) ∙ off)
        (open_present table h h_open);
    without = longer table path h b.without off (open_present table h h_open);
    off = key_off_longer_name_fault_path path h k b.off (λ e. other (sym e));
    none_closed = λ n on closed. elim (key_on_longer_name_fault_path path h n on) [
      | inl q ↦ b.none_closed n q closed
      | inr q ↦ h_open (subst (IsClosedKey table) q closed)
    ];
  }

  -- the words of a key that is not closed have a step
  has_step : (h : Key) → (IsClosedKey table h → ⊥) → step table (table_words_of_key table h) ≡ None → ⊥
  has_step h h_open e =
      h_open (words_closed_key table h (subst (λ (s : Option (Step table)). Fits table []
      (words_fault table [] (table_words_of_key table h)) s) e
      (fits_words table [] (empty_is_path table) (λ n on closed. absurd (cc on)) (table_words_of_key table h))))

  -- the words of the keys below a path have this property
  abbrev Below : List Key → Type 0
  Below path = (h : Key) → IsBoth (path ++ h ∷ []) → (IsClosedKey table h → ⊥)
      → Comes (path ++ h ∷ []) (table_words_of_key table h)

  module _ (path : List Key) (words : List WordUse) (b : IsBoth path) (below : Below path) (h : Key)
      (h_open : IsClosedKey table h → ⊥) where
    abbrev behind_by : Bool → Bool → Option NameFault
    behind_by same on =
        if same || on
        then Some (Cycle (if same then k ∷ (path ++ h ∷ []) else name_fault_cycle_chain h path))
        else by_words table (k ∷ (path ++ h ∷ [])) h

    abbrev without_by : Bool → Option NameFault
    without_by on = if on then Some (Cycle (name_fault_cycle_chain h path)) else by_words table (path ++ h ∷ []) h

    comes_by : (same on : Bool) → is_same_entry_key h k ≡ same → is_entry_key_among path h ≡ on
        → words_fault table (k ∷ path) words ≡ behind_by same on → words_fault table path words ≡ without_by on
        → Comes path words
    comes_by true on e o p q =
        let hk : h ≡ k = (same_entry_keys h k).0 e in
        let off : on ≡ false = sym o ∙ (ap (is_entry_key_among path) hk ∙ b.off) in (
          Cycle (k ∷ (path ++ k ∷ [])),
          p ∙ ap (λ (x : Key). Some (Cycle (k ∷ (path ++ x ∷ [])))) hk,
          inr (record {
            way = path;
            begins = λ x f. f;
            both = b;
            is = refl;
            goes = q ∙ (ap without_by off ∙ ap (λ (x : Key). by_words table (path ++ x ∷ []) x) hk);
          }),
        )
    comes_by false true e o p q =
        let other : is_same_entry_key k h ≡ false =
        false_from_ne_true (is_same_entry_key k h)
        (λ s. cc (
          e,
          ap (λ (x : Key). is_same_entry_key x k) (sym ((same_entry_keys k h).0 s))
              ∙ (same_entry_keys k k).1 refl,
        )) in (
          Cycle (name_fault_cycle_chain h path),
          p,
          inl (
            Cycle (name_fault_cycle_chain h path),
            q,
            ap Cycle
                (turned_off k (name_fault_cycle_chain h path) (chain_off k h path other b.off)),
          ),
        )
    comes_by false false e o p q =
        go (below h (both_longer path h b (λ s. cc (e, ap (is_same_entry_key h) (sym s) ∙ (same_entry_keys h h).1 refl))
        o h_open)
        h_open)
      where
        go : Comes (path ++ h ∷ []) (table_words_of_key table h) → Comes path words
        go (f, is, inl r) = (f, p ∙ is, inl (r.0, q ∙ r.1, r.2))
        go (f, is, inr r) = (
          f,
          p ∙ is,
          inr (record {
            way = r.way;
            begins = λ x e. r.begins x (longer_checked_path_keeps_front path h x e);
            both = r.both;
            is = r.is;
            goes = q ∙ r.goes;
          }),
        )

  comes_at : (path : List Key) (words : List WordUse) → IsBoth path → Below path
      → (s : Option (Step table)) → (s ≡ None → ⊥) → Fits table (k ∷ path) (words_fault table (k ∷ path) words) s
      → Fits table path (words_fault table path words) s → Comes path words
  comes_at path words b below None some p q = absurd (some refl)
  comes_at path words b below (Some (Lost w)) some p q = (
    Unknown w (last_or None (k ∷ path)),
    p.0,
    inl
        (Unknown w (last_or None path), q.0, checked_unknown_word_in_prefix k w path),
  )
  comes_at path words b below (Some (Barred w)) some p q = (
    Refused w (last_or None (k ∷ path)),
    p.0,
    inl
        (Refused w (last_or None path), q.0, checked_refused_word_in_prefix k w path),
  )
  comes_at path words b below (Some (Open h h_open)) some p q =
      comes_by path words b below h h_open (is_same_entry_key h k) (is_entry_key_among path h) refl refl p.0 q.0

  comes : (room : ℕ) (path : List Key) (words : List WordUse) → IsBoth path → (step table words ≡ None → ⊥)
      → length (k ∷ path) + room ≡ length table + 1 → Comes path words
  comes zero path words b some room = absurd (let l = path_fits_table table (k ∷ path) b.behind in omega arith)
  comes (suc room) path words b some r =
      comes_at path words b
      (λ h c h_open. comes room (path ++ h ∷ []) (table_words_of_key table h) c (has_step h h_open)
      (omega (arith, length-append path (h ∷ []))))
      (step table words) some
      (fits_words table (k ∷ path) b.behind (behind_open path b.none_closed) words)
      (fits_words table path b.without b.none_closed words)

  -- the empty path can be continued after the key and without it
  alone : is_entry_present table k ≡ true → IsBoth []
  alone there = record {
    behind = longer table [] k (empty_is_path table) refl there;
    without = empty_is_path table;
    off = refl;
    none_closed = λ n on closed. absurd (cc on);
  }

  -- a path with the key at its end
  closing : (way : List Key) → IsBoth way → is_entry_present table k ≡ true
      → IsNameFaultPath table (way ++ k ∷ []) × AreOpen table (way ++ k ∷ [])
  closing way b there = (
    longer table way k b.without b.off there,
    λ n on closed. elim (key_on_longer_name_fault_path way k n on) [
      | inl q ↦ b.none_closed n q closed
      | inr q ↦ k_open (subst (IsClosedKey table) q closed)
    ],
  )

  -- the way around from the first key below, if its words lead there first
  round : (way : List Key) (h : Key) → front way ≡ Some h → is_entry_key_among way k ≡ false
      → (g : NameFault) × ((if is_entry_key_among (way ++ k ∷ []) h
      then Some (Cycle (name_fault_cycle_chain h (way ++ k ∷ [])))
      else by_words table ((way ++ k ∷ []) ++ h ∷ []) h) ≡ Some g)
      × (checked_prefix_fault k g ≡ Cycle (k ∷ (way ++ k ∷ [])))
  round [] h e off = cc
  round (x ∷ more) h e off =
      let s : x ≡ h = cc in
      subst (λ (y : Key). (g : NameFault) × ((if is_entry_key_among ((y ∷ more) ++ k ∷ []) h
      then Some (Cycle (name_fault_cycle_chain h ((y ∷ more) ++ k ∷ [])))
      else by_words table (((y ∷ more) ++ k ∷ []) ++ h ∷ []) h) ≡ Some g)
      × (checked_prefix_fault k g ≡ Cycle (k ∷ ((y ∷ more) ++ k ∷ [])))) (sym s)
      (go (is_same_entry_key h h) ((same_entry_keys h h).1 refl)
      (subst (λ (y : Key). is_entry_key_among (y ∷ more) k ≡ false) s off))
    where
      go : (b : Bool) → b ≡ true → is_entry_key_among (h ∷ more) k ≡ false
          → (g : NameFault) × ((if b || is_entry_key_among (more ++ k ∷ []) h
          then Some (Cycle (if b then h ∷ ((more ++ k ∷ []) ++ h ∷ []) else name_fault_cycle_chain h (more ++ k ∷ [])))
          else by_words table ((h ∷ (more ++ k ∷ [])) ++ h ∷ []) h) ≡ Some g)
          × (checked_prefix_fault k g ≡ Cycle (k ∷ (h ∷ (more ++ k ∷ []))))
      go true e off = (Cycle (h ∷ ((more ++ k ∷ []) ++ h ∷ [])), refl, ap Cycle (turned_back k h more off))
      go false e off = cc

  abbrev IsSame : Option NameFault → Option NameFault → Type 0
  IsSame behind without = behind ≡ option_map (checked_prefix_fault k) without

  reported_faults_are_same : (f g : NameFault) (o p : Option NameFault) → o ≡ Some f → p ≡ Some g
      → checked_prefix_fault k g ≡ f
      → IsSame o p
  reported_faults_are_same f g o p e q h = e ∙ (ap Some (sym h) ∙ ap (option_map (checked_prefix_fault k)) (sym q))

  -- the case in which the first step leads to a key
  at_key : is_entry_present table k ≡ true → (h : Key) → (IsClosedKey table h → ⊥)
      → ((path : List Key) → IsNameFaultPath table path → AreOpen table path
      → words_fault table path (table_words_of_key table k)
      ≡ (if is_entry_key_among path h then Some (Cycle (name_fault_cycle_chain h path)) else by_words table
      (path ++ h ∷ []) h))
      → (same : Bool) → is_same_entry_key h k ≡ same
      → IsSame (words_fault table (k ∷ []) (table_words_of_key table k))
      (words_fault table [] (table_words_of_key table k))
  at_key there h h_open steps true e =
      let hk : h ≡ k = (same_entry_keys h k).0 e in
      let b : IsBoth [] = alone there in
      let p : words_fault table (k ∷ []) (table_words_of_key table k) ≡ Some (Cycle (k ∷ (h ∷ []))) =
      steps (k ∷ []) b.behind (behind_open [] b.none_closed)
      ∙ ap (λ (x : Bool). if x || false
      then Some (Cycle (if x then k ∷ (h ∷ []) else h ∷ []))
      else by_words table (k ∷ (h ∷ [])) h) e in
      let q : words_fault table [] (table_words_of_key table k) ≡ Some (Cycle (k ∷ (h ∷ []))) =
      steps [] b.without b.none_closed
      ∙ (ap (λ (x : Key). by_words table (x ∷ []) x) hk ∙ p) in
      reported_faults_are_same (Cycle (k ∷ (h ∷ []))) (Cycle (k ∷ (h ∷ []))) _ _ p q
      (subst (λ (x : Key). checked_prefix_fault k (Cycle (k ∷ (x ∷ []))) ≡ Cycle (k ∷ (x ∷ []))) (sym hk)
      (ap Cycle (turned_here k)))
  at_key there h h_open steps false e =
      let b : IsBoth [] = alone there in
      let some : length (k ∷ []) ≤ length table = path_fits_table table (k ∷ []) b.behind in
      go (comes (length table - 1) (h ∷ []) (table_words_of_key table h)
      (both_longer [] h b (λ s. cc (e, ap (is_same_entry_key h) (sym s) ∙ (same_entry_keys h h).1 refl)) refl h_open)
      (has_step h h_open)
      (omega arith))
    where
      p : IsBoth [] → words_fault table (k ∷ []) (table_words_of_key table k) ≡ words_fault table (k ∷ (h ∷ []))
          (table_words_of_key table h)
      p b =
          steps (k ∷ []) b.behind (behind_open [] b.none_closed)
          ∙ ap (λ (x : Bool). if x || false
          then Some (Cycle (if x then k ∷ (h ∷ []) else h ∷ []))
          else by_words table (k ∷ (h ∷ [])) h) e

      q : IsBoth [] → words_fault table [] (table_words_of_key table k) ≡ words_fault table (h ∷ [])
          (table_words_of_key table h)
      q b = steps [] b.without b.none_closed

      go : Comes (h ∷ []) (table_words_of_key table h)
          → IsSame (words_fault table (k ∷ []) (table_words_of_key table k))
          (words_fault table [] (table_words_of_key table k))
      go (f, is, inl r) = reported_faults_are_same f r.0 _ _ (p (alone there) ∙ is) (q (alone there) ∙ r.1) r.2
      go (f, is, inr r) =
          let c : IsNameFaultPath table (r.way ++ k ∷ []) × AreOpen table (r.way ++ k ∷ []) =
          closing r.way r.both there in
          let w = round r.way h (r.begins h refl) r.both.off in
          reported_faults_are_same f w.0 _ _ (p (alone there) ∙ is)
          (q (alone there) ∙ (r.goes ∙ (steps (r.way ++ k ∷ []) c.0 c.1 ∙ w.1))) (w.2 ∙ sym r.is)

  -- the law, by the first step
  at_step : is_entry_present table k ≡ true → (s : Option (Step table)) → (s ≡ None → ⊥)
      → ((path : List Key) → IsNameFaultPath table path → AreOpen table path
      → Fits table path (words_fault table path (table_words_of_key table k)) s)
      → IsSame (words_fault table (k ∷ []) (table_words_of_key table k))
      (words_fault table [] (table_words_of_key table k))
  at_step there None some fits = absurd (some refl)
  at_step there (Some (Lost w)) some fits =
      let b : IsBoth [] = alone there in
      reported_faults_are_same (Unknown w (Some k)) (Unknown w None) _ _
      (fits (k ∷ []) b.behind (behind_open [] b.none_closed)).0 (fits [] b.without b.none_closed).0 refl
  at_step there (Some (Barred w)) some fits =
      let b : IsBoth [] = alone there in
      reported_faults_are_same (Refused w (Some k)) (Refused w None) _ _
      (fits (k ∷ []) b.behind (behind_open [] b.none_closed)).0 (fits [] b.without b.none_closed).0 refl
  at_step there (Some (Open h h_open)) some fits =
      at_key there h h_open (λ path is none. (fits path is none).0) (is_same_entry_key h k) refl

-- law: a name fault of the body of a prefix, reported as one of the prefix, is the fault of the prefix
pub prefix_law : CheckedPrefixLaw
prefix_law table k there = go (key_fault table k) refl
  where
    go : (o : Option NameFault) → key_fault table k ≡ o
        → key_fault table k ≡ option_map (checked_prefix_fault k) (name_fault table (table_words_of_key table k))
    go None e = e ∙ ap (option_map (checked_prefix_fault k)) (sym (key_words_closed table k e))
    go (Some f) e =
        at_step table k (faulty_not_closed table k f e) there (step table (table_words_of_key table k))
        (has_step table k (faulty_not_closed table k f e) k (faulty_not_closed table k f e))
        (λ path is none. fits_words table path is none (table_words_of_key table k))
