-- The name fault that words meet is the computed one.
use Rattle.std.proofs.Common.{◌≡◌, ◌≢◌, ℕ, zero, suc, ◌+◌, ◌-◌, ◌≤◌, Bool, true, false, cond, List, [], ◌∷◌, ◌++◌}
use Rattle.std.proofs.Common.{length}
use Rattle.std.proofs.Common.{Contains, Option, Some, None, refl, sym, ◌∙◌, ap, subst, inl, inr, arith, length-append}
use Rattle.std.specs.Option.{option_or}
use Rattle.std.proofs.lemmas.Bool.{cond-false, cond-true}
use Rattle.std.specs.List.{last_or}
use Rattle.std.proofs.lemmas.Option.{same_Some}
use Rattle.expr_tree.specs.declared.word_list.WordUse.{WordUse}
use Rattle.expr_tree.specs.Names.{is_refused}
use Rattle.def_entry.specs.declared.key.Key.{Key}
use Rattle.def_entry.specs.SameKeys.{is_entry_key_among}
use Rattle.def_entry.specs.Tables.{EntryTable, is_entry_present}
use Rattle.name_walk.specs.Lists.{first_some}
use Rattle.table_names.specs.declared.fault.NameFault.{NameFault}
use Rattle.table_names.specs.declared.fault.NameFault.TheVariants.{Cycle, Refused}
use Rattle.table_names.specs.FaultLaws.{IsNameFaultPath}
use Rattle.table_names.specs.Faults.{DeeperNameFault, key_fault_within, name_fault_cycle_chain, target_fault}
use Rattle.table_names.specs.Faults.{targets_fault, words_fault, word_fault}
use Rattle.table_names.specs.Leads.{table_word_targets}
use Rattle.table_names.specs.Meets.{AreClean, AreCleanKeys, AtRefusedName, AtTargets, AtUnknownWord, InEntry}
use Rattle.table_names.specs.Meets.{InOtherKeys}
use Rattle.table_names.specs.Meets.{InOtherWords, MeetKeys, Meets, NextKey, NextWord, NoKey, NoWord, OnPath}
use Rattle.table_names.specs.MeetsLaws.{MeetsLaw}
use Rattle.table_names.specs.Words.{table_words_of_key}
use Rattle.table_names.proofs.Lookups.{target_present}
use Rattle.table_names.proofs.OneFault.{words_name_fault_law}
use Rattle.table_names.proofs.Paths.{empty_is_path, longer, path_fits_table}
use Rattle.general_lemmas.proofs.Members.{no_member, member_first, member_later, member_cases}
use Rattle.general_lemmas.proofs.Options.{none_first}

none_some : {A : Type 0} (o : Option A) (x : A) → o ≡ None → o ≡ Some x → ⊥
none_some o x e f = cc

module _ (table : EntryTable) where
  -- the fault of the words in the entry of a target
  abbrev deep : DeeperNameFault
  deep path n = words_fault table path (table_words_of_key table n)

  abbrev here : List Key → WordUse → Option NameFault
  here path u = word_fault table deep path u

  abbrev at_keys : List Key → List Key → Option NameFault
  at_keys path ns = first_some (target_fault table deep path) ns

  -- the fault of words is that of the first word, or else that of the rest
  in_order : (path : List Key) (u : WordUse) (us : List WordUse) → IsNameFaultPath table path
      → words_fault table path (u ∷ us) ≡ option_or (here path u) (words_fault table path us)
  in_order path u us p =
      words_name_fault_law.first_fault_is table path (u ∷ us) p
      ∙ ap (option_or (here path u)) (sym (words_name_fault_law.first_fault_is table path us p))

  of_word : (path : List Key) (u : WordUse) (us : List WordUse) (o : Option NameFault) → IsNameFaultPath table path
      → here path u ≡ o → words_fault table path (u ∷ us) ≡ option_or o (words_fault table path us)
  of_word path u us o p e = in_order path u us p ∙ ap (λ x. option_or x (words_fault table path us)) e

  -- a word that is not refused meets the fault of its targets
  at_targets : (path : List Key) (u : WordUse) (o : Option NameFault) → is_refused u.text ≡ false
      → targets_fault table deep path u (table_word_targets table u) ≡ o → here path u ≡ o
  at_targets path u o r e = cond-false (is_refused u.text) _ _ r ∙ e

  some_keys : (path : List Key) (u : WordUse) (ns : List Key) (f : NameFault) → at_keys path ns ≡ Some f
      → targets_fault table deep path u ns ≡ Some f
  some_keys path u [] f e = cc
  some_keys path u (n ∷ ns) f e = e

  none_keys : (path : List Key) (u : WordUse) (ns : List Key) → ns ≢ [] → at_keys path ns ≡ None
      → targets_fault table deep path u ns ≡ None
  none_keys path u [] some e = absurd (some refl)
  none_keys path u (n ∷ ns) some e = e

  abbrev ArePresent : List Key → Type 0
  ArePresent ns = (n : Key) → Contains ns n → is_entry_present table n ≡ true

  -- ---- each fault by the rules is the computed fault
  mutual
    clean : {path : List Key} {words : List WordUse} → AreClean table path words → IsNameFaultPath table path
        → words_fault table path words ≡ None
    clean NoWord p = refl
    clean {path} (NextWord {u = u} {us = us} r some ks c) p =
        of_word path u us None p
        (at_targets path u None r
        (none_keys path u (table_word_targets table u) some (clean_keys ks p (target_present table u))))
        ∙ clean c p

    clean_keys : {path ns : List Key} → AreCleanKeys table path ns → IsNameFaultPath table path → ArePresent ns
        → at_keys path ns ≡ None
    clean_keys NoKey p there = refl
    clean_keys {path} (NextKey {n = n} {ns = ns} off c ks) p there =
        ap (λ x. option_or x (at_keys path ns))
        (cond-false (is_entry_key_among path n) _ _ off
        ∙ clean c (longer table path n p off (there n (member_first n n ns refl))))
        ∙ clean_keys ks p (λ m i. there m (member_later m n ns i))

  mutual
    met : {path : List Key} {words : List WordUse} {f : NameFault} → Meets table path words f
        → IsNameFaultPath table path
        → words_fault table path words ≡ Some f
    met {path} {words} {f} (AtRefusedName {u = u} {us = us} r e) p =
        of_word path u us (Some f) p (cond-true (is_refused u.text) _ _ r ∙ ap Some (sym e))
    met {path} {words} {f} (AtUnknownWord {u = u} {us = us} r t e) p =
        of_word path u us (Some f) p
        (at_targets path u (Some f) r (ap (targets_fault table deep path u) t ∙ ap Some (sym e)))
    met {path} {words} {f} (AtTargets {u = u} {us = us} r ks) p =
        of_word path u us (Some f) p
        (at_targets path u (Some f) r
        (some_keys path u (table_word_targets table u) f (met_keys ks p (target_present table u))))
    met {path} {words} {f} (InOtherWords {u = u} {us = us} c ms) p =
        of_word path u us None p
        (none_first (here path u) (words_fault table path []) (sym (in_order path u [] p) ∙ clean c p))
        ∙ met ms p

    met_keys : {path ns : List Key} {f : NameFault} → MeetKeys table path ns f → IsNameFaultPath table path
        → ArePresent ns
        → at_keys path ns ≡ Some f
    met_keys {path} (OnPath {n = n} {ns = ns} on e) p there =
        ap (λ x. option_or x (at_keys path ns)) (cond-true (is_entry_key_among path n) _ _ on ∙ ap Some (sym e))
    met_keys {path} (InEntry {n = n} {ns = ns} off ms) p there =
        ap (λ x. option_or x (at_keys path ns))
        (cond-false (is_entry_key_among path n) _ _ off
        ∙ met ms (longer table path n p off (there n (member_first n n ns refl))))
    met_keys {path} (InOtherKeys {n = n} {ns = ns} c ks) p there =
        ap (λ x. option_or x (at_keys path ns))
        (none_first (target_fault table deep path n) None
        (clean_keys c p (λ m i. there m (alone m n ns i))))
        ∙ met_keys ks p (λ m i. there m (member_later m n ns i))
      where
        alone : (m k : Key) (ks : List Key) → Contains (k ∷ []) m → Contains (k ∷ ks) m
        alone m k ks i =
            elim (member_cases m k [] i) [ inl e ↦ member_first m k ks e | inr j ↦ absurd (no_member m j) ]

  -- ---- each computed fault follows from the rules
  abbrev PathReport : List Key → List WordUse → Option NameFault → Type 0
  PathReport path words None = AreClean table path words
  PathReport path words (Some f) = Meets table path words f

  abbrev KeysReport : List Key → List Key → Option NameFault → Type 0
  KeysReport path ns None = AreCleanKeys table path ns
  KeysReport path ns (Some f) = MeetKeys table path ns f

  -- the faults in the entries of further targets follow from the rules
  abbrev Goes : DeeperNameFault → List Key → Type 0
  Goes F path = (n : Key) → is_entry_key_among path n ≡ false → is_entry_present table n ≡ true
      → PathReport (path ++ n ∷ []) (table_words_of_key table n) (F (path ++ n ∷ []) n)

  key_joined : (path ns : List Key) (n : Key) (o q : Option NameFault) → is_entry_key_among path n ≡ false
      → PathReport (path ++ n ∷ []) (table_words_of_key table n) o → KeysReport path ns q
      → KeysReport path (n ∷ ns) (option_or o q)
  key_joined path ns n None None off c d = NextKey off c d
  key_joined path ns n None (Some f) off c m = InOtherKeys (NextKey off c NoKey) m
  key_joined path ns n (Some f) q off m d = InEntry off m

  keys_report : (F : DeeperNameFault) (path ns : List Key) → Goes F path → ArePresent ns
      → KeysReport path ns (first_some (target_fault table F path) ns)
  keys_report F path [] deeper there = NoKey
  keys_report F path (n ∷ ns) deeper there =
      by (keys_report F path ns deeper (λ m i. there m (member_later m n ns i))) (is_entry_key_among path n) refl
    where
      by : KeysReport path ns (first_some (target_fault table F path) ns) → (b : Bool) → is_entry_key_among path n ≡ b
          → KeysReport path (n ∷ ns)
          (option_or (cond b (Some (Cycle (name_fault_cycle_chain n path))) (F (path ++ n ∷ []) n))
          (first_some (target_fault table F path) ns))
      by rest true q = OnPath q refl
      by rest false q =
          key_joined path ns n (F (path ++ n ∷ []) n) (first_some (target_fault table F path) ns) q
          (deeper n q (there n (member_first n n ns refl))) rest

  word_joined : (path ns : List Key) (u : WordUse) (us : List WordUse) (o q : Option NameFault)
      → is_refused u.text ≡ false → ns ≢ [] → table_word_targets table u ≡ ns → KeysReport path ns o
      → PathReport path us q
      → PathReport path (u ∷ us) (option_or o q)
  word_joined path ns u us None None r some e c d =
      NextWord r (subst (λ x. x ≢ []) (sym e) some) (subst (AreCleanKeys table path) (sym e) c) d
  word_joined path ns u us None (Some f) r some e c m =
      InOtherWords (NextWord r (subst (λ x. x ≢ []) (sym e) some) (subst (AreCleanKeys table path) (sym e) c) NoWord) m
  word_joined path ns u us (Some f) q r some e m d = AtTargets r (subst (λ x. MeetKeys table path x f) (sym e) m)

  words_report : (F : DeeperNameFault) (path : List Key) (words : List WordUse) → Goes F path
      → PathReport path words (first_some (word_fault table F path) words)
  words_report F path [] deeper = NoWord
  words_report F path (u ∷ us) deeper = by (words_report F path us deeper) (is_refused u.text) refl
    where
      behind : Option NameFault
      behind = first_some (word_fault table F path) us

      at : PathReport path us behind → (ns : List Key) → is_refused u.text ≡ false → table_word_targets table u ≡ ns
          → PathReport path (u ∷ us) (option_or (targets_fault table F path u ns) behind)
      at rest [] r e = AtUnknownWord r e refl
      at rest (n ∷ ns) r e =
          word_joined path (n ∷ ns) u us (first_some (target_fault table F path) (n ∷ ns)) behind r (λ z. cc) e
          (keys_report F path (n ∷ ns) deeper (subst ArePresent e (target_present table u))) rest

      by : PathReport path us behind → (b : Bool) → is_refused u.text ≡ b
          → PathReport path (u ∷ us) (option_or (cond b (Some (Refused u.text (last_or None path)))
          (targets_fault table F path u (table_word_targets table u))) behind)
      by rest true r = AtRefusedName r refl
      by rest false r = at rest (table_word_targets table u) r refl

  key_report : (k : ℕ) (path : List Key) (n : Key) → IsNameFaultPath table path → length path + k ≡ length table + 1
      → PathReport path (table_words_of_key table n) (key_fault_within table k path n)
  key_report zero path n p room = absurd (let l : length path ≤ length table = path_fits_table table path p in
      omega arith)
  key_report (suc k) path n p room =
      words_report (key_fault_within table k) path (table_words_of_key table n) (λ m off there.
      key_report k (path ++ m ∷ []) m (longer table path m p off there) (omega (arith, length-append path (m ∷ []))))

  path_report : (path : List Key) (words : List WordUse) → IsNameFaultPath table path
      → PathReport path words (words_fault table path words)
  path_report path words p =
      let l : length path ≤ length table = path_fits_table table path p in
      words_report (key_fault_within table (length table - length path)) path words (λ m off there.
      key_report (length table - length path) (path ++ m ∷ []) m (longer table path m p off there)
      (omega (arith, length-append path (m ∷ []))))

  -- ---- the faults by the rules and the computed faults agree
  met_is : (path : List Key) (words : List WordUse) (f : NameFault) → IsNameFaultPath table path
      → words_fault table path words ≡ Some f → Meets table path words f
  met_is path words f p e = subst (PathReport path words) e (path_report path words p)

  clean_is : (path : List Key) (words : List WordUse) → IsNameFaultPath table path → words_fault table path words ≡ None
      → AreClean table path words
  clean_is path words p e = subst (PathReport path words) e (path_report path words p)

  one : (path : List Key) (words : List WordUse) (f g : NameFault) → IsNameFaultPath table path
      → Meets table path words f → Meets table path words g → f ≡ g
  one path words f g p a b = same_Some f g (sym (met a p) ∙ met b p)

  no_fault : (path : List Key) (words : List WordUse) → IsNameFaultPath table path
      → ((f : NameFault) → Meets table path words f → ⊥) → AreClean table path words
  no_fault path words p h = by (words_fault table path words) (path_report path words p)
    where
      by : (o : Option NameFault) → PathReport path words o → AreClean table path words
      by None c = c
      by (Some f) m = absurd (h f m)

-- the law of the fault that words meet
pub meets_law : MeetsLaw
meets_law = record {
  one_fault = one;
  no_fault_met = λ table path words p. (
    λ c f m. none_some (words_fault table path words) f (clean table c p) (met table m p),
    no_fault table path words p,
  );
  fault_met = λ table path words f p. (met_is table path words f p, λ m. met table m p);
  none_met = λ table path words p. (clean_is table path words p, λ c. clean table c p);
  name = λ table words f. (met_is table [] words f (empty_is_path table), λ m. met table m (empty_is_path table));
  key = λ table n f p. (met_is table (n ∷ []) (table_words_of_key table n) f p, λ m. met table m p);
}
