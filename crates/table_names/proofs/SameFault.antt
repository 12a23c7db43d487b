-- The first fault by number is the name fault.
use Rattle.std.proofs.Common.{◌≡◌, ◌⊎◌, ◌+◌, ◌-◌, ◌<◌, ◌≤◌, ℕ, zero, suc, Bool, true, false, cond}
use Rattle.std.proofs.Common.{List, [], ◌∷◌, ◌++◌, map, length, Option, Some, None}
use Rattle.std.proofs.Common.{refl, sym, ◌∙◌, ap, subst, inl, inr, arith, length-append, Contains}
use Rattle.std.specs.Option.{option_or}
use Rattle.std.specs.Prelude.{option_map}
use Rattle.std.specs.List.{last_or}
use Rattle.std.proofs.lemmas.Bool.{cond-false, cond-true}
use Rattle.std.proofs.lemmas.List.{map_push}
use Rattle.expr_tree.specs.declared.word_list.WordUse.{WordUse}
use Rattle.expr_tree.specs.Names.{is_refused}
use Rattle.def_entry.specs.declared.key.Key.{Key}
use Rattle.def_entry.specs.SameKeys.{SameEntryKeysLaw, is_entry_key_among}
use Rattle.def_entry.specs.Tables.{EntryTable}
use Rattle.name_walk.specs.declared.step.Step.{Step}
use Rattle.name_walk.specs.declared.step.Step.TheVariants.{Nowhere, To}
use Rattle.name_walk.specs.FaultLaws.{WalkStepsFaultLaw as WalkFaultLaw}
use Rattle.name_walk.specs.Faults as walk
use Rattle.name_walk.specs.Faults.{is_on_path, path_fault_at_name, path_fault_at_step, path_from_name}
use Rattle.name_walk.specs.Paths.{IsNamePath as IsWalkPath, NamePathLaw as WalkPathLaw}
use Rattle.name_walk.specs.Steps.{AreStepsInGraph, Graph, graph_steps}
use Rattle.name_walk.specs.Lists.{first_some}
use Rattle.table_names.specs.declared.fault.NameFault.{NameFault}
use Rattle.table_names.specs.declared.fault.NameFault.TheVariants.{Unknown, Refused, Cycle}
use Rattle.table_names.specs.FaultLaws.{IsNameFaultPath, NameFaultPathLaw, WordsNameFaultLaw}
use Rattle.table_names.specs.Faults as names
use Rattle.table_names.specs.Faults.{DeeperNameFault, name_fault_cycle_chain, target_fault, targets_fault, word_fault}
use Rattle.table_names.specs.Leads.{table_word_targets}
use Rattle.table_names.specs.Words.{table_words_of_key}
use Rattle.table_names.specs.NumberedFaultLaws.{NumberedNameFaultLaw}
use Rattle.table_names.specs.NumberedNames.{AreNumbered, AreWords, LeadToKnownNumbers, fault_by_name}
use Rattle.table_names.specs.NumberedNames.{ForOne, ForRefused, ForTwo, ForUnknown, IsWord}
use Rattle.table_names.proofs.NumberPaths.{AllKnown, known_numbers_after_push, last_numbered_name_has_last_key, same_chain}
use Rattle.table_names.proofs.NumberPaths.{same_on}
use Rattle.general_lemmas.proofs.Members.{no_member, member_first, member_later, member_cases}
use Rattle.general_lemmas.proofs.Options.{or_none}

module _ (same_keys : SameEntryKeysLaw) (table : EntryTable) (key : ℕ → Key) (dead_end : ℕ → Option Key → NameFault)
    (g : Graph) (known : ℕ → Bool) (numbered : AreNumbered table key dead_end g known) where
  abbrev by_name : Option walk.NameFault → Option NameFault
  by_name = option_map (fault_by_name table key dead_end)

  on_keys : (p : List ℕ) (n : ℕ) → AllKnown known p → known n ≡ true
      → is_entry_key_among (map key p) (key n) ≡ is_on_path p n
  on_keys = same_on same_keys key known numbered.keys_apart

  chain_of_keys :
      (p : List ℕ) (n : ℕ) → AllKnown known p → known n ≡ true
      → map key (path_from_name n p ++ n ∷ []) ≡ name_fault_cycle_chain (key n) (map key p)
  chain_of_keys = same_chain same_keys key known numbered.keys_apart

  -- the second step to a target adds no fault
  twice :
      (a rest : Option walk.NameFault)
      → by_name (option_or a (option_or a rest)) ≡ option_or (option_or (by_name a) None) (by_name rest)
  twice None rest = refl
  twice (Some x) rest = refl

  both :
      (a b rest : Option walk.NameFault)
      → by_name (option_or a (option_or b rest))
      ≡ option_or (option_or (by_name a) (option_or (by_name b) None)) (by_name rest)
  both None None rest = refl
  both None (Some x) rest = refl
  both (Some x) b rest = refl

  -- ---- after one path, given the faults deeper down
  module _ (p : List ℕ) (on_path : AllKnown known p) (f : List ℕ → ℕ → Option walk.NameFault) (deeper : DeeperNameFault)
      (same : (n : ℕ) → known n ≡ true → is_on_path p n ≡ false
      → by_name (f (p ++ n ∷ []) n) ≡ deeper (map key p ++ key n ∷ []) (key n)) where
    same_target : (n : ℕ) → known n ≡ true → by_name (path_fault_at_name f p n) ≡ target_fault table deeper (map key p)
        (key n)
    same_target n k =
        chosen (is_on_path p n) refl
        ∙ (λ i. cond (sym (on_keys p n on_path k) i) (Some (Cycle (chain_of_keys p n on_path k i)))
        (deeper (map key p ++ key n ∷ []) (key n)))
      where
        chosen :
            (b : Bool) → is_on_path p n ≡ b
            → by_name (cond b (Some (walk.Cycle (path_from_name n p ++ n ∷ []))) (f (p ++ n ∷ []) n))
            ≡ cond b (Some (Cycle (map key (path_from_name n p ++ n ∷ [])))) (deeper (map key p ++ key n ∷ []) (key n))
        chosen true e = refl
        chosen false e = same n k e

    abbrev fault_of_word : WordUse → Option NameFault
    fault_of_word u = word_fault table deeper (map key p) u

    abbrev fault_of_targets : WordUse → List Key → Option NameFault
    fault_of_targets u ns = targets_fault table deeper (map key p) u ns

    refused :
        (u : WordUse) (rest : Option NameFault) → is_refused u.text ≡ true
        → Some (Refused u.text (last_or None (map key p))) ≡ option_or (fault_of_word u) rest
    refused u rest is = ap (λ o. option_or o rest) (sym (cond-true (is_refused u.text) _ _ is))

    accepted :
        (u : WordUse) (ns : List Key) (rest : Option NameFault) → is_refused u.text ≡ false
        → table_word_targets table u ≡ ns
        → option_or (fault_of_targets u ns) rest ≡ option_or (fault_of_word u) rest
    accepted u ns rest fine e =
        ap (λ o. option_or o rest) (sym (cond-false (is_refused u.text) _ _ fine ∙ ap (fault_of_targets u) e))

    -- a word that leads nowhere is a fault of the last name of the path
    ended :
        (t : ℕ) (fault : Option Key → NameFault) → ((holder : Option Key) → dead_end t holder ≡ fault holder)
        → by_name (path_fault_at_step f p (Nowhere t)) ≡ Some (fault (last_or None (map key p)))
    ended t fault e = ap Some
        (e (option_map key (last_or None p)) ∙ ap fault (sym (last_numbered_name_has_last_key key p)))

    same_word :
        (u : WordUse) {x y : Step} → IsWord table key dead_end u x y
        → ((n : ℕ) → (To n ≡ x) ⊎ (To n ≡ y) → known n ≡ true)
        → (rest : Option walk.NameFault)
        → by_name (option_or (path_fault_at_step f p x) (option_or (path_fault_at_step f p y) rest))
        ≡ option_or (fault_of_word u) (by_name rest)
    same_word u (ForRefused t is e) k rest = ended t (Refused u.text) e ∙ refused u (by_name rest) is
    same_word u (ForUnknown t fine none e) k rest = ended t (Unknown u.text) e ∙ accepted u [] (by_name rest) fine none
    same_word u (ForOne n fine e) k rest =
        twice (path_fault_at_name f p n) rest
        ∙ ((λ i. option_or (option_or (same_target n (k n (inl refl)) i) None) (by_name rest))
        ∙ accepted u (key n ∷ []) (by_name rest) fine e)
    same_word u (ForTwo n m fine e) k rest =
        both (path_fault_at_name f p n) (path_fault_at_name f p m) rest
        ∙ ((λ i. option_or (option_or (same_target n (k n (inl refl)) i)
        (option_or (same_target m (k m (inr refl)) i) None)) (by_name rest))
        ∙ accepted u (key n ∷ key m ∷ []) (by_name rest) fine e)

    same_words :
        (us : List WordUse) (xs : List Step) → AreWords table key dead_end us xs → LeadToKnownNumbers known xs
        → by_name (first_some (path_fault_at_step f p) xs) ≡ first_some fault_of_word us
    same_words [] [] w k = refl
    same_words [] (x ∷ xs) w k = absurd w
    same_words (u ∷ us) [] w k = absurd w
    same_words (u ∷ us) (x ∷ []) w k = absurd w
    same_words (u ∷ us) (x ∷ y ∷ xs) w k =
        same_word u w.0 (λ n c. k n (elim c [
          | inl e ↦ member_first (To n) x (y ∷ xs) e
          | inr e ↦ member_later (To n) x (y ∷ xs) (member_first (To n) y xs e)
        ])) (first_some (path_fault_at_step f p) xs)
        ∙ ap (option_or (fault_of_word u))
        (same_words us xs w.1 (λ n i. k n (member_later (To n) x (y ∷ xs) (member_later (To n) y xs i))))

  -- ---- after all paths, by the number of names that are not on them
  module _ (range : AreStepsInGraph g) (walk_fault : WalkFaultLaw) (walk_path : WalkPathLaw)
      (name_fault : WordsNameFaultLaw)
      (name_path : NameFaultPathLaw) where
    path_of_keys :
        (p : List ℕ) (n : ℕ) → IsNameFaultPath table (map key p) → AllKnown known p → known n ≡ true
        → is_on_path p n ≡ false
        → IsNameFaultPath table (map key (p ++ n ∷ []))
    path_of_keys p n are on_path k off =
        subst (λ (q : List Key). IsNameFaultPath table q) (sym (map_push key p n))
        (name_path.longer_key_path table (map key p) (key n) are (on_keys p n on_path k ∙ off)
        (numbered.known_have_entries n k))

    by_room :
        (k : ℕ) (p : List ℕ) (us : List WordUse) (xs : List Step)
        → AllKnown known p → IsWalkPath g p → IsNameFaultPath table (map key p)
        → AreWords table key dead_end us xs → LeadToKnownNumbers known xs → length p + k ≡ length g + 1
        → by_name (walk.steps_fault_after_path g p xs) ≡ names.words_fault table (map key p) us
    by_room zero p us xs on_path is are w ks room =
        absurd (let l : length p ≤ length g = walk_path.path_bound g p is in omega arith)
    by_room (suc k) p us xs on_path is are w ks room =
        ap by_name (walk_fault.fault_is_first g range p xs is (λ n i. numbered.known_in_range n (ks n i)))
        ∙ (same_words p on_path (λ longer n. walk.steps_fault_after_path g longer (graph_steps g n))
        (λ longer n. names.words_fault table longer (table_words_of_key table n)) (λ n kn off.
        by_room k (p ++ n ∷ []) (table_words_of_key table (key n)) (graph_steps g n)
        (known_numbers_after_push known p n on_path kn)
        (walk_path.longer_path g p n is off (numbered.known_in_range n kn)) (path_of_keys p n are on_path kn off)
        (numbered.known_steps n kn) (λ m l. numbered.below_known n m kn l) (omega (arith, length-append p (n ∷ [])))
        ∙ ap (λ q. names.words_fault table q (table_words_of_key table (key n))) (map_push key p n)) us xs w ks
        ∙ sym (name_fault.first_fault_is table (map key p) us are))

    same_fault :
        (p : List ℕ) (us : List WordUse) (xs : List Step)
        → AllKnown known p → IsWalkPath g p → IsNameFaultPath table (map key p)
        → AreWords table key dead_end us xs → LeadToKnownNumbers known xs
        → by_name (walk.steps_fault_after_path g p xs) ≡ names.words_fault table (map key p) us
    same_fault p us xs on_path is are w ks =
        let l : length p ≤ length g = walk_path.path_bound g p is in
        let room : length p + (length g + 1 - length p) ≡ length g + 1 = omega arith in
        by_room (length g + 1 - length p) p us xs on_path is are w ks room

    pub words_fault :
        (us : List WordUse) (xs : List Step) → AreWords table key dead_end us xs → LeadToKnownNumbers known xs
        → by_name (walk.steps_fault_after_path g [] xs) ≡ names.name_fault table us
    words_fault us xs w ks = same_fault [] us xs tt (walk_path.empty_path g) (name_path.empty_key_path table) w ks

    pub number_fault : (n : ℕ) → known n ≡ true
        → by_name (walk.steps_fault_after_path g [] (To n ∷ [])) ≡ names.key_fault table
        (key n)
    number_fault n k =
        ap by_name (walk_fault.fault_is_first g range [] (To n ∷ []) (walk_path.empty_path g) there ∙ or_none _)
        ∙ same_fault (n ∷ []) (table_words_of_key table (key n)) (graph_steps g n) (k, tt)
        (walk_path.longer_path g [] n (walk_path.empty_path g) refl (numbered.known_in_range n k))
        (path_of_keys [] n (name_path.empty_key_path table) tt k refl)
        (numbered.known_steps n k) (λ m l. numbered.below_known n m k l)
      where
        there : (m : ℕ) → Contains (To n ∷ []) (To m) → m < length g
        there m i = elim (member_cases (To m) (To n) [] i) [
          | inl e ↦ let q : m ≡ n = cc in subst (λ (x : ℕ). x < length g) (sym q) (numbered.known_in_range n k)
          | inr j ↦ absurd (no_member (To m) j)
        ]

-- the law of faults by number
pub numbered_name_fault_law : SameEntryKeysLaw → WalkFaultLaw → WalkPathLaw → WordsNameFaultLaw → NameFaultPathLaw
    → NumberedNameFaultLaw
numbered_name_fault_law same_keys walk_fault walk_path name_fault name_path = record {
  words = λ table key dead_end g known numbered range.
      words_fault same_keys table key dead_end g known numbered range walk_fault walk_path name_fault name_path;
  key = λ table key dead_end g known numbered range.
      number_fault same_keys table key dead_end g known numbered range walk_fault walk_path name_fault name_path;
}
