-- Concatenated candidates, and those of them whose keys are all present.
use Rattle.std.proofs.Common.{◌≡◌, ◌++◌, ◌∷◌, ◌<◌, ◌-◌, [], List, ℕ, zero, suc, Bool, true, false, take, drop}
use Rattle.std.proofs.Common.{if◌then◌else◌, ap, arith, sym, ◌∙◌}
use Rattle.std.specs.List.{flat_map, list_all}
use Rattle.std.proofs.lemmas.Grind.{flat_map-append}
use Rattle.std.proofs.lemmas.List.{append-nil, append_assoc}
use Rattle.std.proofs.lemmas.List.Elements.{filter-append}
use Rattle.def_entry.specs.Tables.{EntryTable, is_entry_present}
use Rattle.def_entry.specs.declared.key.Key.{Key}
use Rattle.name_lookup.specs.Candidates.{prefix_candidate, prefix_candidates, prefix_candidates_within}
use Rattle.name_lookup.specs.Candidates.{singular_candidates}
use Rattle.value_sources.specs.Readings.{readings_present}

module _ (table : EntryTable) where
  -- the present candidates of a concatenation are those of the first list followed by those of the second
  pub present-append : (xs ys : List (List Key)) → readings_present table (xs ++ ys) ≡ readings_present table xs
      ++ readings_present table ys
  present-append xs ys = filter-append (list_all (is_entry_present table)) xs ys

  -- appending the present candidates of `xs` and then those of `ys` appends those of `xs ++ ys`
  pub onto :
      (xs ys old mid new : List (List Key)) → mid ≡ old ++ readings_present table xs
      → new ≡ mid ++ readings_present table ys
      → new ≡ old ++ readings_present table (xs ++ ys)
  onto xs ys old mid new a b =
      b ∙ (ap (λ l. l ++ readings_present table ys) a
      ∙ (append_assoc old (readings_present table xs) (readings_present table ys)
      ∙ ap (λ l. old ++ l) (sym (present-append xs ys))))

  -- appending the readings of three lists of singulars and then those of the word with its prefixes appends them all
  pub all_of :
      (a b c : List (List ℕ)) (word : List ℕ) (one two three all : List (List Key))
      → one ≡ [] ++ readings_present table (flat_map singular_candidates a)
      → two ≡ one ++ readings_present table (flat_map singular_candidates b)
      → three ≡ two ++ readings_present table (flat_map singular_candidates c)
      → all ≡ three ++ readings_present table (prefix_candidates word)
      → all ≡ readings_present table (flat_map singular_candidates ((a ++ b) ++ c) ++ prefix_candidates word)
  all_of a b c word one two three all f g h i =
      let s = flat_map singular_candidates in
      let ab = onto (s a) (s b) [] one two f g in
      let abc = onto (s a ++ s b) (s c) [] two three ab h in
      let whole = onto ((s a ++ s b) ++ s c) (prefix_candidates word) [] three all abc i in
      let joined = flat_map-append singular_candidates (a ++ b) c
      ∙ ap (λ l. l ++ s c) (flat_map-append singular_candidates a b) in
      whole ∙ ap (λ l. readings_present table (l ++ prefix_candidates word)) (sym joined)

  -- if the word has the singular `w`, the readings of `w` are appended
  pub singular_there :
      (b : Bool) (s w : List ℕ) (old new : List (List Key)) → b ≡ true → s ≡ w
      → new ≡ old ++ readings_present table (singular_candidates s)
      → new ≡ old ++ readings_present table (flat_map singular_candidates (if b then w ∷ [] else []))
  singular_there true s w old new t e n =
      n ∙ ap (λ l. old ++ readings_present table l)
      (ap singular_candidates e ∙ sym (append-nil (singular_candidates w)))
  singular_there false s w old new t e n = cc

  -- if the word has no such singular, nothing is appended
  pub singular_absent :
      (b : Bool) (w : List ℕ) (old : List (List Key)) → b ≡ false
      → old ≡ old ++ readings_present table (flat_map singular_candidates (if b then w ∷ [] else []))
  singular_absent true w old f = cc
  singular_absent false w old f = sym (append-nil old)

  -- appending the reading with the prefix of length `len` leaves the readings with shorter prefixes
  pub one_more :
      (len next : ℕ) (word front rest : List ℕ) (mid new all : List (List Key)) → 0 < len → next ≡ len - 1
      → front ≡ take len word → rest ≡ drop len word
      → mid ++ readings_present table (prefix_candidates_within len word) ≡ all
      → new ≡ mid ++ readings_present table (prefix_candidate front rest ∷ [])
      → new ++ readings_present table (prefix_candidates_within next word) ≡ all
  one_more zero next word front rest mid new all z n f r i p = absurd (omega arith)
  one_more (suc k) next word front rest mid new all z n f r i p =
      let c = prefix_candidate (take (suc k) word) (drop (suc k) word) in
      let same : prefix_candidate front rest ≡ c =
      ap (λ x. prefix_candidate x rest) f ∙ ap (λ y. prefix_candidate (take (suc k) word) y) r in
      let left = readings_present table (prefix_candidates_within k word) in
      let e : next ≡ k = omega arith in
      ap (λ m. new ++ readings_present table (prefix_candidates_within m word)) e
      ∙ (ap (λ l. l ++ left) (p ∙ ap (λ x. mid ++ readings_present table (x ∷ [])) same)
      ∙ (append_assoc mid (readings_present table (c ∷ [])) left
      ∙ (ap (λ l. mid ++ l) (sym (present-append (c ∷ []) (prefix_candidates_within k word))) ∙ i)))
