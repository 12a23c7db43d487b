-- Rows visit each key once.
use Rattle.std.proofs.Common.{◌≡◌, Bool, true, false, true≢false, List, [], ◌∷◌, Contains, refl, sym}
use Rattle.std.proofs.Common.{◌∙◌, subst, inl, inr}
use Rattle.std.specs.List.{AllByRecursion, IsDistinct}
use Rattle.std.proofs.lemmas.List.Elements.{Contains-append_left, Contains-append_right}
use Rattle.expr_tree.specs.declared.word_list.WordUse.{WordUse}
use Rattle.def_entry.specs.declared.key.Key.{Key}
use Rattle.def_entry.specs.SameKeys.{is_same_entry_key}
use Rattle.def_entry.specs.Tables.{EntryTable}
use Rattle.def_entry.proofs.SameKeys.{same_entry_keys}
use Rattle.value_sources.specs.Mentions.{Mention}
use Rattle.value_sources.specs.Rows.{AreSourceRows, AreSourceRowsOf, Finished, Visited, Skipped, SourceRow}
use Rattle.value_sources.specs.Rows.{visited_keys}
use Rattle.value_sources.proofs.Members.{mention_key_member_is_among}
use Rattle.value_sources.proofs.Reached.{row_adds_visited_key}
use Rattle.general_lemmas.proofs.Members.{no_member, member_first, member_later, member_cases}

-- a key that equals none of some keys is not found among them
key_apart_from_visited_keys : (n : Key) (ks : List Key) → ((k : Key) → Contains ks k → n ≡ k → ⊥)
    → AllByRecursion (λ k. is_same_entry_key n k ≡ false) ks
key_apart_from_visited_keys n [] h = tt
key_apart_from_visited_keys n (k ∷ ks) h =
    (not_same (is_same_entry_key n k) refl, key_apart_from_visited_keys n ks (λ j i. h j (member_later j k ks i)))
  where
    not_same : (b : Bool) → is_same_entry_key n k ≡ b → b ≡ false
    not_same true e = absurd (h k (member_first k k ks refl) ((same_entry_keys n k).0 e))
    not_same false e = refl

module _ (table : EntryTable) where
  -- no key that the rows visit was visited before
  keys_new : {before : List Key} {pending : List Mention} {rows : List SourceRow}
      → AreSourceRows table before pending rows
      → (n : Key) → Contains (visited_keys rows) n → Contains before n → ⊥
  keys_new Finished n i j = no_member n i
  keys_new (Skipped p rest) n i j = keys_new rest n i j
  keys_new (Visited {before = before} {m = m} {n = k} {rows = rows} e new rest) n i j =
      elim (member_cases n k (visited_keys rows)
      (subst (λ (ks : List Key). Contains ks n) (row_adds_visited_key m k rows e) i)) [
        | inl q ↦ absurd (true≢false (sym (mention_key_member_is_among before k (subst (Contains before) q j)) ∙ new))
        | inr h ↦ keys_new rest n h (Contains-append_left before (k ∷ []) n j)
      ]

  once : {before : List Key} {pending : List Mention} {rows : List SourceRow} → AreSourceRows table before pending rows
      → IsDistinct is_same_entry_key (visited_keys rows)
  unfolding IsDistinct
  once Finished = tt
  once (Skipped p rest) = once rest
  once (Visited {before = before} {m = m} {n = k} {rows = rows} e new rest) =
      subst (IsDistinct is_same_entry_key) (sym (row_adds_visited_key m k rows e)) (
        key_apart_from_visited_keys k (visited_keys rows) (λ j i q. keys_new rest j i
            (Contains-append_right before (k ∷ []) j (member_first j k [] (sym q)))),
        once rest,
      )

  pub each_once : (words : List WordUse) (rows : List SourceRow) → AreSourceRowsOf table words rows
      → IsDistinct is_same_entry_key (visited_keys rows)
  each_once words rows all = once all
