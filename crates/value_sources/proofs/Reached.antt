-- The keys that rows visit are exactly those that words reach.
use Rattle.std.proofs.Common.{◌≡◌, ◌⊎◌, ◌↔◌, ◌++◌, ◌+◌, List, [], ◌∷◌, Contains, Option, Some, refl, sym}
use Rattle.std.proofs.Common.{ap, ◌∙◌, subst, inl, inr}
use Rattle.std.specs.List.{cons_option}
use Rattle.std.proofs.lemmas.List.Elements.{Contains-append_cases, Contains-append_left, Contains-append_right}
use Rattle.std.proofs.lemmas.Option.{same_Some}
use Rattle.expr_tree.specs.declared.word_list.WordUse.{WordUse}
use Rattle.def_entry.specs.declared.key.Key.{Key}
use Rattle.def_entry.specs.Tables.{EntryTable}
use Rattle.table_names.specs.Leads.{TableWordsLeadTo, TableWordsReach, at_once, further}
use Rattle.table_names.specs.Words.{table_words_of_key}
use Rattle.value_sources.specs.Mentions.{Mention, mentions}
use Rattle.value_sources.specs.Rows.{AreSourceRows, AreSourceRowsOf, Finished, Visited, Skipped, SourceRow}
use Rattle.value_sources.specs.Rows.{is_key_visit_skipped, visited_keys, visited_source_row}
use Rattle.value_sources.proofs.Members.{LeadOn, entry_mentions_cases, entry_mentions_member, first_mentions_cases}
use Rattle.value_sources.proofs.Members.{first_mentions_member, mention_key_among_is_member}
use Rattle.value_sources.specs.Uses.{key_source_uses}
use Rattle.general_lemmas.proofs.Members.{no_member, member_first, member_later, member_cases}

-- a key that the words of a reached key lead to is reached
reached_source_leads_onward : {table : EntryTable} {words : List WordUse} {n m : Key} → TableWordsReach table words n
    → TableWordsReach table (table_words_of_key table n) m → TableWordsReach table words m
reached_source_leads_onward (at_once l) r = further l r
reached_source_leads_onward (further l q) r = further l (reached_source_leads_onward q r)

-- a row that visits a key adds it to the visited keys
pub row_adds_visited_key : (m : Mention) (n : Key) (rows : List SourceRow) → m.target ≡ Some n
    → visited_keys (visited_source_row m ∷ rows) ≡ n ∷ visited_keys rows
row_adds_visited_key m n rows e = ap (λ (o : Option Key). cons_option o (visited_keys rows)) e

module _ (table : EntryTable) where
  -- ---- visited keys are reached
  module _ (P : Key → Type 0) (onward_by : (k n : Key) → P k → TableWordsLeadTo table (table_words_of_key table k) n
      → P n) where
    pub visited_hold : {before : List Key} {pending : List Mention} {rows : List SourceRow}
        → AreSourceRows table before pending rows
        → ((n : Key) → LeadOn pending n → P n) → (n : Key) → Contains (visited_keys rows) n → P n
    visited_hold Finished holds n i = absurd (no_member n i)
    visited_hold (Skipped {m = m} p rest) holds n i =
        visited_hold rest (λ k l. holds k (l.0, member_later l.0 m _ l.1, l.2)) n i
    visited_hold (Visited {m = m} {n = k} {pending = pending} {rows = rows} e new rest) holds n i =
        let here : P k = holds k (m, member_first m m pending refl, e) in
        elim (member_cases n k (visited_keys rows)
        (subst (λ (ks : List Key). Contains ks n) (row_adds_visited_key m k rows e) i)) [
          | inl q ↦ subst P (sym q) here
          | inr j ↦ visited_hold rest (λ j l. below k here j l) n j
        ]
      where
        below : (k : Key) → P k → (j : Key)
            → LeadOn (mentions table (m.depth + 1) (key_source_uses table k) ++ pending) j → P j
        below k here j (x, i, q) =
            elim (Contains-append_cases (mentions table (m.depth + 1) (key_source_uses table k)) pending x i) [
              | inl a ↦ onward_by k j here (entry_mentions_cases table (m.depth + 1) k j (x, a, q))
              | inr b ↦ holds j (x, member_later x m pending b, q)
            ]

  -- ---- reached keys are visited
  abbrev IsKnown : List Key → List SourceRow → Key → Type 0
  IsKnown before rows n = Contains before n ⊎ Contains (visited_keys rows) n

  -- a known key is known with one more visit
  with_visited : (before : List Key) (m : Mention) (k : Key) (rows : List SourceRow) → m.target ≡ Some k → (n : Key)
      → IsKnown (before ++ k ∷ []) rows n → IsKnown before (visited_source_row m ∷ rows) n
  with_visited before m k rows e n (inl i) =
      elim (Contains-append_cases before (k ∷ []) n i) [
        | inl a ↦ inl a
        | inr b ↦ elim (member_cases n k [] b) [
          | inl q ↦ inr (subst (λ (ks : List Key). Contains ks n) (sym (row_adds_visited_key m k rows e))
              (member_first n k (visited_keys rows) q))
          | inr c ↦ absurd (no_member n c)
        ]
      ]
  with_visited before m k rows e n (inr i) =
      inr (subst (λ (ks : List Key). Contains ks n) (sym (row_adds_visited_key m k rows e))
      (member_later n k (visited_keys rows) i))

  -- the keys of pending mentions were visited before or are visited by the rows
  pub pending_known : {before : List Key} {pending : List Mention} {rows : List SourceRow}
      → AreSourceRows table before pending rows
      → (n : Key) → LeadOn pending n → IsKnown before rows n
  pending_known Finished n (x, i, q) = absurd (no_member x i)
  pending_known (Skipped {before = before} {m = m} {pending = pending} {rows = rows} p rest) n (x, i, q) =
      elim (member_cases x m pending i) [
        | inl e ↦ inl (mention_key_among_is_member before n
            (sym (ap (is_key_visit_skipped before) (sym (ap (λ (y : Mention). y.target) e) ∙ q))
            ∙ p))
        | inr j ↦ pending_known rest n (x, j, q)
      ]
  pending_known (Visited {before = before} {m = m} {n = k} {pending = pending} {rows = rows} e new rest) n (x, i, q) =
      elim (member_cases x m pending i) [
        | inl g ↦ with_visited before m k rows e n (inl (Contains-append_right before (k ∷ []) n
            (member_first n k [] (same_Some n k (sym q ∙ ap (λ (y : Mention). y.target) g ∙ e)))))
        | inr j ↦ with_visited before m k rows e n
            (pending_known rest n
            (x, Contains-append_right (mentions table (m.depth + 1) (key_source_uses table k)) pending x j, q))
      ]

  -- the keys that the words of a visited key lead to were visited before or are visited by the rows
  pub keys_known : {before : List Key} {pending : List Mention} {rows : List SourceRow}
      → AreSourceRows table before pending rows
      → (k n : Key) → Contains (visited_keys rows) k → TableWordsLeadTo table (table_words_of_key table k) n
      → IsKnown before rows n
  keys_known Finished k n i l = absurd (no_member k i)
  keys_known (Skipped p rest) k n i l = keys_known rest k n i l
  keys_known (Visited {before = before} {m = m} {n = j} {pending = pending} {rows = rows} e new rest) k n i l =
      with_visited before m j rows e n
      (elim (member_cases k j (visited_keys rows)
      (subst (λ (ks : List Key). Contains ks k) (row_adds_visited_key m j rows e) i)) [
        | inl q ↦ pending_known rest n (first_lead (entry_mentions_member table (m.depth + 1) j n
            (subst (λ (x : Key). TableWordsLeadTo table (table_words_of_key table x) n) q l)))
        | inr h ↦ keys_known rest k n h l
      ])
    where
      first_lead : LeadOn (mentions table (m.depth + 1) (key_source_uses table j)) n
          → LeadOn (mentions table (m.depth + 1) (key_source_uses table j) ++ pending) n
      first_lead (x, a, b) =
          (x, Contains-append_left (mentions table (m.depth + 1) (key_source_uses table j)) pending x a, b)

  -- if nothing was visited before, the rows visit all known keys
  known_visited : (rows : List SourceRow) (n : Key) → IsKnown [] rows n → Contains (visited_keys rows) n
  known_visited rows n (inl i) = absurd (no_member n i)
  known_visited rows n (inr i) = i

  reached_visited : {start : List Mention} {rows : List SourceRow} → AreSourceRows table [] start rows
      → {words : List WordUse}
      → ((n : Key) → TableWordsLeadTo table words n → Contains (visited_keys rows) n) → {n : Key}
      → TableWordsReach table words n
      → Contains (visited_keys rows) n
  reached_visited all all_led (at_once l) = all_led _ l
  reached_visited {rows = rows} all all_led (further {n = k} l r) =
      reached_visited all (λ n q. known_visited rows n (keys_known all k n (all_led k l) q)) r

  pub visited_are_reached : (words : List WordUse) (rows : List SourceRow) → AreSourceRowsOf table words rows
      → (n : Key)
      → Contains (visited_keys rows) n ↔ TableWordsReach table words n
  visited_are_reached words rows all n = (
    visited_hold (TableWordsReach table words) (λ k m r l. reached_source_leads_onward r (at_once l)) all
        (λ k l. at_once (first_mentions_cases table words k l)) n,
    reached_visited all (λ k l. known_visited rows k (pending_known all k (first_mentions_member table words k l))),
  )
