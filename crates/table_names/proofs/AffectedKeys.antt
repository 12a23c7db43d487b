-- Affected keys.
use Rattle.std.proofs.Common.{◌≡◌, ◌⊎◌, ◌↔◌, true, List, ◌∷◌, Contains, refl, subst, inl, inr}
use Rattle.std.specs.List.{list_any}
use Rattle.std.proofs.lemmas.Bool.{or_cases, or_left, or_right}
use Rattle.expr_tree.specs.declared.word_list.WordUse.{WordUse}
use Rattle.def_entry.specs.declared.key.Key.{Key}
use Rattle.def_entry.specs.SameKeys.{is_entry_key_among}
use Rattle.def_entry.specs.Tables.{EntryTable}
use Rattle.table_names.specs.AffectedKeys.{AffectedTableNameLaw, HasTableNameLooked, IsAffectedTableName}
use Rattle.table_names.specs.AffectedKeys.{has_table_name_looked, is_affected_table_name}
use Rattle.table_names.specs.ClosedKeys.{IsClosedKey}
use Rattle.table_names.specs.Leads.{TableNameLooksAt, TableNameReaches, TableWordsReach, at_once, further}
use Rattle.table_names.specs.Leads.{table_word_looked_keys}
use Rattle.table_names.specs.Reach.{key_looked_keys, key_reach}
use Rattle.table_names.specs.Words.{table_words_of_key}
use Rattle.table_names.proofs.KeyLists.{member_table_key_is_among, table_key_among_is_member}
use Rattle.table_names.proofs.Lookups.{target_looked}
use Rattle.table_names.proofs.Paths.{key_words_closed}
use Rattle.table_names.proofs.ReachedKeys.{table_name_reach_is_transitive, table_name_reach_law}
use Rattle.general_lemmas.proofs.Members.{member_first, member_later, member_cases, any_member, any_cases, flat_member}
use Rattle.general_lemmas.proofs.Members.{flat_cases}

-- each reached key is looked at by one of the words, or by a key that they reach
reached_table_name_is_looked_at :
    {table : EntryTable} {words : List WordUse} {m : Key} → TableWordsReach table words m
    → ((u : WordUse) × Contains words u × Contains (table_word_looked_keys table u) m)
    ⊎ ((x : Key) × TableWordsReach table words x × TableNameLooksAt table x m)
reached_table_name_is_looked_at {table} (at_once l) = inl (l.0, l.1, target_looked table l.0 _ l.2)
reached_table_name_is_looked_at (further {n = n} l r) =
    elim (reached_table_name_is_looked_at r) [ inl h ↦ inr (n, at_once l, h) | inr h ↦ inr (h.0, further l h.1, h.2) ]

module _ (table : EntryTable) (keys : List Key) where
  -- each key that reaches an affected key is affected
  pub users : (n m : Key) → TableNameReaches table n m → IsAffectedTableName table keys m
      → IsAffectedTableName table keys n
  users n m r (inl c) =
      elim (reached_table_name_is_looked_at r)
      [ inl h ↦ inr (inl (m, c, h)) | inr h ↦ inr (inr (h.0, h.1, (m, c, h.2))) ]
  users n m r (inr (inl h)) = inr (inr (m, r, h))
  users n m r (inr (inr (x, q, h))) = inr (inr (x, table_name_reach_is_transitive r q, h))

  looked_sets_flag : (n : Key) → HasTableNameLooked table keys n → has_table_name_looked table keys n ≡ true
  looked_sets_flag n (k, c, (u, i, l)) =
      any_member (is_entry_key_among keys) (key_looked_keys table n) k
      (flat_member (table_word_looked_keys table) (table_words_of_key table n) u k i l)
      (member_table_key_is_among keys k c)

  flag_means_looked : (n : Key) → has_table_name_looked table keys n ≡ true → HasTableNameLooked table keys n
  flag_means_looked n e =
      let r : (k : Key) × Contains (key_looked_keys table n) k × (is_entry_key_among keys k ≡ true) =
      any_cases (is_entry_key_among keys) (key_looked_keys table n) e in (
        r.0,
        table_key_among_is_member keys r.0 r.2,
        flat_cases (table_word_looked_keys table)
            (table_words_of_key table n) r.0 r.1,
      )

  module _ (n : Key) (closed : IsClosedKey table n) where
    listed : (m : Key) → Contains (key_reach table n) m ↔ TableNameReaches table n m
    listed = table_name_reach_law.reached_words table (table_words_of_key table n) (key_words_closed table n closed)

    flag_means_affected : is_affected_table_name table keys n ≡ true → IsAffectedTableName table keys n
    flag_means_affected e = elim (or_cases (is_entry_key_among keys n)
        (list_any (has_table_name_looked table keys) (n ∷ key_reach table n)) e) [
          | inl q ↦ inl (table_key_among_is_member keys n q)
          | inr q ↦
              let r : (m : Key) × Contains (n ∷ key_reach table n) m × (has_table_name_looked table keys m ≡ true) =
              any_cases (has_table_name_looked table keys) (n ∷ key_reach table n) q in
              elim (member_cases r.0 n (key_reach table n) r.1) [
                | inl s ↦ inr (inl (flag_means_looked n
                    (subst (λ (x : Key). has_table_name_looked table keys x ≡ true) s r.2)))
                | inr j ↦ inr (inr (r.0, (listed r.0).0 j, flag_means_looked r.0 r.2))
              ]
        ]

    affected_sets_flag : IsAffectedTableName table keys n → is_affected_table_name table keys n ≡ true
    affected_sets_flag (inl c) = or_left (is_entry_key_among keys n) _ (member_table_key_is_among keys n c)
    affected_sets_flag (inr (inl h)) =
        or_right (is_entry_key_among keys n) _
        (any_member (has_table_name_looked table keys) (n ∷ key_reach table n) n
        (member_first n n (key_reach table n) refl)
        (looked_sets_flag n h))
    affected_sets_flag (inr (inr (m, r, h))) =
        or_right (is_entry_key_among keys n) _
        (any_member (has_table_name_looked table keys) (n ∷ key_reach table n) m
        (member_later m n (key_reach table n) ((listed m).1 r)) (looked_sets_flag m h))

-- the law of affected keys
pub affected_table_name_law : AffectedTableNameLaw
affected_table_name_law = record {
  affected_exactly = λ table keys n e. (flag_means_affected table keys n e, affected_sets_flag table keys n e);
  users =
      users;
}
