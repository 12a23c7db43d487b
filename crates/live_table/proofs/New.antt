-- To settle the reached names is to settle the new ones among them.
use Rattle.std.proofs.Common.{◌≡◌, ◌+◌, ◌-◌, ◌^◌, min, ℕ, true, false, List, [], ◌∷◌, length, Contains}
use Rattle.std.proofs.Common.{Option, Some, None, is_some, refl, sym, ◌∙◌, ap, inl, inr, arith}
use Rattle.std.specs.FinMap as map_of
use Rattle.std.specs.List.{IsDistinct}
use Rattle.std.specs.Ordering.{eq_by_cmp}
use Rattle.std.proofs.lemmas.Bool.{cases_Bool, cond-false, false_from_ne_true, true≢false}
use Rattle.std.proofs.lemmas.List.Elements.{All-contains, All-from_recursion}
use Rattle.def_entry.specs.declared.key.Key.{Key}
use Rattle.def_entry.specs.KeyOrder.{key_cmp}
use Rattle.def_entry.specs.SameKeys.{is_entry_key_among, is_same_entry_key}
use Rattle.def_entry.specs.Tables.{EntryTable}
use Rattle.def_entry.proofs.SameKeys.{key_order, same_entry_keys}
use Rattle.tree_eval.specs.declared.outcome.Outcome.{Outcome}
use Rattle.table_names.specs.Meanings.{outcome}
use Rattle.table_names.proofs.KeyLists.{member_table_key_is_among, table_key_among_is_member}
use Rattle.live_table.specs.New.{AreNewlySettled, NewlySettledLaw}
use Rattle.live_table.specs.Right.{IsKeySettled, IsRightLiveState}
use Rattle.live_table.specs.States.{CachedOutcomes, LiveState, with_cached_outcomes, with_settled}
use Rattle.live_table.proofs.Outcomes.{inserted, left_out, put_in, tied_cached_keys_are_equal}
use Rattle.general_lemmas.proofs.Members.{member_first, member_later}

-- an option that is not empty, and has no other value, has this value
cached_option_has_only_value : (o : Option Outcome) (x : Outcome) → is_some o ≡ true
    → ((y : Outcome) → o ≡ Some y → y ≡ x) → o ≡ Some x
cached_option_has_only_value None x e h = cc
cached_option_has_only_value (Some y) x e h = ap Some (h y refl)

-- the number of stored outcomes grows by the number of inserted ones, if they are distinct and none was stored
newly_settled_names_are_counted : (table : EntryTable) (names : List Key) (kept : CachedOutcomes)
    → IsDistinct is_same_entry_key names
    → ((n : Key) → Contains names n → is_some (map_of.get kept n) ≡ false)
    → map_of.len (with_cached_outcomes table names kept) ≡ map_of.len kept + length names
unfolding IsDistinct
newly_settled_names_are_counted table [] kept once new = omega arith
newly_settled_names_are_counted table (k ∷ names) kept once new =
    let here : map_of.len (map_of.insert kept k (outcome table k)) ≡ map_of.len kept + 1 =
    map_of.len-insert key_order.total_order kept k (outcome table k)
    ∙ cond-false (is_some (map_of.get kept k)) (map_of.len kept) (map_of.len kept + 1)
    (new k (member_first k k names refl)) in
    let rest : map_of.len (with_cached_outcomes table names (map_of.insert kept k (outcome table k)))
    ≡ map_of.len (map_of.insert kept k (outcome table k)) + length names =
    newly_settled_names_are_counted table names (map_of.insert kept k (outcome table k)) once.1 still in
    omega (arith, here, rest)
  where
    apart : (n : Key) → Contains names n → is_same_entry_key k n ≡ false
    apart n i = All-contains (λ y. is_same_entry_key k y ≡ false) names n
        (All-from_recursion (λ y. is_same_entry_key k y ≡ false) names once.0) i

    other : (n : Key) → Contains names n → eq_by_cmp key_cmp n k ≡ false
    other n i = false_from_ne_true (eq_by_cmp key_cmp n k)
        (λ e. true≢false (sym ((same_entry_keys k n).1 (sym (tied_cached_keys_are_equal n k e))) ∙ apart n i))

    still : (n : Key) → Contains names n → is_some (map_of.get (map_of.insert kept k (outcome table k)) n) ≡ false
    still n i =
        ap is_some (inserted table kept k n ∙ cond-false (eq_by_cmp key_cmp n k) (Some (outcome table k))
        (map_of.get kept n) (other n i))
        ∙ new n (member_later n k names i)

module _ (s : LiveState) (reached names : List Key) (h : IsRightLiveState s) (new : AreNewlySettled s reached names)
  where
    kept_by : (n : Key) → map_of.get (with_cached_outcomes s.table names s.kept_outcomes) n ≡ map_of.get
        (with_cached_outcomes s.table reached s.kept_outcomes) n
    kept_by n = elim (cases_Bool (is_entry_key_among names n)) [
      | inl e ↦
          let i : Contains names n = table_key_among_is_member names n e in
          put_in s.table names s.kept_outcomes n (inl i)
          ∙ sym (put_in s.table reached s.kept_outcomes n (inl ((new.unsettled_names n).0 i).0))
      | inr e ↦
          let out : Contains names n → ⊥ = λ i. true≢false (sym (member_table_key_is_among names n i) ∙ e) in
          left_out s.table names s.kept_outcomes n out ∙ elim (cases_Bool (is_entry_key_among reached n)) [
            | inl q ↦ settled_before (table_key_among_is_member reached n q)
                (cases_settled (table_key_among_is_member reached n q) out)
            | inr q ↦ sym (left_out s.table reached s.kept_outcomes n
                (λ i. true≢false (sym (member_table_key_is_among reached n i) ∙ q)))
          ]
    ]
      where
        cases_settled : Contains reached n → (Contains names n → ⊥) → IsKeySettled s n
        cases_settled i out = elim (cases_Bool (is_some (map_of.get s.kept_outcomes n))) [
          | inl e ↦ e
          | inr e ↦ absurd (out ((new.unsettled_names n).1 (i, λ q. true≢false (sym q ∙ e))))
        ]

        settled_before : Contains reached n → IsKeySettled s n → map_of.get s.kept_outcomes n ≡ map_of.get
            (with_cached_outcomes s.table reached s.kept_outcomes) n
        settled_before i e = cached_option_has_only_value (map_of.get s.kept_outcomes n) (outcome s.table n) e
            (h.outcomes_right n)
            ∙ sym (put_in s.table reached s.kept_outcomes n (inl i))

    same_kept : with_cached_outcomes s.table names s.kept_outcomes
        ≡ with_cached_outcomes s.table reached s.kept_outcomes
    same_kept = map_of.same_map key_order.total_order key_order.equal_keys _ _ kept_by

    counted : map_of.len (with_cached_outcomes s.table names s.kept_outcomes) - map_of.len s.kept_outcomes
        ≡ length names
    counted =
        let c : map_of.len (with_cached_outcomes s.table names s.kept_outcomes) ≡ map_of.len s.kept_outcomes + length
        names =
        newly_settled_names_are_counted s.table names s.kept_outcomes new.names_distinct
        (λ n i. false_from_ne_true _ ((new.unsettled_names n).0 i).1) in
        omega (arith, c)

    abbrev stands : CachedOutcomes → ℕ → LiveState
    stands kept n = record s {
      kept_outcomes = kept;
      reductions = min (2 ^ 64 - 1) (s.reductions + n);
      steps =
          s.steps + n;
    }

    settles : with_settled reached s ≡ stands (with_cached_outcomes s.table names s.kept_outcomes) (length names)
    settles =
        ap (λ (m : CachedOutcomes). stands m (map_of.len m - map_of.len s.kept_outcomes)) (sym same_kept)
        ∙ ap (stands (with_cached_outcomes s.table names s.kept_outcomes)) counted

-- the law of new names
pub newly_settled_law : NewlySettledLaw
newly_settled_law s reached names h new = settles s reached names h new
