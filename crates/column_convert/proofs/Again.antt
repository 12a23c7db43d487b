-- Words that are queried again settle nothing more.
use Rattle.std.proofs.Common.{◌≡◌, ◌+◌, ◌-◌, ◌^◌, ◌<◌, ◌≤◌, min, ℕ, Bool, true, false, List, [], ◌∷◌, Contains, is_some}
use Rattle.std.proofs.Common.{refl, sym, ap, subst, ◌∙◌, inl, arith, cond, map, Some}
use Rattle.std.specs.Prelude.{⊤}
use Rattle.std.specs.FinMap as map_of
use Rattle.std.specs.List.{IsDistinct}
use Rattle.std.specs.Option.{is_none}
use Rattle.std.specs.Ordering.{eq_by_cmp}
use Rattle.expr_tree.specs.declared.word_list.WordUse.{WordUse}
use Rattle.def_entry.specs.declared.key.Key.{Key}
use Rattle.def_entry.specs.KeyOrder.{key_cmp}
use Rattle.def_entry.specs.Tables.{EntryTable}
use Rattle.table_names.specs.Faults.{name_fault}
use Rattle.table_names.specs.Meanings.{outcome}
use Rattle.table_names.specs.Reach.{reach}
use Rattle.deck.specs.Tables.{table_of_deck}
use Rattle.live_table.specs.New.{AreNewlySettled}
use Rattle.live_table.specs.Right.{IsKeySettled, IsRightLiveState}
use Rattle.live_table.specs.TableView.{IsAfterLiveEvents, IsRightLiveView, LiveView, live_state_with_steps}
use Rattle.live_table.specs.States.{AsksWords, CachedOutcomes, LiveState, live_state_after_all, live_state_after_event}
use Rattle.live_table.specs.States.{live_state_after_query, with_cached_outcomes}
use Rattle.live_table.proofs.New.{newly_settled_law}
use Rattle.live_table.proofs.Outcomes.{inserted, put_in}

cell_query_state_is_right : (b : LiveView) (k : ℕ) → IsRightLiveView b → IsRightLiveState (live_state_with_steps b k)
cell_query_state_is_right b k r = record {
  settled_have_entries = r.settled_have_entries;
  settled_closed =
      r.settled_closed;
  reached_settled = r.reached_settled;
  outcomes_right = r.outcomes_right;
}

settled_cell_keys_are_not_new : (keys : List Key) (s : LiveState) → ((n : Key) → Contains keys n → IsKeySettled s n)
    → AreNewlySettled s keys []
unfolding IsDistinct
settled_cell_keys_are_not_new keys s settled = record {
  unsettled_names = λ n. ((λ i. absurd (let none : i.0 < 0 = i.1 in omega arith)), (λ p. absurd (p.1 (settled n p.0))));
  names_distinct = tt;
}

cell_query_counts_unchanged : (s : LiveState) (reductions steps : ℕ) → reductions ≡ s.reductions → steps ≡ s.steps
    → record s { reductions = reductions; steps = steps } ≡ s
cell_query_counts_unchanged s reductions steps p q = λ i. record s { reductions = p i; steps = q i }

cell_query_keeps_table : (c : Bool) (keys : List Key) (s : LiveState)
    → (live_state_after_query c keys s).table ≡ s.table
cell_query_keeps_table true keys s = refl
cell_query_keeps_table false keys s = refl

-- ---- settled names stay settled
settled_cell_name_stays_settled : (t : EntryTable) (keys : List Key) (kept : CachedOutcomes) (n : Key)
    → is_some (map_of.get kept n) ≡ true
    → is_some (map_of.get (with_cached_outcomes t keys kept) n) ≡ true
settled_cell_name_stays_settled t [] kept n is = is
settled_cell_name_stays_settled t (k ∷ keys) kept n is =
    settled_cell_name_stays_settled t keys (map_of.insert kept k (outcome t k)) n
    (ap is_some (inserted t kept k n) ∙ either (eq_by_cmp key_cmp n k))
  where
    either : (b : Bool) → is_some (cond b (Some (outcome t k)) (map_of.get kept n)) ≡ true
    either true = refl
    either false = is

cell_query_keeps_settled : (c : Bool) (keys : List Key) (s : LiveState) (n : Key) → IsKeySettled s n
    → IsKeySettled (live_state_after_query c keys s) n
cell_query_keeps_settled true keys s n is = settled_cell_name_stays_settled s.table keys s.kept_outcomes n is
cell_query_keeps_settled false keys s n is = is

cell_queries_keep_settled : (texts : List (List WordUse)) (s : LiveState) (n : Key) → IsKeySettled s n
    → IsKeySettled (live_state_after_all (map AsksWords texts) s) n
cell_queries_keep_settled [] s n is = is
cell_queries_keep_settled (words ∷ texts) s n is =
    cell_queries_keep_settled texts (live_state_after_event (AsksWords words) s) n
    (cell_query_keeps_settled (is_none (name_fault s.table words)) (reach s.table words) s n is)

-- ---- everything that words reach is settled, if they have no fault
abbrev AreAsked : EntryTable → List WordUse → CachedOutcomes → Type 0
AreAsked t words kept =
    is_none (name_fault t words) ≡ true → (n : Key) → Contains (reach t words) n → is_some (map_of.get kept n) ≡ true

abbrev AllAsked : EntryTable → List (List WordUse) → CachedOutcomes → Type 0
AllAsked t [] kept = ⊤
AllAsked t (words ∷ texts) kept = AreAsked t words kept × AllAsked t texts kept

cell_words_are_queried : (words : List WordUse) (s : LiveState)
    → AreAsked s.table words (live_state_after_event (AsksWords words) s).kept_outcomes
cell_words_are_queried words s free n i = go (is_none (name_fault s.table words)) free
  where
    go : (c : Bool) → c ≡ true → IsKeySettled (live_state_after_query c (reach s.table words) s) n
    go true e = ap is_some (put_in s.table (reach s.table words) s.kept_outcomes n (inl i))
    go false e = cc

all_cell_words_are_queried : (texts : List (List WordUse)) (s : LiveState)
    → AllAsked s.table texts (live_state_after_all (map AsksWords texts) s).kept_outcomes
all_cell_words_are_queried [] s = tt
all_cell_words_are_queried (words ∷ texts) s =
    let next = live_state_after_event (AsksWords words) s in (
      (λ free n i. cell_queries_keep_settled texts next n (cell_words_are_queried words s free n i)),
      subst (λ (t : EntryTable). AllAsked t texts (live_state_after_all (map AsksWords texts) next).kept_outcomes)
          (cell_query_keeps_table (is_none (name_fault s.table words)) (reach s.table words) s)
          (all_cell_words_are_queried texts next),
    )

cell_queries_keep_table : (texts : List (List WordUse)) (s : LiveState)
    → (live_state_after_all (map AsksWords texts) s).table ≡ s.table
cell_queries_keep_table [] s = refl
cell_queries_keep_table (words ∷ texts) s =
    cell_queries_keep_table texts (live_state_after_event (AsksWords words) s)
    ∙ cell_query_keeps_table (is_none (name_fault s.table words)) (reach s.table words) s

-- ---- querying again
cell_query_again_changes_nothing : (words : List WordUse) (s : LiveState) → IsRightLiveState s
    → s.reductions ≤ 2 ^ 64 - 1
    → AreAsked s.table words s.kept_outcomes
    → live_state_after_event (AsksWords words) s ≡ s
cell_query_again_changes_nothing words s right few asked = go (is_none (name_fault s.table words)) refl
  where
    go : (c : Bool) → is_none (name_fault s.table words) ≡ c → live_state_after_query c (reach s.table words) s ≡ s
    go false e = refl
    go true e =
        newly_settled_law s (reach s.table words) [] right
        (settled_cell_keys_are_not_new (reach s.table words) s (asked e))
        ∙ cell_query_counts_unchanged s (min (2 ^ 64 - 1) (s.reductions + 0)) (s.steps + 0) (omega arith) (omega arith)

cell_queries_again_change_nothing : (texts : List (List WordUse)) (s : LiveState) → IsRightLiveState s
    → s.reductions ≤ 2 ^ 64 - 1
    → AllAsked s.table texts s.kept_outcomes → live_state_after_all (map AsksWords texts) s ≡ s
cell_queries_again_change_nothing [] s right few asked = refl
cell_queries_again_change_nothing (words ∷ texts) s right few asked =
    ap (live_state_after_all (map AsksWords texts)) (cell_query_again_changes_nothing words s right few asked.0)
    ∙ cell_queries_again_change_nothing texts s right few asked.1

-- law: if the words of texts were queried, querying them again changes nothing and takes no step
pub cell_queries_again_take_no_step : (texts : List (List WordUse)) (a b : LiveView) (n m k : ℕ)
    → b.reductions ≤ 2 ^ 64 - 1
    → IsAfterLiveEvents (map AsksWords texts) a b n m → IsAfterLiveEvents (map AsksWords texts) b b k k
cell_queries_again_take_no_step texts a b n m k few f =
    let same : table_of_deck b.deck ≡ table_of_deck a.deck =
    ap (λ (t : LiveState). t.table) f.state_after_events ∙ cell_queries_keep_table texts (live_state_with_steps a n) in
    let asked : AllAsked (table_of_deck a.deck) texts b.kept_outcomes =
    subst (λ (s : LiveState). AllAsked (table_of_deck a.deck) texts s.kept_outcomes) (sym f.state_after_events)
    (all_cell_words_are_queried texts (live_state_with_steps a n)) in
    record {
      state_after_events = sym
          (cell_queries_again_change_nothing texts (live_state_with_steps b k)
          (cell_query_state_is_right b k f.is_right) few
          (subst (λ (t : EntryTable). AllAsked t texts b.kept_outcomes) (sym same) asked));
      is_right = f.is_right;
    }
