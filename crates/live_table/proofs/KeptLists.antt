-- The stored names are those of the list.
use Rattle.std.proofs.Common.{◌≡◌, ◌⊎◌, ◌↔◌, Bool, true, false, cond, not, List, [], ◌∷◌, ◌++◌, Contains}
use Rattle.std.proofs.Common.{is_none, refl, sym, ◌∙◌, ap, subst, inl, inr}
use Rattle.std.specs.List.{filter}
use Rattle.std.proofs.lemmas.List.Elements.{Contains-append_cases, Contains-append_left, Contains-append_right}
use Rattle.def_entry.specs.declared.key.Key.{Key}
use Rattle.def_entry.specs.Tables.{EntryTable}
use Rattle.table_names.specs.AffectedKeys.{IsAffectedTableName, is_affected_table_name}
use Rattle.table_names.specs.ClosedKeys.{AreClosedWords, IsClosedKey}
use Rattle.table_names.specs.Faults.{key_fault, name_fault}
use Rattle.table_names.specs.Leads.{TableNameReaches, TableWordsReach}
use Rattle.table_names.specs.Reach.{key_reach, reach}
use Rattle.table_names.specs.Words.{table_words_of_key}
use Rattle.table_names.proofs.AffectedKeys.{affected_table_name_law}
use Rattle.table_names.proofs.ClosedLaws.{closed_word_law}
use Rattle.table_names.proofs.ReachedKeys.{table_name_reach_law}
use Rattle.deck.specs.Changes.{keys_changed_by_edit}
use Rattle.live_table.specs.KeptNames.{IsNameCachedBy, live_event_table}
use Rattle.live_table.specs.Right.{IsKeySettled, IsRightLiveState}
use Rattle.live_table.specs.States.{AsksKey, AsksWords, Becomes, LiveEvent, LiveState, live_state_after_all}
use Rattle.live_table.specs.States.{live_state_after_event, live_state_after_query}
use Rattle.live_table.proofs.Events.{right_cached_outcomes_law}
use Rattle.live_table.proofs.KeptNames.{cached_after_events_law}
use Rattle.live_table.specs.KeptLists.{CachedListLaw, cached_names_by_event, cached_names_by_events}
use Rattle.general_lemmas.proofs.Members.{no_member, member_first, member_later, member_cases}
use Rattle.general_lemmas.proofs.Options.{none_is}

-- ---- members of a filtered list
cached_list_member_passed : {A : Type 0} (p : A → Bool) (xs : List A) (x : A) → Contains (filter p xs) x
    → Contains xs x × (p x ≡ true)
cached_list_member_passed p [] x i = absurd (no_member x i)
cached_list_member_passed p (y ∷ ys) x i = by (cached_list_member_passed p ys x) (p y) refl i
  where
    by : (Contains (filter p ys) x → Contains ys x × (p x ≡ true)) → (b : Bool) → p y ≡ b
        → Contains (cond b (y ∷ filter p ys) (filter p ys)) x → Contains (y ∷ ys) x × (p x ≡ true)
    by rest true e j =
        elim (member_cases x y (filter p ys) j) [
          | inl q ↦ (member_first x y ys q, ap p q ∙ e)
          | inr r ↦ (member_later x y ys (rest r).0, (rest r).1)
        ]
    by rest false e j = (member_later x y ys (rest j).0, (rest j).1)

passing_member_stays_cached : {A : Type 0} (p : A → Bool) (xs : List A) (x : A) → Contains xs x → p x ≡ true
    → Contains (filter p xs) x
passing_member_stays_cached p [] x i t = absurd (no_member x i)
passing_member_stays_cached p (y ∷ ys) x i t = by (λ j. passing_member_stays_cached p ys x j t) (p y) refl
    (member_cases x y ys i)
  where
    by : (Contains ys x → Contains (filter p ys) x) → (b : Bool) → p y ≡ b → (x ≡ y) ⊎ Contains ys x
        → Contains (cond b (y ∷ filter p ys) (filter p ys)) x
    by rest true e (inl q) = member_first x y (filter p ys) q
    by rest true e (inr j) = member_later x y (filter p ys) (rest j)
    by rest false e (inl q) = let z : true ≡ false = sym t ∙ (ap p q ∙ e) in cc
    by rest false e (inr j) = rest j

-- ---- truth values

not_true : (b : Bool) → not b ≡ true → b ≡ true → ⊥
not_true true e f = cc
not_true false e f = cc

not_false : (b : Bool) → (b ≡ true → ⊥) → not b ≡ true
not_false true h = absurd (h refl)
not_false false h = refl

-- ---- a single event
module _ (s : LiveState) (keys : List Key) (listed : (n : Key) → Contains keys n ↔ IsKeySettled s n) where
  -- a query
  query_listed : (more : List Key) (Closed : Type 0) (Reached : Key → Type 0)
      → (Closed → (n : Key) → Contains more n ↔ Reached n) → (b : Bool) → (b ≡ true → Closed) → (Closed → b ≡ true)
      → (n : Key) → Contains (cond b (keys ++ more) keys) n ↔ (IsKeySettled s n ⊎ (Closed × Reached n))
  query_listed more Closed Reached reached true is of n = (
    λ i. elim (Contains-append_cases keys more n i) [
      | inl j ↦ inl ((listed n).0 j)
      | inr j ↦ inr (is refl, (reached (is refl) n).0 j)
    ],
    λ k. elim k [
      | inl j ↦ Contains-append_left keys more n ((listed n).1 j)
      | inr r ↦ Contains-append_right keys more n ((reached r.0 n).1 r.1)
    ],
  )
  query_listed more Closed Reached reached false is of n = (
    λ i. inl ((listed n).0 i),
    λ k. elim k [
      | inl j ↦ (listed n).1 j
      | inr r ↦ let z : false ≡ true = of r.0 in cc
    ],
  )

  key_reached : (k : Key) → IsClosedKey s.table k → (n : Key)
      → Contains (k ∷ key_reach s.table k) n ↔ ((n ≡ k) ⊎ TableNameReaches s.table k n)
  key_reached k closed n = (
    λ i. elim (member_cases n k (key_reach s.table k) i) [ inl e ↦ inl e | inr j ↦ inr ((words n).0 j) ],
    λ r. elim r [
      | inl e ↦ member_first n k (key_reach s.table k) e
      | inr w ↦ member_later n k (key_reach s.table k) ((words n).1 w)
    ],
  )
    where
      words : (n : Key) → Contains (key_reach s.table k) n ↔ TableNameReaches s.table k n
      words = table_name_reach_law.reached_words s.table (table_words_of_key s.table k)
          ((closed_word_law.key s.table k).0 closed)

  -- an edit
  edit_listed : (later : EntryTable) → IsRightLiveState s → (n : Key)
      → Contains (cached_names_by_event (Becomes later) s.table keys) n ↔ IsNameCachedBy (Becomes later) s.table
      (IsKeySettled s) n
  edit_listed later right n = (
    λ i. let r = cached_list_member_passed stays keys n i in (
      (listed n).0 r.0,
      λ a. not_true (is_affected_table_name s.table changed n) r.1
          ((both (right.settled_closed n ((listed n).0 r.0))).1 a),
    ),
    λ k. passing_member_stays_cached stays keys n ((listed n).1 k.0)
        (not_false (is_affected_table_name s.table changed n) (λ e. k.1 ((both (right.settled_closed n k.0)).0 e))),
  )
    where
      changed : List Key
      changed = keys_changed_by_edit s.table later

      stays : Key → Bool
      stays m = not (is_affected_table_name s.table (keys_changed_by_edit s.table later) m)

      both : IsClosedKey s.table n → (is_affected_table_name s.table (keys_changed_by_edit s.table later) n ≡ true)
          ↔ IsAffectedTableName s.table (keys_changed_by_edit s.table later) n
      both closed = affected_table_name_law.affected_exactly s.table (keys_changed_by_edit s.table later) n closed

  event_listed : (e : LiveEvent) → IsRightLiveState s → (n : Key)
      → Contains (cached_names_by_event e s.table keys) n ↔ IsNameCachedBy e s.table (IsKeySettled s) n
  event_listed (AsksWords words) right n =
      query_listed (reach s.table words) (AreClosedWords s.table words) (TableWordsReach s.table words)
      (table_name_reach_law.reached_words s.table words) (is_none (name_fault s.table words))
      (none_is (name_fault s.table words))
      (λ e. ap is_none e) n
  event_listed (AsksKey k) right n =
      query_listed (k ∷ key_reach s.table k) (IsClosedKey s.table k) (λ m. (m ≡ k) ⊎ TableNameReaches s.table k m)
      (key_reached k) (is_none (key_fault s.table k)) (none_is (key_fault s.table k)) (λ e. ap is_none e) n
  event_listed (Becomes later) right n = edit_listed later right n

-- ---- the table after an event
cached_query_yields_table : (b : Bool) (keys : List Key) (s : LiveState)
    → (live_state_after_query b keys s).table ≡ s.table
cached_query_yields_table true keys s = refl
cached_query_yields_table false keys s = refl

cached_event_yields_table : (e : LiveEvent) (s : LiveState) → (live_state_after_event e s).table ≡ live_event_table e
    s.table
cached_event_yields_table (AsksWords words) s = cached_query_yields_table (is_none (name_fault s.table words))
    (reach s.table words) s
cached_event_yields_table (AsksKey k) s = cached_query_yields_table (is_none (key_fault s.table k))
    (k ∷ key_reach s.table k) s
cached_event_yields_table (Becomes later) s = refl

-- the law of the list of stored names
pub cached_list_law : CachedListLaw
cached_list_law [] s keys can right listed n = listed n
cached_list_law (e ∷ es) s keys can right listed n =
    subst (λ (t : EntryTable). Contains (cached_names_by_events es t (cached_names_by_event e s.table keys)) n ↔
    IsKeySettled
    (live_state_after_all es (live_state_after_event e s))
    n)
    (cached_event_yields_table e s)
    (cached_list_law es (live_state_after_event e s) (cached_names_by_event e s.table keys) can.1
    (right_cached_outcomes_law (e ∷ []) s (can.0, tt) right)
    (λ m. (
      λ i. ((cached_after_events_law (e ∷ []) s (can.0, tt) right).names m).1
          ((event_listed s keys listed e right m).0 i),
      λ i. (event_listed s keys listed e right m).1
          (((cached_after_events_law (e ∷ []) s (can.0, tt) right).names m).0 i),
    )) n)
