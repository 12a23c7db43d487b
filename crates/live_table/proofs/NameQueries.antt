-- Queries of all names, in turn.
use Rattle.std.proofs.Common.{◌≡◌, ◌+◌, ℕ, zero, suc, Bool, true, false, List, [], ◌∷◌, ◌++◌, map, take, drop}
use Rattle.std.proofs.Common.{if◌then◌else◌, Option, Some, refl, sym, ◌∙◌, ap, subst, arith, ◌||◌}
use Rattle.std.specs.Prelude.{Result, Ok, Err, OnErr, OnOk}
use Rattle.std.specs.List.{slice_get}
use Rattle.std.proofs.lemmas.List.{map-append, take-append-drop}
use Rattle.std.proofs.lemmas.List.Elements.{filter-append}
use Rattle.std.specs.declared.alloc.AllocError.{AllocError}
use Rattle.def_entry.specs.declared.key.Key.{Key}
use Rattle.def_entry.specs.declared.key.Kind.{Kind}
use Rattle.def_entry.specs.declared.key.Kind.TheVariants as kind
use Rattle.def_entry.specs.SameKeys.{is_entry_key_among, is_same_entry_key}
use Rattle.def_entry.proofs.SameKeys.{same_entry_keys}
use Rattle.table_names.specs.declared.fault.NameFault.{NameFault}
use Rattle.live_table.specs.declared.fault.QueryFault.{QueryFault}
use Rattle.live_table.specs.declared.fault.QueryFault.TheVariants.{Name, Value, OutOfMemory}
use Rattle.live_table.specs.QueryEffects.{IsLiveQueryEffect}
use Rattle.live_table.specs.Calls.{AreLiveQueries, is_settleable_kind, live_key_queries, settleable_names}
use Rattle.live_table.specs.TableView.{AreLiveEventsCutOff, IsAfterLiveEvents, IsRightLiveView, LiveView}
use Rattle.live_table.specs.TableView.{live_state_with_steps}
use Rattle.live_table.specs.States.{AsksKey, LiveEvent}
use Rattle.live_table.proofs.QuerySequence.{live_event_runs_in_turn, live_events_cut_off_in_midst}
use Rattle.live_table.proofs.QuerySequence.{live_events_never_lower_steps}
use Rattle.live_table.proofs.SettleCounts.{settled_count_of_live_view}
use Rattle.general_lemmas.proofs.Places.{drop_at, take_at}

-- ---- a single key
pub list_key_makes_no_live_query : (k : Key) → k.kind ≡ kind.List → live_key_queries (k ∷ []) ≡ []
list_key_makes_no_live_query k e = ap (λ (c : Kind). map AsksKey (if is_settleable_kind c then k ∷ [] else [])) e

-- a key that is not a list is queried
settleable_key_makes_live_query : (k : Key) (c : Kind) → (c ≡ kind.List → ⊥)
    → map AsksKey (if is_settleable_kind c then k ∷ [] else []) ≡ AsksKey k
    ∷ []
settleable_key_makes_live_query k kind.Unit h = refl
settleable_key_makes_live_query k kind.Prefix h = refl
settleable_key_makes_live_query k kind.Func h = refl
settleable_key_makes_live_query k kind.List h = absurd (h refl)

-- a key that is not a list is queried once
pub settleable_key_is_queried_once : (k : Key) → (k.kind ≡ kind.List → ⊥) → live_key_queries (k ∷ []) ≡ AsksKey k ∷ []
settleable_key_is_queried_once k h = settleable_key_makes_live_query k k.kind h

module _ {A : Type 0} (event : LiveEvent) (fault : Option NameFault) (Given : A → Type 0) (before now : LiveView)
    (old new : ℕ) where
  pub asked_cut : (r : Result A QueryFault) → r ≡ Err OutOfMemory → IsLiveQueryEffect event fault Given r before now old
      new
      → AreLiveEventsCutOff (event ∷ []) before now old new
  asked_cut r e a = subst (λ (r : Result A QueryFault). IsLiveQueryEffect event fault Given r before now old new) e a

  pub asked_follows : (r : Result A QueryFault) → (r ≡ Err OutOfMemory → ⊥)
      → IsLiveQueryEffect event fault Given r before now old new → IsAfterLiveEvents (event ∷ []) before now old new
  asked_follows (Ok x) h a = a.2
  asked_follows (Err (Name f)) h a = a.1
  asked_follows (Err (Value v)) h a = absurd a
  asked_follows (Err OutOfMemory) h a = absurd (h refl)

  pub asked_queries : (k : Key) → event ≡ AsksKey k → (k.kind ≡ kind.List → ⊥) → (r : Result A QueryFault)
      → (q : Result (Unit {0}) AllocError) → OnOk q (r ≡ Err OutOfMemory → ⊥) → OnErr q (r ≡ Err OutOfMemory)
      → IsLiveQueryEffect event fault Given r before now old new → AreLiveQueries (live_key_queries (k ∷ [])) q before
      now old new
  asked_queries k is no_list r (Ok u) ok err a =
      subst (λ (es : List LiveEvent). IsAfterLiveEvents es before now old new)
      (ap (λ e. e ∷ []) is ∙ sym (settleable_key_is_queried_once k no_list)) (asked_follows r ok a)
  asked_queries k is no_list r (Err e) ok err a =
      subst (λ (es : List LiveEvent). AreLiveEventsCutOff es before now old new)
      (ap (λ e. e ∷ []) is ∙ sym (settleable_key_is_queried_once k no_list)) (asked_cut r err a)

-- ---- several keys
live_key_queries_append : (ks ls : List Key) → live_key_queries (ks ++ ls) ≡ live_key_queries ks ++ live_key_queries ls
live_key_queries_append ks ls =
    ap (map AsksKey) (filter-append (λ (k : Key). is_settleable_kind k.kind) ks ls)
    ∙ map-append AsksKey (settleable_names ks) (settleable_names ls)

-- the key at a place is among them
pub queried_live_key_is_among_keys : (ks : List Key) (i : ℕ) (k : Key) → slice_get ks i ≡ Some k
    → is_entry_key_among ks k ≡ true
queried_live_key_is_among_keys [] i k e = cc
queried_live_key_is_among_keys (x ∷ ks) zero k e = let s : k ≡ x = cc in
    ap (λ b. b || is_entry_key_among ks k) ((same_entry_keys k x).1 s)
queried_live_key_is_among_keys (x ∷ ks) (suc i) k e = by (is_same_entry_key k x)
    (queried_live_key_is_among_keys ks i k e)
  where
    by : (b : Bool) → is_entry_key_among ks k ≡ true → (b || is_entry_key_among ks k) ≡ true
    by true h = refl
    by false h = h

-- no key has been queried yet
pub live_events_cut_at_start : (es : List LiveEvent) (s : LiveView) (n : ℕ) → IsRightLiveView s
    → AreLiveEventsCutOff es s s n n
live_events_cut_at_start es s n right =
    record {
      deck = refl;
      is_right = right;
      steps_least = omega arith;
      steps_most = live_events_never_lower_steps es (live_state_with_steps s n);
      reductions_counted = λ can. (omega arith, (settled_count_of_live_view es s n can).0);
    }

-- the first of the keys were queried
pub record IsAsking (keys : List Key) (i : ℕ) (before now : LiveView) (old new : ℕ) : Type 0 where
  pub deck : now.deck ≡ before.deck
  pub follows : IsAfterLiveEvents (live_key_queries (take i keys)) before now old new

module _ (keys : List Key) (i : ℕ) (before now : LiveView) (old new : ℕ) (s : IsAsking keys i before now old new) where
  module _ (k : Key) (at : slice_get keys i ≡ Some k) (later : LiveView) (last : ℕ) where
    pub asking_next : later.deck ≡ now.deck → IsAfterLiveEvents (live_key_queries (k ∷ [])) now later new last
        → IsAsking keys (i + 1) before later old last
    asking_next same f = record {
      deck = same ∙ s.deck;
      follows = subst (λ (es : List LiveEvent). IsAfterLiveEvents es before later old last)
          (sym (ap live_key_queries (take_at keys i k at) ∙ live_key_queries_append (take i keys) (k ∷ [])))
          (live_event_runs_in_turn (live_key_queries (take i keys)) (live_key_queries (k ∷ [])) before now later old new
          last s.follows f);
    }

    pub asking_cut : AreLiveEventsCutOff (live_key_queries (k ∷ [])) now later new last
        → AreLiveEventsCutOff (live_key_queries keys) before later old last
    asking_cut f =
        subst (λ (es : List LiveEvent). AreLiveEventsCutOff es before later old last) (sym all)
        (live_events_cut_off_in_midst (live_key_queries (take i keys)) (live_key_queries (k ∷ []))
        (live_key_queries (drop (i + 1) keys)) before now later
        old
        new last s.deck s.follows f)
      where
        all : live_key_queries keys
            ≡ live_key_queries (take i keys) ++ (live_key_queries (k ∷ []) ++ live_key_queries (drop (i + 1) keys))
        all =
            ap live_key_queries (sym (take-append-drop i keys) ∙ ap (λ ks. take i keys ++ ks) (drop_at keys i k at))
            ∙ (live_key_queries_append (take i keys) (k ∷ drop (i + 1) keys)
            ∙ ap (λ es. live_key_queries (take i keys) ++ es) (live_key_queries_append (k ∷ []) (drop (i + 1) keys)))
