-- The result of a query of a key.
use Rattle.std.proofs.Common.{◌≡◌, ◌⊎◌, ◌↔◌, ◌<◌, ℕ, true, List, [], ◌∷◌, map, length, Contains, None}
use Rattle.std.proofs.Common.{refl, sym, ◌∙◌, ap, subst, inl, inr, arith}
use Rattle.std.specs.Prelude.{Result, Ok, Err}
use Rattle.def_entry.specs.declared.key.Key.{Key}
use Rattle.def_entry.specs.Tables.{EntryTable}
use Rattle.name_walk.specs.declared.step.Step.{Step}
use Rattle.name_walk.specs.declared.step.Step.TheVariants.{Nowhere, To}
use Rattle.name_walk.specs.NewlyClosed.{AreNewlyClosedByWalk}
use Rattle.table_names.specs.ClosedKeys.{AreClosedWords, IsClosedKey}
use Rattle.table_names.specs.Faults.{key_fault}
use Rattle.table_names.specs.Leads.{TableNameReaches}
use Rattle.table_names.specs.Reach.{key_reach}
use Rattle.table_names.specs.Words.{table_words_of_key}
use Rattle.table_names.proofs.ClosedLaws.{closed_word_law}
use Rattle.table_names.proofs.ReachedKeys.{table_name_reach_law}
use Rattle.deck.specs.Tables.{table_of_deck}
use Rattle.table_names.specs.NumberedNames.{LeadToKnownNumbers}
use Rattle.table_names.specs.SettlingLaws.{AreNewNumberedKeys}
use Rattle.live_table.specs.declared.fault.QueryFault.{QueryFault}
use Rattle.live_table.specs.QueryEffects.{IsLiveQueryAnswered, IsLiveQueryEffect, IsSettledKey, live_query_fault}
use Rattle.live_table.specs.ExploredNames.{AreExplored, explored_fault_at}
use Rattle.live_table.specs.Exploration.{IsKnownToExploration}
use Rattle.live_table.specs.TableView.{IsRightLiveView, LiveView}
use Rattle.live_table.specs.Sound.{IsSoundLiveTable}
use Rattle.live_table.specs.States.{AsksKey}
use Rattle.live_table.specs.TableContents.{NodeLists, live_view_of_nodes, node_key_at}
use Rattle.live_table.proofs.AllExplored.{found_if_known_to_exploration}
use Rattle.live_table.proofs.AddedNames.{known_node_is_within_keys, known_still, node_key_stays_in_growth}
use Rattle.live_table.proofs.GrownLive.{live_query_of_key}
use Rattle.live_table.proofs.Queries.{asked_fault, asked_none, is_kept, reached_settled, settled_marks_are_cached_names}
use Rattle.live_table.proofs.Stages.{AreAllStages, AreStages, IsSettledAfter, Stages, explored_there, known_there}
use Rattle.live_table.proofs.Stages.{same_start, sound_there}
use Rattle.general_lemmas.proofs.Members.{no_member, member_first, member_later, member_cases}

-- a closed key reaches exactly the keys in its list
live_query_reaches_key_list : (t : EntryTable) (k : Key) → IsClosedKey t k → (n : Key)
    → Contains (k ∷ key_reach t k) n ↔
    ((n ≡ k) ⊎ TableNameReaches t k n)
live_query_reaches_key_list t k closed n = (
  λ i. elim (member_cases n k (key_reach t k) i) [
    | inl e ↦ inl e
    | inr j ↦ inr ((table_name_reach_law.reached_words t (table_words_of_key t k) words n).0 j)
  ],
  λ r. elim r [
    | inl e ↦ member_first n k (key_reach t k) e
    | inr way ↦ member_later n k (key_reach t k)
        ((table_name_reach_law.reached_words t (table_words_of_key t k) words n).1 way)
  ],
)
  where
    words : AreClosedWords t (table_words_of_key t k)
    words = (closed_word_law.key t k).0 closed

-- a key was given a number, and the number is known
pub record IsNumber (s : Stages) (key : Key) (n : ℕ) : Type 0 where
  pub is : key ≡ node_key_at s.led.keys n
  pub known : IsKnownToExploration s.led s.before s.list n

abbrev number_of : Step → ℕ
number_of (To n) = n
number_of (Nowhere n) = n

-- ---- the names below the key were explored
module _ (s : Stages) (are : AreStages s) (key : Key) (n : ℕ) (number : IsNumber s key n) where
  number_known : known_there s n ≡ true
  number_known = found_if_known_to_exploration s.explored s.before s.there n
      (known_still (table_of_deck s.deck) s.led s.explored s.before s.list
      s.there s.ends s.more are.first.nodes are.first.list_right are.second n number.known)

  key_is : node_key_at s.explored.keys n ≡ key
  key_is = node_key_stays_in_growth s.led.keys s.explored.keys n are.second.keys_more
      (known_node_is_within_keys (table_of_deck s.deck) s.led s.before s.list
      are.first.nodes are.first.list_right n number.known) ∙ sym number.is

  -- a query of the number leads to known names
  pub one_known : LeadToKnownNumbers (known_there s) (To n ∷ [])
  one_known p i = elim (member_cases (To p) (To n) [] i) [
    | inl e ↦ subst (λ (x : ℕ). known_there s x ≡ true) (sym (ap number_of e)) number_known
    | inr j ↦ absurd (no_member (To p) j)
  ]

-- ---- the key of a known number, if all names below it were explored
module _ (s : Stages) (are : AreAllStages s) (n : ℕ) (known : known_there s n ≡ true) where
  abbrev k : Key
  k = node_key_at s.explored.keys n

  abbrev query : List Step
  query = To n ∷ []

  abbrev Asked : Key → Type 0
  Asked m = (m ≡ k) ⊎ TableNameReaches (table_of_deck s.deck) k m

  sound : IsSoundLiveTable s.deck s.explored s.reductions
  sound = sound_there s are.stages

  explored : AreExplored (table_of_deck s.deck) s.explored s.more (known_there s)
  explored = explored_there s are

  by_name : live_query_fault (table_of_deck s.deck) s.explored s.more query ≡ key_fault (table_of_deck s.deck) k
  by_name =
      are.faults.key (table_of_deck s.deck) (node_key_at s.explored.keys) (explored_fault_at s.more) s.explored.graph
      (known_there s)
      explored.numbers_are sound.numbers.net.steps_in_range n known

  new : key_fault (table_of_deck s.deck) k ≡ None → (order : List ℕ)
      → AreNewlyClosedByWalk s.explored.graph s.explored.settled_flags query order
      → AreNewNumberedKeys (is_kept (live_view_of_nodes s.deck s.explored s.reductions).kept_outcomes) Asked
      (map (node_key_at s.explored.keys) order)
  new none order c =
      are.settles.key (table_of_deck s.deck) (node_key_at s.explored.keys) (explored_fault_at s.more) s.explored.graph
      (known_there s)
      s.explored.settled_flags (is_kept (live_view_of_nodes s.deck s.explored s.reductions).kept_outcomes)
      explored.numbers_are
      (settled_marks_are_cached_names s.deck s.explored s.reductions s.more (known_there s) sound.numbers explored) n
      order known none c

  known_fault : {A : Type 0} (Given : A → Type 0) (now : LiveView) (old later : ℕ) → IsRightLiveView now
      → (f : QueryFault)
      → IsLiveQueryAnswered (table_of_deck s.deck) s.explored s.more query (Err f)
      (live_view_of_nodes s.deck s.explored s.reductions) now
      old later
      → IsLiveQueryEffect (AsksKey k) (key_fault (table_of_deck s.deck) k) Given (Err f)
      (live_view_of_nodes s.deck s.explored s.reductions) now
      old
      later
  known_fault Given now old later right f a =
      asked_fault (AsksKey k) (key_fault (table_of_deck s.deck) k) (k ∷ key_reach (table_of_deck s.deck) k) Asked s.deck
      s.explored
      s.reductions s.more query sound (live_query_of_key (table_of_deck s.deck) k) by_name
      (live_query_reaches_key_list (table_of_deck s.deck) k) new Given now
      old later right f a

  known_settled : (now : NodeLists) (count old later : ℕ) → IsSettledAfter s query now count old later
      → IsLiveQueryEffect (AsksKey k) (key_fault (table_of_deck s.deck) k) (IsSettledKey now k) (Ok n)
      (live_view_of_nodes s.deck s.explored s.reductions) (live_view_of_nodes s.deck now count) old later
  known_settled now count old later after =
      asked_none (AsksKey k) (key_fault (table_of_deck s.deck) k) (k ∷ key_reach (table_of_deck s.deck) k) Asked s.deck
      s.explored
      s.reductions s.more query sound (live_query_of_key (table_of_deck s.deck) k) by_name
      (live_query_reaches_key_list (table_of_deck s.deck) k) new
      (IsSettledKey now k) (live_view_of_nodes s.deck now count) old later after.sound.is_right n after.order
      after.closing
      after.all (
        ap (λ (ks : List Key). node_key_at ks n) (sym after.keys),
        reached_settled s.deck s.explored now s.reductions count old later query after.order sound after.sound.numbers
            after.keys after.closing.closes after.all n within
            (n, member_first (To n) (To n) [] refl, inl refl),
      )
    where
      within : n < length s.explored.keys
      within =
          let a : n < length s.explored.graph = explored.numbers_are.known_in_range n known in
          let b : length s.explored.graph ≡ length s.explored.keys = sound.numbers.step_count in omega arith

-- ---- the key with this number
module _ (s : Stages) (are : AreAllStages s) (key : Key) (n : ℕ) (number : IsNumber s key n) where
  -- the result is lack of memory, or the fault of the key
  pub key_explored_fault : {A : Type 0} (Given : A → Type 0) (now : LiveView) (old later : ℕ) → IsRightLiveView now
      → (f : QueryFault)
      → IsLiveQueryAnswered (table_of_deck s.deck) s.explored s.more (To n ∷ []) (Err f)
      (live_view_of_nodes s.deck s.explored s.reductions) now old
      later
      → (result : Result A QueryFault) → result ≡ Err f
      → IsLiveQueryEffect (AsksKey key) (key_fault (table_of_deck s.deck) key) Given result
      (live_view_of_nodes s.deck s.start s.reductions) now
      old
      later
  key_explored_fault {A} Given now old later right f a result e =
      subst (λ (r : Result A QueryFault). IsLiveQueryEffect (AsksKey key) (key_fault (table_of_deck s.deck) key) Given r
      (live_view_of_nodes s.deck s.start s.reductions) now old later) (sym e)
      (subst (λ (p : LiveView × Key). IsLiveQueryEffect (AsksKey p.1) (key_fault (table_of_deck s.deck) p.1) Given
      (Err f) p.0 now old later)
      (λ i. (same_start s are.stages i, key_is s are.stages key n number i))
      (known_fault s are n (number_known s are.stages key n number) Given now old later right f a))

  -- or the names that the key reaches are settled, and so is the key
  pub key_explored_settled : (now : NodeLists) (count old later : ℕ) → IsSettledAfter s (To n ∷ []) now count old later
      → IsLiveQueryEffect (AsksKey key) (key_fault (table_of_deck s.deck) key) (IsSettledKey now key) (Ok n)
      (live_view_of_nodes s.deck s.start s.reductions) (live_view_of_nodes s.deck now count) old later
  key_explored_settled now count old later after =
      subst (λ (p : LiveView × Key). IsLiveQueryEffect (AsksKey p.1) (key_fault (table_of_deck s.deck) p.1)
      (IsSettledKey now p.1) (Ok n) p.0
      (live_view_of_nodes s.deck now count) old later)
      (λ i. (same_start s are.stages i, key_is s are.stages key n number i))
      (known_settled s are n (number_known s are.stages key n number) now count old later after)
