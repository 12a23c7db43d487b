-- A name that is due is settled: its outcome is stored, and the nodes stay sound.
use Rattle.std.proofs.Common.{◌≡◌, ◌⊎◌, ◌+◌, ◌-◌, ◌^◌, ◌<◌, min, ℕ, Bool, true, false, List, [], ◌∷◌, set, length}
use Rattle.std.proofs.Common.{Contains, Some, is_some, sym, ◌∙◌, ap, subst, inl, inr, arith}
use Rattle.std.specs.FinMap as map_of
use Rattle.std.specs.List.{IsDistinct, slice_get}
use Rattle.std.specs.Option.{is_none}
use Rattle.std.proofs.lemmas.Bool.{cases_eq}
use Rattle.std.proofs.lemmas.List.{length-set, map-set}
use Rattle.std.proofs.lemmas.Option.{slice_get-get_or, same_Some, slice_get_within}
use Rattle.expr_tree.specs.declared.word_list.WordUse.{WordUse}
use Rattle.def_entry.specs.declared.key.Key.{Key}
use Rattle.def_entry.specs.Entries.{Entry}
use Rattle.def_entry.specs.Tables.{entry_at, is_entry_present}
use Rattle.deck.specs.Decks.{DeckContents}
use Rattle.deck.specs.Tables.{table_of_deck}
use Rattle.name_walk.specs.ClosedNames.{IsSettledInGraph}
use Rattle.name_walk.specs.ClosedNames as walk
use Rattle.name_walk.specs.Steps.{GraphLeadsTo, graph_steps}
use Rattle.tree_eval.specs.declared.outcome.Outcome.{Outcome}
use Rattle.tree_eval.specs.Entries.{rank_of_meaning}
use Rattle.table_names.specs.ClosedKeys.{IsClosedKey}
use Rattle.table_names.specs.Faults.{key_fault}
use Rattle.table_names.specs.Leads.{TableWordsLeadTo, TableWordsReach, table_word_targets}
use Rattle.table_names.specs.Leads as leads
use Rattle.table_names.specs.Meanings.{key_meaning, outcome}
use Rattle.table_names.specs.Reach.{key_reach}
use Rattle.table_names.specs.Words.{table_words_of_key}
use Rattle.table_names.proofs.ClosedLaws.{closed_word_law}
use Rattle.table_names.proofs.ReachedKeys.{table_name_reach_law}
use Rattle.live_table.specs.declared.callee.Callee.{Callee}
use Rattle.live_table.specs.declared.surroundings.Asked.TheVariants.{Name}
use Rattle.live_table.specs.QueryEffects.{live_view_with_settled}
use Rattle.live_table.specs.Callees.{HasNodePartStarts, HasNodeRank}
use Rattle.live_table.specs.Due.{IsDueToBeSettled, nodes_with_settled_outcome}
use Rattle.live_table.specs.New.{AreNewlySettled}
use Rattle.live_table.specs.Ranks.{node_callee_with_rank}
use Rattle.live_table.specs.Right.{IsRightLiveState}
use Rattle.live_table.specs.Right as right_of
use Rattle.live_table.specs.Scenes.{IsWordLedToSettled}
use Rattle.live_table.specs.TableView.{IsRightLiveView, LiveView, live_state_with_steps}
use Rattle.live_table.specs.Sound.{AreSoundNodes, HasCachedLooks, HasCachedPartStarts, HasCachedRank, IsFaithfulNode}
use Rattle.live_table.specs.Sound.{IsSoundLiveTable}
use Rattle.live_table.specs.States.{AsksKey, LiveState, live_state_after_query, with_settled}
use Rattle.live_table.specs.TableContents.{NodeLists, cached_outcomes_of, live_view_of_nodes, node_key_at}
use Rattle.live_table.specs.EvalInvariants.{AreRightNodesWithSubject, node_scene}
use Rattle.live_table.proofs.Flags.{settled_flag_adds_one_count}
use Rattle.live_table.proofs.OutcomesByKey.{key_settled, number_settled, settled_number_inserts_outcome}
use Rattle.live_table.proofs.OutcomesByKey.{unsettled_number_has_no_outcome}
use Rattle.live_table.proofs.New.{newly_settled_law}
use Rattle.live_table.proofs.Events.{event_keeps_live_state_right}
use Rattle.live_table.proofs.Places.{element}
use Rattle.live_table.proofs.NodeReports.{key_settled_words, led_by, settled_has_settled_targets}
use Rattle.live_table.proofs.ReportedWords.{IsLedBy}
use Rattle.general_lemmas.proofs.Places.{get_set_same, get_set_other}
use Rattle.general_lemmas.proofs.Members.{no_member, member_first, member_cases}

-- outcomes that are right do not depend on the counts
pub right_nodes_ignore_settled_count : (deck : DeckContents) (l : NodeLists) (r q : ℕ)
    → IsRightLiveView (live_view_of_nodes deck l r)
    → IsRightLiveView (live_view_of_nodes deck l q)
right_nodes_ignore_settled_count deck l r q h =
    record {
      settled_have_entries = h.settled_have_entries;
      settled_closed = h.settled_closed;
      reached_settled =
          h.reached_settled;
      outcomes_right = h.outcomes_right;
    }

-- a settled number that is queried
pub settled_function_is_node_subject : (deck : DeckContents) (l : NodeLists) (r : ℕ) → IsSoundLiveTable deck l r
    → (n : ℕ)
    → IsSettledInGraph l.settled_flags n
    → AreRightNodesWithSubject deck l (Name n)
settled_function_is_node_subject deck l r sound n e = record {
  numbers = sound.numbers;
  is_right = right_nodes_ignore_settled_count deck l r 0 sound.is_right;
  subject = settled_has_settled_targets deck l sound.numbers
      (right_nodes_ignore_settled_count deck l r 0 sound.is_right) n e;
}

-- ---- by name: a closed key that leads only to settled names
module _ (s : LiveView) (k : Key) (right : IsRightLiveView s) (there : is_entry_present (table_of_deck s.deck) k ≡ true)
    (closed : IsClosedKey (table_of_deck s.deck) k)
    (below : (m : Key) → TableWordsLeadTo (table_of_deck s.deck) (table_words_of_key (table_of_deck s.deck) k) m
    → right_of.IsKeySettled (live_state_with_steps s 0) m)
    (fresh : right_of.IsKeySettled (live_state_with_steps s 0) k → ⊥) where
  abbrev before : LiveState
  before = live_state_with_steps s 0

  abbrev reached : List Key
  reached = k ∷ key_reach (table_of_deck s.deck) k

  all_reached : {words : List WordUse} {m : Key} → TableWordsReach (table_of_deck s.deck) words m
      → ((x : Key) → TableWordsLeadTo (table_of_deck s.deck) words x → right_of.IsKeySettled before x)
      → right_of.IsKeySettled before m
  all_reached {m = m} (leads.at_once h) f = f m h
  all_reached {m = m} (leads.further {n = n} h r) f = right.reached_settled n m (f n h) r

  is_new : AreNewlySettled before reached (k ∷ [])
  unfolding IsDistinct
  is_new = record { unsettled_names = λ m. (to m, from m); names_distinct = (tt, tt) }
    where
      to : (m : Key) → Contains (k ∷ []) m → Contains reached m × (right_of.IsKeySettled before m → ⊥)
      to m i = elim (member_cases m k [] i) [
        | inl e ↦ (
          member_first m k (key_reach (table_of_deck s.deck) k) e,
          λ h. fresh
              (subst (λ (x : Key). right_of.IsKeySettled before x) e h),
        )
        | inr j ↦ absurd (no_member m j)
      ]

      from : (m : Key) → Contains reached m × (right_of.IsKeySettled before m → ⊥) → Contains (k ∷ []) m
      from m h = elim (member_cases m k (key_reach (table_of_deck s.deck) k) h.0) [
        | inl e ↦ member_first m k [] e
        | inr j ↦ absurd (h.1 (all_reached
            ((table_name_reach_law.reached_words (table_of_deck s.deck) (table_words_of_key (table_of_deck s.deck) k)
            ((closed_word_law.key (table_of_deck s.deck) k).0 closed) m).0 j) below))
      ]

  pub put_right : IsRightLiveView (live_view_with_settled s (k ∷ []))
  put_right =
      let asked : IsRightLiveState
      (live_state_after_query (is_none (key_fault (table_of_deck s.deck) k)) reached before) =
      event_keeps_live_state_right (AsksKey k) before there right in
      let settles : IsRightLiveState (with_settled reached before) =
      subst (λ (b : Bool). IsRightLiveState (live_state_after_query b reached before)) (ap is_none closed) asked in
      let h = subst IsRightLiveState (newly_settled_law before reached (k ∷ []) right is_new) settles in
      record {
        settled_have_entries = h.settled_have_entries;
        settled_closed = h.settled_closed;
        reached_settled =
            h.reached_settled;
        outcomes_right = h.outcomes_right;
      }

-- the outcome of a name was stored with its rank, and one more was counted
pub record IsPut (deck : DeckContents) (l : NodeLists) (r n : ℕ) (o : Outcome) (rank now : ℕ) (later : NodeLists) : Type
    0 where
  pub outcome_is : o ≡ outcome (table_of_deck deck) (node_key_at l.keys n)
  pub rank_is : rank ≡ rank_of_meaning (key_meaning (table_of_deck deck) (node_key_at l.keys n))
  pub counted : now ≡ min (2 ^ 64 - 1) (r + 1)
  pub put : (c : Callee) → slice_get l.callees n ≡ Some c → later ≡ nodes_with_settled_outcome n o
      (node_callee_with_rank rank c) l

-- ---- a name that is due, by number
module _ (deck : DeckContents) (l : NodeLists) (r n : ℕ) (sound : IsSoundLiveTable deck l r)
    (due : IsDueToBeSettled (table_of_deck deck) l n) where
  abbrev the_key : Key
  the_key = node_key_at l.keys n

  pub surrounded : AreRightNodesWithSubject deck l (Name n)
  surrounded = record {
    numbers = sound.numbers;
    is_right = right_nodes_ignore_settled_count deck l r 0 sound.is_right;
    subject = record {
      in_table = due.in_table;
      key_has_entry = due.key_has_entry;
      key_closed = due.key_closed;
      targets_settled = due.targets_settled;
      faithful = due.faithful;
      part_starts = due.part_starts;
    };
  }

  abbrev Settled : Key → Type 0
  Settled k = right_of.IsKeySettled (live_state_with_steps (live_view_of_nodes deck l r) 0) k

  below_by_name : (m : Key) → TableWordsLeadTo (table_of_deck deck) (table_words_of_key (table_of_deck deck) the_key) m
      → right_of.IsKeySettled (live_state_with_steps (live_view_of_nodes deck l r) 0) m
  below_by_name m (u, i, t) =
      let at : slice_get (table_words_of_key (table_of_deck deck) the_key) i.0 ≡ Some u =
      slice_get-get_or (table_words_of_key (table_of_deck deck) the_key) i.0 u i.1 ∙ ap Some i.2 in
      let h : IsLedBy (node_scene deck l (Name n)) u (graph_steps l.graph n) i.0 =
      led_by deck l (Name n) surrounded (table_words_of_key (table_of_deck deck) the_key) (graph_steps l.graph n)
      (key_settled_words deck l (Name n) surrounded n surrounded.subject) i.0 u at in
      by h.n h.m h.led h.led.single_target
    where
      by : (x y : ℕ) → IsWordLedToSettled (node_scene deck l (Name n)) u x y
          → ((table_word_targets (table_of_deck deck) u ≡ node_key_at l.keys x ∷ []) ×
          (x ≡ y)) ⊎ (table_word_targets (table_of_deck deck) u ≡ node_key_at l.keys x ∷ node_key_at l.keys y ∷ [])
          → Settled m
      by x y led (inl e) = elim
          (member_cases m (node_key_at l.keys x) [] (subst (λ (ks : List Key). Contains ks m) e.0 t)) [
            | inl q ↦ subst Settled (sym q) (key_settled deck l r sound.numbers x led.user_settled)
            | inr j ↦ absurd (no_member m j)
          ]
      by x y led (inr e) = elim (member_cases m (node_key_at l.keys x) (node_key_at l.keys y ∷ [])
          (subst (λ (ks : List Key). Contains ks m) e t)) [
            | inl q ↦ subst Settled (sym q) (key_settled deck l r sound.numbers x led.user_settled)
            | inr j ↦ elim (member_cases m (node_key_at l.keys y) [] j) [
              | inl q ↦ subst Settled (sym q) (key_settled deck l r sound.numbers y led.target_settled)
              | inr z ↦ absurd (no_member m z)
            ]
          ]

  not_settled : right_of.IsKeySettled (live_state_with_steps (live_view_of_nodes deck l r) 0) the_key → ⊥
  not_settled e = let z : Some false ≡ Some true =
      sym due.still_unsettled ∙ number_settled deck l r sound.numbers n due.in_table e in cc

  module _ (o : Outcome) (c : Callee) (now : ℕ) (is : o ≡ outcome (table_of_deck deck) the_key)
      (starts : (e : Entry) → entry_at (table_of_deck deck) the_key ≡ Some e → HasNodePartStarts e.what c)
      (rank : HasNodeRank (key_meaning (table_of_deck deck) the_key) c)
      (count : now ≡ min (2 ^ 64 - 1) (r + 1)) where
    abbrev after : NodeLists
    after = nodes_with_settled_outcome n o c l

    abbrev Known : ℕ → Type 0
    Known m = (m ≡ n) ⊎ ((m ≡ n → ⊥) × IsSettledInGraph l.settled_flags m)

    pub shown_after : live_view_of_nodes deck (nodes_with_settled_outcome n o c l) now ≡ live_view_with_settled
        (live_view_of_nodes deck l r) (the_key ∷ [])
    shown_after = λ i. record {
      deck = deck;
      kept_outcomes = (settled_number_inserts_outcome l.keys l.outcomes n o sound.numbers.numbers_apart due.in_table
          (unsettled_number_has_no_outcome l.outcomes n
          (sym (ap (λ (bs : List Bool). slice_get bs n) sound.numbers.marks_right)
          ∙ due.still_unsettled))
          ∙ ap (map_of.insert (cached_outcomes_of l.keys l.outcomes) the_key) is) i;
      reductions = count i;
    }

    set_there : (m : ℕ) → IsSettledInGraph l.settled_flags m → IsSettledInGraph (set l.settled_flags n true) m
    set_there m e = elim (cases_eq m n) [
      | inl q ↦
          ap (slice_get (set l.settled_flags n true)) q ∙ get_set_same l.settled_flags n true
          (slice_get_within l.settled_flags n false due.still_unsettled)
      | inr ne ↦ get_set_other l.settled_flags n m true ne ∙ e
    ]

    set_from : (m : ℕ) → IsSettledInGraph (set l.settled_flags n true) m → Known m
    set_from m e =
        elim (cases_eq m n) [ inl q ↦ inl q | inr ne ↦ inr (ne, sym (get_set_other l.settled_flags n m true ne) ∙ e) ]

    ends_of : (m : ℕ) → Known m
        → walk.IsClosedInGraph l.graph m × ((q : ℕ) → GraphLeadsTo l.graph m q → IsSettledInGraph
        (set l.settled_flags n true) q)
    ends_of m (inl e) =
        subst (λ (x : ℕ). walk.IsClosedInGraph l.graph x
        × ((q : ℕ) → GraphLeadsTo l.graph x q → IsSettledInGraph (set l.settled_flags n true)
        q)) (sym e)
        (due.name_closed, λ q h. set_there q (due.targets_settled q h))
    ends_of m (inr e) =
        ((sound.numbers.net.settled_right m e.1).0, λ q h. set_there q ((sound.numbers.net.settled_right m e.1).1 q h))

    present_of : (m : ℕ) → Known m → is_entry_present (table_of_deck deck) (node_key_at l.keys m) ≡ true
    present_of m (inl e) = subst (λ (x : ℕ). is_entry_present (table_of_deck deck) (node_key_at l.keys x) ≡ true)
        (sym e) due.key_has_entry
    present_of m (inr e) = sound.numbers.settled_have_entries m e.1

    faithful_of : (m : ℕ) → Known m → IsFaithfulNode (table_of_deck deck) l m
    faithful_of m (inl e) = subst (IsFaithfulNode (table_of_deck deck) l) (sym e) due.faithful
    faithful_of m (inr e) = sound.numbers.faithful m e.1

    callee_there : slice_get (set l.callees n c) n ≡ Some c
    callee_there = get_set_same l.callees n c (let a : n < length l.keys = due.in_table in let b : length l.callees ≡
        length l.keys = sound.numbers.callee_count in omega arith)

    starts_of : (m : ℕ) → Known m → HasCachedPartStarts (table_of_deck deck) after m
    starts_of m (inl e) = subst (HasCachedPartStarts (table_of_deck deck) after) (sym e)
        (λ x d entry at. subst (HasNodePartStarts x.what) (same_Some c d (sym callee_there ∙ at)) (starts x entry))
    starts_of m (inr e) =
        λ x d entry at. sound.numbers.part_starts m e.1 x d entry (sym (get_set_other l.callees n m c e.0) ∙ at)

    rank_of : (m : ℕ) → Known m → HasCachedRank (table_of_deck deck) after m
    rank_of m (inl e) = subst (HasCachedRank (table_of_deck deck) after) (sym e)
        (λ d at. subst (HasNodeRank (key_meaning (table_of_deck deck) the_key)) (same_Some c d (sym callee_there ∙ at))
        rank)
    rank_of m (inr e) = λ d at. sound.numbers.ranks m e.1 d (sym (get_set_other l.callees n m c e.0) ∙ at)

    looked_of : (m : ℕ) → Known m → HasCachedLooks (table_of_deck deck) l m
    looked_of m (inl e) = subst (HasCachedLooks (table_of_deck deck) l) (sym e) due.looks
    looked_of m (inr e) = sound.numbers.settled_looks m e.1

    nodes_after : AreSoundNodes (table_of_deck deck) (nodes_with_settled_outcome n o c l)
    nodes_after = record {
      step_count = sound.numbers.step_count;
      outcome_count = length-set l.outcomes n (Some o) ∙ sound.numbers.outcome_count;
      callee_count = length-set l.callees n c ∙ sound.numbers.callee_count;
      look_count = sound.numbers.look_count;
      flags_right = sound.numbers.flags_right;
      count_right = ap (λ k. k + 1) sound.numbers.count_right
          ∙ sym (settled_flag_adds_one_count l.settled_flags n due.still_unsettled);
      marks_right =
          ap (λ (bs : List Bool). set bs n true) sound.numbers.marks_right
          ∙ sym (map-set is_some l.outcomes n (Some o));
      numbers_apart = sound.numbers.numbers_apart;
      net = record {
        steps_in_range = sound.numbers.net.steps_in_range;
        mark_per_name = length-set l.settled_flags n true ∙ sound.numbers.net.mark_per_name;
        settled_right = λ m e. ends_of m (set_from m e);
      };
      settled_have_entries = λ m e. present_of m (set_from m e);
      faithful = λ m e. faithful_of m (set_from m e);
      part_starts = λ m e. starts_of m (set_from m e);
      ranks = λ m e. rank_of m (set_from m e);
      settled_looks = λ m e.
          let h = looked_of m (set_from m e) in
          record { looks = h.looks; numbers_distinct = h.numbers_distinct };
    }

    pub sound_after : IsSoundLiveTable deck (nodes_with_settled_outcome n o c l) now
    sound_after = record {
      numbers = nodes_after;
      is_right = subst IsRightLiveView (sym shown_after)
          (put_right (live_view_of_nodes deck l r) the_key sound.is_right due.key_has_entry
          due.key_closed below_by_name not_settled);
      few_reductions = omega (arith, count);
    }

  -- the previous data of a function, with its rank
  module _ (o : Outcome) (rank now : ℕ) (later : NodeLists) (is : IsPut deck l r n o rank now later) where
    old_callee : (c : Callee) × (slice_get l.callees n ≡ Some c)
    old_callee = element l.callees n (let a : n < length l.keys = due.in_table in let b : length l.callees ≡ length
        l.keys = sound.numbers.callee_count in omega arith)

    later_is : later ≡ nodes_with_settled_outcome n o (node_callee_with_rank rank old_callee.0) l
    later_is = is.put old_callee.0 old_callee.1

    starts_are : (e : Entry) → entry_at (table_of_deck deck) the_key ≡ Some e
        → HasNodePartStarts e.what (node_callee_with_rank rank old_callee.0)
    starts_are e entry = due.part_starts e old_callee.0 entry old_callee.1

    pub settled_sound : IsSoundLiveTable deck later now
    settled_sound = subst (λ (x : NodeLists). IsSoundLiveTable deck x now) (sym later_is)
        (sound_after o (node_callee_with_rank rank old_callee.0) now is.outcome_is starts_are is.rank_is is.counted)

    pub settled_nodes : (p : Outcome) × (c : Callee) × (later ≡ nodes_with_settled_outcome n p c l)
    settled_nodes = (o, node_callee_with_rank rank old_callee.0, later_is)

    pub settled_shown : live_view_of_nodes deck later now ≡ live_view_with_settled (live_view_of_nodes deck l r)
        (the_key ∷ [])
    settled_shown = ap (λ (x : NodeLists). live_view_of_nodes deck x now) later_is
        ∙ shown_after o (node_callee_with_rank rank old_callee.0) now is.outcome_is starts_are is.rank_is is.counted
