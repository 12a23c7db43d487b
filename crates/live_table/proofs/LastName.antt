-- One additional name at the end changes nothing about the others.
use Rattle.std.proofs.Common.{◌≡◌, ◌+◌, ◌<◌, ℕ, zero, suc, Bool, true, false, List, [], ◌∷◌, ◌++◌, length, Vec, Option}
use Rattle.std.proofs.Common.{Some, None, nat_eq, refl, sym, ◌∙◌, ap, subst, inl, inr, arith, length-append, Contains}
use Rattle.std.specs.declared.alloc.Global.{Global}
use Rattle.std.specs.List.{IsDistinct, slice_get}
use Rattle.std.specs.Option.{is_some}
use Rattle.std.proofs.lemmas.Bool.{cases_lt}
use Rattle.std.proofs.lemmas.List.{map-append}
use Rattle.def_entry.specs.declared.key.Key.{Key}
use Rattle.def_entry.specs.SameKeys.{is_entry_key_among}
use Rattle.def_entry.specs.Tables.{EntryTable, entry_at, is_entry_present}
use Rattle.name_walk.specs.declared.step.Step.{Step}
use Rattle.name_walk.specs.declared.step.Step.TheVariants.{To}
use Rattle.name_walk.specs.ClosedNames.{IsSettledInGraph}
use Rattle.name_walk.specs.Steps.{Graph, graph_steps}
use Rattle.name_walk.proofs.DoneNames.{settled_graph_law_holds}
use Rattle.tree_eval.specs.declared.outcome.Outcome.{Outcome}
use Rattle.table_names.specs.Meanings.{key_meaning}
use Rattle.table_names.specs.Words.{table_words_of_key}
use Rattle.table_names.proofs.KeyLists.{member_table_key_is_among}
use Rattle.table_names.specs.NumberedNames.{AreWords}
use Rattle.live_table.specs.declared.callee.Callee.{Callee}
use Rattle.live_table.specs.declared.dead_end.DeadEnd.{DeadEnd}
use Rattle.live_table.specs.Callees.{HasNodeRank}
use Rattle.live_table.specs.Exploration.{AreNodesAdded, IsExplorationAgenda, nodes_with_new_name}
use Rattle.live_table.specs.Looks.{AreNodeLooks}
use Rattle.live_table.specs.Sound.{AreSoundNodes, HasCachedLooks, HasCachedPartStarts, HasCachedRank, IsFaithfulNode}
use Rattle.live_table.specs.TableContents.{NodeLists, NodeLooks, cached_outcomes_of, node_key_at, node_looks_of}
use Rattle.live_table.specs.TableContents.{with_optional_cached_outcome}
use Rattle.live_table.proofs.Flags.{unsettled_flag_adds_no_count}
use Rattle.live_table.proofs.AddedNames.{appending_is_exploration_growth, node_key_is_read, node_key_stays_in_growth}
use Rattle.live_table.proofs.AddedNames.{same_words, settled_number_is_within_keys}
use Rattle.live_table.proofs.LookedKeys.{node_looks_stay_in_growth}
use Rattle.general_lemmas.proofs.Members.{member_at}

-- a new name has no outcome
new_name_has_no_cached_outcome : (ks : List Key) (os : List (Option Outcome)) (k : Key) → length os ≡ length ks
    → cached_outcomes_of (ks ++ k ∷ []) (os ++ None ∷ []) ≡ cached_outcomes_of ks os
new_name_has_no_cached_outcome [] [] k e = refl
new_name_has_no_cached_outcome [] (o ∷ os) k e = absurd (omega arith)
new_name_has_no_cached_outcome (x ∷ ks) [] k e = absurd (omega arith)
new_name_has_no_cached_outcome (x ∷ ks) (o ∷ os) k e = ap (with_optional_cached_outcome x o)
    (new_name_has_no_cached_outcome ks os k (omega arith))

-- a new name has the next number
new_node_key_is_last : (ks : List Key) (k : Key) → node_key_at (ks ++ k ∷ []) (length ks) ≡ k
new_node_key_is_last [] k = refl
new_node_key_is_last (x ∷ ks) k = new_node_key_is_last ks k

-- a mark that is set was set before
settled_flag_was_set_before : (bs : List Bool) (n : ℕ) → slice_get (bs ++ false ∷ []) n ≡ Some true
    → slice_get bs n ≡ Some true
settled_flag_was_set_before [] zero e = cc
settled_flag_was_set_before [] (suc n) e = cc
settled_flag_was_set_before (b ∷ bs) zero e = e
settled_flag_was_set_before (b ∷ bs) (suc n) e = settled_flag_was_set_before bs n e

-- the steps of all other names stay the same
new_node_keeps_other_steps : (g : Graph) (v : List Step) (n : ℕ) → v ≡ []
    → graph_steps (g ++ v ∷ []) n ≡ graph_steps g n
new_node_keeps_other_steps [] v zero e = e
new_node_keeps_other_steps [] v (suc n) e = refl
new_node_keeps_other_steps (w ∷ g) v zero e = refl
new_node_keeps_other_steps (w ∷ g) v (suc n) e = new_node_keeps_other_steps g v n e

-- the looks of all other names stay the same
new_node_keeps_other_looks : (g : NodeLooks) (v : Vec ℕ Global) (n : ℕ) → v.items ≡ []
    → node_looks_of (g ++ v ∷ []) n ≡ node_looks_of g n
new_node_keeps_other_looks [] v zero e = e
new_node_keeps_other_looks [] v (suc n) e = refl
new_node_keeps_other_looks (w ∷ g) v zero e = refl
new_node_keeps_other_looks (w ∷ g) v (suc n) e = new_node_keeps_other_looks g v n e

-- the item at each previous place stays the same
get_front : {A : Type 0} (xs : List A) (x : A) (n : ℕ) → n < length xs → slice_get (xs ++ x ∷ []) n ≡ slice_get xs n
get_front [] x n h = absurd (omega arith)
get_front (y ∷ xs) x zero h = refl
get_front (y ∷ xs) x (suc n) h = get_front xs x n (omega arith)

-- the length is one more
appended_list_is_one_longer : {A : Type 0} (xs : List A) (x : A) → length (xs ++ x ∷ []) ≡ suc (length xs)
appended_list_is_one_longer xs x = let e : length (xs ++ x ∷ []) ≡ length xs + 1 = length-append xs (x ∷ []) in
    omega arith

-- a key that is not among keys is at none of their places
pub absent_node_key_has_no_place : (ks : List Key) (k : Key) → is_entry_key_among ks k ≡ false → (n : ℕ) → n < length ks
    → node_key_at ks n ≡ k → ⊥
absent_node_key_has_no_place ks k e n h q =
    let t : is_entry_key_among ks k ≡ true = member_table_key_is_among ks k
    (member_at ks n k (node_key_is_read ks n h ∙ ap Some q)) in
    let z : true ≡ false = sym t ∙ e in cc

module _ (t : EntryTable) (l : NodeLists) (k : Key) (b : Bool) (c : Callee) (v : List Step) (w : Vec ℕ Global)
    (empty : v ≡ []) (none : w.items ≡ [])
    (flag : b ≡ is_entry_present t k) (nodes : AreSoundNodes t l)
    (new : (n : ℕ) → n < length l.keys → node_key_at l.keys n ≡ k → ⊥) where
  abbrev m : NodeLists
  m = nodes_with_new_name k b c v w l

  key_front : (n : ℕ) → n < length l.keys → node_key_at m.keys n ≡ node_key_at l.keys n
  key_front n h = node_key_stays_in_growth l.keys m.keys n (appending_is_exploration_growth l.keys (k ∷ [])) h

  apart : (n q : ℕ) → n < length m.keys → q < length m.keys → node_key_at m.keys n ≡ node_key_at m.keys q → n ≡ q
  apart n q h j e =
      let s : length m.keys ≡ suc (length l.keys) = appended_list_is_one_longer l.keys k in
      elim (cases_lt n (length l.keys)) [
        | inl a ↦ elim (cases_lt q (length l.keys)) [
          | inl b ↦ nodes.numbers_apart n q a b (sym (key_front n a) ∙ (e ∙ key_front q b))
          | inr b ↦
              let f : q ≡ length l.keys = omega arith in
              absurd (new n a (sym (key_front n a) ∙ (e ∙ (ap (node_key_at m.keys) f ∙ new_node_key_is_last l.keys k))))
        ]
        | inr a ↦ elim (cases_lt q (length l.keys)) [
          | inl b ↦
              let f : n ≡ length l.keys = omega arith in
              absurd (new q b (sym (key_front q b)
              ∙ (sym e ∙ (ap (node_key_at m.keys) f ∙ new_node_key_is_last l.keys k))))
          | inr b ↦ omega arith
        ]
      ]

  same_looks : (n : ℕ) → node_looks_of m.looks n ≡ node_looks_of l.looks n
  same_looks n = new_node_keeps_other_looks l.looks w n none

  same_graph : (n : ℕ) → graph_steps m.graph n ≡ graph_steps l.graph n
  same_graph n = new_node_keeps_other_steps l.graph v n empty

  graph_size : length m.graph ≡ suc (length l.graph)
  graph_size = appended_list_is_one_longer l.graph v

  was : (n : ℕ) → IsSettledInGraph m.settled_flags n → IsSettledInGraph l.settled_flags n
  was n e = settled_flag_was_set_before l.settled_flags n e

  still : (n : ℕ) → IsSettledInGraph l.settled_flags n → IsSettledInGraph m.settled_flags n
  still n e = appending_is_exploration_growth l.settled_flags (false ∷ []) n true e

  in_old : (n : ℕ) → IsSettledInGraph m.settled_flags n → n < length l.keys
  in_old n e = settled_number_is_within_keys t l nodes n (was n e)

  same_callee : (n : ℕ) → n < length l.keys → slice_get m.callees n ≡ slice_get l.callees n
  same_callee n h = get_front l.callees c n (let q : length l.callees ≡ length l.keys = nodes.callee_count in
      omega arith)

  faithful : (n : ℕ) → IsSettledInGraph m.settled_flags n → IsFaithfulNode t m n
  faithful n e ends =
      subst (λ (p : Key × List Step). AreWords t (node_key_at m.keys) ends (table_words_of_key t p.0) p.1)
      (λ j. (sym (key_front n (in_old n e)) j, sym (same_graph n) j))
      (same_words t (node_key_at l.keys) (node_key_at m.keys) ends ends (table_words_of_key t (node_key_at l.keys n))
      (graph_steps l.graph n)
      (λ q i. key_front q (settled_number_is_within_keys t l nodes q ((nodes.net.settled_right n (was n e)).1 q i)))
      (λ b i holder. refl)
      (nodes.faithful n (was n e) ends))

  starts : (n : ℕ) → IsSettledInGraph m.settled_flags n → HasCachedPartStarts t m n
  starts n e entry callee at is =
      nodes.part_starts n (was n e) entry callee (ap (entry_at t) (sym (key_front n (in_old n e))) ∙ at)
      (sym (same_callee n (in_old n e)) ∙ is)

  ranks : (n : ℕ) → IsSettledInGraph m.settled_flags n → HasCachedRank t m n
  ranks n e callee is =
      subst (λ (q : Key). HasNodeRank (key_meaning t q) callee) (sym (key_front n (in_old n e)))
      (nodes.ranks n (was n e) callee (sym (same_callee n (in_old n e)) ∙ is))

  looked : (n : ℕ) → IsSettledInGraph m.settled_flags n → HasCachedLooks t m n
  looked n e =
      let h = nodes.settled_looks n (was n e) in
      record {
        looks = subst (λ (p : Key × (List Step × List ℕ)). AreNodeLooks t m.keys (table_words_of_key t p.0) p.1.0 p.1.1)
            (λ j. (sym (key_front n (in_old n e)) j, (sym (same_graph n) j, sym (same_looks n) j)))
            (node_looks_stay_in_growth t l.keys m.keys (table_words_of_key t (node_key_at l.keys n))
            (graph_steps l.graph n) (node_looks_of l.looks n)
            (appending_is_exploration_growth l.keys (k ∷ []))
            (λ q i. settled_number_is_within_keys t l nodes q ((nodes.net.settled_right n (was n e)).1 q i)) h.looks);
        numbers_distinct = subst (IsDistinct nat_eq) (sym (same_looks n)) h.numbers_distinct;
      }

  named_nodes : AreSoundNodes t m
  named_nodes = record {
    step_count = appended_list_is_one_longer l.graph v
        ∙ (ap suc nodes.step_count ∙ sym (appended_list_is_one_longer l.keys k));
    outcome_count = appended_list_is_one_longer l.outcomes None
        ∙ (ap suc nodes.outcome_count ∙ sym (appended_list_is_one_longer l.keys k));
    callee_count = appended_list_is_one_longer l.callees c
        ∙ (ap suc nodes.callee_count ∙ sym (appended_list_is_one_longer l.keys k));
    look_count = appended_list_is_one_longer l.looks w
        ∙ (ap suc nodes.look_count ∙ sym (appended_list_is_one_longer l.keys k));
    flags_right =
        (λ i. nodes.flags_right i ++ flag i ∷ []) ∙ sym (map-append (is_entry_present t) l.keys (k ∷ []));
    count_right = nodes.count_right ∙ sym (unsettled_flag_adds_no_count l.settled_flags);
    marks_right = ap (λ (bs : List Bool). bs ++ false ∷ []) nodes.marks_right
        ∙ sym (map-append is_some l.outcomes (None ∷ []));
    numbers_apart = apart;
    net = record {
      steps_in_range = λ a b i.
          let h : b < length l.graph = nodes.net.steps_in_range a b
          (subst (λ (xs : List Step). Contains xs (To b)) (same_graph a) i)
          in
          let s : length m.graph ≡ suc (length l.graph) = graph_size in omega arith;
      mark_per_name = appended_list_is_one_longer l.settled_flags false
          ∙ (ap suc nodes.net.mark_per_name ∙ sym graph_size);
      settled_right = settled_graph_law_holds.other_graph l.graph m.graph l.settled_flags m.settled_flags
          nodes.net.settled_right
          (let s : length m.graph ≡ suc (length l.graph) = graph_size in omega arith)
          (λ n. (was n, still n)) (λ n e. same_graph n);
    };
    settled_have_entries = λ n e. subst (λ (q : Key). is_entry_present t q ≡ true) (sym (key_front n (in_old n e)))
        (nodes.settled_have_entries n (was n e));
    faithful = faithful;
    part_starts = starts;
    ranks = ranks;
    settled_looks = looked;
  }

  one_more_within : (n : ℕ) → n < length l.keys → n < length m.keys
  one_more_within n h = let s : length m.keys ≡ suc (length l.keys) = appended_list_is_one_longer l.keys k in
      omega arith

  pub named_added : (before list : List ℕ) (ends : List DeadEnd) → IsExplorationAgenda t l before list
      → AreNodesAdded t l m before list list ends ends
  named_added before list ends right = record {
    growth = record {
      nodes = named_nodes;
      same_outcomes = new_name_has_no_cached_outcome l.keys l.outcomes k nodes.outcome_count;
      list_right = record {
        explored_in_table = λ n i. one_more_within n (right.explored_in_table n i);
        listed_in_table = λ n i. one_more_within n (right.listed_in_table n i);
        listed_not_settled = λ n i e. right.listed_not_settled n i (was n e);
        new = right.new;
        listed_have_entries = λ n i. subst (λ (q : Key). is_entry_present t q ≡ true)
            (sym (key_front n (right.listed_in_table n i)))
            (right.listed_have_entries n i);
        numbers_distinct = right.numbers_distinct;
      };
      keys_more = appending_is_exploration_growth l.keys (k ∷ []);
      settled_still = still;
      list_more = λ i x e. e;
      ends_more = λ i x e. e;
    };
    same_nodes = record {
      steps = λ n h o. same_graph n;
      callees = λ n h o. same_callee n h;
      looks = λ n h o.
          same_looks n;
    };
  }
