-- Explored names stay explored until an edit.
use Rattle.std.proofs.Common.{◌≡◌, ◌⊎◌, ◌↔◌, ◌<◌, ℕ, true, List, [], set, length, Some, refl, sym, ◌∙◌, ap, subst}
use Rattle.std.proofs.Common.{inl, inr, Contains}
use Rattle.std.specs.List.{slice_get}
use Rattle.std.proofs.lemmas.Bool.{cases_eq}
use Rattle.std.proofs.lemmas.Option.{same_Some, slice_get_within}
use Rattle.def_entry.specs.declared.key.Key.{Key}
use Rattle.def_entry.specs.Tables.{EntryTable, is_entry_present}
use Rattle.name_walk.specs.ClosedNames.{IsSettledInGraph}
use Rattle.tree_eval.specs.declared.outcome.Outcome.{Outcome}
use Rattle.live_table.specs.declared.callee.Callee.{Callee}
use Rattle.live_table.specs.declared.dead_end.DeadEnd.{DeadEnd}
use Rattle.live_table.specs.Callees.{HasNodePartStarts}
use Rattle.live_table.specs.Due.{nodes_with_settled_outcome}
use Rattle.live_table.specs.Exploration.{AreAllExplored, AreNodesAdded, HasOwnExplorationSteps, IsKnownToExploration}
use Rattle.live_table.specs.Exploration.{WereExplored}
use Rattle.live_table.specs.Ranks.{node_callee_with_rank}
use Rattle.live_table.specs.Sound.{AreSoundNodes, HasCachedPartStarts}
use Rattle.live_table.specs.TableContents.{NodeLists}
use Rattle.live_table.proofs.AddedNames.{empty_list_is_agenda, node_key_stays_in_growth, nodes_grown_without_agenda}
use Rattle.live_table.proofs.Places.{element}
use Rattle.live_table.proofs.ReachedNames.{still_written}
use Rattle.general_lemmas.proofs.Places.{get_set_same, get_set_other}
use Rattle.general_lemmas.proofs.Members.{no_member}

-- about no names nothing is claimed
pub none_explored : (t : EntryTable) (l : NodeLists) (names : List ℕ) (ends : List DeadEnd) → names ≡ []
    → WereExplored t l names ends
none_explored t l names ends e =
    subst (λ (ns : List ℕ). WereExplored t l ns ends) (sym e)
    (record {
      explored_in_table = λ n i. absurd (no_member n i);
      explored_have_entries = λ n i. absurd (no_member n i);
      explored_have_steps = λ n i. absurd (no_member n i);
    })

-- written steps stay written when more names are known
pub exploration_steps_when_more_known : (t : EntryTable) (l : NodeLists) (before list names more : List ℕ)
    (ends : List DeadEnd) (n : ℕ)
    → ((m : ℕ) → IsKnownToExploration l before list m → IsKnownToExploration l names more m)
    → HasOwnExplorationSteps t l before list ends n
    → HasOwnExplorationSteps t l names more ends n
exploration_steps_when_more_known t l before list names more ends n wider w = record {
  steps = record {
    words = w.steps.words;
    targets = λ m i. wider m (w.steps.targets m i);
    dead_ends_within = w.steps.dead_ends_within;
  };
  part_starts = w.part_starts;
  looks = w.looks;
}

-- explored names stay explored when names are added
pub added_explored : (t : EntryTable) (l m : NodeLists) (before here there : List ℕ) (ends more : List DeadEnd)
    → AreSoundNodes t l
    → AreNodesAdded t l m before here there ends more → WereExplored t l before ends → WereExplored t m before more
added_explored t l m before here there ends more nodes added were = record {
  explored_in_table = added.growth.list_right.explored_in_table;
  explored_have_entries = λ n i. subst (λ (k : Key). is_entry_present t k ≡ true)
      (sym (node_key_stays_in_growth l.keys m.keys n added.growth.keys_more (were.explored_in_table n i)))
      (were.explored_have_entries n i);
  explored_have_steps = λ n i.
      still_written t l m before [] [] ends more n nodes
      (empty_list_is_agenda t l before [] were.explored_in_table refl)
      (nodes_grown_without_agenda t l m before here there ends more added.growth) (were.explored_in_table n i)
      (added.same_nodes.steps n (were.explored_in_table n i) tt)
      (added.same_nodes.callees n (were.explored_in_table n i) tt)
      (added.same_nodes.looks n (were.explored_in_table n i) tt) (were.explored_have_steps n i);
}

-- ---- explored names stay explored when a name is settled
module _ (t : EntryTable) (l : NodeLists) (n : ℕ) (o : Outcome) (rank : ℕ) (c : Callee)
    (at : slice_get l.callees n ≡ Some c)
    (before : List ℕ) (ends : List DeadEnd) (were : WereExplored t l before ends) where
  abbrev after : NodeLists
  after = nodes_with_settled_outcome n o (node_callee_with_rank rank c) l

  settled_still : (m : ℕ) → IsSettledInGraph l.settled_flags m → IsSettledInGraph (set l.settled_flags n true) m
  settled_still m e = elim (cases_eq m n) [
    | inl q ↦
        ap (slice_get (set l.settled_flags n true)) q
        ∙ get_set_same l.settled_flags n true
        (slice_get_within l.settled_flags n true (ap (slice_get l.settled_flags) (sym q) ∙ e))
    | inr ne ↦ get_set_other l.settled_flags n m true ne ∙ e
  ]

  known_after : (m : ℕ) → IsKnownToExploration l before [] m → IsKnownToExploration after before [] m
  known_after m (inl e) = inl (settled_still m e)
  known_after m (inr i) = inr i

  starts_after : (m : ℕ) → HasCachedPartStarts t l m → HasCachedPartStarts t after m
  starts_after m h e callee entry is = elim (cases_eq m n) [
    | inl q ↦
        subst (HasNodePartStarts e.what)
        (same_Some (node_callee_with_rank rank c) callee
        (sym (ap (slice_get (set l.callees n (node_callee_with_rank rank c))) q
        ∙ get_set_same l.callees n (node_callee_with_rank rank c) (slice_get_within l.callees n c at)) ∙ is))
        (h e c entry (ap (slice_get l.callees) q ∙ at))
    | inr ne ↦ h e callee entry (sym (get_set_other l.callees n m (node_callee_with_rank rank c) ne) ∙ is)
  ]

  written_after : (m : ℕ) → HasOwnExplorationSteps t l before [] ends m
      → HasOwnExplorationSteps t after before [] ends m
  written_after m w = record {
    steps = record {
      words = w.steps.words;
      targets = λ q i. known_after q (w.steps.targets q i);
      dead_ends_within = w.steps.dead_ends_within;
    };
    part_starts = starts_after m w.part_starts;
    looks = λ all. let own = w.looks all in record { looks = own.looks; numbers_distinct = own.numbers_distinct };
  }

  explored_after : WereExplored t (nodes_with_settled_outcome n o (node_callee_with_rank rank c) l) before ends
  explored_after = record {
    explored_in_table = were.explored_in_table;
    explored_have_entries = were.explored_have_entries;
    explored_have_steps = λ m i. written_after m (were.explored_have_steps m i);
  }

-- explored names stay explored when a name is settled, whatever the data of a function there
pub settled_explored : (t : EntryTable) (l later : NodeLists) (n : ℕ) (o : Outcome) (rank : ℕ) → n < length l.callees
    → ((c : Callee) → slice_get l.callees n ≡ Some c → later ≡ nodes_with_settled_outcome n o
    (node_callee_with_rank rank c) l)
    → (before : List ℕ) (ends : List DeadEnd) → WereExplored t l before ends → WereExplored t later before ends
settled_explored t l later n o rank h put before ends were =
    let found : (c : Callee) × (slice_get l.callees n ≡ Some c) = element l.callees n h in
    subst (λ (x : NodeLists). WereExplored t x before ends) (sym (put found.0 found.1))
    (explored_after t l n o rank found.0 found.1 before ends were)

-- ---- the names explored below a query are added to the explored ones
module _ (t : EntryTable) (l : NodeLists) (before list names : List ℕ) (ends : List DeadEnd)
    (all : AreAllExplored t l before list ends)
    (same : (m : ℕ) → Contains names m ↔ (Contains before m ⊎ Contains list m)) where
  known_before : (m : ℕ) → IsKnownToExploration l before [] m → IsKnownToExploration l names [] m
  known_before m (inl e) = inl e
  known_before m (inr (inl i)) = inr (inl ((same m).1 (inl i)))
  known_before m (inr (inr i)) = absurd (no_member m i)

  known_there : (m : ℕ) → IsKnownToExploration l before list m → IsKnownToExploration l names [] m
  known_there m (inl e) = inl e
  known_there m (inr i) = inr (inl ((same m).1 i))

  pub put_explored : WereExplored t l names ends
  put_explored = record {
    explored_in_table = λ n i.
        elim ((same n).0 i) [
          | inl j ↦ all.list_right.explored_in_table n j
          | inr j ↦ all.list_right.listed_in_table n j
        ];
    explored_have_entries = λ n i.
        elim ((same n).0 i) [
          | inl j ↦ all.earlier_explored.explored_have_entries n j
          | inr j ↦
              all.list_right.listed_have_entries n j
        ];
    explored_have_steps = λ n i. elim ((same n).0 i) [
      | inl j ↦ exploration_steps_when_more_known t l before [] names [] ends n known_before
          (all.earlier_explored.explored_have_steps n j)
      | inr j ↦ exploration_steps_when_more_known t l before list names [] ends n known_there
          (all.listed_have_steps n j)
    ];
  }
