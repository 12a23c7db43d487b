-- The facts known about faults stay right until an edit.
use Rattle.std.proofs.Common.{◌≡◌, ◌⊎◌, ◌↔◌, ◌≤◌, ◌<◌, ℕ, Bool, true, false, List, [], length, set, Some, refl, sym, ◌∙◌, ap}
use Rattle.std.proofs.Common.{Option, None, is_some, subst, inl, inr, arith, true≢false, Contains}
use Rattle.std.specs.List.{slice_get}
use Rattle.std.proofs.lemmas.Bool.{cases_eq}
use Rattle.std.proofs.lemmas.Option.{slice_get_within}
use Rattle.def_entry.specs.Tables.{EntryTable}
use Rattle.name_walk.specs.declared.step.Step.{Step}
use Rattle.name_walk.specs.ClosedNames.{IsSettledInGraph}
use Rattle.name_walk.specs.declared.fault.Fault.{Fault}
use Rattle.name_walk.specs.Faults.{steps_fault_after_path}
use Rattle.name_walk.specs.Findings.{AreNoWalkFindings, AreWalkedFromQuery, WalkFindings}
use Rattle.name_walk.specs.FindingsLaws.{WalkFindingsLaw}
use Rattle.name_walk.specs.NewlyClosed.{IsReachedInGraph}
use Rattle.name_walk.specs.Steps.{Graph, GraphLeadsTo, GraphReaches, at_once, further, graph_steps}
use Rattle.name_walk.specs.Walks.{IsWalked, walk_fault_view}
use Rattle.tree_eval.specs.declared.outcome.Outcome.{Outcome}
use Rattle.table_names.specs.NumberedNames.{LeadToKnownNumbers}
use Rattle.live_table.specs.declared.callee.Callee.{Callee}
use Rattle.live_table.specs.declared.dead_end.DeadEnd.{DeadEnd}
use Rattle.live_table.specs.QueryEffects.{AreUnsettledNamesClosed}
use Rattle.live_table.specs.Due.{nodes_with_settled_outcome}
use Rattle.live_table.specs.Exploration.{AreAllExplored, AreNodesAdded, AreNodesGrown, IsKnownToExploration}
use Rattle.live_table.specs.Exploration.{WereExplored, is_known_to_exploration}
use Rattle.live_table.specs.KnownFaults.{AreExploredFaultsKnown, AreMoreNamesSettled, HaveSameNodeSteps}
use Rattle.live_table.specs.Ranks.{node_callee_with_rank}
use Rattle.live_table.specs.Sound.{AreSoundNodes}
use Rattle.live_table.specs.TableContents.{NodeLists}
use Rattle.live_table.proofs.AllExplored.{known_to_exploration_if_found}
use Rattle.live_table.proofs.AddedNames.{exploration_growth_is_no_shorter}
use Rattle.live_table.proofs.Places.{element}
use Rattle.general_lemmas.proofs.Places.{get_set_same, get_set_other}
use Rattle.general_lemmas.proofs.Members.{no_member}

-- without findings nothing is claimed
pub explored_faults_without_findings : WalkFindingsLaw → (l : NodeLists) (names : List ℕ) (f : WalkFindings)
    → AreNoWalkFindings f
    → AreExploredFaultsKnown l names f
explored_faults_without_findings law l names f none = record {
  is_right = law.nothing l.graph l.settled_flags f none;
  names_explored = λ n i. absurd (no_member n (subst (λ (ns : List ℕ). Contains ns n) none.names i));
}

-- the facts known about faults stay right when names are added and the explored ones have the same steps
pub explored_faults_after_growth : WalkFindingsLaw → (t : EntryTable) (l m : NodeLists) (before here there : List ℕ)
    (ends more : List DeadEnd)
    (f : WalkFindings) → AreSoundNodes t l → AreNodesGrown t l m before here there ends more
    → HaveSameNodeSteps before l m
    → AreExploredFaultsKnown l before f → AreExploredFaultsKnown m before f
explored_faults_after_growth law t l m before here there ends more f nodes grown same known = record {
  is_right = law.still l.graph m.graph l.settled_flags m.settled_flags f known.is_right grown.nodes.net
      (let a : length l.graph ≡ length l.keys = nodes.step_count in
      let b : length m.graph ≡ length m.keys = grown.nodes.step_count in
      let c : length l.keys ≤ length m.keys = exploration_growth_is_no_shorter l.keys m.keys grown.keys_more in
      omega arith)
      grown.settled_still (λ n i. same n (known.names_explored n i));
  names_explored = known.names_explored;
}

-- added names do not change the steps of others
pub added_nodes_keep_steps : (t : EntryTable) (l m : NodeLists) (before here there : List ℕ) (ends more : List DeadEnd)
    → AreNodesAdded t l m before here there ends more → WereExplored t l before ends → HaveSameNodeSteps before l m
added_nodes_keep_steps t l m before here there ends more added were n i =
    added.same_nodes.steps n (were.explored_in_table n i) tt

-- the facts known about faults stay right when more names are settled
pub explored_faults_after_settling : WalkFindingsLaw → (t : EntryTable) (l m : NodeLists) (names : List ℕ)
    (f : WalkFindings) → AreSoundNodes t m
    → AreMoreNamesSettled l m
    → AreExploredFaultsKnown l names f → AreExploredFaultsKnown m names f
explored_faults_after_settling law t l m names f nodes later known = record {
  is_right = law.still l.graph m.graph l.settled_flags m.settled_flags f known.is_right nodes.net
      (let a : length m.graph ≡ length l.graph = ap length later.graph in omega arith)
      later.settled_stay (λ n i. ap (λ g. graph_steps g n) later.graph);
  names_explored = known.names_explored;
}

-- ---- nothing differs except that more names are settled
pub no_more_names_settled : (l : NodeLists) → AreMoreNamesSettled l l
no_more_names_settled l = record { graph = refl; settled_stay = λ n e. e }

pub more_names_settled_twice : (l m k : NodeLists) → AreMoreNamesSettled l m → AreMoreNamesSettled m k
    → AreMoreNamesSettled l k
more_names_settled_twice l m k a b =
    record { graph = b.graph ∙ a.graph; settled_stay = λ n e. b.settled_stay n (a.settled_stay n e) }

still_settled : (ss : List Bool) (n m : ℕ) → IsSettledInGraph ss m → IsSettledInGraph (set ss n true) m
still_settled ss n m e = elim (cases_eq m n) [
  | inl q ↦
      ap (slice_get (set ss n true)) q
      ∙ get_set_same ss n true (slice_get_within ss n true (ap (slice_get ss) (sym q) ∙ e))
  | inr ne ↦ get_set_other ss n m true ne ∙ e
]

-- a name was settled, whatever the data of a function there
pub settled_name_is_one_more_settled : (l later : NodeLists) (n : ℕ) (o : Outcome) (rank : ℕ) → n < length l.callees
    → ((c : Callee) → slice_get l.callees n ≡ Some c → later ≡ nodes_with_settled_outcome n o
    (node_callee_with_rank rank c) l) → AreMoreNamesSettled l later
settled_name_is_one_more_settled l later n o rank h put =
    let found : (c : Callee) × (slice_get l.callees n ≡ Some c) = element l.callees n h in
    subst (λ (x : NodeLists). AreMoreNamesSettled l x) (sym (put found.0 found.1))
    (record { graph = refl; settled_stay = λ m e. still_settled l.settled_flags n m e })

-- ---- a search and a walk agree
-- a walk without a fault
pub faultless_walk_closes_unsettled : (l : NodeLists) (query : List Step) (order : List ℕ) (r : Option Fault)
    → is_some r ≡ false → IsWalked l.graph l.settled_flags query order r
    → AreUnsettledNamesClosed l query order
faultless_walk_closes_unsettled l query order None none walked = record {
  query_has_no_fault = walked.0;
  closes = walked.1;
}
faultless_walk_closes_unsettled l query order (Some f) none walked = absurd (true≢false none)

-- a walk after a search that found no fault
walk_after_search_closes_unsettled : (l : NodeLists) (query : List Step) (order : List ℕ) (r : Option Fault)
    → steps_fault_after_path l.graph [] query ≡ None → IsWalked l.graph l.settled_flags query order r
    → AreUnsettledNamesClosed l query order
walk_after_search_closes_unsettled l query order None none walked =
    faultless_walk_closes_unsettled l query order None refl walked
walk_after_search_closes_unsettled l query order (Some f) none walked = let e : None ≡ Some (walk_fault_view f) =
    sym none ∙ walked in cc

pub equal_walk_closes_unsettled : (l : NodeLists) (query : List Step) (order : List ℕ) (r : Option Fault)
    → steps_fault_after_path l.graph [] query ≡ None → (g : Graph) (s : List Bool) → g ≡ l.graph → s ≡ l.settled_flags
    → IsWalked g s query order r → AreUnsettledNamesClosed l query order
equal_walk_closes_unsettled l query order r none g s same_graph same_settled walked =
    walk_after_search_closes_unsettled l query order r none
    (subst (λ (p : Graph × List Bool). IsWalked p.0 p.1 query order r) (λ i. (same_graph i, same_settled i)) walked)

-- ---- the names below a query were explored
module _ (t : EntryTable) (l : NodeLists) (before list : List ℕ) (ends : List DeadEnd) (nodes : AreSoundNodes t l)
    (all : AreAllExplored t l before list ends) where
  wider : (m : ℕ) → IsKnownToExploration l before [] m → IsKnownToExploration l before list m
  wider m (inl e) = inl e
  wider m (inr (inl i)) = inr (inl i)
  wider m (inr (inr i)) = absurd (no_member m i)

  step_known : (n m : ℕ) → IsKnownToExploration l before list n → GraphLeadsTo l.graph n m
      → IsKnownToExploration l before list m
  step_known n m (inl e) destination = inl ((nodes.net.settled_right n e).1 m destination)
  step_known n m (inr (inl i)) destination = wider m ((all.earlier_explored.explored_have_steps n i).steps.targets
      m destination)
  step_known n m (inr (inr i)) destination = (all.listed_have_steps n i).steps.targets m destination

  below_known : (n m : ℕ) → IsKnownToExploration l before list n → GraphReaches l.graph n m
      → IsKnownToExploration l before list m
  below_known n m k (at_once destination) = step_known n m k destination
  below_known n m k (further destination r) = below_known _ m (step_known n _ k destination) r

  pub reached_known : (query : List Step) → LeadToKnownNumbers (is_known_to_exploration l.settled_flags before list)
      query → (n : ℕ)
      → IsReachedInGraph l.graph query n → IsKnownToExploration l before list n
  reached_known query leads n (r, i, way) =
      let k : IsKnownToExploration l before list r = known_to_exploration_if_found l before list r (leads r i) in
      elim way [
        | inl e ↦ subst (λ (x : ℕ). IsKnownToExploration l before list x) (sym e) k
        | inr q ↦ below_known r n k q
      ]

  -- each name for which a search has a finding was explored
  pub found_among : (query : List Step) (old new names : List ℕ)
      → LeadToKnownNumbers (is_known_to_exploration l.settled_flags before list) query
      → ((n : ℕ) → Contains old n → Contains before n) → AreWalkedFromQuery l.graph l.settled_flags query old new
      → ((m : ℕ) → Contains names m ↔ (Contains before m ⊎ Contains list m)) → (n : ℕ) → Contains new n
      → Contains names n
  found_among query old new names leads among from put n i = elim (from n i) [
    | inl j ↦ (put n).1 (inl (among n j))
    | inr below ↦ elim (reached_known query leads n below.0) [
      | inl e ↦ absurd (below.1 e)
      | inr j ↦ (put n).1 j
    ]
  ]
