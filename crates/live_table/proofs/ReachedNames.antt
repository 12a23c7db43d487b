-- The names below a query get their steps in turn.
use Rattle.std.proofs.Common.{◌≡◌, ◌+◌, ◌<◌, ◌≤◌, ℕ, zero, suc, true, false, List, [], ◌∷◌, ◌++◌, set, take, length}
use Rattle.std.proofs.Common.{Vec, Some, None, nat_eq, refl, sym, ◌∙◌, ap, subst, inl, inr, arith, Contains}
use Rattle.std.specs.declared.alloc.Global.{Global}
use Rattle.std.specs.List.{IsDistinct, slice_get}
use Rattle.std.proofs.lemmas.Bool.{cases_eq, cases_lt, eq-eqb}
use Rattle.std.proofs.lemmas.List.{get_or-set_other, get_or-set_same, length-set, take_all}
use Rattle.std.proofs.lemmas.List.Elements.{Contains-push_cases}
use Rattle.std.proofs.lemmas.Option.{same_Some, slice_get_within}
use Rattle.def_entry.specs.declared.key.Key.{Key}
use Rattle.def_entry.specs.Entries.{Entry}
use Rattle.def_entry.specs.Tables.{EntryTable, entry_at, is_entry_present}
use Rattle.name_walk.specs.declared.step.Step.{Step}
use Rattle.name_walk.specs.declared.step.Step.TheVariants.{To}
use Rattle.name_walk.specs.ClosedNames.{IsSettledInGraph}
use Rattle.name_walk.specs.Steps.{Graph, graph_steps}
use Rattle.name_walk.proofs.Lists.{all_at}
use Rattle.name_walk.proofs.DoneNames.{settled_graph_law_holds}
use Rattle.name_walk.proofs.Members.{take_member}
use Rattle.table_names.specs.Words.{table_words_of_key}
use Rattle.table_names.specs.NumberedNames.{AreWords}
use Rattle.live_table.specs.declared.callee.Callee.{Callee}
use Rattle.live_table.specs.declared.dead_end.DeadEnd.{DeadEnd}
use Rattle.live_table.specs.Callees.{HasNodePartStarts}
use Rattle.live_table.specs.Exploration.{AreAllExplored, AreExplorationSteps, AreNodesAdded, AreNodesGrown}
use Rattle.live_table.specs.Exploration.{AreOtherNodesSame, IsExplorationAgenda}
use Rattle.live_table.specs.Exploration.{HasOwnExplorationSteps, WereExplored, nodes_with_steps}
use Rattle.live_table.specs.KnownFaults.{HaveSameNodeSteps}
use Rattle.live_table.specs.Looks.{AllNodeStepsLead, AreNodeLooks}
use Rattle.live_table.specs.Sound.{AreSoundNodes, HasCachedLooks}
use Rattle.live_table.specs.TableContents.{NodeLists, NodeLooks, node_key_at, node_look_numbers, node_looks_of}
use Rattle.live_table.proofs.AddedNames.{exploration_growth_keeps_members, known_node_is_within_keys}
use Rattle.live_table.proofs.AddedNames.{node_key_stays_in_growth, nodes_are_growth_of_themselves}
use Rattle.live_table.proofs.AddedNames.{nodes_grown_without_agenda, two_node_growths_are_one}
use Rattle.live_table.proofs.AddedNames.{exploration_growth_is_no_shorter}
use Rattle.live_table.proofs.AddedNames.{empty_list_is_agenda, exploration_growth_keeps_take, written_more}
use Rattle.live_table.proofs.LookedKeys.{node_looks_stay_in_growth}
use Rattle.general_lemmas.proofs.Places.{take_at, get_set_same, get_set_other}
use Rattle.general_lemmas.proofs.Members.{no_member, member_cases, member_at}

-- ---- other steps of a name that is not settled
set_node_steps_keep_others : (g : Graph) (n m : ℕ) (v : List Step) → (m ≡ n → ⊥)
    → graph_steps (set g n v) m ≡ graph_steps g m
set_node_steps_keep_others g n m v ne = get_or-set_other g n m v [] ne

-- the steps that are set for a number are its steps
set_node_steps_are_read : (g : Graph) (n : ℕ) (v : List Step) → n < length g → graph_steps (set g n v) n ≡ v
set_node_steps_are_read g n v h = get_or-set_same g n v [] h

-- the looks of all others stay
set_node_looks_keep_others : (g : NodeLooks) (n m : ℕ) (w : Vec ℕ Global) → (m ≡ n → ⊥)
    → node_looks_of (set g n w) m ≡ node_looks_of g m
set_node_looks_keep_others g n m w ne = ap node_look_numbers (get_set_other g n m w ne)

-- the looks that are set for a number are its looks
set_node_looks_are_read : (g : NodeLooks) (n : ℕ) (w : Vec ℕ Global) → n < length g
    → node_looks_of (set g n w) n ≡ w.items
set_node_looks_are_read g n w h = ap node_look_numbers (get_set_same g n w h)

-- a number past the end has no steps
no_steps_beyond_last_node : (g : Graph) (x : ℕ) (s : Step) → length g ≤ x → Contains (graph_steps g x) s → ⊥
no_steps_beyond_last_node [] x s h j = no_member s j
no_steps_beyond_last_node (w ∷ g) zero s h j = absurd (omega arith)
no_steps_beyond_last_node (w ∷ g) (suc x) s h j = no_steps_beyond_last_node g x s (omega arith) j

module _ (t : EntryTable) (l : NodeLists) (n : ℕ) (c : Callee) (v : List Step) (w : Vec ℕ Global)
    (nodes : AreSoundNodes t l)
    (fresh : IsSettledInGraph l.settled_flags n → ⊥)
    (inside : (m : ℕ) → Contains v (To m) → m < length l.keys) where
  abbrev later : NodeLists
  later = nodes_with_steps n c v w l

  count : length (set l.graph n v) ≡ length l.graph
  count = length-set l.graph n v

  not_n : (m : ℕ) → IsSettledInGraph l.settled_flags m → m ≡ n → ⊥
  not_n m e q = fresh (subst (λ (x : ℕ). IsSettledInGraph l.settled_flags x) q e)

  range : (a b : ℕ) → Contains (graph_steps (set l.graph n v) a) (To b) → b < length (set l.graph n v)
  range a b i = elim (cases_eq a n) [
    | inl q ↦ let z : b < length l.graph = at_n q i in let s : length (set l.graph n v) ≡ length l.graph = count in
        omega arith
    | inr ne ↦
        let z : b < length l.graph =
        nodes.net.steps_in_range a b
        (subst (λ (xs : List Step). Contains xs (To b)) (set_node_steps_keep_others l.graph n a v ne) i)
        in
        let s : length (set l.graph n v) ≡ length l.graph = count in omega arith
  ]
    where
      at_n : a ≡ n → Contains (graph_steps (set l.graph n v) a) (To b) → b < length l.graph
      at_n q j = elim (cases_lt n (length l.graph)) [
        | inl h ↦
            let z : b < length l.keys =
            inside b (subst (λ (xs : List Step). Contains xs (To b))
            (ap (graph_steps (set l.graph n v)) q ∙ set_node_steps_are_read l.graph n v h) j) in
            let s : length l.graph ≡ length l.keys = nodes.step_count in omega arith
        | inr h ↦ absurd (no_steps_beyond_last_node (set l.graph n v) a (To b)
            (let s : length (set l.graph n v) ≡ length l.graph = count in omega (arith, q)) j)
      ]

  pub stepped_nodes : AreSoundNodes t later
  stepped_nodes = record {
    step_count = count ∙ nodes.step_count;
    outcome_count = nodes.outcome_count;
    callee_count = length-set l.callees n c ∙ nodes.callee_count;
    look_count = length-set l.looks n w ∙ nodes.look_count;
    flags_right = nodes.flags_right;
    count_right = nodes.count_right;
    marks_right = nodes.marks_right;
    numbers_apart = nodes.numbers_apart;
    net = record {
      steps_in_range = range;
      mark_per_name = nodes.net.mark_per_name ∙ sym count;
      settled_right = settled_graph_law_holds.other_graph l.graph (set l.graph n v) l.settled_flags l.settled_flags
          nodes.net.settled_right
          (let s : length (set l.graph n v) ≡ length l.graph = count in omega arith)
          (λ m. ((λ e. e), (λ e. e))) (λ m e. set_node_steps_keep_others l.graph n m v (not_n m e));
    };
    settled_have_entries = nodes.settled_have_entries;
    faithful = λ m e ends.
        subst (λ (xs : List Step). AreWords t (node_key_at l.keys) ends (table_words_of_key t (node_key_at l.keys m))
        xs)
        (sym (set_node_steps_keep_others l.graph n m v (not_n m e))) (nodes.faithful m e ends);
    part_starts = λ m e entry callee at is. nodes.part_starts m e entry callee at
        (sym (get_set_other l.callees n m c (not_n m e)) ∙ is);
    ranks = λ m e callee is. nodes.ranks m e callee (sym (get_set_other l.callees n m c (not_n m e)) ∙ is);
    settled_looks = λ m e.
        let h = nodes.settled_looks m e in
        record {
          looks = subst (λ (p : List Step × List ℕ). AreNodeLooks t l.keys (table_words_of_key t (node_key_at l.keys m))
              p.0 p.1)
              (λ i. (
                sym (set_node_steps_keep_others l.graph n m v (not_n m e)) i,
                sym
                    (set_node_looks_keep_others l.looks n m w (not_n m e)) i,
              ))
              h.looks;
          numbers_distinct = subst (IsDistinct nat_eq) (sym (set_node_looks_keep_others l.looks n m w (not_n m e)))
              h.numbers_distinct;
        };
  }

-- a name on the list gets its steps, after the additions for its words
module _ (t : EntryTable) (l m : NodeLists) (before here there : List ℕ) (ends more : List DeadEnd) (n : ℕ) (c : Callee)
    (v : List Step) (w : Vec ℕ Global)
    (added : AreNodesAdded t l m before here there ends more) (right : IsExplorationAgenda t l before here)
    (is_listed : Contains here n)
    (written : AreExplorationSteps t m before there more (table_words_of_key t (node_key_at l.keys n)) v) where
  in_there : Contains there n
  in_there = exploration_growth_keeps_members here there n added.growth.list_more is_listed

  in_keys : n < length l.keys
  in_keys = right.listed_in_table n is_listed

  inside : (q : ℕ) → Contains v (To q) → q < length m.keys
  inside q i = known_node_is_within_keys t m before there added.growth.nodes added.growth.list_right q
      (written.targets q i)

  longer : length l.keys ≤ length m.keys
  longer = exploration_growth_is_no_shorter l.keys m.keys added.growth.keys_more

  pub stepped_grown : AreNodesGrown t l (nodes_with_steps n c v w m) before here there ends more
  stepped_grown = record {
    nodes = stepped_nodes t m n c v w added.growth.nodes (added.growth.list_right.listed_not_settled n in_there) inside;
    same_outcomes = added.growth.same_outcomes;
    list_right = record {
      explored_in_table = added.growth.list_right.explored_in_table;
      listed_in_table = added.growth.list_right.listed_in_table;
      listed_not_settled = added.growth.list_right.listed_not_settled;
      new = added.growth.list_right.new;
      listed_have_entries = added.growth.list_right.listed_have_entries;
      numbers_distinct = added.growth.list_right.numbers_distinct;
    };
    keys_more = added.growth.keys_more;
    settled_still = added.growth.settled_still;
    list_more = added.growth.list_more;
    ends_more = added.growth.ends_more;
  }

  pub stepped_same : AreOtherNodesSame (λ q. q ≡ n → ⊥) l (nodes_with_steps n c v w m)
  stepped_same = record {
    steps = λ q h ne. set_node_steps_keep_others m.graph n q v ne ∙ added.same_nodes.steps q h tt;
    callees = λ q h ne. get_set_other m.callees n q c ne ∙ added.same_nodes.callees q h tt;
    looks = λ q h ne. set_node_looks_keep_others m.looks n q w ne ∙ added.same_nodes.looks q h tt;
  }

  same_key : node_key_at m.keys n ≡ node_key_at l.keys n
  same_key = node_key_stays_in_growth l.keys m.keys n added.growth.keys_more in_keys

  in_graph : n < length m.graph
  in_graph = let a : length m.graph ≡ length m.keys = added.growth.nodes.step_count in
      let b : length l.keys ≤ length m.keys = longer in let h : n < length l.keys = in_keys in omega arith

  in_callees : n < length m.callees
  in_callees = let a : length m.callees ≡ length m.keys = added.growth.nodes.callee_count in
      let b : length l.keys ≤ length m.keys = longer in let h : n < length l.keys = in_keys in omega arith

  in_looks : n < length m.looks
  in_looks = let a : length m.looks ≡ length m.keys = added.growth.nodes.look_count in
      let b : length l.keys ≤ length m.keys = longer in let h : n < length l.keys = in_keys in omega arith

  pub stepped_written : ((e : Entry) → entry_at t (node_key_at l.keys n) ≡ Some e → HasNodePartStarts e.what c)
      → (AllNodeStepsLead v → AreNodeLooks t m.keys (table_words_of_key t (node_key_at l.keys n)) v w.items)
      → IsDistinct nat_eq w.items
      → HasOwnExplorationSteps t (nodes_with_steps n c v w m) before there more n
  stepped_written starts looks once = record {
    steps = subst (λ (p : Key × List Step). AreExplorationSteps t (nodes_with_steps n c v w m) before there more
        (table_words_of_key t p.0) p.1)
        (λ i. (sym same_key i, sym (set_node_steps_are_read m.graph n v in_graph) i))
        (record { words = written.words; targets = written.targets; dead_ends_within = written.dead_ends_within });
    part_starts = λ e callee at is. subst (HasNodePartStarts e.what) (own callee is)
        (starts e (ap (entry_at t) (sym same_key) ∙ at));
    looks = λ all. record {
      looks = subst (λ (p : Key × (List Step × List ℕ)). AreNodeLooks t m.keys (table_words_of_key t p.0) p.1.0 p.1.1)
          (λ i. (
            sym same_key i,
            (
              sym (set_node_steps_are_read m.graph n v in_graph) i,
              sym
                  (set_node_looks_are_read m.looks n w in_looks) i,
            ),
          ))
          (looks (subst AllNodeStepsLead (set_node_steps_are_read m.graph n v in_graph) all));
      numbers_distinct = subst (IsDistinct nat_eq) (sym (set_node_looks_are_read m.looks n w in_looks)) once;
    };
  }
    where
      own : (callee : Callee) → slice_get (set m.callees n c) n ≡ Some callee → c ≡ callee
      own callee is = same_Some c callee (sym (get_set_same m.callees n c in_callees) ∙ is)

-- ---- written steps of a name stay written
module _ (t : EntryTable) (l m : NodeLists) (before here there : List ℕ) (ends more : List DeadEnd) (x : ℕ)
    (nodes : AreSoundNodes t l) (right : IsExplorationAgenda t l before here)
    (grown : AreNodesGrown t l m before here there ends more)
    (is_within : x < length l.keys) (same_steps : graph_steps m.graph x ≡ graph_steps l.graph x)
    (same_callee : slice_get m.callees x ≡ slice_get l.callees x)
    (same_looks : node_looks_of m.looks x ≡ node_looks_of l.looks x)
    (written : HasOwnExplorationSteps t l before here ends x) where
  key_still : node_key_at m.keys x ≡ node_key_at l.keys x
  key_still = node_key_stays_in_growth l.keys m.keys x grown.keys_more is_within

  still_looked : HasCachedLooks t l x → HasCachedLooks t m x
  still_looked own = record {
    looks = subst (λ (p : Key × (List Step × List ℕ)). AreNodeLooks t m.keys (table_words_of_key t p.0) p.1.0 p.1.1)
        (λ j. (sym key_still j, (sym same_steps j, sym same_looks j)))
        (node_looks_stay_in_growth t l.keys m.keys (table_words_of_key t (node_key_at l.keys x)) (graph_steps l.graph x)
        (node_looks_of l.looks x)
        grown.keys_more
        (λ q j. known_node_is_within_keys t l before here nodes right q (written.steps.targets q j)) own.looks);
    numbers_distinct = subst (IsDistinct nat_eq) (sym same_looks) own.numbers_distinct;
  }

  pub still_written : HasOwnExplorationSteps t m before there more x
  still_written = record {
    steps = subst (λ (p : Key × List Step). AreExplorationSteps t m before there more (table_words_of_key t p.0) p.1)
        (λ j. (sym key_still j, sym same_steps j))
        (written_more t l m before here there ends more nodes right grown
        (table_words_of_key t (node_key_at l.keys x)) (graph_steps l.graph x) written.steps);
    part_starts = λ e callee at is. written.part_starts e callee (ap (entry_at t) (sym key_still) ∙ at)
        (sym same_callee ∙ is);
    looks = λ all. still_looked (written.looks (subst AllNodeStepsLead same_steps all));
  }

-- explored names stay explored when a name that was not explored gets its steps
module _ (t : EntryTable) (l m : NodeLists) (before here there : List ℕ) (ends more : List DeadEnd) (n : ℕ)
    (nodes : AreSoundNodes t l) (grown : AreNodesGrown t l m before here there ends more)
    (same : AreOtherNodesSame (λ q. q ≡ n → ⊥) l m) (other : Contains before n → ⊥)
    (explored : WereExplored t l before ends) where
  apart : (x : ℕ) → Contains before x → x ≡ n → ⊥
  apart x i e = other (subst (λ (y : ℕ). Contains before y) e i)

  pub still_explored : WereExplored t m before more
  still_explored = record {
    explored_in_table = grown.list_right.explored_in_table;
    explored_have_entries = λ x i. subst (λ (k : Key). is_entry_present t k ≡ true)
        (sym (node_key_stays_in_growth l.keys m.keys x grown.keys_more (explored.explored_in_table x i)))
        (explored.explored_have_entries x i);
    explored_have_steps = λ x i.
        still_written t l m before [] [] ends more x nodes
        (empty_list_is_agenda t l before [] explored.explored_in_table refl)
        (nodes_grown_without_agenda t l m before here there ends more grown) (explored.explored_in_table x i)
        (same.steps x (explored.explored_in_table x i) (apart x i))
        (same.callees x (explored.explored_in_table x i) (apart x i))
        (same.looks x (explored.explored_in_table x i) (apart x i)) (explored.explored_have_steps x i);
  }

-- ---- the state of the loop
pub record IsExploring (t : EntryTable) (old now : NodeLists) (before here list : List ℕ) (ends more : List DeadEnd)
    (place : ℕ) : Type 0 where
  pub grown : AreNodesGrown t old now before here list ends more
  pub explored : WereExplored t now before more
  pub gone : (n : ℕ) → Contains (take place list) n → HasOwnExplorationSteps t now before list more n
  pub stay : HaveSameNodeSteps before old now
  pub within : place ≤ length list

-- at the start no listed number is explored
pub exploring_start : (t : EntryTable) (l : NodeLists) (before list : List ℕ) (ends : List DeadEnd) → AreSoundNodes t l
    → IsExplorationAgenda t l before list → WereExplored t l before ends
    → IsExploring t l l before list list ends ends 0
exploring_start t l before list ends nodes right explored = record {
  grown = nodes_are_growth_of_themselves t l before list ends ends nodes right (λ i x e. e);
  explored = explored;
  gone = λ n i. absurd (no_member n i);
  stay = λ n i. refl;
  within = omega arith;
}

-- a number that occurs once is not before its place
agenda_number_is_not_before_place : (ns : List ℕ) (i n : ℕ) → IsDistinct nat_eq ns → slice_get ns i ≡ Some n
    → Contains (take i ns) n → ⊥
unfolding IsDistinct
agenda_number_is_not_before_place [] i n d e j = cc
agenda_number_is_not_before_place (x ∷ ns) zero n d e j = no_member n j
agenda_number_is_not_before_place (x ∷ ns) (suc i) n d e j = elim (member_cases n x (take i ns) j) [
  | inl q ↦
      let f : nat_eq x n ≡ false = all_at (λ y. nat_eq x y ≡ false) ns n d.0 (member_at ns i n e) in
      let t : nat_eq x n ≡ true = eq-eqb x n (sym q) in
      let z : true ≡ false = sym t ∙ f in cc
  | inr k ↦ agenda_number_is_not_before_place ns i n d.1 e k
]

module _ (t : EntryTable) (old now m : NodeLists) (before here list there : List ℕ) (ends more most : List DeadEnd)
    (place n : ℕ) (is : slice_get list place ≡ Some n) (s : IsExploring t old now before here list ends more place)
    (grown : AreNodesGrown t now m before list there more most) (same : AreOtherNodesSame (λ q. q ≡ n → ⊥) now m) where
  pub listed_now : Contains list n
  listed_now = member_at list place n is

  pub explored_next : WereExplored t m before most
  explored_next = still_explored t now m before list there more most n s.grown.nodes grown same
      (s.grown.list_right.new n listed_now) s.explored

  pub stay_next : HaveSameNodeSteps before old m
  stay_next x i =
      same.steps x (s.explored.explored_in_table x i)
      (λ e. s.grown.list_right.new n listed_now (subst (λ (y : ℕ). Contains before y) e i))
      ∙ s.stay x i

  gone_old : (x : ℕ) → Contains (take place list) x → HasOwnExplorationSteps t m before there most x
  gone_old x i =
      let ne : x ≡ n → ⊥ = (λ q. agenda_number_is_not_before_place list place n s.grown.list_right.numbers_distinct is
      (subst (λ (y : ℕ). Contains (take place list) y) q i)) in
      let h : x < length now.keys = s.grown.list_right.listed_in_table x (take_member place list x i) in
      still_written t now m before list there more most x s.grown.nodes s.grown.list_right grown h
      (same.steps x h ne) (same.callees x h ne) (same.looks x h ne) (s.gone x i)

  enough : place < length list
  enough = slice_get_within list place n is

  taken : take (place + 1) there ≡ take place list ++ n ∷ []
  taken =
      take_at there place n (grown.list_more place n is)
      ∙ ap (λ (xs : List ℕ). xs ++ n ∷ [])
      (exploration_growth_keeps_take list there place grown.list_more (let e : place < length list = enough in
      omega arith))

  pub exploring_next : HasOwnExplorationSteps t m before there most n → IsExploring t old m before here there ends most
      (place + 1)
  exploring_next written = record {
    grown = two_node_growths_are_one t old now m before here list there ends more most s.grown grown;
    explored = explored_next;
    gone = λ x i. elim (Contains-push_cases (take place list) n x (subst (λ (xs : List ℕ). Contains xs x) taken i)) [
      | inl j ↦ gone_old x j
      | inr e ↦ subst (λ (y : ℕ). HasOwnExplorationSteps t m before there most y) e written
    ];
    stay = stay_next;
    within =
        let h : length list ≤ length there = exploration_growth_is_no_shorter list there grown.list_more in
        let e : place < length list = enough in omega arith;
  }

-- there is no item after the last place
pub no_agenda_item_after_last : (list : List ℕ) (place : ℕ) → slice_get list place ≡ None → length list ≤ place
no_agenda_item_after_last [] place e = omega arith
no_agenda_item_after_last (x ∷ list) zero e = cc
no_agenda_item_after_last (x ∷ list) (suc place) e = let h : length list ≤ place =
    no_agenda_item_after_last list place e in omega arith

-- ---- at the end all names are explored
pub exploring_end : (t : EntryTable) (old now : NodeLists) (before here list : List ℕ) (ends more : List DeadEnd)
    (place : ℕ)
    → IsExploring t old now before here list ends more place → length list ≤ place
    → AreAllExplored t now before list more
exploring_end t old now before here list ends more place s all = record {
  list_right = s.grown.list_right;
  earlier_explored = s.explored;
  listed_have_steps = λ n i. s.gone n (subst (λ (xs : List ℕ). Contains xs n) (sym (take_all place list all)) i);
}
