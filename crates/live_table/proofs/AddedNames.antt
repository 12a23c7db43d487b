-- The written steps of words stay right when names, listed numbers and dead ends are added.
use Rattle.std.proofs.Common.{◌≡◌, ◌<◌, ◌≤◌, ℕ, zero, suc, true, List, [], ◌∷◌, ◌++◌, take, length, Option, Some}
use Rattle.std.proofs.Common.{None, refl, sym, ◌∙◌, ap, subst, inl, inr, arith, Contains}
use Rattle.std.specs.List.{slice_get}
use Rattle.std.proofs.lemmas.List.{length-map}
use Rattle.std.proofs.lemmas.List.Elements.{Contains-append_left, Contains-append_right}
use Rattle.std.proofs.lemmas.Option.{slice_get-get_or, same_Some, slice_get_within}
use Rattle.expr_tree.specs.declared.word_list.WordUse.{WordUse}
use Rattle.def_entry.specs.declared.key.Key.{Key}
use Rattle.def_entry.specs.Tables.{EntryTable}
use Rattle.name_walk.specs.declared.step.Step.{Step}
use Rattle.name_walk.specs.declared.step.Step.TheVariants.{Nowhere, To}
use Rattle.name_walk.specs.ClosedNames.{IsSettledInGraph}
use Rattle.table_names.specs.declared.fault.NameFault.{NameFault}
use Rattle.table_names.specs.NumberedNames.{AreWords, ForOne, ForRefused, ForTwo, ForUnknown, IsWord}
use Rattle.live_table.specs.declared.dead_end.DeadEnd.{DeadEnd}
use Rattle.live_table.specs.ExploredNames.{explored_dead_end_fault, explored_fault_at}
use Rattle.live_table.specs.Exploration.{AreExplorationSteps, AreNodesAdded, AreNodesGrown, IsExplorationAgenda}
use Rattle.live_table.specs.Exploration.{IsExplorationGrowth, IsKnownToExploration}
use Rattle.live_table.specs.Sound.{AreSoundNodes}
use Rattle.live_table.specs.TableContents.{NodeLists, node_key_at}
use Rattle.live_table.proofs.Places.{element}
use Rattle.general_lemmas.proofs.Members.{no_member, member_first, member_later, member_at}
use Rattle.general_lemmas.proofs.Properties.{nothing_twice}

-- ---- lists that grow
pub exploration_growth_is_no_shorter : {A : Type 0} (xs ys : List A) → IsExplorationGrowth xs ys → length xs ≤ length ys
exploration_growth_is_no_shorter [] ys m = omega arith
exploration_growth_is_no_shorter (x ∷ xs) [] m = let e : None ≡ Some x = m 0 x refl in cc
exploration_growth_is_no_shorter (x ∷ xs) (y ∷ ys) m = let h : length xs ≤ length ys =
    exploration_growth_is_no_shorter xs ys (λ i z e. m (suc i) z e) in
    omega arith

-- the front of a list does not change when items are appended
pub exploration_growth_keeps_take : {A : Type 0} (xs ys : List A) (k : ℕ) → IsExplorationGrowth xs ys → k ≤ length xs
    → take k ys ≡ take k xs
exploration_growth_keeps_take xs ys zero m h = refl
exploration_growth_keeps_take [] ys (suc k) m h = absurd (omega arith)
exploration_growth_keeps_take (x ∷ xs) [] (suc k) m h = let e : None ≡ Some x = m 0 x refl in cc
exploration_growth_keeps_take (x ∷ xs) (y ∷ ys) (suc k) m h =
    let e : y ≡ x = same_Some y x (m 0 x refl) in
    let t : take k ys ≡ take k xs = exploration_growth_keeps_take xs ys k (λ i z q. m (suc i) z q) (omega arith) in
    λ i. e i ∷ t i

-- a member of a list is a member of a longer one
pub exploration_growth_keeps_members : (xs ys : List ℕ) (x : ℕ) → IsExplorationGrowth xs ys → Contains xs x
    → Contains ys x
exploration_growth_keeps_members xs ys x m i =
    member_at ys i.0 x (m i.0 x (slice_get-get_or xs i.0 x i.1 ∙ ap Some i.2))

-- appending items makes a longer list
pub appending_is_exploration_growth : {A : Type 0} (xs ys : List A) → IsExplorationGrowth xs (xs ++ ys)
appending_is_exploration_growth [] ys i x e = cc
appending_is_exploration_growth (y ∷ xs) ys zero x e = e
appending_is_exploration_growth (y ∷ xs) ys (suc i) x e = appending_is_exploration_growth xs ys i x e

-- a number within the keys has its key
pub node_key_is_read : (ks : List Key) (n : ℕ) → n < length ks → slice_get ks n ≡ Some (node_key_at ks n)
node_key_is_read ks n h = slice_get-get_or ks n _ h

-- a key that is found is that of its number
pub found_key_is_node_key : (ks : List Key) (n : ℕ) (k : Key) → slice_get ks n ≡ Some k
    → (n < length ks) × (k ≡ node_key_at ks n)
found_key_is_node_key ks n k e = (
  slice_get_within ks n k e,
  same_Some k (node_key_at ks n)
      (sym e ∙ node_key_is_read ks n (slice_get_within ks n k e)),
)

-- numbers have the same keys when keys are added
pub node_key_stays_in_growth : (ks ls : List Key) (n : ℕ) → IsExplorationGrowth ks ls → n < length ks
    → node_key_at ls n ≡ node_key_at ks n
node_key_stays_in_growth ks ls n m h =
    sym (found_key_is_node_key ls n (node_key_at ks n) (m n (node_key_at ks n) (node_key_is_read ks n h))).1

-- dead ends have the same faults when dead ends are added
pub explored_fault_stays_in_growth : (ends more : List DeadEnd) (t : ℕ) → IsExplorationGrowth ends more
    → t < length ends → (holder : Option Key)
    → explored_fault_at more t holder ≡ explored_fault_at ends t holder
explored_fault_stays_in_growth ends more t m h holder =
    let s : (x : DeadEnd) × (slice_get ends t ≡ Some x) = element ends t h in
    ap (λ (w : Option DeadEnd). explored_dead_end_fault w holder) (m t s.0 s.1 ∙ sym s.1)

-- ---- steps mean the same if the keys and dead ends do
module _ (t : EntryTable) (key later : ℕ → Key) (ends other : ℕ → Option Key → NameFault) where
  same_word : (u : WordUse) (x y : Step) → ((r : ℕ) → Contains (x ∷ y ∷ []) (To r) → later r ≡ key r)
      → ((b : ℕ) → Contains (x ∷ y ∷ []) (Nowhere b) → (holder : Option Key) → other b holder ≡ ends b holder)
      → IsWord t key ends u x y → IsWord t later other u x y
  same_word u x y h k (ForRefused b is e) =
      ForRefused b is (λ holder. k b (member_first x x (y ∷ []) refl) holder ∙ e holder)
  same_word u x y h k (ForUnknown b fine none e) =
      ForUnknown b fine none (λ holder. k b (member_first x x (y ∷ []) refl) holder ∙ e holder)
  same_word u x y h k (ForOne n fine e) =
      ForOne n fine (e ∙ ap (λ (q : Key). q ∷ []) (sym (h n (member_first x x (y ∷ []) refl))))
  same_word u x y h k (ForTwo n m fine e) =
      ForTwo n m fine
      (e ∙ (λ i. sym (h n (member_first x x (y ∷ []) refl)) i
      ∷ sym (h m (member_later y x (y ∷ []) (member_first y y [] refl))) i ∷ []))

  front_in : (x y : Step) (xs : List Step) (s : Step) → Contains (x ∷ y ∷ []) s → Contains (x ∷ y ∷ xs) s
  front_in x y xs s i = Contains-append_left (x ∷ y ∷ []) xs s i

  pub same_words : (us : List WordUse) (xs : List Step) → ((r : ℕ) → Contains xs (To r) → later r ≡ key r)
      → ((b : ℕ) → Contains xs (Nowhere b) → (holder : Option Key) → other b holder ≡ ends b holder)
      → AreWords t key ends us xs → AreWords t later other us xs
  same_words [] [] h k w = w
  same_words [] (x ∷ xs) h k w = absurd w
  same_words (u ∷ us) [] h k w = absurd w
  same_words (u ∷ us) (x ∷ []) h k w = absurd w
  same_words (u ∷ us) (x ∷ y ∷ xs) h k w = (
    same_word u x y (λ r i. h r (front_in x y xs (To r) i)) (λ b i. k b (front_in x y xs (Nowhere b) i)) w.0,
    same_words us xs (λ r i. h r (Contains-append_right (x ∷ y ∷ []) xs (To r) i))
        (λ b i. k b (Contains-append_right (x ∷ y ∷ []) xs (Nowhere b) i)) w.1,
  )

-- a settled number is within the keys
pub settled_number_is_within_keys : (t : EntryTable) (l : NodeLists) → AreSoundNodes t l → (n : ℕ)
    → IsSettledInGraph l.settled_flags n
    → n < length l.keys
settled_number_is_within_keys t l nodes n e =
    let a : n < length l.settled_flags = slice_get_within l.settled_flags n true e in
    let b : length l.settled_flags ≡ length l.outcomes = ap length nodes.marks_right ∙ length-map l.outcomes _ in
    let c : length l.outcomes ≡ length l.keys = nodes.outcome_count in omega arith

-- a known number is within the keys
pub known_node_is_within_keys : (t : EntryTable) (l : NodeLists) (before list : List ℕ) → AreSoundNodes t l
    → IsExplorationAgenda t l before list
    → (n : ℕ)
    → IsKnownToExploration l before list n → n < length l.keys
known_node_is_within_keys t l before list nodes right n (inl e) = settled_number_is_within_keys t l nodes n e
known_node_is_within_keys t l before list nodes right n (inr (inl i)) = right.explored_in_table n i
known_node_is_within_keys t l before list nodes right n (inr (inr i)) = right.listed_in_table n i

-- ---- written steps stay written
module _ (t : EntryTable) (l m : NodeLists) (before here there : List ℕ) (ends more : List DeadEnd)
    (nodes : AreSoundNodes t l)
    (right : IsExplorationAgenda t l before here)
    (grown : AreNodesGrown t l m before here there ends more) where
  pub known_still : (n : ℕ) → IsKnownToExploration l before here n → IsKnownToExploration m before there n
  known_still n (inl e) = inl (grown.settled_still n e)
  known_still n (inr (inl i)) = inr (inl i)
  known_still n (inr (inr i)) = inr (inr (exploration_growth_keeps_members here there n grown.list_more i))

  pub keys_same : (n : ℕ) → n < length l.keys → node_key_at m.keys n ≡ node_key_at l.keys n
  keys_same n h = node_key_stays_in_growth l.keys m.keys n grown.keys_more h

  pub written_more : (us : List WordUse) (xs : List Step) → AreExplorationSteps t l before here ends us xs
      → AreExplorationSteps t m before there more us xs
  written_more us xs w = record {
    words = same_words t (node_key_at l.keys) (node_key_at m.keys) (explored_fault_at ends) (explored_fault_at more) us
        xs
        (λ n i. keys_same n (known_node_is_within_keys t l before here nodes right n (w.targets n i)))
        (λ b i holder. explored_fault_stays_in_growth ends more b grown.ends_more (w.dead_ends_within b i) holder)
        w.words;
    targets = λ n i. known_still n (w.targets n i);
    dead_ends_within = λ b i.
        let h : b < length ends = w.dead_ends_within b i in
        let q : length ends ≤ length more = exploration_growth_is_no_shorter ends more grown.ends_more in omega arith;
  }

-- ---- additions in turn
-- no numbers are listed
pub empty_list_is_agenda : (t : EntryTable) (l : NodeLists) (before list : List ℕ)
    → ((n : ℕ) → Contains before n → n < length l.keys)
    → list ≡ [] → IsExplorationAgenda t l before list
empty_list_is_agenda t l before list gone e = subst (IsExplorationAgenda t l before) (sym e) (record {
  explored_in_table = gone;
  listed_in_table = λ n i. absurd (no_member n i);
  listed_not_settled = λ n i. absurd (no_member n i);
  new = λ n i. absurd (no_member n i);
  listed_have_entries = λ n i. absurd (no_member n i);
  numbers_distinct = nothing_twice;
})

-- a table has grown, with none of its listed numbers
pub nodes_grown_without_agenda : (t : EntryTable) (l m : NodeLists) (before here there : List ℕ)
    (ends more : List DeadEnd)
    → AreNodesGrown t l m before here there ends more → AreNodesGrown t l m before [] [] ends more
nodes_grown_without_agenda t l m before here there ends more grown = record {
  nodes = grown.nodes;
  same_outcomes = grown.same_outcomes;
  list_right = empty_list_is_agenda t m before [] grown.list_right.explored_in_table refl;
  keys_more = grown.keys_more;
  settled_still = grown.settled_still;
  list_more = λ i x e. e;
  ends_more = grown.ends_more;
}

-- a table is a growth of itself
pub nodes_are_growth_of_themselves : (t : EntryTable) (l : NodeLists) (before list : List ℕ) (ends more : List DeadEnd)
    → AreSoundNodes t l
    → IsExplorationAgenda t l before list → IsExplorationGrowth ends more
    → AreNodesGrown t l l before list list ends more
nodes_are_growth_of_themselves t l before list ends more nodes right growing = record {
  nodes = nodes;
  same_outcomes = refl;
  list_right = right;
  keys_more = λ i x e. e;
  settled_still = λ n e. e;
  list_more = λ i x e. e;
  ends_more = growing;
}

-- two growths in turn are one growth
pub two_node_growths_are_one : (t : EntryTable) (l m k : NodeLists) (before here list there : List ℕ)
    (xs ys zs : List DeadEnd)
    → AreNodesGrown t l m before here list xs ys → AreNodesGrown t m k before list there ys zs
    → AreNodesGrown t l k before here there xs zs
two_node_growths_are_one t l m k before here list there xs ys zs a b = record {
  nodes = b.nodes;
  same_outcomes = b.same_outcomes ∙ a.same_outcomes;
  list_right = b.list_right;
  keys_more = λ i x e. b.keys_more i x (a.keys_more i x e);
  settled_still = λ n e. b.settled_still n (a.settled_still n e);
  list_more = λ i x e. b.list_more i x (a.list_more i x e);
  ends_more = λ i x e. b.ends_more i x (a.ends_more i x e);
}

-- nothing is added
pub no_nodes_are_added : (t : EntryTable) (l : NodeLists) (before list : List ℕ) (ends more : List DeadEnd)
    → AreSoundNodes t l
    → IsExplorationAgenda t l before list → IsExplorationGrowth ends more
    → AreNodesAdded t l l before list list ends more
no_nodes_are_added t l before list ends more nodes right growing = record {
  growth = nodes_are_growth_of_themselves t l before list ends more nodes right growing;
  same_nodes = record { steps = λ n h o. refl; callees = λ n h o. refl; looks = λ n h o. refl };
}

-- two additions in turn are one addition
pub two_node_additions_are_one : (t : EntryTable) (l m k : NodeLists) (before here list there : List ℕ)
    (xs ys zs : List DeadEnd)
    → AreNodesAdded t l m before here list xs ys → AreNodesAdded t m k before list there ys zs
    → AreNodesAdded t l k before here there xs zs
two_node_additions_are_one t l m k before here list there xs ys zs a b = record {
  growth = two_node_growths_are_one t l m k before here list there xs ys zs a.growth b.growth;
  same_nodes = record {
    steps = λ n h o. b.same_nodes.steps n (longer n h) tt ∙ a.same_nodes.steps n h tt;
    callees = λ n h o. b.same_nodes.callees n (longer n h) tt ∙ a.same_nodes.callees n h tt;
    looks = λ n h o. b.same_nodes.looks n (longer n h) tt ∙ a.same_nodes.looks n h tt;
  };
}
  where
    longer : (n : ℕ) → n < length l.keys → n < length m.keys
    longer n h = let q : length l.keys ≤ length m.keys = exploration_growth_is_no_shorter l.keys m.keys
        a.growth.keys_more in omega arith
