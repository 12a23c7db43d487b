-- The numbers of keys.
use Rattle.std.proofs.Common.{◌≡◌, ◌<◌, ◌++◌, ◌∷◌, [], ℕ, Bool, false, List, length, map}
use Rattle.std.proofs.Common.{refl, sym, ◌∙◌, ap, subst, inl, inr, arith, Contains}
use Rattle.std.proofs.lemmas.List.{map-append}
use Rattle.std.proofs.lemmas.List.Elements.{Contains-push_cases}
use Rattle.std.proofs.lemmas.Map.Made.{is_some-lookup}
use Rattle.def_entry.specs.declared.key.Key.{Key}
use Rattle.def_entry.specs.SameKeys.{is_entry_key_among, is_same_entry_key}
use Rattle.def_entry.specs.Tables.{EntryTable, is_entry_present, keys_of_entries}
use Rattle.live_table.specs.declared.nodes.Nodes.{Nodes}
use Rattle.live_table.specs.Exploration.{AreNodesAdded, IsExplorationGrowth, IsNameAddedToNodes}
use Rattle.live_table.specs.KeyNumbers.{AreNodesFlagged, HasNodeNumber, IsNodeExtension}
use Rattle.live_table.specs.TableContents.{NodeLists, node_key_at, node_lists}
use Rattle.live_table.proofs.AddedNames.{appending_is_exploration_growth, exploration_growth_is_no_shorter}
use Rattle.live_table.proofs.AddedNames.{no_nodes_are_added, node_key_stays_in_growth}
use Rattle.live_table.proofs.LastName.{absent_node_key_has_no_place, named_added}
use Rattle.general_lemmas.proofs.Members.{member_first, member_later, map_same}

-- ---- the data that do not change
pub same_nodes_are_extension : (keys : List Key) (a b : Nodes) → node_lists b ≡ node_lists a → b.gathered ≡ a.gathered
    → IsNodeExtension keys a b
same_nodes_are_extension keys a b e f = record {
  numbered_names = λ t is nodes before list ends right.
      subst (λ (m : NodeLists). AreNodesAdded t (node_lists a) m before list list ends ends) (sym e)
      (no_nodes_are_added t (node_lists a) before list ends ends nodes right (λ i x q. q));
  same_gathered = f;
}

-- a key is present in a table exactly if it is among its keys
pub present_node_key_is_among_keys : (t : EntryTable) (keys : List Key) (k : Key) → keys_of_entries t ≡ keys
    → is_entry_key_among keys k ≡ is_entry_present t k
present_node_key_is_among_keys t keys k e = ap (λ (ks : List Key). is_entry_key_among ks k) (sym e)
    ∙ sym (is_some-lookup (is_same_entry_key k) t)

-- a new name is added
new_name_extends_nodes : (keys : List Key) (a b : Nodes) (k : Key) (flag : Bool)
    → IsNameAddedToNodes k flag (node_lists a) (node_lists b)
    → flag ≡ is_entry_key_among keys k
    → is_entry_key_among a.keys k ≡ false → b.gathered ≡ a.gathered → IsNodeExtension keys a b
new_name_extends_nodes keys a b k flag named is new e = record {
  numbered_names = λ t of nodes before list ends right.
      subst (λ (m : NodeLists). AreNodesAdded t (node_lists a) m before list list ends ends) (sym named.name_added)
      (named_added t (node_lists a) k flag named.callee named.steps named.looks named.no_steps named.no_looks
      (is ∙ present_node_key_is_among_keys t keys k of) nodes (absent_node_key_has_no_place a.keys k new) before list
      ends right);
  same_gathered = e;
}

-- a key has a number
pub numbered_key_extends_nodes : (keys : List Key) (a b : Nodes) (k : Key) (flag : Bool) (n : ℕ)
    → HasNodeNumber k flag n (node_lists a) (node_lists b) → flag ≡ is_entry_key_among keys k → b.gathered ≡ a.gathered
    → IsNodeExtension keys a b
numbered_key_extends_nodes keys a b k flag n numbered is e = elim numbered.names [
  | inl same ↦ same_nodes_are_extension keys a b same e
  | inr new ↦ new_name_extends_nodes keys a b k flag new.1 is new.0 e
]

-- ---- flags
-- the flags of the same names
pub same_nodes_are_flagged : (keys : List Key) (a b : Nodes) → node_lists b ≡ node_lists a → AreNodesFlagged keys a
    → AreNodesFlagged keys b
same_nodes_are_flagged keys a b e f = subst (λ (l : NodeLists). l.entry_flags ≡ map (is_entry_key_among keys) l.keys)
    (sym e) f

-- the flags with a new name
nodes_with_new_name_are_flagged : (keys : List Key) (a b : Nodes) (k : Key) (flag : Bool)
    → IsNameAddedToNodes k flag (node_lists a)
    (node_lists b)
    → flag ≡ is_entry_key_among keys k
    → AreNodesFlagged keys a → AreNodesFlagged keys b
nodes_with_new_name_are_flagged keys a b k flag named is f =
    ap (λ (l : NodeLists). l.entry_flags) named.name_added
    ∙ ((λ i. f i ++ is i ∷ []) ∙ (sym (map-append (is_entry_key_among keys) a.keys (k ∷ []))
    ∙ ap (λ (l : NodeLists). map (is_entry_key_among keys) l.keys) (sym named.name_added)))

-- the flags after a key has a number
pub nodes_with_number_are_flagged : (keys : List Key) (a b : Nodes) (k : Key) (flag : Bool) (n : ℕ)
    → HasNodeNumber k flag n (node_lists a) (node_lists b) → flag ≡ is_entry_key_among keys k → AreNodesFlagged keys a
    → AreNodesFlagged keys b
nodes_with_number_are_flagged keys a b k flag n numbered is f = elim numbered.names [
  | inl same ↦ same_nodes_are_flagged keys a b same f
  | inr new ↦ nodes_with_new_name_are_flagged keys a b k flag new.1 is f
]

-- there are no fewer keys if the names are the same
pub same_nodes_have_no_fewer_keys : (a b : Nodes) → node_lists b ≡ node_lists a → IsExplorationGrowth a.keys b.keys
same_nodes_have_no_fewer_keys a b e = subst (λ (l : NodeLists). IsExplorationGrowth a.keys l.keys) (sym e) (λ i x q. q)

-- there are no fewer keys with a new name
new_name_grows_node_keys : (a b : Nodes) (k : Key) (flag : Bool) → IsNameAddedToNodes k flag (node_lists a)
    (node_lists b)
    → IsExplorationGrowth a.keys b.keys
new_name_grows_node_keys a b k flag named = subst (IsExplorationGrowth a.keys)
    (ap (λ (l : NodeLists). l.keys) (sym named.name_added))
    (appending_is_exploration_growth a.keys (k ∷ []))

-- there are no fewer keys after a key has a number
pub new_number_grows_node_keys : (a b : Nodes) (k : Key) (flag : Bool) (n : ℕ) → HasNodeNumber k flag n (node_lists a)
    (node_lists b)
    → IsExplorationGrowth a.keys b.keys
new_number_grows_node_keys a b k flag n numbered = elim numbered.names [
  | inl same ↦ same_nodes_have_no_fewer_keys a b same
  | inr new ↦ new_name_grows_node_keys a b k flag new.1
]

-- ---- one additional number
pub pushed_number_adds_node_key : (ks ls : List Key) (ns : List ℕ) (n : ℕ) (k : Key) → IsExplorationGrowth ks ls
    → ((m : ℕ) → Contains ns m → m < length ks) → k ≡ node_key_at ls n
    → map (node_key_at ls) (ns ++ n ∷ []) ≡ map (node_key_at ks) ns ++ k ∷ []
pushed_number_adds_node_key ks ls [] n k more within is = λ i. sym is i ∷ []
pushed_number_adds_node_key ks ls (m ∷ ns) n k more within is =
    let rest : map (node_key_at ls) (ns ++ n ∷ []) ≡ map (node_key_at ks) ns ++ k ∷ [] =
    pushed_number_adds_node_key ks ls ns n k more (λ q i. within q (member_later q m ns i)) is in
    λ i. node_key_stays_in_growth ks ls m more (within m (member_first m m ns refl)) i ∷ rest i

-- numbers within the keys stay so when keys are added, and so does one additional number
pub pushed_number_is_within_node_keys : (ks ls : List Key) (ns : List ℕ) (n : ℕ) → IsExplorationGrowth ks ls
    → ((m : ℕ) → Contains ns m → m < length ks)
    → n < length ls
    → (m : ℕ) → Contains (ns ++ n ∷ []) m → m < length ls
pushed_number_is_within_node_keys ks ls ns n more within h m i = elim (Contains-push_cases ns n m i) [
  | inl j ↦ let a : m < length ks = within m j in let b = exploration_growth_is_no_shorter ks ls more in omega arith
  | inr e ↦ subst (λ (x : ℕ). x < length ls) e h
]

-- ---- the flags of a table say whether keys are present
pub nodes_are_flagged_by_table : (t : EntryTable) (a : Nodes) → a.present.items ≡ map (is_entry_present t) a.keys
    → AreNodesFlagged (keys_of_entries t) a
nodes_are_flagged_by_table t a f = f ∙ map_same (is_entry_present t) (is_entry_key_among (keys_of_entries t)) a.keys
    (λ k i. sym (present_node_key_is_among_keys t (keys_of_entries t) k refl))
