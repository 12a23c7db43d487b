-- A number is put on the agenda.
use Rattle.std.proofs.Common.{◌≡◌, ◌<◌, ◌++◌, ◌∷◌, [], ℕ, Bool, true, false, cond, List, Some, length}
use Rattle.std.proofs.Common.{get_or, sym, ◌∙◌, ap, subst, inl, inr, arith, Contains}
use Rattle.std.proofs.lemmas.Bool.{cases_Bool, cond-false, cond-true, true≢false}
use Rattle.std.proofs.lemmas.Cmp.{nat_eq_equiv}
use Rattle.std.proofs.lemmas.Map.Keys.{IsDistinct-push}
use Rattle.std.proofs.lemmas.Option.{slice_get-get_or}
use Rattle.std.proofs.lemmas.List.Elements.{Contains-push, Contains-push_cases}
use Rattle.def_entry.specs.Tables.{EntryTable, is_entry_present}
use Rattle.name_walk.specs.ClosedNames.{IsSettledInGraph}
use Rattle.name_walk.specs.Faults.{is_on_path}
use Rattle.name_walk.proofs.Members.{member_on_path, on_path_member}
use Rattle.live_table.specs.declared.dead_end.DeadEnd.{DeadEnd}
use Rattle.live_table.specs.Exploration.{AreNodesAdded, IsExplorationAgenda}
use Rattle.live_table.specs.Sound.{AreSoundNodes}
use Rattle.live_table.specs.TableContents.{NodeLists, node_key_at}
use Rattle.live_table.proofs.AddedNames.{appending_is_exploration_growth}

-- there is a mark for each key
pub each_node_has_settled_flag : (t : EntryTable) (l : NodeLists) → AreSoundNodes t l
    → length l.settled_flags ≡ length l.keys
each_node_has_settled_flag t l nodes = nodes.net.mark_per_name ∙ nodes.step_count

-- a number whose mark is not set is not settled
pub node_without_mark_is_unsettled : (t : EntryTable) (l : NodeLists) → AreSoundNodes t l → (n : ℕ) (b : Bool)
    → n < length l.keys
    → b ≡ get_or l.settled_flags n b → b ≡ false → IsSettledInGraph l.settled_flags n → ⊥
node_without_mark_is_unsettled t l nodes n b h e f s =
    let size : length l.settled_flags ≡ length l.keys = each_node_has_settled_flag t l nodes in
    let z : Some true ≡ Some false = sym s ∙ (slice_get-get_or l.settled_flags n b (omega arith) ∙ ap Some (sym e ∙ f))
    in cc

-- a number that is not found in a list is not there
pub unfound_number_is_not_on_agenda : (ns : List ℕ) (n : ℕ) → is_on_path ns n ≡ false → Contains ns n → ⊥
unfound_number_is_not_on_agenda ns n e i = true≢false (sym (member_on_path ns n i) ∙ e)

-- a number that is put on a list is in it
pub put_number_is_on_agenda : (list there : List ℕ) (n : ℕ) → there ≡ cond (is_on_path list n) list (list ++ n ∷ [])
    → Contains there n
put_number_is_on_agenda list there n e = elim (cases_Bool (is_on_path list n)) [
  | inl q ↦ subst (λ (ns : List ℕ). Contains ns n) (sym (e ∙ cond-true (is_on_path list n) list (list ++ n ∷ []) q))
      (on_path_member list n q)
  | inr q ↦ subst (λ (ns : List ℕ). Contains ns n) (sym (e ∙ cond-false (is_on_path list n) list (list ++ n ∷ []) q))
      (Contains-push list n)
]

-- a list of numbers to be explored stays one with an additional number
pub agenda_after_push : (t : EntryTable) (l : NodeLists) (before list : List ℕ) (n : ℕ)
    → IsExplorationAgenda t l before list
    → n < length l.keys → is_entry_present t (node_key_at l.keys n) ≡ true
    → (IsSettledInGraph l.settled_flags n → ⊥) → (Contains before n → ⊥) → is_on_path list n ≡ false
    → IsExplorationAgenda t l before (list ++ n ∷ [])
agenda_after_push t l before list n right h present fresh new other = record {
  explored_in_table = right.explored_in_table;
  listed_in_table = λ m i. elim (Contains-push_cases list n m i) [
    | inl j ↦ right.listed_in_table m j
    | inr e ↦ subst (λ (x : ℕ). x < length l.keys) e h
  ];
  listed_not_settled = λ m i. elim (Contains-push_cases list n m i) [
    | inl j ↦ right.listed_not_settled m j
    | inr e ↦ subst (λ (x : ℕ). IsSettledInGraph l.settled_flags x → ⊥) e fresh
  ];
  new = λ m i. elim (Contains-push_cases list n m i)
      [ inl j ↦ right.new m j | inr e ↦ subst (λ (x : ℕ). Contains before x → ⊥) e new ];
  listed_have_entries = λ m i. elim (Contains-push_cases list n m i) [
    | inl j ↦ right.listed_have_entries m j
    | inr e ↦ subst (λ (x : ℕ). is_entry_present t (node_key_at l.keys x) ≡ true) e present
  ];
  numbers_distinct = IsDistinct-push nat_eq_equiv list n right.numbers_distinct other;
}

-- putting a number on the agenda is an addition
pub agenda_put_is_node_addition : (t : EntryTable) (l m : NodeLists) (before list there : List ℕ) (ends : List DeadEnd)
    (n : ℕ)
    → AreNodesAdded t l m before list list ends ends → n < length m.keys
    → is_entry_present t (node_key_at m.keys n) ≡ true → (IsSettledInGraph m.settled_flags n → ⊥)
    → (Contains before n → ⊥)
    → there ≡ cond (is_on_path list n) list (list ++ n ∷ []) → AreNodesAdded t l m before list there ends ends
agenda_put_is_node_addition t l m before list there ends n a h present fresh new e =
    elim (cases_Bool (is_on_path list n)) [
      | inl q ↦ subst (λ (ns : List ℕ). AreNodesAdded t l m before list ns ends ends)
          (sym (e ∙ cond-true (is_on_path list n) list (list ++ n ∷ []) q)) a
      | inr q ↦ subst (λ (ns : List ℕ). AreNodesAdded t l m before list ns ends ends)
          (sym (e ∙ cond-false (is_on_path list n) list (list ++ n ∷ []) q)) (record {
            growth = record {
              nodes = a.growth.nodes;
              same_outcomes = a.growth.same_outcomes;
              list_right = agenda_after_push t m before list n a.growth.list_right h present fresh new q;
              keys_more = a.growth.keys_more;
              settled_still = a.growth.settled_still;
              list_more = appending_is_exploration_growth list (n ∷ []);
              ends_more = a.growth.ends_more;
            };
            same_nodes = a.same_nodes;
          })
    ]
