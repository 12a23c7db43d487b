use Rattle.std.proofs.Common.{◌≡◌, ◌+◌, Some, refl, sym, ◌∙◌, subst}
use Rattle.std.specs.List.{slice_get}
use Rattle.def_entry.specs.Views.{entry_definition_view, entry_view}
use Rattle.deck.specs.Tables.{table_of_deck}
use Rattle.live_table.specs.FoundDefinitions.{HasLiveEntry}
use Rattle.live_table.specs.TableContents.{NodeLists, node_key_at, node_lists}
use Rattle.live_table.proofs.DefinitionSearch.{IsFinding, finding_next, no_node_definition_at_start}
use Rattle.live_table.proofs.AddedNames.{two_node_growths_are_one}
use Rattle.live_table.proofs.ReachedNames.{IsExploring, explored_next, exploring_end, exploring_next}
use Rattle.live_table.proofs.ReachedNames.{no_agenda_item_after_last, exploring_start, stay_next}
use Rattle.live_table.proofs.exploration.explore.Goals as goal
use Rattle.live_table.proofs.exploration.explore.Goals.{After-entry, After-make_room}
use Rattle.general_lemmas.proofs.Members.{member_at}

pub loop-n-init : goal.loop-n-init
loop-n-init c = (
  exploring_start (table_of_deck c.args.deck.now) (node_lists c.args.nodes.now) c.args.explored.now c.args.worklist.now
      c.args.dead_ends.now.items c.requires.nodes c.requires.listed c.requires.before,
  subst (λ found. IsFinding (table_of_deck c.args.deck.now) c.args.nodes.now.keys c.args.worklist.now found 0)
      (sym c.new-found.ensures.items)
      (no_node_definition_at_start (table_of_deck c.args.deck.now) c.args.nodes.now.keys c.args.worklist.now),
)

-- with more room the state of the exploration is the same
with_room : (c : After-make_room)
    → IsExploring (table_of_deck c.args.deck.now) (node_lists c.args.nodes.now) (node_lists c.make_room.new.nodes)
    c.args.explored.now
    c.args.worklist.now c.loop-n.worklist c.args.dead_ends.now.items c.loop-n.dead_ends.items c.loop-n.place
with_room c =
    subst (λ (l : NodeLists). IsExploring (table_of_deck c.args.deck.now) (node_lists c.args.nodes.now) l
    c.args.explored.now
    c.args.worklist.now c.loop-n.worklist c.args.dead_ends.now.items c.loop-n.dead_ends.items c.loop-n.place)
    (sym c.make_room.ensures) c.loop-n.invariant.0

-- the definitions found before are still right
found_still : (c : After-make_room)
    → IsFinding (table_of_deck c.args.deck.now) c.make_room.new.nodes.keys c.loop-n.worklist c.loop-n.found.items
    c.loop-n.place
found_still c =
    subst (λ (l : NodeLists). IsFinding (table_of_deck c.args.deck.now) l.keys c.loop-n.worklist c.loop-n.found.items
    c.loop-n.place)
    (sym c.make_room.ensures) c.loop-n.invariant.1

-- the number at the place
at_place : (c : After-make_room) → slice_get c.loop-n.worklist c.loop-n.place ≡ Some c.in-Some.n
at_place c = sym c.get.ensures.number ∙ c.in-Some.is

pub returns-in_err-make_room-clause-grown : goal.returns-in_err-make_room-clause-grown
returns-in_err-make_room-clause-grown c =
    (with_room (goal.at.returns-in_err-make_room-clause-grown c).After-make_room).grown

pub returns-in_err-make_room-clause-before : goal.returns-in_err-make_room-clause-before
returns-in_err-make_room-clause-before c =
    (with_room (goal.at.returns-in_err-make_room-clause-before c).After-make_room).explored

-- ---- the entry of the name
pub entry-requires-clause-within : goal.entry-requires-clause-within
entry-requires-clause-within c =
    let now = (goal.at.entry-requires-clause-within c).After-make_room in
    (with_room now).grown.list_right.listed_in_table c.in-Some.n
    (member_at c.loop-n.worklist c.loop-n.place c.in-Some.n (at_place now))

pub entry-requires-clause-present : goal.entry-requires-clause-present
entry-requires-clause-present c =
    let now = (goal.at.entry-requires-clause-present c).After-make_room in
    (with_room now).grown.list_right.listed_have_entries c.in-Some.n
    (member_at c.loop-n.worklist c.loop-n.place c.in-Some.n (at_place now))

pub returns-in_err-push-clause-grown : goal.returns-in_err-push-clause-grown
returns-in_err-push-clause-grown c =
    (with_room (goal.at.returns-in_err-push-clause-grown c).After-make_room).grown

pub returns-in_err-push-clause-before : goal.returns-in_err-push-clause-before
returns-in_err-push-clause-before c =
    (with_room (goal.at.returns-in_err-push-clause-before c).After-make_room).explored

-- the definition of the name
says : (c : After-entry)
    → HasLiveEntry (table_of_deck c.args.deck.now) (node_key_at c.make_room.new.nodes.keys c.in-Some.n)
    (entry_definition_view c.entry.result.what.now)
says c = (entry_view c.entry.result, c.entry.ensures, refl)

-- ---- the name is explored
pub explore_name-requires-clause-nodes : goal.explore_name-requires-clause-nodes
explore_name-requires-clause-nodes c =
    (with_room (goal.at.explore_name-requires-clause-nodes c).After-make_room).grown.nodes

pub explore_name-requires-clause-listed : goal.explore_name-requires-clause-listed
explore_name-requires-clause-listed c =
    (with_room (goal.at.explore_name-requires-clause-listed c).After-make_room).grown.list_right

pub explore_name-requires-clause-name : goal.explore_name-requires-clause-name
explore_name-requires-clause-name c = member_at c.loop-n.worklist c.loop-n.place c.in-Some.n
    (at_place (goal.at.explore_name-requires-clause-name c).After-make_room)

pub explore_name-requires-clause-what : goal.explore_name-requires-clause-what
explore_name-requires-clause-what c = says (goal.at.explore_name-requires-clause-what c).After-entry

pub returns-in_err-explore_name-clause-grown : goal.returns-in_err-explore_name-clause-grown
returns-in_err-explore_name-clause-grown c =
    two_node_growths_are_one (table_of_deck c.args.deck.now) (node_lists c.args.nodes.now)
    (node_lists c.make_room.new.nodes)
    (node_lists c.explore_name.new.nodes) c.args.explored.now c.args.worklist.now c.loop-n.worklist
    c.explore_name.new.worklist
    c.args.dead_ends.now.items c.loop-n.dead_ends.items c.explore_name.new.dead_ends.items
    (with_room (goal.at.returns-in_err-explore_name-clause-grown c).After-make_room).grown
    c.explore_name.ensures.grown

pub returns-in_err-explore_name-clause-before : goal.returns-in_err-explore_name-clause-before
returns-in_err-explore_name-clause-before c =
    let now = (goal.at.returns-in_err-explore_name-clause-before c).After-make_room in
    explored_next (table_of_deck c.args.deck.now) (node_lists c.args.nodes.now) (node_lists c.make_room.new.nodes)
    (node_lists c.explore_name.new.nodes) c.args.explored.now c.args.worklist.now c.loop-n.worklist
    c.explore_name.new.worklist
    c.args.dead_ends.now.items c.loop-n.dead_ends.items c.explore_name.new.dead_ends.items c.loop-n.place c.in-Some.n
    (at_place now) (with_room now) c.explore_name.ensures.grown c.explore_name.ensures.same

pub loop-n-preserved : goal.loop-n-preserved
loop-n-preserved c =
    let now = (goal.at.loop-n-preserved c).After-make_room in (
      exploring_next (table_of_deck c.args.deck.now) (node_lists c.args.nodes.now) (node_lists c.make_room.new.nodes)
          (node_lists c.explore_name.new.nodes) c.args.explored.now c.args.worklist.now c.loop-n.worklist
          c.explore_name.new.worklist c.args.dead_ends.now.items c.loop-n.dead_ends.items
          c.explore_name.new.dead_ends.items c.loop-n.place c.in-Some.n (at_place now) (with_room now)
          c.explore_name.ensures.grown c.explore_name.ensures.same c.in_ok-explore_name.ensures.written,
      subst (λ found. IsFinding (table_of_deck c.args.deck.now) c.explore_name.new.nodes.keys
          c.explore_name.new.worklist found
          (c.loop-n.place + 1)) (sym c.in_ok-push.ensures.items)
          (finding_next (table_of_deck c.args.deck.now) (node_lists c.make_room.new.nodes)
          (node_lists c.explore_name.new.nodes)
          c.args.explored.now c.loop-n.worklist c.explore_name.new.worklist c.loop-n.dead_ends.items
          c.explore_name.new.dead_ends.items c.loop-n.found.items c.loop-n.place c.in-Some.n c.entry.result.what
          (with_room now).grown.list_right (at_place now) (says (goal.at.loop-n-preserved c).After-entry)
          (found_still now)
          c.explore_name.ensures.grown),
    )

-- ---- all names are explored
pub returns-clause-grown : goal.returns-clause-grown
returns-clause-grown c = c.loop-n.invariant.0.grown

pub returns-clause-before : goal.returns-clause-before
returns-clause-before c = c.loop-n.invariant.0.explored

pub returns-clause-all : goal.returns-clause-all
returns-clause-all c =
    exploring_end (table_of_deck c.args.deck.now) (node_lists c.args.nodes.now) (node_lists c.loop-n.nodes)
    c.args.explored.now
    c.args.worklist.now c.loop-n.worklist c.args.dead_ends.now.items c.loop-n.dead_ends.items c.loop-n.place
    c.loop-n.invariant.0 (no_agenda_item_after_last c.loop-n.worklist c.loop-n.place
    (sym c.get.ensures.number ∙ c.in_default.is))

pub returns-clause-found : goal.returns-clause-found
returns-clause-found c = c.loop-n.invariant.1.are

-- ---- explored names have the same steps
pub returns-in_err-make_room-clause-stay : goal.returns-in_err-make_room-clause-stay
returns-in_err-make_room-clause-stay c =
    (with_room (goal.at.returns-in_err-make_room-clause-stay c).After-make_room).stay

pub returns-in_err-push-clause-stay : goal.returns-in_err-push-clause-stay
returns-in_err-push-clause-stay c = (with_room (goal.at.returns-in_err-push-clause-stay c).After-make_room).stay

pub returns-in_err-explore_name-clause-stay : goal.returns-in_err-explore_name-clause-stay
returns-in_err-explore_name-clause-stay c =
    let now = (goal.at.returns-in_err-explore_name-clause-stay c).After-make_room in
    stay_next (table_of_deck c.args.deck.now) (node_lists c.args.nodes.now) (node_lists c.make_room.new.nodes)
    (node_lists c.explore_name.new.nodes) c.args.explored.now c.args.worklist.now c.loop-n.worklist
    c.explore_name.new.worklist
    c.args.dead_ends.now.items c.loop-n.dead_ends.items c.explore_name.new.dead_ends.items c.loop-n.place c.in-Some.n
    (at_place now) (with_room now) c.explore_name.ensures.grown c.explore_name.ensures.same

pub returns-clause-stay : goal.returns-clause-stay
returns-clause-stay c = c.loop-n.invariant.0.stay
