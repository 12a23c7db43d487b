use Rattle.std.proofs.Common.{◌≡◌, ◌<◌, length, arith}
use Rattle.deck.specs.Tables.{table_of_deck}
use Rattle.live_table.specs.TableContents.{node_lists}
use Rattle.live_table.proofs.Flags.{unsettled_flag_leaves_room}
use Rattle.live_table.proofs.OutcomesByKey.{settled_count}
use Rattle.live_table.proofs.KnownFaults.{no_more_names_settled, settled_name_is_one_more_settled}
use Rattle.live_table.proofs.SettleOne.{IsPut, settled_nodes, settled_shown, settled_sound}
use Rattle.live_table.proofs.StillExplored.{settled_explored}
use Rattle.live_table.proofs.WaitingNames.{waiting_edges}
use Rattle.live_table.proofs.settlement.settle_one.Goals as goal
use Rattle.live_table.proofs.settlement.settle_one.Goals.{After-saturating_add}

pub store_outcome-requires-clause-callees : goal.store_outcome-requires-clause-callees
store_outcome-requires-clause-callees g c =
    let a : c.args.n < length (node_lists c.args.nodes.now).keys = c.requires.due.in_table in
    let b : length (node_lists c.args.nodes.now).callees ≡ length (node_lists c.args.nodes.now).keys =
    c.requires.sound.numbers.callee_count in
    omega (arith, a, b)

pub store_outcome-requires-clause-outcomes : goal.store_outcome-requires-clause-outcomes
store_outcome-requires-clause-outcomes g c =
    let a : c.args.n < length (node_lists c.args.nodes.now).keys = c.requires.due.in_table in
    let b : length (node_lists c.args.nodes.now).outcomes ≡ length (node_lists c.args.nodes.now).keys =
    c.requires.sound.numbers.outcome_count in
    omega (arith, a, b)

pub store_outcome-requires-clause-settled : goal.store_outcome-requires-clause-settled
store_outcome-requires-clause-settled g c =
    let a : c.args.n < length (node_lists c.args.nodes.now).keys = c.requires.due.in_table in
    let b : length (node_lists c.args.nodes.now).settled_flags ≡ length (node_lists c.args.nodes.now).keys =
    settled_count c.args.deck.now (node_lists c.args.nodes.now) c.args.reductions.now c.requires.sound.numbers in
    omega (arith, a, b)

pub store_outcome-requires-clause-room : goal.store_outcome-requires-clause-room
store_outcome-requires-clause-room g c =
    let a = unsettled_flag_leaves_room (node_lists c.args.nodes.now).settled_flags c.args.n
    c.requires.due.still_unsettled in
    let b = c.requires.sound.numbers.count_right in
    let s = c.args.nodes.now.settled.ok.0 in
    omega (arith, a, b)

-- the outcome of the name is stored
is_put : (g : _) (c : After-saturating_add g)
    → IsPut c.args.deck.now (node_lists c.args.nodes.now) c.args.reductions.now c.args.n c.in_ok-outcome.outcome
    c.rank_of-rank.result c.saturating_add.result (node_lists c.store_outcome.new.nodes)
is_put g c = record {
  outcome_is = c.in_ok-outcome.ensures.outcome;
  rank_is = c.rank_of-rank.ensures;
  counted = omega (arith, c.saturating_add.ensures);
  put = c.store_outcome.ensures;
}

pub returns-clause-sound : goal.returns-clause-sound
returns-clause-sound g c =
    settled_sound c.args.deck.now (node_lists c.args.nodes.now) c.args.reductions.now c.args.n c.requires.sound
    c.requires.due c.in_ok-outcome.outcome c.rank_of-rank.result c.saturating_add.result
    (node_lists c.store_outcome.new.nodes)
    (is_put g (goal.at.returns-clause-sound g c).After-saturating_add)

pub returns-clause-nodes : goal.returns-clause-nodes
returns-clause-nodes g c =
    settled_nodes c.args.deck.now (node_lists c.args.nodes.now) c.args.reductions.now c.args.n c.requires.sound
    c.requires.due c.in_ok-outcome.outcome c.rank_of-rank.result c.saturating_add.result
    (node_lists c.store_outcome.new.nodes)
    (is_put g (goal.at.returns-clause-nodes g c).After-saturating_add)

pub returns-clause-ok : goal.returns-clause-ok
returns-clause-ok g c =
    settled_shown c.args.deck.now (node_lists c.args.nodes.now) c.args.reductions.now c.args.n c.requires.sound
    c.requires.due c.in_ok-outcome.outcome c.rank_of-rank.result c.saturating_add.result
    (node_lists c.store_outcome.new.nodes)
    (is_put g (goal.at.returns-clause-ok g c).After-saturating_add)

pub returns-clause-edges : goal.returns-clause-edges
returns-clause-edges g c =
    waiting_edges c.args.deck.now (node_lists c.args.nodes.now) c.args.reductions.now c.args.n c.requires.sound
    c.requires.due c.args.edges.now.waiting.items c.args.edges.now.made c.requires.edges
    (node_lists c.store_outcome.new.nodes)
    (settled_nodes c.args.deck.now (node_lists c.args.nodes.now) c.args.reductions.now c.args.n c.requires.sound
    c.requires.due c.in_ok-outcome.outcome c.rank_of-rank.result c.saturating_add.result
    (node_lists c.store_outcome.new.nodes)
    (is_put g (goal.at.returns-clause-edges g c).After-saturating_add))
    _ c.in_ok-push_back.ensures.items

pub returns-clause-explored : goal.returns-clause-explored
returns-clause-explored g c =
    settled_explored (table_of_deck c.args.deck.now) (node_lists c.args.nodes.now)
    (node_lists c.store_outcome.new.nodes)
    c.args.n
    c.in_ok-outcome.outcome c.rank_of-rank.result
    (let a : c.args.n < length (node_lists c.args.nodes.now).keys = c.requires.due.in_table in
    let b : length (node_lists c.args.nodes.now).callees ≡ length (node_lists c.args.nodes.now).keys =
    c.requires.sound.numbers.callee_count in omega (arith, a, b))
    c.store_outcome.ensures

pub returns-clause-later : goal.returns-clause-later
returns-clause-later g c =
    settled_name_is_one_more_settled (node_lists c.args.nodes.now) (node_lists c.store_outcome.new.nodes) c.args.n
    c.in_ok-outcome.outcome
    c.rank_of-rank.result
    (let a : c.args.n < length (node_lists c.args.nodes.now).keys = c.requires.due.in_table in
    let b : length (node_lists c.args.nodes.now).callees ≡ length (node_lists c.args.nodes.now).keys =
    c.requires.sound.numbers.callee_count in omega (arith, a, b))
    c.store_outcome.ensures

pub returns-in_err-outcome-clause-later : goal.returns-in_err-outcome-clause-later
returns-in_err-outcome-clause-later g c = no_more_names_settled (node_lists c.args.nodes.now)

pub returns-in_err-push_back-clause-later : goal.returns-in_err-push_back-clause-later
returns-in_err-push_back-clause-later g c = no_more_names_settled (node_lists c.args.nodes.now)
