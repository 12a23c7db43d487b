use Rattle.std.proofs.Common.{List, get_or, arith, subst, sym}
use Rattle.std.proofs.lemmas.Option.{slice_get-get_or}
use Rattle.def_entry.specs.declared.key.Key.{Key}
use Rattle.deck.specs.Tables.{table_of_deck}
use Rattle.live_table.specs.FoundDefinitions.{AreNodeDefinitionsFound}
use Rattle.live_table.specs.TableContents.{node_lists}
use Rattle.live_table.proofs.KnownFaults.{more_names_settled_twice, no_more_names_settled}
use Rattle.live_table.proofs.SettleAll.{is_due, no_name_settled_at_start, standing_next}
use Rattle.live_table.proofs.settlement.settle.Goals as goal

pub loop-n-init : goal.loop-n-init
loop-n-init g c = (
  no_name_settled_at_start c.args.deck.now (node_lists c.args.nodes.now) c.args.reductions.now c.args.order.now
      c.args.steps.now
      c.requires.sound c.requires.order,
  c.requires.edges,
  λ before ends were. were,
  no_more_names_settled (node_lists c.args.nodes.now),
)

-- ---- the definition of the name
pub what_of-what-requires-clause-found : goal.what_of-what-requires-clause-found
what_of-what-requires-clause-found g c =
    subst (λ (keys : List Key). AreNodeDefinitionsFound (table_of_deck c.args.deck.now) keys c.args.worklist.now
    c.args.found.now)
    (sym c.loop-n.invariant.0.keys) c.requires.found

pub what_of-what-requires-clause-within : goal.what_of-what-requires-clause-within
what_of-what-requires-clause-within g c =
    (is_due c.args.deck.now (node_lists c.args.nodes.now) (node_lists c.loop-n.nodes) c.args.reductions.now
    c.loop-n.reductions c.args.order.now c.loop-n.n-index c.args.steps.now c.loop-n.steps
    (get_or c.args.order.now c.loop-n.n-index 0) (slice_get-get_or c.args.order.now c.loop-n.n-index 0 (omega arith))
    c.loop-n.invariant.0).in_table

pub what_of-what-requires-clause-present : goal.what_of-what-requires-clause-present
what_of-what-requires-clause-present g c =
    (is_due c.args.deck.now (node_lists c.args.nodes.now) (node_lists c.loop-n.nodes) c.args.reductions.now
    c.loop-n.reductions c.args.order.now c.loop-n.n-index c.args.steps.now c.loop-n.steps
    (get_or c.args.order.now c.loop-n.n-index 0) (slice_get-get_or c.args.order.now c.loop-n.n-index 0 (omega arith))
    c.loop-n.invariant.0).key_has_entry

-- ---- the name is settled
pub settle_one-requires-clause-due : goal.settle_one-requires-clause-due
settle_one-requires-clause-due g c =
    is_due c.args.deck.now (node_lists c.args.nodes.now) (node_lists c.loop-n.nodes) c.args.reductions.now
    c.loop-n.reductions c.args.order.now c.loop-n.n-index c.args.steps.now c.loop-n.steps
    (get_or c.args.order.now c.loop-n.n-index 0) (slice_get-get_or c.args.order.now c.loop-n.n-index 0 (omega arith))
    c.loop-n.invariant.0

pub loop-n-preserved : goal.loop-n-preserved
loop-n-preserved g c =
    let h = c.in_ok-settle_one.ensures.nodes in (
      standing_next c.args.deck.now (node_lists c.args.nodes.now) (node_lists c.loop-n.nodes) c.args.reductions.now
          c.loop-n.reductions c.args.order.now c.loop-n.n-index c.args.steps.now c.loop-n.steps
          (get_or c.args.order.now c.loop-n.n-index 0)
          (slice_get-get_or c.args.order.now c.loop-n.n-index 0 (omega arith))
          c.loop-n.invariant.0
          (node_lists c.settle_one.new.nodes) c.settle_one.new.reductions c.settle_one.new.steps h.0 h.1
          c.in_ok-settle_one.ensures.sound h.2 c.in_ok-settle_one.ensures.ok c.in_ok-settle_one.ensures.steps,
      c.settle_one.ensures.edges,
      λ before ends were. c.settle_one.ensures.explored before ends (c.loop-n.invariant.2 before ends were),
      more_names_settled_twice (node_lists c.args.nodes.now) (node_lists c.loop-n.nodes)
          (node_lists c.settle_one.new.nodes)
          c.loop-n.invariant.3
          c.settle_one.ensures.later,
    )

pub settle_one-requires-clause-edges : goal.settle_one-requires-clause-edges
settle_one-requires-clause-edges g c = c.loop-n.invariant.1

pub returns-in_err-settle_one-clause-later : goal.returns-in_err-settle_one-clause-later
returns-in_err-settle_one-clause-later g c =
    more_names_settled_twice (node_lists c.args.nodes.now) (node_lists c.loop-n.nodes)
    (node_lists c.settle_one.new.nodes)
    c.loop-n.invariant.3
    c.settle_one.ensures.later
