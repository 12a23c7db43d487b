use Rattle.std.specs.Prelude.{Ok}
use Rattle.deck.specs.Edits as deck_edit
use Rattle.live_table.specs.TableContents.{live_view_of_nodes, node_lists}
use Rattle.live_table.proofs.NodeEdits.{live_edit_has_deck_outcome, live_table_can_forget, live_table_with_other_edges}
use Rattle.live_table.proofs.NodeEdits.{live_view_is_edited}
use Rattle.live_table.proofs.live_table.LiveTable.switch.Goals as goal

pub forget_changed-requires-clause-can : goal.forget_changed-requires-clause-can
forget_changed-requires-clause-can c =
    live_table_can_forget c.self.inside.deck (node_lists c.self.inside.nodes) c.link_waiting.new.edges
    c.self.inside.reductions
    (live_table_with_other_edges c.self.inside.deck (node_lists c.self.inside.nodes) c.self.inside.edges
    c.link_waiting.new.edges
    c.self.inside.reductions c.self.invariant.0 c.link_waiting.ensures.edges)

pub invariant_of-self-2 : goal.invariant_of-self-2
invariant_of-self-2 c = (
  c.forget_changed.ensures.live c.self.inside.deck c.self.inside.reductions
      (live_table_with_other_edges c.self.inside.deck (node_lists c.self.inside.nodes) c.self.inside.edges
      c.link_waiting.new.edges
      c.self.inside.reductions c.self.invariant.0 c.link_waiting.ensures.edges)
      c.in_ok-keys.ensures.1,
  (c.forget_changed.ensures.explored, c.forget_changed.ensures.faults),
)

pub returns : goal.returns
returns c = (
  live_edit_has_deck_outcome (λ d. Ok (deck_edit.deck_after_switching c.args.settings d)) c.self.inside.deck
      c.switch.new.self
      (node_lists c.self.inside.nodes)
      c.self.inside.reductions c.args.self.now c.self.view_is c.in_ok-keys.ensures.0,
  live_view_is_edited c.args.self.now
      (live_view_of_nodes c.switch.new.self (node_lists c.forget_changed.new.nodes) c.self.inside.reductions)
      c.self.inside.deck (node_lists c.self.inside.nodes) c.self.inside.reductions c.self.view_is
      (c.forget_changed.ensures.edit c.self.inside.deck c.self.inside.reductions
      (live_table_with_other_edges c.self.inside.deck (node_lists c.self.inside.nodes) c.self.inside.edges
      c.link_waiting.new.edges
      c.self.inside.reductions c.self.invariant.0 c.link_waiting.ensures.edges)
      c.in_ok-keys.ensures.1),
)
