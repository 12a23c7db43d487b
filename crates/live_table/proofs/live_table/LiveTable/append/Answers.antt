use Rattle.std.proofs.Common.{subst}
use Rattle.std.specs.Prelude.{Ok}
use Rattle.deck_lines.specs.Transcripts.{HasTranscript, IsTranscript, files_model}
use Rattle.deck.specs.FileLoads as loading
use Rattle.live_table.specs.TableView.{LiveView}
use Rattle.live_table.specs.TableContents.{live_view_of_nodes, node_lists}
use Rattle.live_table.proofs.NodeEdits.{live_table_can_forget, live_table_with_other_edges}
use Rattle.live_table.proofs.NodeEdits.{live_view_is_edited}
use Rattle.live_table.proofs.live_table.LiveTable.append.Goals as goal

pub forget_changed-requires-clause-can : goal.forget_changed-requires-clause-can
forget_changed-requires-clause-can g c =
    live_table_can_forget c.self.inside.deck (node_lists c.self.inside.nodes) c.link_waiting.new.edges
    c.self.inside.reductions
    (live_table_with_other_edges c.self.inside.deck (node_lists c.self.inside.nodes) c.self.inside.edges
    c.link_waiting.new.edges
    c.self.inside.reductions c.self.invariant.0 c.link_waiting.ensures.edges)

pub invariant_of-self-2 : goal.invariant_of-self-2
invariant_of-self-2 g c = (
  c.forget_changed.ensures.live c.self.inside.deck c.self.inside.reductions
      (live_table_with_other_edges c.self.inside.deck (node_lists c.self.inside.nodes) c.self.inside.edges
      c.link_waiting.new.edges
      c.self.inside.reductions c.self.invariant.0 c.link_waiting.ensures.edges)
      c.in_ok-keys.ensures.changed,
  (c.forget_changed.ensures.explored, c.forget_changed.ensures.faults),
)

pub returns-clause-ok : goal.returns-clause-ok
returns-clause-ok g c =
    live_view_is_edited c.args.self.now
    (live_view_of_nodes c.append.new.self (node_lists c.forget_changed.new.nodes) c.self.inside.reductions)
    c.self.inside.deck (node_lists c.self.inside.nodes) c.self.inside.reductions c.self.view_is
    (c.forget_changed.ensures.edit c.self.inside.deck c.self.inside.reductions
    (live_table_with_other_edges c.self.inside.deck (node_lists c.self.inside.nodes) c.self.inside.edges
    c.link_waiting.new.edges
    c.self.inside.reductions c.self.invariant.0 c.link_waiting.ensures.edges)
    c.in_ok-keys.ensures.changed)

pub returns-clause-loads : goal.returns-clause-loads
returns-clause-loads g c =
    subst (λ (s : LiveView). HasTranscript
    (IsTranscript (files_model g.F.Files.files g.F.Files.faults g.F.Files.is_fetch) c.args.files.now c.append.new.files)
    (loading.deck_load_of_name c.args.name.now (loading.deck_excerpt_of_lines s.deck.lines))
    (Ok (loading.excerpt_of_deck c.append.new.self))) c.self.view_is c.in_ok-keys.ensures.loads
