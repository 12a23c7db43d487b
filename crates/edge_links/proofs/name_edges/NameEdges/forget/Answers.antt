use Rattle.std.proofs.Common.{◌/◌, ◌%◌, ◌∙◌, subst, nat_eq, refl}
use Rattle.std.specs.Prelude.{◌&&◌}
use Rattle.edge_links.specs.Reach.{AreMarksCleared}
use Rattle.edge_links.specs.AffectedNames.{ForgetsNameEdges, IsAffectedByEdges}
use Rattle.edge_links.specs.NameGraphs.{NameEdgeGraph}
use Rattle.edge_links.specs.NameNodes.{name_edge_graph}
use Rattle.edge_links.proofs.NameNodes.{cleared, edge_node_mark_is_of_name, forgotten}
use Rattle.edge_links.proofs.name_edges.NameEdges.forget.Goals as goal

pub returns-clause-edges : goal.returns-clause-edges
returns-clause-edges g c =
    subst (λ (x : NameEdgeGraph). ForgetsNameEdges (IsAffectedByEdges x c.args.key) x
    (name_edge_graph c.unsettle-2.new.self))
    c.self.view_is
    (forgotten c.self.inside.links c.self.invariant c.args.key c.unsettle.new.self.edges c.unsettle-2.new.self.edges
    c.unsettle.ensures.edges c.unsettle-2.ensures.edges c.unsettle-2.new.self
    (c.unsettle-2.ensures.nodes ∙ c.unsettle.ensures.nodes) refl)

pub returns-clause-marks : goal.returns-clause-marks
returns-clause-marks g c =
    subst (λ (x : NameEdgeGraph). AreMarksCleared (IsAffectedByEdges x c.args.key) (g.K.Marks.is_marked c.args.names)
    (g.K.Marks.is_marked c.unsettle-2.new.marks.names)) c.self.view_is
    (cleared c.self.inside.links c.self.invariant c.args.key c.unsettle.new.self.edges c.unsettle-2.new.self.edges
    c.unsettle.ensures.edges c.unsettle-2.ensures.edges
    (λ node. nat_eq (node % 2) 0 && g.K.Marks.is_marked c.args.names (node / 2))
    (λ node. nat_eq (node % 2) 0 && g.K.Marks.is_marked c.unsettle.new.marks.names (node / 2))
    (λ node. nat_eq (node % 2) 0 && g.K.Marks.is_marked c.unsettle-2.new.marks.names (node / 2))
    (g.K.Marks.is_marked c.args.names) (g.K.Marks.is_marked c.unsettle-2.new.marks.names)
    (edge_node_mark_is_of_name (g.K.Marks.is_marked c.args.names))
    (edge_node_mark_is_of_name (g.K.Marks.is_marked c.unsettle-2.new.marks.names))
    c.unsettle.ensures.marks c.unsettle-2.ensures.marks)
