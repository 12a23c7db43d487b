use Rattle.std.proofs.Common.{◌+◌, ◌<◌, length, sym, ◌∙◌, ap, subst}
use Rattle.edge_links.specs.Edges.{LinkGraph}
use Rattle.edge_links.specs.Once.{ClearsEachMarkOnce}
use Rattle.edge_links.specs.Reach.{IsAffectedLinkNode, AreMarksCleared, ForgetsLinks}
use Rattle.edge_links.specs.PlaceView.{link_edges_below}
use Rattle.edge_links.proofs.Forgotten.{links_after, forgets, spare_after, cleared, clears_each_node}
use Rattle.edge_links.proofs.links.Links.unsettle.Goals as goal

pub invariant_of-self : goal.invariant_of-self
invariant_of-self g c =
    let there = subst (λ (x : LinkGraph). c.args.key < x.nodes) (sym c.self.view_is) c.requires in
    links_after c.self.inside.places c.unsettle.ensures.edges c.self.inside.nodes.items c.self.invariant c.args.key
    there
    c.index-place.result.now c.index-place.ensures
    c.unsettle.new.self c.unsettle.ensures.size c.unsettle.ensures.names c.unsettle.ensures.cut c.unsettle.ensures.idle

pub returns-clause-edges : goal.returns-clause-edges
returns-clause-edges g c =
    let there = subst (λ (x : LinkGraph). c.args.key < x.nodes) (sym c.self.view_is) c.requires in
    subst (λ (x : LinkGraph). ForgetsLinks c.args.key x.edges
    (link_edges_below c.unsettle.new.self (length c.unsettle.new.self.users))) c.self.view_is
    (forgets c.self.inside.places c.unsettle.ensures.edges c.self.inside.nodes.items c.self.invariant c.args.key there
    c.index-place.result.now c.index-place.ensures
    c.unsettle.new.self c.unsettle.ensures.size c.unsettle.ensures.names c.unsettle.ensures.cut c.unsettle.ensures.idle)

pub returns-clause-spare : goal.returns-clause-spare
returns-clause-spare g c =
    let there = subst (λ (x : LinkGraph). c.args.key < x.nodes) (sym c.self.view_is) c.requires in
    spare_after c.self.inside.places c.unsettle.ensures.edges c.self.inside.nodes.items c.self.invariant c.args.key
    there
    c.index-place.result.now c.index-place.ensures
    c.unsettle.new.self c.unsettle.ensures.size c.unsettle.ensures.names c.unsettle.ensures.cut c.unsettle.ensures.idle
    ∙ ap (λ (x : LinkGraph). x.spare + length x.edges) c.self.view_is

pub returns-clause-marks : goal.returns-clause-marks
returns-clause-marks g c =
    let there = subst (λ (x : LinkGraph). c.args.key < x.nodes) (sym c.self.view_is) c.requires in
    subst (λ (x : LinkGraph). AreMarksCleared (IsAffectedLinkNode x.edges c.args.key)
    (g.K.Marks.is_marked c.args.marks.now)
    (g.K.Marks.is_marked c.unsettle.new.marks)) c.self.view_is
    (cleared c.self.inside.places c.unsettle.ensures.edges c.self.inside.nodes.items c.self.invariant c.args.key there
    c.index-place.result.now c.index-place.ensures
    c.unsettle.new.self c.unsettle.ensures.size c.unsettle.ensures.names c.unsettle.ensures.cut c.unsettle.ensures.idle
    (g.K.Marks.is_marked c.args.marks.now) (g.K.Marks.is_marked c.unsettle.new.marks) c.unsettle.ensures.cleared
    c.unsettle.ensures.kept)

pub returns-clause-once : goal.returns-clause-once
returns-clause-once g c =
    let there = subst (λ (x : LinkGraph). c.args.key < x.nodes) (sym c.self.view_is) c.requires in
    subst (λ (x : LinkGraph). ClearsEachMarkOnce g.K.Marks.is_call (IsAffectedLinkNode x.edges c.args.key)
    c.args.marks.now
    c.unsettle.new.marks) c.self.view_is
    (clears_each_node c.self.inside.places c.unsettle.ensures.edges c.self.inside.nodes.items c.self.invariant
    c.args.key there
    c.index-place.result.now c.index-place.ensures
    c.unsettle.new.self c.unsettle.ensures.size c.unsettle.ensures.names c.unsettle.ensures.cut
    c.unsettle.ensures.idle
    g.K.Marks.is_call c.args.marks.now c.unsettle.new.marks c.unsettle.ensures.once)
