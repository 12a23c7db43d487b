use Rattle.std.proofs.Common.{◌<◌, ◌∷◌, sym, ◌∙◌, ap, subst}
use Rattle.std.proofs.lemmas.List.{get_or_read}
use Rattle.edge_links.specs.Edges.{LinkGraph, link_edge, link_edge_count}
use Rattle.edge_links.proofs.FreePlaces.{linked_counts, linked_links}
use Rattle.edge_links.proofs.links.Links.link.Goals as goal

pub invariant_of-self : goal.invariant_of-self
invariant_of-self c =
    let al = subst (λ (g : LinkGraph). c.args.user < g.nodes) (sym c.self.view_is) c.requires.there.0 in
    let bl = subst (λ (g : LinkGraph). c.args.key < g.nodes) (sym c.self.view_is) c.requires.there.1 in
    linked_links c.self.inside.places c.fill.new.self c.self.inside.nodes.items c.fill.ensures.edges c.self.invariant
    c.args.user c.args.key
    c.index-user.result.now c.index-key.result.now al bl
    (get_or_read c.self.inside.nodes.items c.args.user c.index-user.result.now al c.index-user.ensures 0)
    (get_or_read c.self.inside.nodes.items c.args.key c.index-key.result.now bl c.index-key.ensures 0)
    c.fill.ensures.filled

pub returns-clause-edges : goal.returns-clause-edges
returns-clause-edges c x y =
    let al = subst (λ (g : LinkGraph). c.args.user < g.nodes) (sym c.self.view_is) c.requires.there.0 in
    let bl = subst (λ (g : LinkGraph). c.args.key < g.nodes) (sym c.self.view_is) c.requires.there.1 in
    linked_counts c.self.inside.places c.fill.new.self c.self.inside.nodes.items c.fill.ensures.edges c.self.invariant
    c.args.user c.args.key
    c.index-user.result.now c.index-key.result.now al bl
    (get_or_read c.self.inside.nodes.items c.args.user c.index-user.result.now al c.index-user.ensures 0)
    (get_or_read c.self.inside.nodes.items c.args.key c.index-key.result.now bl c.index-key.ensures 0)
    c.fill.ensures.filled x y
    ∙ ap (λ (g : LinkGraph). link_edge_count (link_edge c.args.user c.args.key ∷ g.edges) x y) c.self.view_is
