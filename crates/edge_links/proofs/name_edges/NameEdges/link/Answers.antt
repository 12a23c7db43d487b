use Rattle.std.proofs.Common.{◌≡◌, ◌*◌, ◌+◌, ◌<◌, ◌++◌, ℕ, List, map, ◌∙◌, ap, subst, sym, arith}
use Rattle.edge_links.specs.Edges.{LinkEdge, link_edge, link_edge_count, AreSameLinkEdges}
use Rattle.edge_links.specs.NameGraphs.{NameEdgeGraph}
use Rattle.edge_links.specs.NameNodes.{edges_to}
use Rattle.edge_links.proofs.NameEdgeAdditions.{looks_added, no_second_user, second_edge_node_is_in_range, uses_added}
use Rattle.edge_links.proofs.name_edges.NameEdges.link.Goals as goal

pub link_all-requires-clause-keys : goal.link_all-requires-clause-keys
link_all-requires-clause-keys c k i =
    let h = second_edge_node_is_in_range k c.self.inside.links.nodes
    (subst (λ (x : NameEdgeGraph). k < x.names) (sym c.self.view_is) (c.requires.used k i)) in
    let e = c.in_ok-reserve_edges.ensures.rest.0 in
    omega (arith, h, e)

pub link_all-requires-2-clause-keys : goal.link_all-requires-2-clause-keys
link_all-requires-2-clause-keys c k i =
    let h = second_edge_node_is_in_range k c.self.inside.links.nodes
    (subst (λ (x : NameEdgeGraph). k < x.names) (sym c.self.view_is) (c.requires.looked k i)) in
    let e = c.in_ok-reserve_edges.ensures.rest.0 in
    let f = c.link_all.ensures.nodes in
    omega (arith, h, e, f)

pub invariant_of-self-2 : goal.invariant_of-self-2
invariant_of-self-2 c = record {
  users = no_second_user c.args.user c.args.used.now c.args.looked.now c.reserve_edges.new.self.edges
      c.link_all.new.links.edges c.link_all-2.new.links.edges c.link_all.ensures.edges c.link_all-2.ensures.edges
      (subst (λ (es : List LinkEdge). (x y : ℕ) → link_edge_count es (x * 2 + 1) y ≡ 0)
      (sym c.in_ok-reserve_edges.ensures.rest.1)
      c.self.invariant.users);
  fits =
      let a = c.self.invariant.fits in
      let d = c.in_ok-reserve_edges.ensures.rest.0 in
      let e = c.link_all.ensures.nodes in
      let f = c.link_all-2.ensures.nodes in
      omega (arith, a, d, e, f);
}

pub returns-clause-uses : goal.returns-clause-uses
returns-clause-uses c =
    subst (λ (es : List LinkEdge). AreSameLinkEdges (edges_to 0 c.link_all-2.new.links.edges)
    (map (link_edge c.args.user) c.args.used.now ++ es))
    (ap (edges_to 0) c.in_ok-reserve_edges.ensures.rest.1 ∙ ap (λ (x : NameEdgeGraph). x.uses) c.self.view_is)
    (uses_added c.args.user c.args.used.now c.args.looked.now c.reserve_edges.new.self.edges
    c.link_all.new.links.edges c.link_all-2.new.links.edges c.link_all.ensures.edges c.link_all-2.ensures.edges)

pub returns-clause-looks : goal.returns-clause-looks
returns-clause-looks c =
    subst (λ (es : List LinkEdge). AreSameLinkEdges (edges_to 1 c.link_all-2.new.links.edges)
    (map (link_edge c.args.user) c.args.looked.now ++ es))
    (ap (edges_to 1) c.in_ok-reserve_edges.ensures.rest.1 ∙ ap (λ (x : NameEdgeGraph). x.looks) c.self.view_is)
    (looks_added c.args.user c.args.used.now c.args.looked.now c.reserve_edges.new.self.edges
    c.link_all.new.links.edges c.link_all-2.new.links.edges c.link_all.ensures.edges c.link_all-2.ensures.edges)
