use Rattle.std.proofs.Common.{rules, ◌≡◌, ◌+◌, ◌++◌, [], ◌∷◌, ℕ, List, length, sym, ◌∙◌, ap, subst}
use Rattle.std.proofs.lemmas.Result.{IfOk-from_err}
use Rattle.edge_links.specs.Edges.{LinkGraph}
use Rattle.edge_links.specs.Owners.{LinkOwners}
use Rattle.edge_links.specs.PlaceView.{link_graph_of, AreLinks}
use Rattle.edge_links.proofs.AddedPlaces.{begun_links, begun_shown, node_links, node_shown}
use Rattle.edge_links.proofs.ErrorExits.{link_error_exit}
use Rattle.edge_links.proofs.links.Links.add_node.Goals as goal

pub invariant_of-self : goal.invariant_of-self
invariant_of-self c =
    begun_links c.self.inside.places c.begin.new.self c.self.inside.nodes.items c.self.invariant c.begin.ensures.begun

pub returns-in_err-begin : goal.returns-in_err-begin
returns-in_err-begin c = record {
  ok = IfOk-from_err _ _ c.from_residual.ensures.0;
  err = link_error_exit _
      (begun_shown c.self.inside.places c.begin.new.self c.self.inside.nodes.items c.self.invariant
      c.begin.ensures.begun ∙ c.self.view_is);
}

pub invariant_of-self-in_err-name : goal.invariant_of-self-in_err-name
invariant_of-self-in_err-name c =
    begun_links c.self.inside.places c.begin.new.self c.self.inside.nodes.items c.self.invariant c.begin.ensures.begun

pub returns-in_err-name : goal.returns-in_err-name
returns-in_err-name c = record {
  ok = IfOk-from_err _ _ c.from_residual-in_err-name.ensures.0;
  err = link_error_exit _
      (begun_shown c.self.inside.places c.begin.new.self c.self.inside.nodes.items c.self.invariant
      c.begin.ensures.begun ∙ c.self.view_is);
}

pub invariant_of-self-in_err-reserve : goal.invariant_of-self-in_err-reserve
invariant_of-self-in_err-reserve c =
    subst (λ (xs : List ℕ). AreLinks c.begin.new.self xs) (sym c.reserve.ensures.items)
    (begun_links c.self.inside.places c.begin.new.self c.self.inside.nodes.items c.self.invariant
    c.begin.ensures.begun)

pub returns-in_err-reserve : goal.returns-in_err-reserve
returns-in_err-reserve c = record {
  ok = IfOk-from_err _ _ c.from_residual-in_err-reserve.ensures.0;
  err = link_error_exit _
      (ap (λ xs. link_graph_of c.begin.new.self xs) c.reserve.ensures.items
      ∙ (begun_shown c.self.inside.places c.begin.new.self c.self.inside.nodes.items c.self.invariant
      c.begin.ensures.begun ∙ c.self.view_is));
}

pub invariant_of-self-in_err-place : goal.invariant_of-self-in_err-place
invariant_of-self-in_err-place c =
    let begun = begun_links c.self.inside.places c.begin.new.self c.self.inside.nodes.items c.self.invariant
    c.begin.ensures.begun in
    subst (λ (xs : List ℕ). AreLinks c.add_head.new.self xs) (sym c.reserve.ensures.items)
    (subst (λ (s : LinkOwners). AreLinks s c.self.inside.nodes.items) (sym c.in_err-place.ensures.err) begun)

pub returns-in_err-place-clause-ok : goal.returns-in_err-place-clause-ok
returns-in_err-place-clause-ok c = IfOk-from_err _ _ c.from_residual-in_err-place.ensures.0

pub returns-in_err-place-clause-err : goal.returns-in_err-place-clause-err
returns-in_err-place-clause-err c =
    let before : link_graph_of c.begin.new.self c.self.inside.nodes.items ≡ c.args.self.now =
    begun_shown c.self.inside.places c.begin.new.self c.self.inside.nodes.items c.self.invariant c.begin.ensures.begun
    ∙ c.self.view_is in
    let same : link_graph_of c.add_head.new.self c.reserve.new.self.items ≡ c.args.self.now =
    ap (λ xs. link_graph_of c.add_head.new.self xs) c.reserve.ensures.items ∙
    (ap (λ (s : LinkOwners). link_graph_of s c.self.inside.nodes.items) c.in_err-place.ensures.err ∙ before) in
    link_error_exit _ same

pub invariant_of-self-2 : goal.invariant_of-self-2
invariant_of-self-2 c =
    let begun = begun_links c.self.inside.places c.begin.new.self c.self.inside.nodes.items c.self.invariant
    c.begin.ensures.begun in
    let node : c.len-node.result ≡ length c.self.inside.nodes.items = search rules in
    let named : c.in_ok-name.name ≡ length c.self.inside.nodes.items = c.in_ok-name.ensures.0 ∙ node in
    node_links c.begin.new.self c.add_head.new.self c.self.inside.nodes.items c.in_ok-place.place c.in_ok-name.name
    c.in_ok-place.ensures.was begun c.in_ok-begin.ensures.some c.in_ok-place.ensures.ok.0 c.in_ok-place.ensures.ok.1
    c.push_reserved.new.self.items named
    (c.push_reserved.ensures.items ∙ ap (λ xs. xs ++ c.in_ok-place.place ∷ []) c.reserve.ensures.items)

pub returns-clause-ok : goal.returns-clause-ok
returns-clause-ok c =
    let begun = begun_links c.self.inside.places c.begin.new.self c.self.inside.nodes.items c.self.invariant
    c.begin.ensures.begun in
    let node : c.len-node.result ≡ length c.self.inside.nodes.items = search rules in
    let named : c.in_ok-name.name ≡ length c.self.inside.nodes.items = c.in_ok-name.ensures.0 ∙ node in
    let before : link_graph_of c.begin.new.self c.self.inside.nodes.items ≡ c.args.self.now =
    begun_shown c.self.inside.places c.begin.new.self c.self.inside.nodes.items c.self.invariant c.begin.ensures.begun
    ∙ c.self.view_is in (
      node ∙ ap (λ (g : LinkGraph). g.nodes) before,
      node_shown c.begin.new.self c.add_head.new.self c.self.inside.nodes.items c.in_ok-place.place c.in_ok-name.name
          c.in_ok-place.ensures.was begun c.in_ok-begin.ensures.some c.in_ok-place.ensures.ok.0
          c.in_ok-place.ensures.ok.1
          c.push_reserved.new.self.items named
          (c.push_reserved.ensures.items ∙ ap (λ xs. xs ++ c.in_ok-place.place ∷ []) c.reserve.ensures.items)
          ∙ ap (λ (g : LinkGraph). record g { nodes = g.nodes + 1 }) before,
    )
