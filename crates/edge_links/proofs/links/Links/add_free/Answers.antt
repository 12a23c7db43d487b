use Rattle.std.proofs.Common.{arith, ◌≡◌, ◌+◌, ◌<◌, ◌∙◌, ℕ, ap, sym, subst}
use Rattle.std.proofs.lemmas.Result.{IfOk-from_err}
use Rattle.edge_links.specs.Edges.{LinkGraph}
use Rattle.edge_links.specs.Owners.{LinkOwners}
use Rattle.edge_links.specs.PlaceView.{link_graph_of, AreLinks}
use Rattle.edge_links.proofs.AddedPlaces.{begun_links, begun_shown, free_links, free_shown, grown_alone}
use Rattle.edge_links.proofs.AddedPlaces.{grown_head, grown_size, grown_zero}
use Rattle.edge_links.proofs.ErrorExits.{link_error_exit}
use Rattle.edge_links.proofs.links.Links.add_free.Goals as goal

below_next : (n : ℕ) → n < n + 1
below_next n = omega arith

pub invariant_of-self : goal.invariant_of-self
invariant_of-self c =
    begun_links c.self.inside.places c.begin.new.self c.self.inside.nodes.items c.self.invariant c.begin.ensures.begun

pub returns-in_err-begin : goal.returns-in_err-begin
returns-in_err-begin c = record {
  ok = IfOk-from_err _ _ c.from_residual.ensures.0;
  err = link_error_exit _
      (begun_shown c.self.inside.places c.begin.new.self c.self.inside.nodes.items c.self.invariant
      c.begin.ensures.begun ∙ c.self.view_is);
}

pub invariant_of-self-in_err-place : goal.invariant_of-self-in_err-place
invariant_of-self-in_err-place c =
    let begun = begun_links c.self.inside.places c.begin.new.self c.self.inside.nodes.items c.self.invariant
    c.begin.ensures.begun in
    subst (λ (s : LinkOwners). AreLinks s c.self.inside.nodes.items) (sym c.in_err-place.ensures.err) begun

pub returns-in_err-place-clause-ok : goal.returns-in_err-place-clause-ok
returns-in_err-place-clause-ok c = IfOk-from_err _ _ c.from_residual-in_err-place.ensures.0

pub returns-in_err-place-clause-err : goal.returns-in_err-place-clause-err
returns-in_err-place-clause-err c =
    let before : link_graph_of c.begin.new.self c.self.inside.nodes.items ≡ c.args.self.now =
    begun_shown c.self.inside.places c.begin.new.self c.self.inside.nodes.items c.self.invariant c.begin.ensures.begun
    ∙ c.self.view_is in
    let same : link_graph_of c.add_head.new.self c.self.inside.nodes.items ≡ c.args.self.now =
    ap (λ (s : LinkOwners). link_graph_of s c.self.inside.nodes.items) c.in_err-place.ensures.err ∙ before in
    link_error_exit _ same

pub add_free-requires : goal.add_free-requires
add_free-requires c =
    let begun = begun_links c.self.inside.places c.begin.new.self c.self.inside.nodes.items c.self.invariant
    c.begin.ensures.begun in
    let was = c.in_ok-place.ensures.was in
    let some = c.in_ok-begin.ensures.some in
    let is = c.in_ok-place.ensures.ok.0 in
    let more = c.in_ok-place.ensures.ok.1 in
    let place = c.in_ok-place.place in
    record {
      there = (
        subst (λ (k : ℕ). place < k)
            (sym (grown_size c.begin.new.self c.add_head.new.self c.self.inside.nodes.items place 0 was begun some is
            more))
            (below_next place),
        grown_zero c.begin.new.self c.add_head.new.self c.self.inside.nodes.items place 0 was begun some is more,
      );
      alone = grown_alone c.begin.new.self c.add_head.new.self c.self.inside.nodes.items place 0 was begun some is more;
      head = grown_head c.begin.new.self c.add_head.new.self c.self.inside.nodes.items place 0 was begun some is more;
    }

pub invariant_of-self-2 : goal.invariant_of-self-2
invariant_of-self-2 c =
    let begun = begun_links c.self.inside.places c.begin.new.self c.self.inside.nodes.items c.self.invariant
    c.begin.ensures.begun in
    free_links c.begin.new.self c.add_head.new.self c.self.inside.nodes.items c.in_ok-place.place 0
    c.in_ok-place.ensures.was begun c.in_ok-begin.ensures.some c.in_ok-place.ensures.ok.0 c.in_ok-place.ensures.ok.1
    c.add_free.new.self
    c.add_free.ensures

pub returns-clause-ok : goal.returns-clause-ok
returns-clause-ok c =
    let begun = begun_links c.self.inside.places c.begin.new.self c.self.inside.nodes.items c.self.invariant
    c.begin.ensures.begun in
    let before : link_graph_of c.begin.new.self c.self.inside.nodes.items ≡ c.args.self.now =
    begun_shown c.self.inside.places c.begin.new.self c.self.inside.nodes.items c.self.invariant c.begin.ensures.begun
    ∙ c.self.view_is in
    free_shown c.begin.new.self c.add_head.new.self c.self.inside.nodes.items c.in_ok-place.place 0
    c.in_ok-place.ensures.was begun c.in_ok-begin.ensures.some c.in_ok-place.ensures.ok.0 c.in_ok-place.ensures.ok.1
    c.add_free.new.self
    c.add_free.ensures
    ∙ ap (λ (g : LinkGraph). record g { spare = g.spare + 1 }) before
