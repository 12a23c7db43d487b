use Rattle.std.proofs.Common.{◌∙◌, arith}
use Rattle.std.proofs.lemmas.List.Elements.{Contains-get_or}
use Rattle.edge_links.proofs.LinkedNameEdges.{all_edges_are_added, one_more_edge_is_added}
use Rattle.edge_links.proofs.user_edges.link_all.Goals as goal

pub overflow_mul-key : goal.overflow_mul-key
overflow_mul-key c =
    let h = c.requires.keys _ (Contains-get_or c.args.keys.now c.loop-key.key-index 0 c.loop-key-test.true) in
    let f = c.requires.fits in
    omega (arith, h, f)

pub overflow_add-key : goal.overflow_add-key
overflow_add-key c =
    let h = c.requires.keys _ (Contains-get_or c.args.keys.now c.loop-key.key-index 0 c.loop-key-test.true) in
    let f = c.requires.fits in
    omega (arith, h, f)

pub link-requires-clause-there : goal.link-requires-clause-there
link-requires-clause-there c =
    let h = c.requires.keys _ (Contains-get_or c.args.keys.now c.loop-key.key-index 0 c.loop-key-test.true) in
    let u = c.requires.user in
    let n = c.loop-key.invariant.nodes in
    (omega (arith, u, n), omega (arith, h, n))

pub loop-key-preserved : goal.loop-key-preserved
loop-key-preserved c =
    let s = c.link.ensures.spare in
    let t = c.loop-key.invariant.spare in
    record {
      edges = λ x y. one_more_edge_is_added c.args.remainder c.args.user c.args.keys.now c.loop-key.key-index
          c.loop-key-test.true
          c.args.links.now.edges c.loop-key.links.edges c.link.new.self.edges x y
          (c.loop-key.invariant.edges x y) (c.link.ensures.edges x y);
      spare = omega (arith, s, t);
      nodes = c.link.ensures.nodes ∙ c.loop-key.invariant.nodes;
    }

pub returns-clause-edges : goal.returns-clause-edges
returns-clause-edges c x y =
    all_edges_are_added c.args.remainder c.args.user c.args.keys.now c.loop-key.key-index c.loop-key-test.false
    c.args.links.now.edges c.loop-key.links.edges x y (c.loop-key.invariant.edges x y)
