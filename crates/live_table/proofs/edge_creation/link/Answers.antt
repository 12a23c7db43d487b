use Rattle.std.proofs.Common.{◌↔◌, ◌≤◌, ℕ, List, ◌∷◌, max, Contains, refl, sym, ◌∙◌, subst, arith}
use Rattle.name_walk.specs.declared.step.Step.{Step}
use Rattle.name_walk.specs.declared.step.Step.TheVariants.{To}
use Rattle.live_table.specs.TableContents.{node_lists}
use Rattle.live_table.proofs.OutcomesByKey.{settled_within}
use Rattle.live_table.proofs.LinkedNames.{covered_edges, covered_on_err, linked_edges, read_looks_are_node_looks}
use Rattle.live_table.proofs.LinkedNames.{settled_target_is_within_keys}
use Rattle.live_table.proofs.edge_creation.link.Goals as goal

pub steps_of-requires : goal.steps_of-requires
steps_of-requires c =
    let n = settled_within c.args.deck.now (node_lists c.args.nodes.now) c.requires.sound.0 c.requires.sound.1.numbers
    c.args.n c.requires.settled in
    let e = c.requires.sound.1.numbers.step_count in
    omega (arith, n, e)

pub gather_targets-requires : goal.gather_targets-requires
gather_targets-requires c k i =
    let w = settled_target_is_within_keys c.args.deck.now (node_lists c.args.nodes.now) c.requires.sound.0
    c.requires.sound.1 c.args.n
    c.requires.settled c.steps_of.result.now c.steps_of.ensures.is k i in
    let e = c.len-count.ensures in
    omega (arith, w, e)

pub returns-in_err-cover-clause-err : goal.returns-in_err-cover-clause-err
returns-in_err-cover-clause-err c =
    covered_on_err c.args.deck.now (node_lists c.args.nodes.now) c.args.made.now c.cover.new.self c.cover.ensures.rest
    c.cover.ensures.no_less
    (subst (λ k. c.cover.new.self.names ≤ max c.args.made.now.names k) c.len-count.ensures c.cover.ensures.within)
    c.cover.new.self refl _

pub index-requires : goal.index-requires
index-requires c =
    let n = settled_within c.args.deck.now (node_lists c.args.nodes.now) c.requires.sound.0 c.requires.sound.1.numbers
    c.args.n c.requires.settled in
    let e = c.requires.sound.1.numbers.look_count in
    omega (arith, n, e)

pub link-requires-clause-user : goal.link-requires-clause-user
link-requires-clause-user c =
    let n = settled_within c.args.deck.now (node_lists c.args.nodes.now) c.requires.sound.0 c.requires.sound.1.numbers
    c.args.n c.requires.settled in
    let e = c.len-count.ensures in
    let a = c.in_ok-cover.ensures.covered in
    omega (arith, n, e, a)

pub link-requires-clause-used : goal.link-requires-clause-used
link-requires-clause-used c k i =
    let j = (c.in_ok-gather_targets.ensures k).0
    (subst (λ (ns : List ℕ). Contains ns k) c.as_slice.ensures i) in
    let w = settled_target_is_within_keys c.args.deck.now (node_lists c.args.nodes.now) c.requires.sound.0
    c.requires.sound.1 c.args.n
    c.requires.settled c.steps_of.result.now c.steps_of.ensures.is k j in
    let e = c.len-count.ensures in
    let a = c.in_ok-cover.ensures.covered in
    omega (arith, w, e, a)

pub link-requires-clause-looked : goal.link-requires-clause-looked
link-requires-clause-looked c k i =
    let n = settled_within c.args.deck.now (node_lists c.args.nodes.now) c.requires.sound.0 c.requires.sound.1.numbers
    c.args.n c.requires.settled in
    let d = c.requires.sound.1.numbers.look_count in
    let same = c.deref.ensures.value ∙ read_looks_are_node_looks (node_lists c.args.nodes.now).looks c.args.n
    c.index.result.now
    (omega (arith, n, d)) c.index.ensures in
    let w = (c.requires.sound.1.numbers.settled_looks c.args.n c.requires.settled).looks.seen_in_table k
    (subst (λ (ns : List ℕ). Contains ns k) same i) in
    let e = c.len-count.ensures in
    let a = c.in_ok-cover.ensures.covered in
    omega (arith, w, e, a)

pub returns-in_err-link-clause-err : goal.returns-in_err-link-clause-err
returns-in_err-link-clause-err c =
    covered_on_err c.args.deck.now (node_lists c.args.nodes.now) c.args.made.now c.cover.new.self c.cover.ensures.rest
    c.cover.ensures.no_less
    (subst (λ k. c.cover.new.self.names ≤ max c.args.made.now.names k) c.len-count.ensures c.cover.ensures.within)
    c.link.new.self c.in_err-link.ensures.err _

pub returns-clause-ok : goal.returns-clause-ok
returns-clause-ok c rest edges =
    let n = settled_within c.args.deck.now (node_lists c.args.nodes.now) c.requires.sound.0 c.requires.sound.1.numbers
    c.args.n c.requires.settled in
    let z = c.requires.sound.1.numbers.look_count in
    let e = c.len-count.ensures in
    let a = c.in_ok-cover.ensures.covered in
    linked_edges c.linking_law.ensures c.args.deck.now (node_lists c.args.nodes.now) c.requires.sound.0 c.args.n
    c.cover.new.self c.link.new.self
    c.as_slice.result.now c.deref.result.now rest c.requires.sound.1 c.requires.settled
    (covered_edges c.args.deck.now (node_lists c.args.nodes.now) c.args.made.now c.cover.new.self c.cover.ensures.rest
    c.cover.ensures.no_less
    (subst (λ k. c.cover.new.self.names ≤ max c.args.made.now.names k) c.len-count.ensures c.cover.ensures.within)
    (c.args.n ∷ rest) edges)
    (omega (arith, n, e, a)) c.link.ensures.names c.in_ok-link.ensures.uses c.in_ok-link.ensures.looks
    (subst (λ (p : List ℕ × List Step). (m : ℕ) → Contains p.0 m ↔ Contains p.1 (To m))
    (λ i. (sym c.as_slice.ensures i, c.steps_of.ensures.is i))
    c.in_ok-gather_targets.ensures)
    (c.deref.ensures.value ∙ read_looks_are_node_looks (node_lists c.args.nodes.now).looks c.args.n c.index.result.now
    (omega (arith, n, z)) c.index.ensures)
    (omega (arith, e, a))
