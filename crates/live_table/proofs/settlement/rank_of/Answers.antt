use Rattle.std.proofs.Common.{◌≡◌, ◌+◌, ◌<◌, ◌≤◌, List, length, ap, subst, sym, ◌∙◌, arith, Contains}
use Rattle.name_walk.specs.declared.step.Step.{Step}
use Rattle.name_walk.specs.declared.step.Step.TheVariants.{To}
use Rattle.live_table.specs.declared.callee.Callee.{Callee}
use Rattle.live_table.specs.Ranks.{greatest_node_step_rank}
use Rattle.live_table.specs.TableContents.{node_lists}
use Rattle.live_table.proofs.RankBounds.{rank_few, rank_is}
use Rattle.live_table.proofs.settlement.rank_of.Goals as goal

pub steps_of-requires : goal.steps_of-requires
steps_of-requires c =
    let a : c.args.n < length (node_lists c.args.nodes.now).keys = c.requires.due.in_table in
    let b : length (node_lists c.args.nodes.now).graph ≡ length (node_lists c.args.nodes.now).keys =
    c.requires.sound.1.numbers.step_count in
    omega (arith, a, b)

pub greatest_rank-requires : goal.greatest_rank-requires
greatest_rank-requires c = λ m h.
    let a : m < length (node_lists c.args.nodes.now).graph =
    c.requires.sound.1.numbers.net.steps_in_range c.args.n m (subst (λ (xs : List Step). Contains xs (To m))
    c.steps_of.ensures.is h) in
    let b : length (node_lists c.args.nodes.now).graph ≡ length (node_lists c.args.nodes.now).keys =
    c.requires.sound.1.numbers.step_count in
    let d : length (node_lists c.args.nodes.now).callees ≡ length (node_lists c.args.nodes.now).keys =
    c.requires.sound.1.numbers.callee_count in
    let e : m < length (node_lists c.args.nodes.now).callees = omega (arith, a, b, d) in
    subst (λ (xs : List Callee). m < length xs) (sym c.deref.ensures.value) e

pub overflow_add-result : goal.overflow_add-result
overflow_add-result c =
    let few : c.greatest_rank.result + 1 ≤ 100000 =
    rank_few c.args.deck.now (node_lists c.args.nodes.now) c.requires.sound.0 c.args.n c.requires.sound.1 c.requires.due
    (sym c.requires.outcome ∙ c.in-Callable.is) c.greatest_rank.result
    (c.greatest_rank.ensures ∙ (ap (λ (cs : List Callee). greatest_node_step_rank cs c.steps_of.result.now)
    c.deref.ensures.value
    ∙ ap (greatest_node_step_rank (node_lists c.args.nodes.now).callees) c.steps_of.ensures.is))
    c.tables_are_of_lines.ensures c.lines_few.ensures in
    omega (arith, few)

pub returns-in-Callable : goal.returns-in-Callable
returns-in-Callable c =
    rank_is c.args.deck.now (node_lists c.args.nodes.now) c.requires.sound.0 c.args.n c.requires.sound.1 c.requires.due
    (sym c.requires.outcome ∙ c.in-Callable.is) c.greatest_rank.result
    (c.greatest_rank.ensures ∙ (ap (λ (cs : List Callee). greatest_node_step_rank cs c.steps_of.result.now)
    c.deref.ensures.value
    ∙ ap (greatest_node_step_rank (node_lists c.args.nodes.now).callees) c.steps_of.ensures.is))
