use Rattle.name_walk.proofs.QueryPasses.{idle_walk_is_between_searches}
use Rattle.name_walk.proofs.walk.Walker.walk.Goals as goal

pub visit_each-result-requires-clause-between : goal.visit_each-result-requires-clause-between
visit_each-result-requires-clause-between c =
    idle_walk_is_between_searches c.args.net.now.steps.now c.args.net.now.settled.now c.self.inside.traces
    c.cover.new.self
    c.forget_order.new.self c.self.invariant
    c.in_ok-cover.ensures.ok c.forget_order.ensures
