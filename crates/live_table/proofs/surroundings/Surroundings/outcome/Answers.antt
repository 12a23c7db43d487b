use Rattle.live_table.specs.TableContents.{node_lists}
use Rattle.live_table.proofs.NodeReports.{outcome_is_reported}
use Rattle.live_table.proofs.surroundings.Surroundings.outcome.Goals as goal

pub returns : goal.returns
returns c =
    outcome_is_reported c.self.inside.deck.now (node_lists c.self.inside.nodes.now) c.self.inside.asked c.self.invariant
    c.args.self.now c.self.view_is
    c.args.n c.requires c.index.result.now c.index.ensures c.in-Some.outcome c.in-Some.is
