use Rattle.live_table.proofs.edge_creation.link_waiting.Goals as goal

pub loop-n-init : goal.loop-n-init
loop-n-init c = c.requires.edges

pub returns-in_err-link-clause-edges : goal.returns-in_err-link-clause-edges
returns-in_err-link-clause-edges c = c.in_err-link.ensures.err c.loop-n.edges.waiting.items c.loop-n.invariant

pub returns-clause-edges : goal.returns-clause-edges
returns-clause-edges c = c.loop-n.invariant
