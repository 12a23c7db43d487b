use Rattle.std.proofs.Common.{◌≤◌, ◌+◌, sym, subst}
use Rattle.edge_links.specs.Owners.{LinkOwners}
use Rattle.edge_links.specs.WaitingStack.{waiting_link_count}
use Rattle.edge_links.proofs.WaitingPlaces.{push_raises_waiting_link_count}
use Rattle.edge_links.proofs.rings.Rings.wait.Goals as goal

pub returns-then-not-waits-clause-one : goal.returns-then-not-waits-clause-one
returns-then-not-waits-clause-one c =
    subst (λ (s : LinkOwners). waiting_link_count s.waits ≤ waiting_link_count c.args.self.now.waits + 1)
    (sym c.push_waiting.ensures)
    (push_raises_waiting_link_count c.args.self.now.waits c.args.place)
