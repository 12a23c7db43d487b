use Rattle.std.proofs.Common.{◌≡◌}
use Rattle.edge_links.specs.Changes.{HasLinkUser, AreWaitingLinksPaid}
use Rattle.edge_links.specs.Owners.{link_owned_count}
use Rattle.edge_links.proofs.Cuts.{IsCutting}
use Rattle.edge_links.proofs.places.Places.cut_users.Given as goal

abbrev pub invariant-loop-place : goal.invariant-loop-place
invariant-loop-place l = record {
  cutting : IsCutting (HasLinkUser l.initial.self l.user) l.initial.self l.self;
  waits : l.self.waits ≡
      l.initial.self.waits;
  paid : AreWaitingLinksPaid l.initial.self l.self;
}

abbrev pub decreases-loop-place : goal.decreases-loop-place
decreases-loop-place l = link_owned_count l.user l.self.users
