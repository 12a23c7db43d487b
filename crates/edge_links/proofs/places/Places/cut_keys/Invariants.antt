use Rattle.std.proofs.Common.{◌≡◌, ◌⊎◌, ◌↔◌, ℕ, ◌<◌, length, get_or}
use Rattle.edge_links.specs.Changes.{HasLinkKey, AreWaitingLinksPaid}
use Rattle.edge_links.specs.Owners.{LinkPlaceWaits, link_owned_count}
use Rattle.edge_links.proofs.Cuts.{IsCutting}
use Rattle.edge_links.proofs.places.Places.cut_keys.Given as goal

abbrev pub invariant-loop-place : goal.invariant-loop-place
invariant-loop-place l = record {
  cutting : IsCutting (HasLinkKey l.initial.self l.key) l.initial.self l.self;
  waits : (x : ℕ) → LinkPlaceWaits l.self x ↔ (LinkPlaceWaits l.initial.self x ⊎
      ((p : ℕ) × (p < length l.initial.self.users) × HasLinkKey l.initial.self l.key p
      × (get_or l.initial.self.users p 0 ≡ x) ×
      (get_or l.self.keys p 0 ≡ 0)));
  paid : AreWaitingLinksPaid l.initial.self l.self;
}

abbrev pub decreases-loop-place : goal.decreases-loop-place
decreases-loop-place l = link_owned_count l.key l.self.keys
