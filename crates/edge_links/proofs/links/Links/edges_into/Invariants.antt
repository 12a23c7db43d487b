use Rattle.std.proofs.Common.{◌≡◌, ℕ, take}
use Rattle.edge_links.specs.Times.{times}
use Rattle.edge_links.proofs.WeightedSums.{summed}
use Rattle.edge_links.proofs.Users.{has_user}
use Rattle.edge_links.proofs.links.Links.edges_into.Given as goal

abbrev pub invariant-loop-place : goal.invariant-loop-place
invariant-loop-place l = (x : ℕ)
    → times x l.users ≡ summed (has_user l.self-inside.places x) (take l.place-index l.place-items)
