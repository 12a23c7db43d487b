use Rattle.std.proofs.Common.{◌-◌, length}
use Rattle.edge_links.specs.Columns.{link_ring_of_side}
use Rattle.edge_links.proofs.BackwardWalks.{IsWalking}
use Rattle.edge_links.proofs.rings.Rings.members.Given as goal

abbrev pub invariant-loop-place : goal.invariant-loop-place
invariant-loop-place l = IsWalking (link_ring_of_side l.side l.self-inside.slots) l.head l.place l.places.items

abbrev pub decreases-loop-place : goal.decreases-loop-place
decreases-loop-place l = length (link_ring_of_side l.side l.self-inside.slots).owner - length l.places.items
