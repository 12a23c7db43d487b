use Rattle.std.proofs.Common.{◌≡◌, ◌+◌, ◌-◌, length, slice_index}
use Rattle.edge_links.specs.Once.{ClearsNodeMarks}
use Rattle.edge_links.specs.Owners.{link_owned_count}
use Rattle.edge_links.proofs.Unsettle.{IsUnsettling}
use Rattle.edge_links.proofs.places.Places.unsettle.Given as goal
use Rattle.edge_links.specs.WaitingStack.{waiting_link_count}

abbrev pub invariant-loop-place : goal.invariant-loop-place
invariant-loop-place g l = record {
  unsettling : IsUnsettling l.fn.self l.self (slice_index l.fn.self.names) (g.K.Marks.is_marked l.fn.marks)
      (g.K.Marks.is_marked l.marks) l.key (λ nodes. ClearsNodeMarks g.K.Marks.is_call nodes l.fn.marks l.marks);
  names : l.self.names ≡ l.fn.self.names;
  stays : g.K.Marks.stays l.fn.marks l.marks;
}

abbrev pub decreases-loop-place : goal.decreases-loop-place
decreases-loop-place g l = waiting_link_count l.self.waits + (length l.self.users - link_owned_count 0 l.self.users)
