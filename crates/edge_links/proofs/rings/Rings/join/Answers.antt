use Rattle.edge_links.proofs.Moves.{joined_linked}
use Rattle.edge_links.proofs.rings.Rings.join.Goals as goal

pub invariant_of-self : goal.invariant_of-self
invariant_of-self c =
    joined_linked c.args.side c.self.inside.slots c.self.inside.last_waiting c.args.self.now c.self.invariant
    c.self.view_is c.args.place
    c.requires.there.0
    c.args.head c.requires.there.1 c.requires.other c.requires.alone c.requires.place c.requires.head
    c.seat-first.result.next
    c.seat-first.ensures.next
    c.set_seat.new.self c.set_prev.new.self c.set_next.new.self c.set_seat.ensures c.set_prev.ensures c.set_next.ensures
