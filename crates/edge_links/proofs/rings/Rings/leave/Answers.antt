use Rattle.edge_links.proofs.Moves.{left_linked, left_shown, left_alone}
use Rattle.edge_links.proofs.rings.Rings.leave.Goals as goal

pub invariant_of-self : goal.invariant_of-self
invariant_of-self c =
    left_linked c.args.side c.self.inside.slots c.self.inside.last_waiting c.args.self.now c.self.invariant
    c.self.view_is c.args.place
    c.requires.there c.requires.place
    c.seat-seat.result.prev c.seat-seat.result.next c.seat-seat.ensures.prev c.seat-seat.ensures.next
    c.set_next.new.self c.set_prev.new.self c.set_seat.new.self c.set_next.ensures c.set_prev.ensures c.set_seat.ensures

pub returns-clause-owner : goal.returns-clause-owner
returns-clause-owner c =
    left_shown c.args.side c.self.inside.slots c.self.inside.last_waiting c.args.self.now c.self.invariant
    c.self.view_is c.args.place
    c.requires.there c.requires.place
    c.seat-seat.result.prev c.seat-seat.result.next c.seat-seat.ensures.prev c.seat-seat.ensures.next
    c.set_next.new.self c.set_prev.new.self c.set_seat.new.self c.set_next.ensures c.set_prev.ensures c.set_seat.ensures

pub returns-clause-alone : goal.returns-clause-alone
returns-clause-alone c =
    left_alone c.args.side c.self.inside.slots c.self.inside.last_waiting c.args.self.now c.self.invariant
    c.self.view_is c.args.place
    c.requires.there c.requires.place
    c.seat-seat.result.prev c.seat-seat.result.next c.seat-seat.ensures.prev c.seat-seat.ensures.next
    c.set_next.new.self c.set_prev.new.self c.set_seat.new.self c.set_next.ensures c.set_prev.ensures c.set_seat.ensures
