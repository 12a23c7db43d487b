use Rattle.std.proofs.Common.{◌≡◌, ◌<◌, Some, length, get_or, set, true, false, sym, ◌∙◌, subst, ap, length-set}
use Rattle.edge_links.specs.Columns.{LinkColumns, link_columns_with_waits}
use Rattle.edge_links.specs.RingInvariants.{AreLinked}
use Rattle.edge_links.specs.Owners.{LinkOwners}
use Rattle.edge_links.proofs.ColumnChanges.{linked_columns_with_other_waiting}
use Rattle.edge_links.proofs.WaitingPlaces.{waiting_links_after_push}
use Rattle.edge_links.proofs.rings.Rings.push_waiting.Goals as goal

pub invariant_of-self : goal.invariant_of-self
invariant_of-self c =
    let slots : LinkColumns = c.self.inside.slots in
    let there = subst (λ (s : LinkOwners). c.args.place < length s.users) (sym c.self.view_is) c.requires.there in
    let within = subst (λ n. c.args.place < n) (c.self.invariant.users_size ∙ sym c.self.invariant.waits_size) there in
    let new = subst (λ (s : LinkOwners). get_or s.waits c.args.place false ≡ false) (sym c.self.view_is) c.requires.new
    in
    subst (λ (x : LinkColumns). AreLinked x (Some c.args.place))
    (sym (c.set_waits.ensures ∙ ap (λ (x : LinkColumns). link_columns_with_waits x c.args.place true)
    c.set_behind.ensures))
    (linked_columns_with_other_waiting slots c.self.inside.last_waiting (Some c.args.place)
    (set slots.waits c.args.place true)
    (set slots.behind c.args.place c.self.inside.last_waiting) c.self.invariant
    (length-set slots.waits c.args.place true)
    (waiting_links_after_push slots.waits slots.behind c.self.inside.last_waiting c.args.place
    c.self.invariant.waiting_stack within new))
