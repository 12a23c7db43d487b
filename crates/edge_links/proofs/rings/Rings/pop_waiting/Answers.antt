use Rattle.std.proofs.Common.{◌≡◌, ◌<◌, length, get_or, set, true, false, refl, sym, ◌∙◌, subst, ap, length-set}
use Rattle.edge_links.specs.Columns.{LinkColumns}
use Rattle.edge_links.specs.RingInvariants.{AreLinked}
use Rattle.edge_links.specs.Owners.{LinkOwners, link_owners}
use Rattle.edge_links.specs.Owners as owner
use Rattle.edge_links.specs.WaitingStack.{AreWaitingLinks}
use Rattle.edge_links.proofs.ColumnChanges.{linked_columns_with_other_waiting}
use Rattle.edge_links.proofs.WaitingPlaces.{waiting_links_after_pop, no_top_means_no_waiting_link}
use Rattle.edge_links.proofs.WaitingPlaces.{top_waiting_link_is_place}
use Rattle.edge_links.proofs.rings.Rings.pop_waiting.Goals as goal

pub behind-self-inside-requires : goal.behind-self-inside-requires
behind-self-inside-requires c =
    let p =
    top_waiting_link_is_place c.self.inside.slots.waits c.self.inside.slots.behind c.self.inside.last_waiting
    c.in-Some.place
    c.self.invariant.waiting_stack c.in-Some.is in
    subst (λ n. c.in-Some.place < n) c.self.invariant.waits_size p.1

pub set_waits-requires : goal.set_waits-requires
set_waits-requires c =
    let p =
    top_waiting_link_is_place c.self.inside.slots.waits c.self.inside.slots.behind c.self.inside.last_waiting
    c.in-Some.place
    c.self.invariant.waiting_stack c.in-Some.is in
    subst (λ n. c.in-Some.place < n) c.self.invariant.waits_size p.1

pub invariant_of-self : goal.invariant_of-self
invariant_of-self c =
    let slots : LinkColumns = c.self.inside.slots in
    let p =
    waiting_links_after_pop slots.waits slots.behind c.self.inside.last_waiting c.in-Some.place
    c.behind-self-inside.result
    c.self.invariant.waiting_stack
    c.in-Some.is c.behind-self-inside.ensures in
    subst (λ (x : LinkColumns). AreLinked x c.behind-self-inside.result) (sym c.set_waits.ensures)
    (linked_columns_with_other_waiting slots c.self.inside.last_waiting c.behind-self-inside.result
    (set slots.waits c.in-Some.place false) slots.behind
    c.self.invariant (length-set slots.waits c.in-Some.place false) p.3)

pub returns-in-None : goal.returns-in-None
returns-in-None c = (
  λ x. subst (λ (s : LinkOwners). get_or s.waits x false ≡ false) c.self.view_is
      (no_top_means_no_waiting_link c.self.inside.slots.waits c.self.inside.slots.behind x
      (subst (λ t. AreWaitingLinks c.self.inside.slots.waits c.self.inside.slots.behind t) c.in-None.is
      c.self.invariant.waiting_stack)),
  refl,
)

pub returns-in-Some : goal.returns-in-Some
returns-in-Some c =
    let slots : LinkColumns = c.self.inside.slots in
    let p = waiting_links_after_pop slots.waits slots.behind c.self.inside.last_waiting c.in-Some.place
    c.behind-self-inside.result
    c.self.invariant.waiting_stack
    c.in-Some.is c.behind-self-inside.ensures in (
      subst (λ (s : LinkOwners). c.in-Some.place < length s.users) c.self.view_is
          (subst (λ n. c.in-Some.place < n) (c.self.invariant.waits_size ∙ sym c.self.invariant.users_size) p.1),
      subst (λ (s : LinkOwners). get_or s.waits c.in-Some.place false ≡ true) c.self.view_is p.2,
      ap link_owners c.set_waits.ensures ∙ ap (λ (s : LinkOwners). owner.link_owners_with_waits s c.in-Some.place false)
          c.self.view_is,
    )
