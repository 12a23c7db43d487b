use Rattle.std.proofs.Common.{◌≡◌, ℕ, ◌+◌, ◌<◌, length, get_or, sym, subst, ap, ◌∙◌, arith}
use Rattle.edge_links.specs.declared.slots.Side.TheVariants.{Key}
use Rattle.edge_links.specs.Owners.{LinkOwners, AreLinkPlaces, link_owners_with_owner}
use Rattle.edge_links.proofs.OwnerChanges.{link_places_after_emptying, link_spare_fits_64_bits}
use Rattle.edge_links.proofs.places.Places.add_free.Goals as goal

pub overflow_add-self : goal.overflow_add-self
overflow_add-self c = omega (arith, link_spare_fits_64_bits c.self.inside.rings c.self.inside.spare c.self.invariant)

pub invariant_of-self : goal.invariant_of-self
invariant_of-self c =
    let there = subst (λ (x : LinkOwners). c.args.place < length x.users) (sym c.self.view_is) c.requires.there.0 in
    let alone =
    subst (λ (x : LinkOwners). (p : ℕ) → p < length x.users → (get_or x.users p 0 ≡ c.args.place → p ≡ c.args.place) ×
    (get_or x.keys p 0 ≡ c.args.place → p ≡ c.args.place)) (sym c.self.view_is) c.requires.alone in
    let head = subst (λ (x : LinkOwners). get_or x.users c.args.place 0 ≡ c.args.place)
    (sym c.self.view_is) c.requires.head in
    subst (λ (x : LinkOwners). AreLinkPlaces x (c.self.inside.spare + 1))
    (sym (c.join-2.ensures ∙ ap (λ (x : LinkOwners). link_owners_with_owner Key x c.args.place 0) c.join.ensures))
    (link_places_after_emptying c.self.inside.rings c.args.place c.self.inside.spare c.self.invariant there
    c.requires.there.1 head
    alone)
