use Rattle.std.proofs.Common.{◌≡◌, ◌+◌, ◌-◌, ◌<◌, length, get_or, sym, ◌∙◌, ap, subst}
use Rattle.edge_links.specs.declared.slots.Side.TheVariants.{Key}
use Rattle.edge_links.specs.Owners.{LinkOwners, AreLinkPlaces, link_owners_with_owner, link_owned_count}
use Rattle.edge_links.proofs.OwnedCounts.{moved_link_lowers_owned_count, lone_link_head_owns_at_most_one}
use Rattle.edge_links.proofs.OwnerChanges.{link_places_after_filling}
use Rattle.edge_links.proofs.places.Places.fill.Goals as goal

pub invariant_of-self : goal.invariant_of-self
invariant_of-self c =
    let f = c.in-Some.ensures in
    let ul = subst (λ (x : LinkOwners). c.args.user < length x.users) (sym c.self.view_is) c.requires.there.0 in
    let kl = subst (λ (x : LinkOwners). c.args.key < length x.users) (sym c.self.view_is) c.requires.there.1 in
    let hu = subst (λ (x : LinkOwners). get_or x.users c.args.user 0 ≡ c.args.user)
    (sym c.self.view_is) c.requires.heads.0 in
    let hk = subst (λ (x : LinkOwners). get_or x.users c.args.key 0 ≡ c.args.key) (sym c.self.view_is)
    c.requires.heads.1 in
    subst (λ (x : LinkOwners). AreLinkPlaces x (c.self.inside.spare - 1))
    (sym (c.move_to-in-Some.ensures
    ∙ ap (λ (x : LinkOwners). link_owners_with_owner Key x c.in-Some.place c.args.key) c.move_to.ensures))
    (link_places_after_filling c.self.inside.rings c.in-Some.place c.args.user c.args.key c.self.inside.spare
    c.self.invariant f.0
    f.2 f.1 ul kl
    c.requires.some.0 c.requires.some.1 hu hk)

pub returns-in-Some-clause-spare : goal.returns-in-Some-clause-spare
returns-in-Some-clause-spare c =
    let f = c.in-Some.ensures in
    ap (λ (x : LinkOwners). link_owned_count 0 x.users + 1)
    (c.move_to-in-Some.ensures ∙ ap (λ (x : LinkOwners). link_owners_with_owner Key x c.in-Some.place c.args.key)
    c.move_to.ensures)
    ∙ (moved_link_lowers_owned_count 0 c.args.user c.self.inside.rings.users c.in-Some.place f.0 f.1 c.requires.some.0
    ∙ ap (λ (x : LinkOwners). link_owned_count 0 x.users)
    c.self.view_is)

pub returns-in_default-clause-filled : goal.returns-in_default-clause-filled
returns-in_default-clause-filled c =
    absurd (lone_link_head_owns_at_most_one c.self.inside.rings.users c.in_default.ensures
    (subst (λ (x : LinkOwners). 1 < link_owned_count 0 x.users) (sym c.self.view_is) c.requires.room))

pub returns-in_default-clause-spare : goal.returns-in_default-clause-spare
returns-in_default-clause-spare c =
    absurd (lone_link_head_owns_at_most_one c.self.inside.rings.users c.in_default.ensures
    (subst (λ (x : LinkOwners). 1 < link_owned_count 0 x.users) (sym c.self.view_is) c.requires.room))
