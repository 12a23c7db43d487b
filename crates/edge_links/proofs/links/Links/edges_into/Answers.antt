use Rattle.std.proofs.Common.{◌≡◌, ℕ, ◌<◌, List, length, get_or, take, sym, ◌∙◌, ap, subst}
use Rattle.std.proofs.lemmas.List.{take_more, get_or_read, take_all}
use Rattle.edge_links.specs.Edges.{LinkGraph, link_edge_count}
use Rattle.edge_links.specs.Rings.{AreLinkRingMembers}
use Rattle.edge_links.proofs.Users.{has_user, link_user_is_appended, stands_in, member_there, are_users}
use Rattle.edge_links.proofs.WeightedSums.{summed}
use Rattle.edge_links.proofs.links.Links.edges_into.Goals as goal

members_of : (keys nodes items seen : List ℕ) (key head : ℕ) → key < length nodes → head ≡ get_or nodes key head
    → seen ≡ items
    → AreLinkRingMembers keys head items → AreLinkRingMembers keys (get_or nodes key 0) seen
members_of keys nodes items seen key head l e s m =
    subst (λ xs. AreLinkRingMembers keys (get_or nodes key 0) xs) (sym s)
    (subst (λ h. AreLinkRingMembers keys h items) (get_or_read nodes key head l e 0) m)

pub user_of-user-requires : goal.user_of-user-requires
user_of-user-requires c =
    let there = subst (λ (x : LinkGraph). c.args.key < x.nodes) (sym c.self.view_is) c.requires in
    let members = members_of c.self.inside.places.keys c.self.inside.nodes.items c.in_ok-places.places.items
    c.deref-place-items.result.now
    c.args.key c.index.result.now there c.index.ensures
    c.deref-place-items.ensures.value c.in_ok-places.ensures.members in
    member_there c.self.inside.places c.in_ok-places.ensures.edges c.self.inside.nodes.items c.self.invariant c.args.key
    there
    c.deref-place-items.result.now members
    (get_or c.deref-place-items.result.now c.loop-place.place-index 0)
    (stands_in c.deref-place-items.result.now c.loop-place.place-index c.loop-place-test.true)

pub loop-place-preserved : goal.loop-place-preserved
loop-place-preserved c x =
    let place : ℕ = get_or c.deref-place-items.result.now c.loop-place.place-index 0 in
    let name : c.name.result ≡ get_or c.self.inside.places.names (get_or c.self.inside.places.users place 0) 0 =
    c.name.ensures ∙ ap (λ u. get_or c.self.inside.places.names u 0) c.user_of-user.ensures.0 in
    link_user_is_appended c.self.inside.places c.loop-place.users c.push.new.self
    (take c.loop-place.place-index c.deref-place-items.result.now) place
    c.name.result x name
    c.in_ok-push.ensures.ok (c.loop-place.invariant x)
    ∙ ap (summed (has_user c.self.inside.places x))
    (sym (take_more c.deref-place-items.result.now c.loop-place.place-index 0 c.loop-place-test.true))

pub returns : goal.returns
returns c x =
    let there = subst (λ (x : LinkGraph). c.args.key < x.nodes) (sym c.self.view_is) c.requires in
    let members = members_of c.self.inside.places.keys c.self.inside.nodes.items c.in_ok-places.places.items
    c.deref-place-items.result.now
    c.args.key c.index.result.now there c.index.ensures
    c.deref-place-items.ensures.value c.in_ok-places.ensures.members in
    are_users c.self.inside.places c.in_ok-places.ensures.edges c.self.inside.nodes.items c.self.invariant c.args.key
    there
    c.deref-place-items.result.now members
    c.loop-place.users (λ y. c.loop-place.invariant y ∙ ap (summed (has_user c.self.inside.places y))
    (take_all c.loop-place.place-index c.deref-place-items.result.now c.loop-place-test.false)) x
    ∙ ap (λ (g : LinkGraph). link_edge_count g.edges x c.args.key) c.self.view_is
