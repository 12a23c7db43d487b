use Rattle.std.proofs.Common.{◌≡◌, ℕ, ◌+◌, ◌<◌, ◌^◌, Result, Ok, Err, IfOk, OnErr, length, sym, subst}
use Rattle.edge_links.specs.Owners.{LinkOwners, AreLinkPlaces, link_owners_with_head}
use Rattle.edge_links.proofs.OwnerChanges.{link_places_after_growing}
use Rattle.edge_links.proofs.places.Places.add_head.Goals as goal

-- the places have one more or are unchanged
still_places : {E : Type 0} (s t : LinkOwners) (spare name : ℕ) (r : Result ℕ E) → AreLinkPlaces s spare
    → IfOk r (λ p. (p ≡ length s.users) × (p + 1 < 2 ^ 64) × (t ≡ link_owners_with_head s p name)) → OnErr r (t ≡ s)
    → AreLinkPlaces t spare
still_places s t spare name (Ok p) places ok err =
    subst (λ (x : LinkOwners). AreLinkPlaces x spare) (sym ok.2)
    (link_places_after_growing s p name spare places ok.0 ok.1)
still_places s t spare name (Err e) places ok err = subst (λ (x : LinkOwners). AreLinkPlaces x spare) (sym err) places

pub invariant_of-self : goal.invariant_of-self
invariant_of-self c =
    still_places c.self.inside.rings c.add_head.new.self c.self.inside.spare c.args.name c.add_head.result
    c.self.invariant c.add_head.ensures.ok c.add_head.ensures.err
