use Rattle.std.proofs.Common.{◌≡◌, ℕ, ◌<◌, length, get_or, sym, ◌∙◌, ap, subst, arith}
use Rattle.edge_links.specs.Changes.{HasLinkUser, AreWaitingLinksPaid}
use Rattle.edge_links.specs.Owners.{LinkOwners, link_owned_count}
use Rattle.edge_links.proofs.OwnedCounts.{moved_link_lowers_owned_count, moved_link_raises_owned_count}
use Rattle.edge_links.proofs.Cuts.{IsCutting, next_cut_link_becomes_free, all_cut_links_are_free, freed}
use Rattle.edge_links.proofs.places.Places.cut_users.Goals as goal

next : (old s t : LinkOwners) (user place : ℕ) → IsCutting (HasLinkUser old user) old s → length s.keys ≡ length s.users
    → place < length s.users
    → get_or s.users place 0 ≡ user → (place ≡ user → ⊥) → (user ≡ 0 → ⊥) → t ≡ freed s place
    → IsCutting (HasLinkUser old user) old t × (link_owned_count user t.users < link_owned_count user s.users)
next old s t user place c ks l e ne nz q =
    subst (λ (x : LinkOwners).
    IsCutting (HasLinkUser old user) old x × (link_owned_count user x.users < link_owned_count user s.users))
    (sym q) (
      next_cut_link_becomes_free (HasLinkUser old user) old s place c ks l (λ w. (ne, sym w.0 ∙ e)),
      let h = moved_link_lowers_owned_count user 0 s.users place l e
          (λ z. nz (sym z)) in omega arith,
    )

paid : (old s t : LinkOwners) (place : ℕ) → AreWaitingLinksPaid old s → t ≡ freed s place → place < length s.users
    → (get_or s.users place 0 ≡ 0 → ⊥)
    → AreWaitingLinksPaid old t
paid old s t place p q l nz =
    subst (λ (x : LinkOwners). AreWaitingLinksPaid old x) (sym q)
    (let m = moved_link_raises_owned_count 0 s.users place l nz in omega arith)

pub loop-place-preserved : goal.loop-place-preserved
loop-place-preserved c =
    let f = c.in-Some.ensures.first in
    record {
      cutting = (next c.args.self.now c.loop-place.self c.free.new.self c.args.user c.in-Some.place
          c.loop-place.invariant.cutting
          c.in-Some.ensures.edges.keys_size f.0 f.1 f.2 c.requires.there.1 c.free.ensures).0;
      waits = ap (λ (s : LinkOwners). s.waits) c.free.ensures ∙ c.loop-place.invariant.waits;
      paid = paid c.args.self.now c.loop-place.self c.free.new.self c.in-Some.place c.loop-place.invariant.paid
          c.free.ensures f.0
          (λ z. c.requires.there.1 (sym f.1 ∙ z));
    }

pub loop-place-smaller : goal.loop-place-smaller
loop-place-smaller c =
    let f = c.in-Some.ensures.first in
    (next c.args.self.now c.loop-place.self c.free.new.self c.args.user c.in-Some.place c.loop-place.invariant.cutting
    c.in-Some.ensures.edges.keys_size f.0 f.1 f.2 c.requires.there.1 c.free.ensures).1

pub returns-clause-cut : goal.returns-clause-cut
returns-clause-cut c =
    let f = c.in_default.ensures.first in
    let z = c.loop-place.invariant.cutting in
    all_cut_links_are_free (HasLinkUser c.args.self.now c.args.user) c.args.self.now c.loop-place.self z
    (λ p l t w. t.0 (f p (let y = z.size in omega arith) (w.0 ∙ t.1)))
