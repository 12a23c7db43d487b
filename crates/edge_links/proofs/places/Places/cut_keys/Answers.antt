use Rattle.std.proofs.Common.{◌≡◌, ◌⊎◌, ◌↔◌, ℕ, ◌+◌, ◌<◌, ◌≤◌, List, Bool, true, false, length, get_or, set, sym}
use Rattle.std.proofs.Common.{◌∙◌, ap, subst, inl, inr, arith, get_or-set_same, get_or-set_other}
use Rattle.std.proofs.lemmas.Bool.{cases_eq}
use Rattle.edge_links.specs.Changes.{HasLinkKey, AreWaitingLinksPaid}
use Rattle.edge_links.specs.Owners.{LinkOwners, LinkPlaceWaits, link_owned_count}
use Rattle.edge_links.proofs.OwnedCounts.{moved_link_lowers_owned_count, moved_link_raises_owned_count}
use Rattle.edge_links.proofs.Cuts.{IsCutting, next_cut_link_becomes_free, all_cut_links_are_free, freed}
use Rattle.edge_links.proofs.places.Places.cut_keys.Goals as goal
use Rattle.edge_links.specs.WaitingStack.{waiting_link_count}

abbrev WaitsSo : LinkOwners → LinkOwners → ℕ → Type 0
WaitsSo old s key =
    (x : ℕ) → LinkPlaceWaits s x
    ↔ (LinkPlaceWaits old x ⊎ ((p : ℕ) × (p < length old.users) × HasLinkKey old key p × (get_or old.users p 0 ≡ x)
    × (get_or s.keys p 0 ≡ 0)))

same_edges : (Test : ℕ → Type 0) (old s t : LinkOwners) → IsCutting Test old s → t.users ≡ s.users → t.keys ≡ s.keys
    → t.names ≡ s.names
    → IsCutting Test old t
same_edges Test old s t c u k n = record {
  size = ap length u ∙ c.size;
  names = n ∙ c.names;
  each = λ p l. subst (λ (us : List ℕ). (Test p × (get_or us p 0 ≡ 0) × (get_or t.keys p 0 ≡ 0)) ⊎
      ((get_or us p 0 ≡ get_or old.users p 0) × (get_or t.keys p 0 ≡ get_or old.keys p 0))) (sym u)
      (subst (λ (ks : List ℕ). (Test p × (get_or s.users p 0 ≡ 0) × (get_or ks p 0 ≡ 0)) ⊎
      ((get_or s.users p 0 ≡ get_or old.users p 0) × (get_or ks p 0 ≡ get_or old.keys p 0))) (sym k) (c.each p l));
}

record Found (old s : LinkOwners) (key place user : ℕ) : Type 0 where
  cutting : IsCutting (HasLinkKey old key) old s
  size : length s.keys ≡ length s.users
  within : place < length s.users
  is : get_or s.keys place 0 ≡ key
  apart : place ≡ key → ⊥
  some : key ≡ 0 → ⊥
  owned_by : user ≡ get_or s.users place 0

was : (old s : LinkOwners) (key place user : ℕ) → Found old s key place user
    → (place < length old.users) × HasLinkKey old key place × (get_or old.users place 0 ≡ user)
was old s key place user f =
    let c : IsCutting (HasLinkKey old key) old s = f.cutting in
    let l : place < length old.users = let z = c.size in let w = f.within in omega arith in
    elim (c.each place l) [
      | inl w ↦ absurd (f.some (sym f.is ∙ w.2))
      | inr w ↦ (l, (f.apart, sym w.1 ∙ f.is), sym w.0 ∙ sym f.owned_by)
    ]

next : (old s r t : LinkOwners) (key place user : ℕ) → Found old s key place user → WaitsSo old s key
    → r ≡ freed s place
    → t ≡ record r { waits = t.waits } → ((x : ℕ) → LinkPlaceWaits t x ↔ (LinkPlaceWaits r x ⊎ (x ≡ user)))
    → IsCutting (HasLinkKey old key) old t × WaitsSo old t key
    × (link_owned_count key t.keys < link_owned_count key s.keys)
next old s r t key place user f w q rest wait =
    let here : (place < length old.users) × HasLinkKey old key place × (get_or old.users place 0 ≡ user) =
    was old s key place user f in
    let kp : place < length s.keys = let z = f.size in let y = f.within in omega arith in
    let tk : t.keys ≡ set s.keys place 0 = ap (λ (x : LinkOwners). x.keys) rest ∙ ap (λ (x : LinkOwners). x.keys) q in
    let tu : t.users ≡ set s.users place 0 = ap (λ (x : LinkOwners). x.users) rest
    ∙ ap (λ (x : LinkOwners). x.users) q in
    let rq : r.waits ≡ s.waits = ap (λ (x : LinkOwners). x.waits) q in
    let same : (p : ℕ) → (p ≡ place → ⊥) → get_or t.keys p 0 ≡ get_or s.keys p 0 =
    λ p ne. ap (λ xs. get_or xs p 0) tk ∙ get_or-set_other s.keys place p 0 0 ne in
    let gone : get_or t.keys place 0 ≡ 0 = ap (λ xs. get_or xs place 0) tk ∙ get_or-set_same s.keys place 0 0 kp in (
      same_edges (HasLinkKey old key) old (freed s place) t
          (next_cut_link_becomes_free (HasLinkKey old key) old s place f.cutting f.size f.within
          (λ z. (f.apart, sym z.1 ∙ f.is))) tu tk
          (ap (λ (x : LinkOwners). x.names) rest ∙ ap (λ (x : LinkOwners). x.names) q),
      λ x. (
        λ h. elim ((wait x).0 h) [
          | inl i ↦ elim ((w x).0 (subst (λ (b : List Bool). get_or b x false ≡ true) rq i)) [
            | inl j ↦ inl j
            | inr j ↦ inr (
              j.0,
              j.1,
              j.2,
              j.3,
              elim (cases_eq j.0 place)
                  [ inl e ↦ ap (λ p. get_or t.keys p 0) e ∙ gone | inr ne ↦ same j.0 ne ∙ j.4 ],
            )
          ]
          | inr e ↦ inr (place, here.0, here.1, here.2 ∙ sym e, gone)
        ],
        λ h. elim h [
          | inl i ↦ (wait x).1 (inl (subst (λ (b : List Bool). get_or b x false ≡ true) (sym rq) ((w x).1 (inl i))))
          | inr j ↦ elim (cases_eq j.0 place) [
            | inl e ↦ (wait x).1 (inr (sym j.3 ∙ (ap (λ p. get_or old.users p 0) e ∙ here.2)))
            | inr ne ↦ (wait x).1 (inl (subst (λ (b : List Bool). get_or b x false ≡ true) (sym rq)
                ((w x).1 (inr (j.0, j.1, j.2, j.3, sym (same j.0 ne) ∙ j.4)))))
          ]
        ],
      ),
      subst (λ (xs : List ℕ). link_owned_count key xs < link_owned_count key s.keys) (sym tk)
          (let h = moved_link_lowers_owned_count key 0 s.keys place kp f.is (λ z. f.some (sym z)) in omega arith),
    )

paid : (old s r t : LinkOwners) (place : ℕ) → AreWaitingLinksPaid old s → r ≡ freed s place
    → t ≡ record r { waits = t.waits }
    → waiting_link_count t.waits ≤ waiting_link_count r.waits + 1 → place < length s.users
    → (get_or s.users place 0 ≡ 0 → ⊥)
    → AreWaitingLinksPaid old t
paid old s r t place p q rest w l nz =
    let a : link_owned_count 0 t.users ≡ link_owned_count 0 (set s.users place 0) =
    ap (λ (x : LinkOwners). link_owned_count 0 x.users) rest ∙ ap (λ (x : LinkOwners). link_owned_count 0 x.users) q in
    let b : waiting_link_count r.waits ≡ waiting_link_count s.waits =
    ap (λ (x : LinkOwners). waiting_link_count x.waits) q in
    let m : link_owned_count 0 (set s.users place 0) ≡ link_owned_count 0 s.users + 1 =
    moved_link_raises_owned_count 0 s.users place l nz in
    omega arith

pub loop-place-preserved : goal.loop-place-preserved
loop-place-preserved c =
    let f = c.in-Some.ensures.first in
    let fd : Found c.args.self.now c.loop-place.self c.args.key c.in-Some.place c.user_of-user.result = record {
      cutting = c.loop-place.invariant.cutting;
      size = c.in-Some.ensures.edges.keys_size;
      within = f.0;
      is = f.1;
      apart = f.2;
      some = c.requires.there.1;
      owned_by = c.user_of-user.ensures.0;
    } in
    let n =
    next c.args.self.now c.loop-place.self c.free.new.self c.wait.new.self c.args.key c.in-Some.place
    c.user_of-user.result fd
    c.loop-place.invariant.waits c.free.ensures c.wait.ensures.rest c.wait.ensures.waits in
    record {
      cutting = n.0;
      waits = n.1;
      paid = paid c.args.self.now c.loop-place.self c.free.new.self c.wait.new.self c.in-Some.place
          c.loop-place.invariant.paid
          c.free.ensures c.wait.ensures.rest c.wait.ensures.one f.0
          (λ z. c.requires.there.1 (sym f.1 ∙ (c.in-Some.ensures.edges.free c.in-Some.place f.0).0 z));
    }

pub loop-place-smaller : goal.loop-place-smaller
loop-place-smaller c =
    let f = c.in-Some.ensures.first in
    let fd : Found c.args.self.now c.loop-place.self c.args.key c.in-Some.place c.user_of-user.result = record {
      cutting = c.loop-place.invariant.cutting;
      size = c.in-Some.ensures.edges.keys_size;
      within = f.0;
      is = f.1;
      apart = f.2;
      some = c.requires.there.1;
      owned_by = c.user_of-user.ensures.0;
    } in
    (next c.args.self.now c.loop-place.self c.free.new.self c.wait.new.self c.args.key c.in-Some.place
    c.user_of-user.result fd
    c.loop-place.invariant.waits c.free.ensures c.wait.ensures.rest c.wait.ensures.waits).2

pub returns-clause-cut : goal.returns-clause-cut
returns-clause-cut c =
    let f = c.in_default.ensures.first in
    let z = c.loop-place.invariant.cutting in
    all_cut_links_are_free (HasLinkKey c.args.self.now c.args.key) c.args.self.now c.loop-place.self z
    (λ p l t w. t.0 (f p (let y = z.size in omega arith) (w.1 ∙ t.1)))

pub returns-clause-waits : goal.returns-clause-waits
returns-clause-waits c x =
    let q = c.loop-place.invariant.waits x in (
      λ h. elim (q.0 h) [ inl i ↦ inl i | inr j ↦ inr (j.0, j.1, j.2, j.3) ],
      λ h. q.1 (elim h [ inl i ↦ inl i | inr j ↦ inr (j.0, j.1, j.2, j.3, ((returns-clause-cut c j.0 j.1).0 j.2).1) ]),
    )
