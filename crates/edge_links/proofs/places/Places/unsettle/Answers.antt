use Rattle.std.proofs.Common.{◌≡◌, ℕ, ◌+◌, ◌-◌, ◌<◌, List, Bool, false, cond, nat_eq, length, set, get_or, sym, ◌∙◌, ap}
use Rattle.std.proofs.Common.{subst, arith, inl, inr, refl}
use Rattle.edge_links.specs.Changes.{AreLinkPlacesParted, AreWaitingLinksPaid}
use Rattle.edge_links.specs.Once.{ClearsNodeMarks, no_call, one_more}
use Rattle.edge_links.specs.Owners.{LinkOwners, LinkPlaceWaits, link_owned_count}
use Rattle.edge_links.specs.PlaceReach.{IsLinkOfAffected}
use Rattle.edge_links.proofs.OwnedCounts.{link_owned_count_is_bounded}
use Rattle.edge_links.proofs.WaitingPlaces.{pop_lowers_waiting_link_count}
use Rattle.edge_links.proofs.Unsettle.{IsUnsettling, unsettling_goes_on, unsettling_starts, all_cut, all_cleared}
use Rattle.edge_links.proofs.Unsettle.{all_kept, all_once}
use Rattle.edge_links.proofs.places.Places.unsettle.Goals as goal
use Rattle.edge_links.specs.WaitingStack.{waiting_link_count}

pub loop-place-init : goal.loop-place-init
loop-place-init g c =
    let users : c.wait.new.self.users ≡ c.args.self.now.users = ap (λ (s : LinkOwners). s.users) c.wait.ensures.rest in
    let keys : c.wait.new.self.keys ≡ c.args.self.now.keys = ap (λ (s : LinkOwners). s.keys) c.wait.ensures.rest in
    record {
      unsettling = unsettling_starts c.args.self.now c.wait.ensures.was c.args.key
          (λ x. get_or c.args.self.now.names x 0) c.wait.new.self
          (g.K.Marks.is_marked c.args.marks.now)
          (λ nodes. ClearsNodeMarks g.K.Marks.is_call nodes c.args.marks.now c.args.marks.now) no_call c.requires.idle
          c.requires.there.0 c.requires.there.1 c.requires.there.2 users keys c.wait.ensures.waits;
      names = ap (λ (s : LinkOwners). s.names) c.wait.ensures.rest;
      stays = g.met.K.Marks.stays_at_first c.args.marks.now;
    }

named : (names names2 : List ℕ) (place name : ℕ) (now new : ℕ → Bool) → name ≡ get_or names2 place 0 → names2 ≡ names
    → ((m : ℕ) → new m ≡ cond (nat_eq m name) false (now m)) → (m : ℕ)
    → new m ≡ cond (nat_eq m (get_or names place 0)) false (now m)
named names names2 place name now new e same clear m =
    clear m ∙ ap (λ y. cond (nat_eq m y) false (now m)) (e ∙ ap (λ xs. get_or xs place 0) same)

pub loop-place-preserved : goal.loop-place-preserved
loop-place-preserved g c =
    let t = c.in-Some.ensures.taken in
    let users : c.take.new.self.users ≡ c.loop-place.self.users = ap (λ (s : LinkOwners). s.users) t.2 in
    let keys : c.take.new.self.keys ≡ c.loop-place.self.keys = ap (λ (s : LinkOwners). s.keys) t.2 in
    let waits : c.take.new.self.waits ≡ set c.loop-place.self.waits c.in-Some.place false =
    ap (λ (s : LinkOwners). s.waits) t.2 in
    let names : c.take.new.self.names ≡ c.args.self.now.names = ap (λ (s : LinkOwners). s.names) t.2
    ∙ c.loop-place.invariant.names in
    record {
      unsettling = unsettling_goes_on c.args.self.now c.wait.ensures.was c.args.key
          (λ x. get_or c.args.self.now.names x 0) c.loop-place.self
          c.take.new.self c.cut_users.new.self c.cut_keys.new.self c.in-Some.place
          (g.K.Marks.is_marked c.args.marks.now) (g.K.Marks.is_marked c.loop-place.marks)
          (λ nodes. ClearsNodeMarks g.K.Marks.is_call nodes c.args.marks.now c.loop-place.marks)
          (λ nodes. ClearsNodeMarks g.K.Marks.is_call nodes c.args.marks.now c.clear.new.self)
          c.loop-place.invariant.unsettling (t.0, t.1, waits) users keys c.in-Some.ensures.edges
          c.cut_users.ensures.cut c.cut_users.ensures.waits c.cut_users.ensures.size c.cut_keys.ensures.cut
          c.cut_keys.ensures.waits
          c.cut_keys.ensures.size
          (λ nodes called. one_more called (subst (λ n. g.K.Marks.is_call n c.loop-place.marks c.clear.new.self)
          (c.name.ensures ∙ ap (λ xs. get_or xs c.in-Some.place 0) names) c.clear.ensures.call))
          (g.K.Marks.is_marked c.clear.new.self)
          (named c.args.self.now.names c.take.new.self.names c.in-Some.place c.name.result
          (g.K.Marks.is_marked c.loop-place.marks)
          (g.K.Marks.is_marked c.clear.new.self) c.name.ensures names c.clear.ensures.marks);
      names = c.cut_keys.ensures.names ∙ (c.cut_users.ensures.names ∙ names);
      stays = g.met.K.Marks.stays_on c.args.marks.now c.loop-place.marks c.clear.new.self c.loop-place.invariant.stays
          c.clear.ensures.rest;
    }

-- the place that was taken is a head
head_taken : (old s0 s : LinkOwners) (x key : ℕ) (name : ℕ → ℕ) (marks now : ℕ → Bool) (Called : List ℕ → Type 0)
    → IsUnsettling old s0 name marks now key Called → LinkPlaceWaits s0 x
    → s.users ≡ s0.users → get_or s.users x 0 ≡ x
head_taken old s0 s x key name marks now Called u w us =
    let r = u.reached x (inr w) in
    ap (λ xs. get_or xs x 0) us ∙ elim (u.each x r.0) [ inl o ↦ absurd (o.2 r.1) | inr m ↦ m.0 ∙ r.1 ]

pub cut_users-requires-clause-head : goal.cut_users-requires-clause-head
cut_users-requires-clause-head g c =
    let t = c.in-Some.ensures.taken in
    head_taken c.args.self.now c.loop-place.self c.take.new.self c.in-Some.place c.args.key
    (λ x. get_or c.args.self.now.names x 0)
    (g.K.Marks.is_marked c.args.marks.now) (g.K.Marks.is_marked c.loop-place.marks)
    (λ nodes. ClearsNodeMarks g.K.Marks.is_call nodes c.args.marks.now c.loop-place.marks)
    c.loop-place.invariant.unsettling
    t.1
    (ap (λ (s : LinkOwners). s.users) t.2)

-- the place that was taken remains a head without its edges
pub cut_keys-requires-clause-head : goal.cut_keys-requires-clause-head
cut_keys-requires-clause-head g c =
    let t = c.in-Some.ensures.taken in
    let there : c.in-Some.place < length c.take.new.self.users = let a = t.0 in let b =
    ap (λ (s : LinkOwners). length s.users) t.2 in omega arith in
    ((c.cut_users.ensures.cut c.in-Some.place there).1 (λ h. h.0 refl)).0
    ∙ head_taken c.args.self.now c.loop-place.self c.take.new.self c.in-Some.place c.args.key
    (λ x. get_or c.args.self.now.names x 0)
    (g.K.Marks.is_marked c.args.marks.now) (g.K.Marks.is_marked c.loop-place.marks)
    (λ nodes. ClearsNodeMarks g.K.Marks.is_call nodes c.args.marks.now c.loop-place.marks)
    c.loop-place.invariant.unsettling
    t.1
    (ap (λ (s : LinkOwners). s.users) t.2)

less : (s0 s t v : LinkOwners) (x : ℕ) → LinkPlaceWaits s0 x → s.waits ≡ set s0.waits x false → s.users ≡ s0.users
    → length t.users ≡ length s.users
    → length v.users ≡ length t.users → AreWaitingLinksPaid s t → AreWaitingLinksPaid t v
    → waiting_link_count v.waits + (length v.users - link_owned_count 0 v.users)
    < waiting_link_count s0.waits + (length s0.users - link_owned_count 0 s0.users)
less s0 s t v x q e u l m a b =
    let w : waiting_link_count s.waits + 1 ≡ waiting_link_count s0.waits = ap (λ y. waiting_link_count y + 1) e
    ∙ pop_lowers_waiting_link_count s0.waits x q in
    let o : link_owned_count 0 s.users ≡ link_owned_count 0 s0.users = ap (link_owned_count 0) u in
    let n : length s.users ≡ length s0.users = ap length u in
    let h = link_owned_count_is_bounded 0 v.users in
    let i = link_owned_count_is_bounded 0 s0.users in omega arith

pub loop-place-smaller : goal.loop-place-smaller
loop-place-smaller g c =
    let t = c.in-Some.ensures.taken in
    less c.loop-place.self c.take.new.self c.cut_users.new.self c.cut_keys.new.self c.in-Some.place t.1
    (ap (λ (s : LinkOwners). s.waits) t.2)
    (ap (λ (s : LinkOwners). s.users) t.2)
    c.cut_users.ensures.size c.cut_keys.ensures.size c.cut_users.ensures.paid c.cut_keys.ensures.paid

pub returns-clause-cut : goal.returns-clause-cut
returns-clause-cut g c =
    let e = c.in_default.ensures.taken in
    let w : AreLinkPlacesParted (IsLinkOfAffected c.args.self.now c.args.key) c.args.self.now c.loop-place.self =
    all_cut c.args.self.now c.wait.ensures.was c.args.key (λ x. get_or c.args.self.now.names x 0) c.loop-place.self
    (g.K.Marks.is_marked c.args.marks.now) (g.K.Marks.is_marked c.loop-place.marks)
    (λ nodes. ClearsNodeMarks g.K.Marks.is_call nodes c.args.marks.now c.loop-place.marks)
    c.loop-place.invariant.unsettling e.0 in
    subst (λ (s : LinkOwners). AreLinkPlacesParted (IsLinkOfAffected c.args.self.now c.args.key) c.args.self.now s)
    (sym e.1) w

pub returns-clause-cleared : goal.returns-clause-cleared
returns-clause-cleared g c x h a =
    all_cleared c.args.self.now c.wait.ensures.was c.args.key (λ x. get_or c.args.self.now.names x 0) c.loop-place.self
    (g.K.Marks.is_marked c.args.marks.now) (g.K.Marks.is_marked c.loop-place.marks)
    (λ nodes. ClearsNodeMarks g.K.Marks.is_call nodes c.args.marks.now c.loop-place.marks)
    c.loop-place.invariant.unsettling c.in_default.ensures.taken.0 x a

pub returns-clause-kept : goal.returns-clause-kept
returns-clause-kept g c m n =
    all_kept c.args.self.now c.wait.ensures.was c.args.key (λ x. get_or c.args.self.now.names x 0) c.loop-place.self
    (g.K.Marks.is_marked c.args.marks.now) (g.K.Marks.is_marked c.loop-place.marks)
    (λ nodes. ClearsNodeMarks g.K.Marks.is_call nodes c.args.marks.now c.loop-place.marks)
    c.loop-place.invariant.unsettling c.in_default.ensures.taken.0 m n

pub returns-clause-once : goal.returns-clause-once
returns-clause-once g c =
    let r = all_once c.args.self.now c.wait.ensures.was c.args.key (λ x. get_or c.args.self.now.names x 0)
    c.loop-place.self
    (g.K.Marks.is_marked c.args.marks.now) (g.K.Marks.is_marked c.loop-place.marks)
    (λ nodes. ClearsNodeMarks g.K.Marks.is_call nodes c.args.marks.now c.loop-place.marks)
    c.loop-place.invariant.unsettling c.in_default.ensures.taken.0 in
    record { places = r.0; apart = r.1; marks_affected = r.2; clears_by_calls = r.3 }
