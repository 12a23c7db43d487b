-- The state of the loop that clears nodes, and its end.
use Rattle.std.proofs.Common.{◌≡◌, ℕ, zero, suc, ◌<◌, Bool, true, false, cond, nat_eq, List, [], ◌∷◌, length, set}
use Rattle.std.proofs.Common.{get_or, Contains, ◌⊎◌, ◌↔◌, refl, sym, ◌∙◌, ap, subst, inl, inr, arith, get_or-set_other}
use Rattle.std.proofs.Common.{map}
use Rattle.std.proofs.lemmas.Bool.{cases_eq, cond-true, cond-false, eq-eqb, ne_eqb}
use Rattle.edge_links.specs.Changes.{IsLinkPlaceFreed, AreLinkPlacesParted, HasLinkUser, HasLinkKey}
use Rattle.edge_links.specs.Owners.{LinkOwners, AreLinkEdges, LinkPlaceWaits, IsLinkHead}
use Rattle.edge_links.specs.WaitingStack.{AreLinkPlacesApart}
use Rattle.edge_links.specs.PlaceReach.{IsLinkFromTo, LinkPlaceReaches, at_once, further, IsAffectedLinkPlace}
use Rattle.edge_links.specs.PlaceReach.{IsLinkOfAffected}
use Rattle.general_lemmas.proofs.Members.{no_member, member_first, member_later, member_cases}

-- the head of the user of a place
abbrev pub user : LinkOwners → ℕ → ℕ
user s p = get_or s.users p 0

-- the head of the key of a place
abbrev pub key_of : LinkOwners → ℕ → ℕ
key_of s p = get_or s.keys p 0

-- the place was removed, and its user is done or waiting
abbrev pub IsOut : LinkOwners → LinkOwners → List ℕ → ℕ → Type 0
IsOut old s done p = (user s p ≡ 0) × (key_of s p ≡ 0) × (user old p ≡ p → ⊥)
    × (Contains done (user old p) ⊎ LinkPlaceWaits s (user old p))

-- the place is unchanged
abbrev pub IsSame : LinkOwners → LinkOwners → ℕ → Type 0
IsSame old s p = (user s p ≡ user old p) × (key_of s p ≡ key_of old p)

-- the place is an edge
abbrev pub IsLive : LinkOwners → ℕ → Type 0
IsLive s p = (user s p ≡ p → ⊥) × (user s p ≡ 0 → ⊥)

-- the state so far: the edges removed for the affected nodes, the waiting places, and the effect of the calls
pub record IsUnsettling (old s : LinkOwners) (name : ℕ → ℕ) (marks now : ℕ → Bool) (key : ℕ)
    (Called : List ℕ → Type 0) : Type 0 where
  pub size : length s.users ≡ length old.users
  pub done : List ℕ
  pub each : (p : ℕ) → p < length old.users → IsOut old s done p ⊎ IsSame old s p
  pub out_user : (p : ℕ) → p < length old.users → IsLive s p → Contains done (user s p) → ⊥
  pub out_key : (p : ℕ) → p < length old.users → IsLive s p → Contains done (key_of s p) → ⊥
  pub reached : (x : ℕ) → Contains done x ⊎ LinkPlaceWaits s x → (x < length old.users) × (user old x ≡ x) × (x ≡ 0 → ⊥)
      × IsAffectedLinkPlace old key x
  pub cleared : (x : ℕ) → Contains done x → now (name x) ≡ false
  pub kept : (m : ℕ) → ((x : ℕ) → Contains done x → name x ≡ m → ⊥) → now m ≡ marks m
  pub begun : Contains done key ⊎ LinkPlaceWaits s key
  pub apart : AreLinkPlacesApart done
  pub idle : (x : ℕ) → Contains done x → LinkPlaceWaits s x → ⊥
  pub calls : Called (map name done)

-- the item set to false is false
cleared_flag_is_false : (bs : List Bool) (i : ℕ) → get_or (set bs i false) i false ≡ false
cleared_flag_is_false [] i = refl
cleared_flag_is_false (b ∷ bs) zero = refl
cleared_flag_is_false (b ∷ bs) (suc i) = cleared_flag_is_false bs i

module _ (old : LinkOwners) (old_edges : AreLinkEdges old.users old.keys) (key : ℕ) (name : ℕ → ℕ) where
  -- s: with x taken from the list; t and v: after the cuts
  module _ (s0 s t v : LinkOwners) (x : ℕ) (marks now : ℕ → Bool) (Called Called2 : List ℕ → Type 0)
      (u : IsUnsettling old s0 name marks now key Called)
      (popped : (x < length s0.users) × LinkPlaceWaits s0 x × (s.waits ≡ set s0.waits x false))
      (same_users : s.users ≡ s0.users) (same_keys : s.keys ≡ s0.keys) (edges : AreLinkEdges s.users s.keys)
      (cut_users : IsLinkPlaceFreed (HasLinkUser s x) s t) (t_waits : t.waits ≡ s.waits)
      (t_size : length t.users ≡ length s.users)
      (cut_keys : IsLinkPlaceFreed (HasLinkKey t x) t v) (v_waits : (y : ℕ) → LinkPlaceWaits v y ↔
      (LinkPlaceWaits t y ⊎ ((p : ℕ) × (p < length t.users) × HasLinkKey t x p × (get_or t.users p 0 ≡ y))))
      (v_size : length v.users ≡ length t.users)
      (called : (ms : List ℕ) → Called ms → Called2 (name x ∷ ms))
      (now2 : ℕ → Bool) (cleared_x : (m : ℕ) → now2 m ≡ cond (nat_eq m (name x)) false (now m)) where
    x_facts : (x < length old.users) × (user old x ≡ x) × (x ≡ 0 → ⊥) × IsAffectedLinkPlace old key x
    x_facts = u.reached x (inr popped.1)

    in_s : (p : ℕ) → p < length old.users → p < length s.users
    in_s p l = let a : length s.users ≡ length s0.users = ap length same_users in let b = u.size in omega arith

    in_t : (p : ℕ) → p < length old.users → p < length t.users
    in_t p l = let a = in_s p l in omega arith

    su : (p : ℕ) → user s p ≡ user s0 p
    su p = ap (λ xs. get_or xs p 0) same_users

    sk : (p : ℕ) → key_of s p ≡ key_of s0 p
    sk p = ap (λ xs. get_or xs p 0) same_keys

    -- the state of a place after both cuts
    both : (p : ℕ) → p < length old.users
        → ((user v p ≡ 0) × (key_of v p ≡ 0) × (p ≡ x → ⊥) × ((user s p ≡ x) ⊎ (key_of s p ≡ x)))
        ⊎ ((user v p ≡ user s p) × (key_of v p ≡ key_of s p) × ((p ≡ x) ⊎ ((user s p ≡ x → ⊥) × (key_of s p ≡ x → ⊥))))
    both p l =
        let ls : p < length s.users = in_s p l in
        let lt : p < length t.users = in_t p l in
        elim (cases_eq p x) [
          | inl e ↦
              let a = (cut_users p ls).1 (λ h. h.0 e) in
              let b = (cut_keys p lt).1 (λ h. h.0 e) in inr (b.0 ∙ a.0, b.1 ∙ a.1, inl e)
          | inr ne ↦ elim (cases_eq (user s p) x) [
            | inl e ↦
                let a = (cut_users p ls).0 (ne, e) in
                let b = (cut_keys p lt).1 (λ h. x_facts.2 (sym h.1 ∙ a.1)) in inl (b.0 ∙ a.0, b.1 ∙ a.1, ne, inl e)
            | inr nu ↦
                let a = (cut_users p ls).1 (λ h. nu h.1) in
                elim (cases_eq (key_of s p) x) [
                  | inl e ↦ let b = (cut_keys p lt).0 (ne, a.1 ∙ e) in inl (b.0, b.1, ne, inr e)
                  | inr nk ↦ let b =
                      (cut_keys p lt).1 (λ h. nk (sym a.1 ∙ h.1)) in inr (b.0 ∙ a.0, b.1 ∙ a.1, inr (nu, nk))
                ]
          ]
        ]

    still : (y : ℕ) → LinkPlaceWaits s0 y → (y ≡ x) ⊎ LinkPlaceWaits v y
    still y h =
        elim (cases_eq y x) [
          | inl e ↦ inl e
          | inr ne ↦ inr ((v_waits y).1
              (inl (ap (λ q. get_or q y false) (t_waits ∙ popped.2)
              ∙ (get_or-set_other s0.waits x y false false ne ∙ h))))
        ]

    -- the user of an edge to x is waiting
    user_waits : (p : ℕ) → p < length old.users → (p ≡ x → ⊥) → key_of s p ≡ x → (user s p ≡ x → ⊥)
        → LinkPlaceWaits v (user s p)
    user_waits p l ne e nu =
        let a = (cut_users p (in_s p l)).1 (λ h. nu h.1)
        in (v_waits (user s p)).1 (inr (p, in_t p l, (ne, a.1 ∙ e), a.0))

    each2 : (p : ℕ) → p < length old.users → IsOut old v (x ∷ u.done) p ⊎ IsSame old v p
    each2 p l =
        elim (u.each p l) [
          | inl o ↦
              let f : (user v p ≡ 0) × (key_of v p ≡ 0) =
              elim (both p l) [ inl w ↦ (w.0, w.1) | inr w ↦ (w.0 ∙ (su p ∙ o.0), w.1 ∙ (sk p ∙ o.1)) ] in
              inl (
                f.0,
                f.1,
                o.2,
                elim o.3 [
                  | inl i ↦ inl (member_later (user old p) x u.done i)
                  | inr q ↦ elim (still (user old p) q)
                      [ inl e ↦ inl (member_first (user old p) x u.done e) | inr r ↦ inr r ]
                ],
              )
          | inr m ↦ elim (both p l) [
            | inr w ↦ inr (w.0 ∙ (su p ∙ m.0), w.1 ∙ (sk p ∙ m.1))
            | inl w ↦
                let apart : user old p ≡ p → ⊥ = λ q. elim w.3 [
                  | inl e ↦ w.2 (sym q ∙ (sym m.0 ∙ (sym (su p) ∙ e)))
                  | inr e ↦ w.2 (sym ((old_edges.heads p l).0 q) ∙ (sym m.1 ∙ (sym (sk p) ∙ e)))
                ] in
                inl (
                  w.0,
                  w.1,
                  apart,
                  elim (cases_eq (user s p) x) [
                    | inl e ↦ inl (member_first (user old p) x u.done (sym m.0 ∙ (sym (su p) ∙ e)))
                    | inr nu ↦ elim w.3 [
                      | inl e ↦ absurd (nu e)
                      | inr e ↦ inr (subst (λ y. LinkPlaceWaits v y) (su p ∙ m.0) (user_waits p l w.2 e nu))
                    ]
                  ],
                )
          ]
        ]

    -- a place that is an edge now was one before, and its user and key are not x
    live_was : (p : ℕ) → p < length old.users → IsLive v p
        → (user v p ≡ user s0 p) × (key_of v p ≡ key_of s0 p) × IsLive s0 p × (user s p ≡ x → ⊥) × (key_of s p ≡ x → ⊥)
    live_was p l h =
        elim (both p l) [
          | inl w ↦ absurd (h.1 w.0)
          | inr w ↦
              let a : user v p ≡ user s0 p = w.0 ∙ su p in (
                a,
                w.1 ∙ sk p,
                (λ q. h.0 (a ∙ q), λ q. h.1 (a ∙ q)),
                elim w.2 [
                  | inl e ↦ absurd (h.0 (w.0 ∙ (head_x p l e ∙ sym e)))
                  | inr n ↦ n.0
                ],
                elim w.2 [
                  | inl e ↦ absurd (h.0 (w.0 ∙ (head_x p l e ∙ sym e)))
                  | inr n ↦ n.1
                ],
              )
        ]
      where
        head_x : (q : ℕ) → q < length old.users → q ≡ x → user s q ≡ x
        head_x q m e =
            elim (u.each q m) [
              | inl o ↦ absurd (o.2 (ap (user old) e ∙ (x_facts.1 ∙ sym e)))
              | inr w ↦ su q ∙ (w.0 ∙ (ap (user old) e ∙ x_facts.1))
            ]

    before : (z : ℕ) → get_or (set s0.waits x false) z false ≡ true → LinkPlaceWaits s0 z
    before z q =
        elim (cases_eq z x) [
          | inl e ↦ subst (λ k. LinkPlaceWaits s0 k) (sym e) popped.1
          | inr ne ↦ sym (get_or-set_other s0.waits x z false false ne) ∙ q
        ]

    uncut : (p : ℕ) → p < length old.users → HasLinkKey t x p → (user s p ≡ x → ⊥) × (user t p ≡ user s p)
        × (key_of t p ≡ key_of s p)
    uncut p l k =
        let n : user s p ≡ x → ⊥ = λ e. let a = (cut_users p (in_s p l)).0 (k.0, e) in x_facts.2 (sym k.1 ∙ a.1) in
        let a = (cut_users p (in_s p l)).1 (λ w. n w.1) in (n, a.0, a.1)

    reached_new : (y : ℕ) → LinkPlaceWaits v y → (y < length old.users) × (user old y ≡ y) × (y ≡ 0 → ⊥)
        × IsAffectedLinkPlace old
        key y
    reached_new y h =
        elim ((v_waits y).0 h) [
          | inl q ↦ u.reached y (inr (before y (ap (λ b. get_or b y false) (sym (t_waits ∙ popped.2)) ∙ q)))
          | inr w ↦
              let p : ℕ = w.0 in
              let lo : p < length old.users = let a : length s.users ≡ length s0.users = ap length same_users in let b =
              u.size in let d =
              w.1 in omega arith in
              let was : (user s p ≡ x → ⊥) × (user t p ≡ user s p) × (key_of t p ≡ key_of s p) = uncut p lo w.2 in
              let ks : key_of s p ≡ x = sym was.2 ∙ w.2.1 in
              elim (u.each p lo) [
                | inl o ↦ absurd (x_facts.2 (sym ks ∙ (sk p ∙ o.1)))
                | inr m ↦
                    let uo : user old p ≡ y = sym m.0 ∙ (sym (su p) ∙ (sym was.1 ∙ w.3)) in
                    let ko : key_of old p ≡ x = sym m.1 ∙ (sym (sk p) ∙ ks) in
                    let nh : user old p ≡ p → ⊥ = λ q. w.2.0 (sym ((old_edges.heads p lo).0 q) ∙ ko) in
                    let nz : user old p ≡ 0 → ⊥ = λ q. x_facts.2 (sym ko ∙ (old_edges.free p lo).0 q) in
                    let edge : IsLinkFromTo old p y x = (lo, nh, nz, uo, ko) in (
                      subst (λ z. z < length old.users) uo (old_edges.owners_within p lo),
                      subst (λ z. user old z ≡ z) uo (old_edges.top p lo),
                      λ q. nz (uo ∙ q),
                      inr (elim x_facts.3 [
                        | inl e ↦ subst (λ z. LinkPlaceReaches old y z) e (at_once p edge)
                        | inr r ↦ further p edge r
                      ]),
                    )
              ]
        ]

    -- no place that is done is waiting again
    idle_new : (y : ℕ) → Contains (x ∷ u.done) y → LinkPlaceWaits v y → ⊥
    idle_new y i h =
        elim ((v_waits y).0 h) [
          | inl q ↦
              let was_set : get_or (set s0.waits x false) y false ≡ true =
              ap (λ b. get_or b y false) (sym (t_waits ∙ popped.2)) ∙ q in
              elim (member_cases y x u.done i) [
                | inl e ↦ still_set (subst (λ z. get_or (set s0.waits x false) z false ≡ true) e was_set)
                | inr j ↦ u.idle y j (before y was_set)
              ]
          | inr w ↦
              let p : ℕ = w.0 in
              let lo : p < length old.users = let a : length s.users ≡ length s0.users = ap length same_users in let b =
              u.size in let d =
              w.1 in omega arith in
              let was : (user s p ≡ x → ⊥) × (user t p ≡ user s p) × (key_of t p ≡ key_of s p) = uncut p lo w.2 in
              let ks : key_of s p ≡ x = sym was.2 ∙ w.2.1 in
              elim (member_cases y x u.done i) [
                | inl e ↦ was.0 (sym was.1 ∙ (w.3 ∙ e))
                | inr j ↦ elim (u.each p lo) [
                  | inl o ↦ absurd (x_facts.2 (sym ks ∙ (sk p ∙ o.1)))
                  | inr m ↦
                      let ko : key_of old p ≡ x = sym m.1 ∙ (sym (sk p) ∙ ks) in
                      u.out_user p lo (
                        λ q. w.2.0 (sym ((old_edges.heads p lo).0 (sym m.0 ∙ q)) ∙ ko),
                        λ q. x_facts.2 (sym ko ∙ (old_edges.free p lo).0 (sym m.0 ∙ q)),
                      ) (subst (λ z. Contains u.done z) (sym (sym (su p) ∙ (sym was.1 ∙ w.3))) j)
                ]
              ]
        ]
      where
        still_set : get_or (set s0.waits x false) x false ≡ true → ⊥
        still_set q = let f = cleared_flag_is_false s0.waits x in cc

    pub unsettling_goes_on : IsUnsettling old v name marks now2 key Called2
    unsettling_goes_on = record {
      size = v_size ∙ (t_size ∙ (ap length same_users ∙ u.size));
      done = x ∷ u.done;
      each = each2;
      out_user = λ p l h i.
          let w = live_was p l h in elim (member_cases (user v p) x u.done i)
          [ inl e ↦ w.3 (su p ∙ (sym w.0 ∙ e)) | inr j ↦ u.out_user p l w.2 (subst (λ y. Contains u.done y) w.0 j) ];
      out_key = λ p l h i.
          let w = live_was p l h in elim (member_cases (key_of v p) x u.done i)
          [ inl e ↦ w.4 (sk p ∙ (sym w.1 ∙ e)) | inr j ↦ u.out_key p l w.2 (subst (λ y. Contains u.done y) w.1 j) ];
      reached = λ y h. elim h [
        | inl i ↦ elim (member_cases y x u.done i) [
          | inl e ↦ u.reached y (inr (subst (λ z. LinkPlaceWaits s0 z) (sym e) popped.1))
          | inr j ↦
              u.reached y (inl j)
        ]
        | inr q ↦ reached_new y q
      ];
      cleared = λ y i. elim (cases_eq (name y) (name x)) [
        | inl e ↦ cleared_x (name y)
            ∙ cond-true (nat_eq (name y) (name x)) false (now (name y)) (eq-eqb (name y) (name x) e)
        | inr ne ↦ cleared_x (name y)
            ∙ (cond-false (nat_eq (name y) (name x)) false (now (name y)) (ne_eqb (name y) (name x) ne)
            ∙ u.cleared y (elim (member_cases y x u.done i) [ inl e ↦ absurd (ne (ap name e)) | inr j ↦ j ]))
      ];
      kept = λ m n. cleared_x m ∙ (cond-false (nat_eq m (name x)) false (now m)
          (ne_eqb m (name x) (λ e. n x (member_first x x u.done refl) (sym e)))
          ∙ u.kept m (λ y i. n y (member_later y x u.done i)));
      begun = elim u.begun [
        | inl i ↦ inl (member_later key x u.done i)
        | inr q ↦ elim (still key q)
            [ inl e ↦ inl (member_first key x u.done e) | inr r ↦ inr r ]
      ];
      apart = (λ i. u.idle x i popped.1, u.apart);
      idle = idle_new;
      calls = called (map name u.done) u.calls;
    }

  pub unsettling_starts : (s : LinkOwners) (marks : ℕ → Bool) (Called : List ℕ → Type 0) → Called []
      → ((x : ℕ) → get_or old.waits x false ≡ false) → key < length old.users
      → user old key ≡ key
      → (key ≡ 0 → ⊥)
      → s.users ≡ old.users → s.keys ≡ old.keys → ((x : ℕ) → LinkPlaceWaits s x ↔ (LinkPlaceWaits old x ⊎ (x ≡ key)))
      → IsUnsettling old s name marks marks key Called
  unsettling_starts s marks Called called idle l h nz us ks q = record {
    size = ap length us;
    done = [];
    each = λ p m. inr (ap (λ xs. get_or xs p 0) us, ap (λ xs. get_or xs p 0) ks);
    out_user = λ p m w i. absurd (no_member (user s p) i);
    out_key = λ p m w i. absurd (no_member (key_of s p) i);
    reached = λ x w. elim w [
      | inl i ↦ absurd (no_member x i)
      | inr j ↦ elim ((q x).0 j) [
        | inl k ↦ absurd (let f = idle x in cc)
        | inr e ↦ (
          subst (λ z. z < length old.users) (sym e) l,
          ap (user old) e ∙ (h ∙ sym e),
          λ z. nz (sym e ∙ z),
          inl e,
        )
      ]
    ];
    cleared = λ x i. absurd (no_member x i);
    kept = λ x n. refl;
    begun = inr ((q key).1 (inr refl));
    apart = tt;
    idle = λ x i. absurd (no_member x i);
    calls = called;
  }

  -- no place is waiting at the end
  module _ (s : LinkOwners) (marks now : ℕ → Bool) (Called : List ℕ → Type 0)
      (u : IsUnsettling old s name marks now key Called)
      (idle : (x : ℕ) → get_or s.waits x false ≡ false) where
    none : (x : ℕ) → LinkPlaceWaits s x → ⊥
    none x h = let f = idle x in cc

    pred_done : (p x y : ℕ) → IsLinkFromTo old p x y → Contains u.done y → Contains u.done x
    pred_done p x y e i =
        elim (u.each p e.0) [
          | inl o ↦ elim o.3 [ inl j ↦ subst (λ z. Contains u.done z) e.3 j | inr q ↦ absurd (none _ q) ]
          | inr m ↦ absurd
              (u.out_key p e.0 (λ q. e.1 (sym m.0 ∙ q), λ q. e.2 (sym m.0 ∙ q))
              (subst (λ z. Contains u.done z) (sym (m.1 ∙ e.4)) i))
        ]

    reach_done : {x y : ℕ} → LinkPlaceReaches old x y → Contains u.done y → Contains u.done x
    reach_done (at_once p e) i = pred_done p _ _ e i
    reach_done (further p e r) i = pred_done p _ _ e (reach_done r i)

    pub affected_done : (x : ℕ) → IsAffectedLinkPlace old key x → Contains u.done x
    affected_done x (inl e) =
        subst (λ z. Contains u.done z) (sym e) (elim u.begun [ inl i ↦ i | inr q ↦ absurd (none _ q) ])
    affected_done x (inr r) = reach_done r (elim u.begun [ inl i ↦ i | inr q ↦ absurd (none _ q) ])

    pub done_affected : (x : ℕ) → Contains u.done x → IsAffectedLinkPlace old key x
    done_affected x i = (u.reached x (inl i)).3

    pub all_cut : AreLinkPlacesParted (IsLinkOfAffected old key) old s
    all_cut p l = elim (u.each p l) [
      | inl o ↦
          let i : Contains u.done (user old p) = elim o.3 [ inl j ↦ j | inr q ↦ absurd (none _ q) ] in
          inl ((o.2, (u.reached (user old p) (inl i)).2, done_affected _ i), o.0, o.1)
      | inr m ↦ inr (
        λ g. absurd (u.out_user p l (λ q. g.0 (sym m.0 ∙ q), λ q. g.1 (sym m.0 ∙ q))
            (subst (λ z. Contains u.done z) (sym m.0) (affected_done _ g.2))),
        m.0,
        m.1,
      )
    ]

    pub all_cleared : (x : ℕ) → IsAffectedLinkPlace old key x → now (name x) ≡ false
    all_cleared x a = u.cleared x (affected_done x a)

    pub all_kept : (m : ℕ) → ((x : ℕ) → IsLinkHead old x → IsAffectedLinkPlace old key x → name x ≡ m → ⊥)
        → now m ≡ marks m
    all_kept m n = u.kept m (λ x i. let r = u.reached x (inl i) in n x (r.0, r.1, r.2) r.3)

    pub all_once : (places : List ℕ) × AreLinkPlacesApart places
        × ((x : ℕ) → Contains places x ↔ (IsLinkHead old x × IsAffectedLinkPlace old key x)) × Called (map name places)
    all_once = (
      u.done,
      u.apart,
      λ x. (λ i. let r = u.reached x (inl i) in ((r.0, r.1, r.2), r.3), λ h. affected_done x h.1),
      u.calls,
    )
