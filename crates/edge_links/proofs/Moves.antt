-- A place that leaves or joins a ring, in terms of owners.
use Rattle.std.proofs.Common.{◌≡◌, ◌<◌, ℕ, List, Option, length, set, get_or, refl, sym, ◌∙◌, ap, subst, inl, inr}
use Rattle.std.proofs.Common.{length-set, get_or-set_other}
use Rattle.std.proofs.lemmas.Bool.{cases_eq}
use Rattle.std.proofs.lemmas.List.{set-set}
use Rattle.edge_links.specs.declared.slots.Side.{Side}
use Rattle.edge_links.specs.declared.slots.Side.TheVariants.{User, Key}
use Rattle.edge_links.specs.Columns.{LinkColumns, link_ring_of_side, link_columns_with_ring, link_columns_with_next}
use Rattle.edge_links.specs.Columns.{link_columns_with_prev, link_columns_with_seat}
use Rattle.edge_links.specs.RingInvariants.{AreLinked}
use Rattle.edge_links.specs.Owners.{LinkOwners, link_owners, link_owners_of_side, link_owners_with_owner}
use Rattle.edge_links.proofs.RingJoins.{with_joined, link_ring_after_join}
use Rattle.edge_links.proofs.RingLeaves.{without, link_ring_after_leave, not_owner}
use Rattle.edge_links.proofs.ColumnChanges.{link_owners_are_of_ring, both_link_sides_have_rings}
use Rattle.edge_links.proofs.ColumnChanges.{linked_columns_with_other_ring, link_ring_shows_its_owners}
use Rattle.edge_links.proofs.ColumnChanges.{link_columns_after_join, link_columns_after_leave}

-- setting an owner sets it on its side
set_link_owner_on_side : (side : Side) (s : LinkOwners) (p h : ℕ)
    → link_owners_of_side side (link_owners_with_owner side s p h) ≡ set (link_owners_of_side side s) p h
set_link_owner_on_side User s p h = refl
set_link_owner_on_side Key s p h = refl

-- of two owners set at the same place, the last one remains
pub last_set_link_owner_remains : (side : Side) (s : LinkOwners) (p g h : ℕ)
    → link_owners_with_owner side (link_owners_with_owner side s p g) p h ≡ link_owners_with_owner side s p h
last_set_link_owner_remains User s p g h = ap (λ (xs : List ℕ). record s { users = xs }) (set-set s.users p g h)
last_set_link_owner_remains Key s p g h = ap (λ (xs : List ℕ). record s { keys = xs }) (set-set s.keys p g h)

-- the owners on a side are those of its ring
pub side_link_owners_are_of_ring : (side : Side) (c : LinkColumns) (now : LinkOwners) → link_owners c ≡ now
    → link_owners_of_side side now ≡ (link_ring_of_side side c).owner
side_link_owners_are_of_ring side c now v = sym (ap (link_owners_of_side side) v) ∙ link_owners_are_of_ring side c

module _ (side : Side) (c : LinkColumns) (top : Option ℕ) (now : LinkOwners) (linked : AreLinked c top)
    (view : link_owners c ≡ now)
    (p : ℕ)
    (there : p < length (link_owners_of_side side now)) where
  same : link_owners_of_side side now ≡ (link_ring_of_side side c).owner
  same = side_link_owners_are_of_ring side c now view

  within : (q : ℕ) → q < length (link_owners_of_side side now) → q < length (link_ring_of_side side c).owner
  within q l = subst (λ xs. q < length xs) same l

  -- the three writes that remove the place
  module _ (no_head : get_or (link_owners_of_side side now) p 0 ≡ p → ⊥) (b a : ℕ)
      (is_before : b ≡ get_or (link_ring_of_side side c).prev p 0)
      (is_after : a ≡ get_or (link_ring_of_side side c).next p 0)
      (c1 c2 c3 : LinkColumns) (first : c1 ≡ link_columns_with_next side c b a)
      (second : c2 ≡ link_columns_with_prev side c1 a b)
      (third : c3 ≡ link_columns_with_seat side c2 p (record { next = p; prev = p; owner = p })) where
    no_owner : get_or (link_ring_of_side side c).owner p 0 ≡ p → ⊥
    no_owner = subst (λ xs. get_or xs p 0 ≡ p → ⊥) same no_head

    written : c3 ≡ link_columns_with_ring side c (without (link_ring_of_side side c) p)
    written = third ∙ (ap
        (λ (x : LinkColumns). link_columns_with_seat side x p (record { next = p; prev = p; owner = p }))
        (second ∙ ap (λ (x : LinkColumns). link_columns_with_prev side x a b) first)
        ∙ link_columns_after_leave side c p b a is_before is_after)

    pub left_linked : AreLinked c3 top
    left_linked = subst (λ (x : LinkColumns). AreLinked x top) (sym written)
        (linked_columns_with_other_ring side c top (without (link_ring_of_side side c) p) linked
        (link_ring_after_leave (link_ring_of_side side c) p (both_link_sides_have_rings side c top linked)
        (within p there) no_owner)
        (length-set (link_ring_of_side side c).owner p p))

    pub left_shown : link_owners c3 ≡ link_owners_with_owner side now p p
    left_shown = ap link_owners written
        ∙ (link_ring_shows_its_owners side c (without (link_ring_of_side side c) p) p p refl
        ∙ ap (λ (s : LinkOwners). link_owners_with_owner side s p p) view)

    pub left_alone : (q : ℕ) → q < length (link_owners_of_side side (link_owners c3))
        → get_or (link_owners_of_side side (link_owners c3)) q 0 ≡ p
        → q ≡ p
    left_alone q l o =
        let new : link_owners_of_side side (link_owners c3) ≡ set (link_ring_of_side side c).owner p p =
        ap (link_owners_of_side side) left_shown ∙ (set_link_owner_on_side side now p p ∙ ap (λ xs. set xs p p) same) in
        elim (cases_eq q p) [
          | inl e ↦ e
          | inr ne ↦
              let m : q < length (link_ring_of_side side c).owner =
              subst (λ n. q < n) (ap length new ∙ length-set (link_ring_of_side side c).owner p p) l in
              absurd (not_owner (length (link_ring_of_side side c).owner)
              (λ k. get_or (link_ring_of_side side c).next k 0)
              (λ k. get_or (link_ring_of_side side c).prev k 0) (λ k. get_or (link_ring_of_side side c).owner k 0)
              (both_link_sides_have_rings side c top linked).ring p (within p there) no_owner q m
              (sym (get_or-set_other (link_ring_of_side side c).owner p q p 0 ne)
              ∙ subst (λ xs. get_or xs q 0 ≡ p) new o))
        ]

  -- the three writes that put the place after the head
  module _ (h : ℕ) (head_there : h < length (link_owners_of_side side now)) (apart : p ≡ h → ⊥)
      (alone : (q : ℕ) → q < length (link_owners_of_side side now) → get_or (link_owners_of_side side now) q 0 ≡ p
      → q ≡ p)
      (is_own : get_or (link_owners_of_side side now) p 0 ≡ p) (is_head : get_or (link_owners_of_side side now) h 0 ≡ h)
      (f : ℕ)
      (is_first : f ≡ get_or (link_ring_of_side side c).next h 0)
      (c1 c2 c3 : LinkColumns) (first : c1 ≡ link_columns_with_seat side c p (record { next = f; prev = h; owner = h }))
      (second : c2 ≡ link_columns_with_prev side c1 f p) (third : c3 ≡ link_columns_with_next side c2 h p) where
    joined_written : c3 ≡ link_columns_with_ring side c (with_joined (link_ring_of_side side c) p h)
    joined_written =
        third ∙ (ap (λ (x : LinkColumns). link_columns_with_next side x h p)
        (second ∙ ap (λ (x : LinkColumns). link_columns_with_prev side x f p) first)
        ∙
        link_columns_after_join side c p h f is_first)

    pub joined_linked : AreLinked c3 top
    joined_linked = subst (λ (x : LinkColumns). AreLinked x top) (sym joined_written)
        (linked_columns_with_other_ring side c top (with_joined (link_ring_of_side side c) p h) linked
        (link_ring_after_join (link_ring_of_side side c) p h (both_link_sides_have_rings side c top linked)
        (within p there) (within h head_there) apart
        (subst (λ xs. get_or xs p 0 ≡ p) same is_own)
        (subst (λ (xs : List ℕ). (q : ℕ) → q < length xs → get_or xs q 0 ≡ p → q ≡ p) same alone)
        (subst (λ xs. get_or xs h 0 ≡ h) same is_head))
        (length-set (link_ring_of_side side c).owner p h))
