-- The members of a list with one more item.
use Rattle.std.proofs.Common.{◌≡◌, ℕ, List, [], ◌∷◌, Contains, sym, inl, inr, map, refl, subst}
use Rattle.edge_links.specs.WaitingStack.{AreLinkPlacesApart}
use Rattle.general_lemmas.proofs.Members.{no_member, member_first, member_later, member_cases}

-- each member of the image is the image of a member
pub contains_origin : (f : ℕ → ℕ) (m : ℕ) (xs : List ℕ) → Contains (map f xs) m → (x : ℕ) × Contains xs x × (f x ≡ m)
contains_origin f m [] h = absurd (no_member m h)
contains_origin f m (y ∷ ys) h = elim (member_cases m (f y) (map f ys) h) [
  | inl e ↦ (y, member_first y y ys refl, sym e)
  | inr i ↦ let r = contains_origin f m ys i in (r.0, member_later r.0 y ys r.1, r.2)
]

-- if different members have different images, the images of distinct members are distinct
pub link_places_apart_after_map : (f : ℕ → ℕ) (xs : List ℕ)
    → ((x y : ℕ) → Contains xs x → Contains xs y → f x ≡ f y → x ≡ y)
    → AreLinkPlacesApart xs → AreLinkPlacesApart (map f xs)
link_places_apart_after_map f [] one a = a
link_places_apart_after_map f (y ∷ ys) one a = (
  λ i.
      let r = contains_origin f (f y) ys i in
      let same : r.0 ≡ y = one r.0 y (member_later r.0 y ys r.1) (member_first y y ys refl) r.2 in
      a.0 (subst (λ z. Contains ys z) same r.1),
  link_places_apart_after_map f ys (λ x z i j e. one x z (member_later x y ys i) (member_later z y ys j) e) a.1,
)
