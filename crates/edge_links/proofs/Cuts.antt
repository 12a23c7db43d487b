-- A loop that removes places.
use Rattle.std.proofs.Common.{◌≡◌, ℕ, ◌<◌, length, set, get_or, sym, ◌∙◌, ap, subst, arith}
use Rattle.std.proofs.Common.{◌⊎◌, inl, inr, get_or-set_same, get_or-set_other, length-set}
use Rattle.std.proofs.lemmas.Bool.{cases_eq}
use Rattle.edge_links.specs.Changes.{IsLinkPlaceFreed}
use Rattle.edge_links.specs.Owners.{LinkOwners}

-- some of the old places that satisfy the test are free now, and all others are unchanged
pub record IsCutting (Test : ℕ → Type 0) (old new : LinkOwners) : Type 0 where
  pub size : length new.users ≡ length old.users
  pub names : new.names ≡ old.names
  pub each : (p : ℕ) → p < length old.users
      → (Test p × (get_or new.users p 0 ≡ 0) × (get_or new.keys p 0 ≡ 0)) ⊎
      ((get_or new.users p 0 ≡ get_or old.users p 0) × (get_or new.keys p 0 ≡ get_or old.keys p 0))

-- the places with one of them made free
abbrev pub freed : LinkOwners → ℕ → LinkOwners
freed s p = record s { users = set s.users p 0; keys = set s.keys p 0 }

-- one more place that satisfies the test becomes free
pub next_cut_link_becomes_free :
    (Test : ℕ → Type 0) (old s : LinkOwners) (place : ℕ) → IsCutting Test old s → length s.keys ≡ length s.users
    → place < length s.users
    → ((get_or s.users place 0 ≡ get_or old.users place 0) × (get_or s.keys place 0 ≡ get_or old.keys place 0)
    → Test place)
    → IsCutting Test old (freed s place)
next_cut_link_becomes_free Test old s place c ks l test = record {
  size = length-set s.users place 0 ∙ c.size;
  names = c.names;
  each = λ p m. elim (cases_eq p place) [
    | inl e ↦
        let k : place < length s.keys = omega arith in
        let u : get_or (set s.users place 0) p 0 ≡ 0 = ap (λ x. get_or (set s.users place 0) x 0) e
        ∙ get_or-set_same s.users place 0 0 l in
        let v : get_or (set s.keys place 0) p 0 ≡ 0 = ap (λ x. get_or (set s.keys place 0) x 0) e
        ∙ get_or-set_same s.keys place 0 0 k in
        inl (
          (elim (c.each p m) [
            | inl w ↦ w.0
            | inr w ↦ subst Test (sym e) (test (subst (λ x. (get_or s.users x 0 ≡ get_or old.users x 0) ×
                (get_or s.keys x 0 ≡ get_or old.keys x 0)) e w))
          ]),
          u,
          v,
        )
    | inr ne ↦ elim (c.each p m) [
      | inl w ↦ inl (w.0, get_or-set_other s.users place p 0 0 ne ∙ w.1, get_or-set_other s.keys place p 0 0 ne ∙ w.2)
      | inr w ↦ inr (get_or-set_other s.users place p 0 0 ne ∙ w.0, get_or-set_other s.keys place p 0 0 ne ∙ w.1)
    ]
  ];
}

-- if no place is left, all places that satisfied the test are free
pub all_cut_links_are_free : (Test : ℕ → Type 0) (old s : LinkOwners) → IsCutting Test old s
    → ((p : ℕ) → p < length old.users → Test p → (get_or s.users p 0 ≡ get_or old.users p 0)
    × (get_or s.keys p 0 ≡ get_or old.keys p 0) → ⊥)
    → IsLinkPlaceFreed Test old s
all_cut_links_are_free Test old s c none p l = (
  λ t. elim (c.each p l) [ inl w ↦ (w.1, w.2) | inr w ↦ absurd (none p l t w) ],
  λ n. elim (c.each p l) [ inl w ↦ absurd (n w.0) | inr w ↦ w ],
)
