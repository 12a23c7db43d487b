-- Numbers of nodes, and of the names that they belong to.
use Rattle.std.proofs.Common.{◌≡◌, ℕ, ◌+◌, ◌*◌, ◌/◌, ◌%◌, ◌<◌, Bool, true, false, nat_eq, refl, sym, ◌∙◌, ap, inl, inr}
use Rattle.std.proofs.lemmas.Bool.{cases_eq, eq-eqb, ne_eqb}
use Rattle.std.proofs.lemmas.Nat.{div-add-mod', div-mul-add, mod-mul-add}
use Rattle.std.specs.Prelude.{◌&&◌}

-- the name of a node
pub name_of_edge_node : (n r : ℕ) → r < 2 → (n * 2 + r) / 2 ≡ n
name_of_edge_node n r l = div-mul-add n 2 r l

-- the remainder of a node is the kind of the node
pub kind_of_edge_node : (n r : ℕ) → r < 2 → (n * 2 + r) % 2 ≡ r
kind_of_edge_node n r l = mod-mul-add n 2 r l

-- a node is the node of a name with remainder r exactly if its half is the name and its remainder is r
pub edge_node_by_name_and_kind : (x n r : ℕ) → r < 2 → nat_eq x (n * 2 + r) ≡ (nat_eq (x % 2) r && nat_eq (x / 2) n)
edge_node_by_name_and_kind x n r l = elim (cases_eq x (n * 2 + r)) [
  | inl e ↦
      eq-eqb x (n * 2 + r) e
      ∙ sym (both _ _ (eq-eqb (x % 2) r (ap (λ z. z % 2) e ∙ kind_of_edge_node n r l))
      (eq-eqb (x / 2) n (ap (λ z. z / 2) e ∙ name_of_edge_node n r l)))
  | inr ne ↦ ne_eqb x (n * 2 + r) ne ∙ sym (not_both ne)
]
  where
    both : (a b : Bool) → a ≡ true → b ≡ true → a && b ≡ true
    both true true e f = refl
    both true false e f = f
    both false b e f = e

    none_left : (a b : Bool) → a ≡ false → a && b ≡ false
    none_left true b e = cc
    none_left false b e = refl

    none_right : (a b : Bool) → b ≡ false → a && b ≡ false
    none_right true b e = e
    none_right false b e = refl

    not_both : (x ≡ n * 2 + r → ⊥) → nat_eq (x % 2) r && nat_eq (x / 2) n ≡ false
    not_both ne = elim (cases_eq (x % 2) r) [
      | inr other ↦ none_left _ _ (ne_eqb (x % 2) r other)
      | inl e ↦ none_right _ _ (ne_eqb (x / 2) n (λ f. ne (sym (div-add-mod' x 2) ∙ (λ i. f i * 2 + e i))))
    ]
