-- Members of lists, and of lists that are made from lists.
use Rattle.std.proofs.Common.{◌≡◌, List, [], ◌∷◌, Contains, Option, Some, None, refl, sym, subst, inl, inr}
use Rattle.std.specs.Option.{option_or}
use Rattle.name_walk.specs.Lists.{first_some}
use Rattle.general_lemmas.proofs.Members.{no_member, member_first, member_later, member_cases}

module _ {A B : Type 0} where
  -- `first_some` gives `None` exactly if it does for each member
  pub first_none : (f : A → Option B) (xs : List A) → first_some f xs ≡ None → (x : A) → Contains xs x → f x ≡ None
  first_none f [] e x i = absurd (no_member x i)
  first_none f (y ∷ ys) e x i =
      elim (member_cases x y ys i) [
        | inl q ↦ subst (λ z. f z ≡ None) (sym q) (here (f y) (first_some f ys) e)
        | inr j ↦ first_none f ys (rest (f y) (first_some f ys) e) x j
      ]
    where
      here : (o p : Option B) → option_or o p ≡ None → o ≡ None
      here None p e = refl
      here (Some z) p e = cc

      rest : (o p : Option B) → option_or o p ≡ None → p ≡ None
      rest None p e = e
      rest (Some z) p e = cc

  pub none_first : (f : A → Option B) (xs : List A) → ((x : A) → Contains xs x → f x ≡ None) → first_some f xs ≡ None
  none_first f [] h = refl
  none_first f (y ∷ ys) h =
      both (f y) (first_some f ys) (h y (member_first y y ys refl))
      (none_first f ys (λ x i. h x (member_later x y ys i)))
    where
      both : (o p : Option B) → o ≡ None → p ≡ None → option_or o p ≡ None
      both None p e q = q
      both (Some z) p e q = cc

  pub first_same : (f g : A → Option B) (xs : List A) → ((x : A) → Contains xs x → f x ≡ g x)
      → first_some f xs ≡ first_some g xs
  first_same f g [] h = refl
  first_same f g (y ∷ ys) h =
      let e : f y ≡ g y = h y (member_first y y ys refl) in
      let r : first_some f ys ≡ first_some g ys = first_same f g ys (λ x i. h x (member_later x y ys i)) in
      λ i. option_or (e i) (r i)
