-- Members of lists.
use Rattle.std.proofs.Common.{◌≡◌, ◌⊎◌, ℕ, zero, suc, true, List, [], ◌∷◌, take, Contains, inl, inr}
use Rattle.std.proofs.lemmas.Bool.{cases_Bool}
use Rattle.std.proofs.lemmas.Bool.Decides.{Decides-eqb}
use Rattle.std.proofs.lemmas.Map.Made.{is_member-Decides}
use Rattle.name_walk.specs.Faults.{is_on_path}
use Rattle.general_lemmas.proofs.Members.{no_member, member_first, member_later, member_cases}

module _ {A : Type 0} where
  -- a member of the front of a list is a member of the list
  pub take_member : (k : ℕ) (xs : List A) (x : A) → Contains (take k xs) x → Contains xs x
  take_member zero xs x h = absurd (no_member x h)
  take_member (suc k) [] x h = absurd (no_member x h)
  take_member (suc k) (y ∷ xs) x h =
      elim (member_cases x y (take k xs) h)
      [ inl e ↦ member_first x y xs e | inr i ↦ member_later x y xs (take_member k xs x i) ]

-- the test for a member is true
pub member_on_path : (ks : List ℕ) (k : ℕ) → Contains ks k → is_on_path ks k ≡ true
member_on_path ks k i = (is_member-Decides Decides-eqb ks k).1 i

-- if the test is true, the number is a member
pub on_path_member : (ks : List ℕ) (k : ℕ) → is_on_path ks k ≡ true → Contains ks k
on_path_member ks k e = (is_member-Decides Decides-eqb ks k).0 e

-- a number is a member or not
pub member_or : (xs : List ℕ) (n : ℕ) → Contains xs n ⊎ (Contains xs n → ⊥)
member_or xs n = elim (cases_Bool (is_on_path xs n)) [
  | inl t ↦ inl (on_path_member xs n t)
  | inr f ↦ inr (λ i. let t : is_on_path xs n ≡ true = member_on_path xs n i in cc)
]
