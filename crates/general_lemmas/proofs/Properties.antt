-- Properties that all members of a list have, and lists of distinct numbers.
use Rattle.std.proofs.Common.{◌≡◌, ℕ, false, List, [], ◌∷◌, ◌++◌, nat_eq}
use Rattle.std.specs.List.{AllByRecursion, IsDistinct}

-- a property of all members of two lists holds for both lists together
pub all_append : {A : Type 0} (P : A → Type 0) (xs ys : List A) → AllByRecursion P xs → AllByRecursion P ys
    → AllByRecursion P (xs ++ ys)
all_append P [] ys h k = k
all_append P (x ∷ xs) ys h k = (h.0, all_append P xs ys h.1 k)

-- a property of all members of two joined lists holds for the first list
pub all_front : {A : Type 0} (P : A → Type 0) (xs ys : List A) → AllByRecursion P (xs ++ ys) → AllByRecursion P xs
all_front P [] ys h = tt
all_front P (x ∷ xs) ys h = (h.0, all_front P xs ys h.1)

-- the members of an empty list are distinct
pub nothing_twice : IsDistinct nat_eq []
unfolding IsDistinct
nothing_twice = tt

-- the front of a list of distinct members is distinct
pub distinct_front : (xs ys : List ℕ) → IsDistinct nat_eq (xs ++ ys) → IsDistinct nat_eq xs
unfolding IsDistinct
distinct_front [] ys h = tt
distinct_front (x ∷ xs) ys h = (all_front (λ y. nat_eq x y ≡ false) xs ys h.0, distinct_front xs ys h.1)
