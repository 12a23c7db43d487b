-- Lists, and paths as lists of distinct names.
use Rattle.std.proofs.Common.{◌≡◌, ℕ, zero, suc, false, List, [], ◌∷◌, ◌++◌, take}
use Rattle.std.proofs.Common.{Option, Some, None, nat_eq, refl, sym, ◌∙◌, ap, inl, inr, Contains}
use Rattle.std.specs.List.{AllByRecursion, IsDistinct, slice_get}
use Rattle.std.specs.Option.{option_or}
use Rattle.std.proofs.lemmas.Bool.{or_from, ne_eqb, eqb-false}
use Rattle.std.proofs.lemmas.List.Folds.{list_any-append}
use Rattle.std.proofs.lemmas.List.Elements.{All-contains, All-from_recursion, Contains-push}
use Rattle.name_walk.specs.Faults.{is_on_path}
use Rattle.name_walk.specs.Lists.{first_some}
use Rattle.general_lemmas.proofs.Options.{or_none, none_first, none_second}
use Rattle.general_lemmas.proofs.Members.{no_member, member_first, member_later, member_cases}

-- ---- properties of all elements
pub all_map : {A : Type 0} (P Q : A → Type 0) → ((x : A) → P x → Q x) → (xs : List A) → AllByRecursion P xs
    → AllByRecursion Q xs
all_map P Q f [] h = tt
all_map P Q f (x ∷ xs) h = (f x h.0, all_map P Q f xs h.1)

-- a property that follows for each member from a property of all members holds for all members
pub all_map_in : {A : Type 0} (P Q : A → Type 0) (xs : List A) → ((x : A) → Contains xs x → P x → Q x)
    → AllByRecursion P xs → AllByRecursion Q xs
all_map_in P Q [] f h = tt
all_map_in P Q (x ∷ xs) f h =
    (f x (member_first x x xs refl) h.0, all_map_in P Q xs (λ y i. f y (member_later y x xs i)) h.1)

-- a property of all members holds for each member
pub all_at : {A : Type 0} (P : A → Type 0) (xs : List A) (x : A) → AllByRecursion P xs → Contains xs x → P x
all_at P xs x h i = All-contains P xs x (All-from_recursion P xs h) i

-- ---- elements
-- a number that is not a member, and is not the appended number, is not a member afterwards
pub name_stays_off_pushed_path : (ks : List ℕ) (x k : ℕ) → is_on_path ks k ≡ false → (k ≡ x → ⊥)
    → is_on_path (ks ++ x ∷ []) k ≡ false
name_stays_off_pushed_path ks x k h ne = list_any-append (nat_eq k) ks (x ∷ [])
    ∙ or_from _ _ h (or_from (nat_eq k x) false (ne_eqb k x ne) refl)

-- ---- parts

-- ---- the first result

-- if a list has no first result, no member has a result
pub all_none : {A B : Type 0} (f : A → Option B) (xs : List A) → first_some f xs ≡ None
    → AllByRecursion (λ x. f x ≡ None) xs
all_none f [] e = tt
all_none f (x ∷ xs) e = (none_first (f x) (first_some f xs) e, all_none f xs (none_second (f x) (first_some f xs) e))

-- if no member has a result, the list has no first result
pub none_from : {A B : Type 0} (f : A → Option B) (xs : List A) → ((x : A) → Contains xs x → f x ≡ None)
    → first_some f xs ≡ None
none_from f [] h = refl
none_from f (x ∷ xs) h =
    ap (λ o. option_or o (first_some f xs)) (h x (member_first x x xs refl))
    ∙ none_from f xs (λ y i. h y (member_later y x xs i))

-- functions that agree on the members of a list have the same first result
pub first_same : {A B : Type 0} (f g : A → Option B) (xs : List A) → ((x : A) → Contains xs x → f x ≡ g x)
    → first_some f xs ≡ first_some g xs
first_same f g [] h = refl
first_same f g (x ∷ xs) h =
    λ i. option_or (h x (member_first x x xs refl) i) (first_same f g xs (λ y j. h y (member_later y x xs j)) i)

-- if a list has no first result, then with one more member it has the result of that member
pub first_push : {A B : Type 0} (f : A → Option B) (xs : List A) (x : A) → first_some f xs ≡ None
    → first_some f (xs ++ x ∷ []) ≡ f x
first_push f [] x e = or_none (f x)
first_push f (y ∷ xs) x e =
    ap (λ o. option_or o (first_some f (xs ++ x ∷ []))) (none_first (f y) (first_some f xs) e)
    ∙ first_push f xs x (none_second (f y) (first_some f xs) e)

-- if no element before a place has a result, the first result of the list is that of the element there
pub first_at : {A B : Type 0} (f : A → Option B) (xs : List A) (i : ℕ) (x : A) (y : B)
    → first_some f (take i xs) ≡ None → slice_get xs i ≡ Some x → f x ≡ Some y → first_some f xs ≡ Some y
first_at f [] i x y e g h = cc
first_at f (z ∷ xs) zero x y e g h = let k : z ≡ x = cc in ap (λ o. option_or o (first_some f xs)) (ap f k ∙ h)
first_at f (z ∷ xs) (suc i) x y e g h =
    ap (λ o. option_or o (first_some f xs)) (none_first (f z) (first_some f (take i xs)) e)
    ∙ first_at f xs i x y (none_second (f z) (first_some f (take i xs)) e) g h

-- ---- distinct numbers

-- the last of distinct members is not among the others
pub distinct_last : (xs : List ℕ) (n : ℕ) → IsDistinct nat_eq (xs ++ n ∷ []) → Contains xs n → ⊥
unfolding IsDistinct
distinct_last [] n h i = no_member n i
distinct_last (x ∷ xs) n h i = elim (member_cases n x xs i) [
  | inl e ↦ eqb-false x n (all_at (λ y. nat_eq x y ≡ false) (xs ++ n ∷ []) n h.0 (Contains-push xs n)) (sym e)
  | inr j ↦ distinct_last xs n h.1 j
]
