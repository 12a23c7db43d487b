-- Lists of distinct numbers, and their parts.
use Rattle.std.proofs.Common.{◌≡◌, ℕ, false, List, [], ◌∷◌, ◌++◌, refl, sym, ap}
use Rattle.std.proofs.Common.{inl, inr, nat_eq, Contains, None, Option, Some}
use Rattle.std.specs.List.{AllByRecursion, IsDistinct, last_or}
use Rattle.std.proofs.lemmas.Bool.{eqb-false, ne_eqb}
use Rattle.std.proofs.lemmas.List.Elements.{Contains-append_right}
use Rattle.name_walk.proofs.Lists.{all_at}
use Rattle.general_lemmas.proofs.Properties.{all_append}
use Rattle.general_lemmas.proofs.Members.{no_member, member_first, member_later, member_cases}

-- a property of each member holds for all members
pub all_from : {A : Type 0} (P : A → Type 0) (xs : List A) → ((x : A) → Contains xs x → P x) → AllByRecursion P xs
all_from P [] f = tt
all_from P (x ∷ xs) f = (f x (member_first x x xs refl), all_from P xs (λ y i. f y (member_later y x xs i)))

-- the parts of a list before a member and after it
pub record IsSplit (xs : List ℕ) (n : ℕ) : Type 0 where
  pub front : List ℕ
  pub back : List ℕ
  pub whole : xs ≡ front ++ n ∷ back

pub path_splits_at_name : (xs : List ℕ) (n : ℕ) → Contains xs n → IsSplit xs n
path_splits_at_name [] n i = absurd (no_member n i)
path_splits_at_name (x ∷ xs) n i = elim (member_cases n x xs i) [
  | inl e ↦ record { front = []; back = xs; whole = ap (λ (y : ℕ). y ∷ xs) (sym e) }
  | inr j ↦ let r = path_splits_at_name xs n j in
      record { front = x ∷ r.front; back = r.back; whole = ap (λ (ys : List ℕ). x ∷ ys) r.whole }
]

-- the last element of two joined lists is that of the second list
pub last_back : (xs : List ℕ) (n : ℕ) (ys : List ℕ) → last_or None (xs ++ n ∷ ys) ≡ last_or None (n ∷ ys)
last_back xs n ys = from None xs
  where
    from : (o : Option ℕ) (ks : List ℕ) → last_or o (ks ++ n ∷ ys) ≡ last_or (Some n) ys
    from o [] = refl
    from o (k ∷ ks) = from (Some k) ks

-- the back of a list of distinct members is distinct
pub distinct_back : (xs ys : List ℕ) → IsDistinct nat_eq (xs ++ ys) → IsDistinct nat_eq ys
unfolding IsDistinct
distinct_back [] ys h = h
distinct_back (x ∷ xs) ys h = distinct_back xs ys h.1

-- the front and the back of a list of distinct members have no common member
pub distinct_apart : (xs ys : List ℕ) → IsDistinct nat_eq (xs ++ ys) → (a : ℕ) → Contains xs a → Contains ys a → ⊥
unfolding IsDistinct
distinct_apart [] ys h a i j = no_member a i
distinct_apart (x ∷ xs) ys h a i j = elim (member_cases a x xs i) [
  | inl e ↦ eqb-false x a (all_at (λ y. nat_eq x y ≡ false) (xs ++ ys) a h.0 (Contains-append_right xs ys a j)) (sym e)
  | inr k ↦ distinct_apart xs ys h.1 a k j
]

-- two lists of distinct members without a common member are distinct together
pub distinct_append : (xs ys : List ℕ) → IsDistinct nat_eq xs → IsDistinct nat_eq ys
    → ((a : ℕ) → Contains xs a → Contains ys a → ⊥) → IsDistinct nat_eq (xs ++ ys)
unfolding IsDistinct
distinct_append [] ys h k apart = k
distinct_append (x ∷ xs) ys h k apart = (
  all_append (λ y. nat_eq x y ≡ false) xs ys h.0
      (all_from (λ y. nat_eq x y ≡ false) ys
      (λ y j. ne_eqb x y (λ e. apart y (member_first y x xs (sym e)) j))),
  distinct_append xs ys h.1 k (λ a i j. apart a (member_later a x xs i) j),
)
