-- Lists that are joined, cut or reversed.
use Rattle.std.proofs.Common.{◌≡◌, ◌++◌, ◌∷◌, ◌+◌, ◌≤◌, [], ℕ, zero, suc, Bool, true, false, cond, ◌&&◌, List, length}
use Rattle.std.proofs.Common.{map, take, drop, reverse, refl, sym, ap, ◌∙◌, arith, append_assoc, one-add}
use Rattle.std.specs.List.{list_all, prefix_len}
use Rattle.std.proofs.lemmas.List.{append-nil, map-append, reverse-append}

-- taking more than the first list takes it and a part of the second
pub take-append-add : {A : Type 0} (xs ys : List A) (n : ℕ) → take (length xs + n) (xs ++ ys) ≡ xs ++ take n ys
take-append-add [] ys n = let z : 0 + n ≡ n = omega arith in ap (λ k. take k ys) z
take-append-add (x ∷ xs) ys n =
    let z : suc (length xs) + n ≡ suc (length xs + n) = omega arith in
    ap (λ k. take k (x ∷ (xs ++ ys))) z ∙ ap (λ t. x ∷ t) (take-append-add xs ys n)

-- a list consists of the items before a range, those in the range and those after it
pub parts_of : {A : Type 0} (at cut : ℕ) (xs : List A) → at + cut ≤ length xs
    → take at xs ++ (take cut (drop at xs) ++ drop (at + cut) xs) ≡ xs
parts_of zero cut xs h = ap (λ n. take cut xs ++ drop n xs) (zero_plus cut) ∙ two cut xs
  where
    zero_plus : (n : ℕ) → 0 + n ≡ n
    zero_plus n = omega arith

    two : {A : Type 0} (n : ℕ) (ys : List A) → take n ys ++ drop n ys ≡ ys
    two zero ys = refl
    two (suc n) [] = refl
    two (suc n) (y ∷ ys) = ap (λ t. y ∷ t) (two n ys)
parts_of (suc at) cut [] h = absurd (omega arith)
parts_of (suc at) cut (x ∷ xs) h =
    let next : suc at + cut ≡ suc (at + cut) = omega arith in
    ap (λ n. x ∷ (take at xs ++ (take cut (drop at xs) ++ drop n (x ∷ xs)))) next
    ∙ ap (λ t. x ∷ t) (parts_of at cut xs (omega arith))

-- if nothing is left after the items that were taken, they are the whole list
pub front_whole : {A : Type 0} (whole taken rest : List A) → whole ≡ taken ++ rest → rest ≡ [] → taken ≡ whole
front_whole whole taken rest p z = sym (p ∙ ap (λ t. taken ++ t) z ∙ append-nil taken)

-- moving items from the rest of a list to its front keeps the list
pub rejoined : {A : Type 0} (whole taken rest next more : List A) → whole ≡ taken ++ rest → rest ≡ next ++ more
    → (taken ++ next) ++ more ≡ whole
rejoined whole taken rest next more p q = append_assoc taken next more ∙ ap (λ t. taken ++ t) (sym q) ∙ sym p

-- if nothing is left, nothing is left after any items of it
pub no_rest : {A : Type 0} (rest next more : List A) → rest ≡ next ++ more → rest ≡ [] → more ≡ []
no_rest rest [] more e z = sym e ∙ z
no_rest rest (x ∷ next) more e z = absurd (omega (arith, ap length (sym e ∙ z)))

-- all items of the longest front that passes a test pass it
pub front-clear : {A : Type 0} (q : A → Bool) (xs : List A) → list_all q (take (prefix_len q xs) xs) ≡ true
front-clear q [] = refl
front-clear q (x ∷ xs) = go (q x) refl (front-clear q xs)
  where
    go : (t : Bool) → q x ≡ t → list_all q (take (prefix_len q xs) xs) ≡ true
        → list_all q (take (prefix_len q (x ∷ xs)) (x ∷ xs)) ≡ true
    go true e rest =
        ap (λ t. list_all q (take (cond t (1 + prefix_len q xs) 0) (x ∷ xs))) e
        ∙ ap (λ n. list_all q (take n (x ∷ xs))) (one-add (prefix_len q xs))
        ∙ (λ i. e i && rest i)
    go false e rest = ap (λ t. list_all q (take (cond t (1 + prefix_len q xs) 0) (x ∷ xs))) e

-- the images of a reversed list are the reversed images
pub map-reverse : {A B : Type 0} (f : A → B) (xs : List A) → map f (reverse xs) ≡ reverse (map f xs)
map-reverse f [] = refl
map-reverse f (x ∷ xs) =
    ap (map f) (reverse-append (x ∷ []) xs) ∙ map-append f (reverse xs) (x ∷ [])
    ∙ ap (λ ys. ys ++ f x ∷ []) (map-reverse f xs)
    ∙ sym (reverse-append (f x ∷ []) (map f xs))
