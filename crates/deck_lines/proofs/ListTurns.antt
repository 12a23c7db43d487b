-- Exchanging a part of a list by rotating the list.
use Rattle.std.proofs.Common.{◌≡◌, ◌++◌, ◌+◌, ◌≤◌, ℕ, List, length, take, drop, sym, ap, ◌∙◌, arith, append_assoc}
use Rattle.std.proofs.Common.{length-append, length-take, length-drop}
use Rattle.std.proofs.Math.Seq.{take-add}
use Rattle.std.proofs.lemmas.List.{take_at, drop_at}

module _ {A : Type 0} (xs : List A) (at cut : ℕ) (h : at + cut ≤ length xs) where
  turned : drop (at + cut) xs ++ take (at + cut) xs ≡ (drop (at + cut) xs ++ take at xs) ++ take cut (drop at xs)
  turned = ap (λ t. drop (at + cut) xs ++ t) (take-add at cut xs)
      ∙ sym (append_assoc (drop (at + cut) xs) (take at xs) (take cut (drop at xs)))

  size : (n : ℕ) → n + cut ≡ length xs → length (drop (at + cut) xs ++ take at xs) ≡ n
  size n e = omega (
    arith,
    e,
    length-append (drop (at + cut) xs) (take at xs),
    length-drop (at + cut) xs,
    length-take at xs,
  )

  -- after the first rotation, the removed items are at the end
  pub left_is : (ys : List A) (n : ℕ) → ys ≡ drop (at + cut) xs ++ take (at + cut) xs → n + cut ≡ length xs
      → take n ys ≡ drop (at + cut) xs ++ take at xs
  left_is ys n e f = ap (take n) (e ∙ turned)
      ∙ take_at (drop (at + cut) xs ++ take at xs) (take cut (drop at xs)) n (size n f)

  pub gone_is : (ys : List A) (n : ℕ) → ys ≡ drop (at + cut) xs ++ take (at + cut) xs → n + cut ≡ length xs
      → drop n ys ≡ take cut (drop at xs)
  gone_is ys n e f = ap (drop n) (e ∙ turned)
      ∙ drop_at (drop (at + cut) xs ++ take at xs) (take cut (drop at xs)) n (size n f)

  -- rotating the list back puts the items after the new ones in their places
  pub back_is : (ys put : List A) (n : ℕ) → ys ≡ (drop (at + cut) xs ++ take at xs) ++ put → n + (at + cut) ≡ length xs
      → drop n ys ++ take n ys ≡ take at xs ++ (put ++ drop (at + cut) xs)
  back_is ys put n e f =
      let parts : ys ≡ drop (at + cut) xs ++ (take at xs ++ put) =
      e ∙ append_assoc (drop (at + cut) xs) (take at xs) put in
      let len : length (drop (at + cut) xs) ≡ n = omega (arith, f, length-drop (at + cut) xs) in
      ap (λ t. drop n t ++ take n t) parts
      ∙ ap (λ t. t ++ take n (drop (at + cut) xs ++ (take at xs ++ put)))
      (drop_at (drop (at + cut) xs) (take at xs ++ put) n len)
      ∙ ap (λ t. (take at xs ++ put) ++ t) (take_at (drop (at + cut) xs) (take at xs ++ put) n len)
      ∙ append_assoc (take at xs) put (drop (at + cut) xs)
