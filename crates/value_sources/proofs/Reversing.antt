-- Mentions on a stack, the next one last.
use Rattle.std.proofs.Common.{◌≡◌, ◌++◌, ◌∷◌, [], List, reverse, sym, ap, ◌∙◌, append_assoc}
use Rattle.std.proofs.lemmas.List.{reverse-append, reverse-reverse}

module _ {A : Type 0} where
  -- the last of the remaining mentions is pushed
  pub push_last : (pending left_before now left all : List A) (m : A) → left_before ≡ left ++ m ∷ []
      → now ≡ pending ++ m ∷ [] → pending ++ reverse left_before ≡ all → now ++ reverse left ≡ all
  push_last pending left_before now left all m f n h =
      ap (λ (xs : List A). xs ++ reverse left) n
      ∙ (append_assoc pending (m ∷ []) (reverse left)
      ∙ (ap (λ (xs : List A). pending ++ xs) (sym (ap reverse f ∙ reverse-append left (m ∷ []))) ∙ h))

  -- all mentions were pushed
  pub pushed_all : (pending now ms : List A) → now ≡ pending ++ reverse ms → reverse now ≡ ms ++ reverse pending
  pushed_all pending now ms n =
      ap reverse n
      ∙ (reverse-append pending (reverse ms)
      ∙ ap (λ (xs : List A). xs ++ reverse pending) (reverse-reverse ms))
