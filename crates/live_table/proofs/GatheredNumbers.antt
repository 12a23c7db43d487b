-- Numbers that are gathered, each once.
use Rattle.std.proofs.Common.{◌≡◌, ◌⊎◌, ◌↔◌, ◌+◌, ◌∷◌, [], ◌++◌, ℕ, cond, List, Some, take, length}
use Rattle.std.proofs.Common.{sym, ◌∙◌, subst, inl, inr, arith, Contains}
use Rattle.std.specs.List.{slice_get}
use Rattle.std.proofs.lemmas.Bool.{cases_Bool, cond-false, cond-true}
use Rattle.name_walk.specs.Faults.{is_on_path}
use Rattle.name_walk.proofs.Members.{on_path_member}
use Rattle.std.proofs.lemmas.List.{take_all}
use Rattle.std.proofs.lemmas.List.Elements.{Contains-append_left, Contains-push, Contains-push_cases}
use Rattle.general_lemmas.proofs.Places.{take_at}
use Rattle.general_lemmas.proofs.Members.{no_member}

-- the first of these numbers are gathered
abbrev pub IsGathering : List ℕ → List ℕ → List ℕ → ℕ → Type 0
IsGathering old now ns i = (m : ℕ) → Contains now m ↔ (Contains old m ⊎ Contains (take i ns) m)

-- a number is appended if it is not there
pub gathered_node_number_is_added : (now next : List ℕ) (n : ℕ) → next ≡ cond (is_on_path now n) now (now ++ n ∷ [])
    → (m : ℕ)
    → Contains next m ↔ (Contains now m ⊎ (m ≡ n))
gathered_node_number_is_added now next n e m = elim (cases_Bool (is_on_path now n)) [
  | inl q ↦ subst (λ (xs : List ℕ). Contains xs m ↔ (Contains now m ⊎ (m ≡ n)))
      (sym (e ∙ cond-true (is_on_path now n) now (now ++ n ∷ []) q)) (
        λ i. inl i,
        λ h. elim h [ inl i ↦ i | inr is ↦ subst (λ (x : ℕ). Contains now x) (sym is) (on_path_member now n q) ],
      )
  | inr q ↦ subst (λ (xs : List ℕ). Contains xs m ↔ (Contains now m ⊎ (m ≡ n)))
      (sym (e ∙ cond-false (is_on_path now n) now (now ++ n ∷ []) q)) (
        λ i. elim (Contains-push_cases now n m i) [ inl j ↦ inl j | inr is ↦ inr (sym is) ],
        λ h. elim h [
          | inl i ↦ Contains-append_left now (n ∷ []) m i
          | inr is ↦ subst (λ (x : ℕ). Contains (now ++ n ∷ []) x) (sym is) (Contains-push now n)
        ],
      )
]

-- at the start nothing is gathered
pub no_node_number_is_gathered : (old ns : List ℕ) → IsGathering old old ns 0
no_node_number_is_gathered old ns m = (λ i. inl i, λ h. elim h [ inl i ↦ i | inr z ↦ absurd (no_member m z) ])

-- the next number is gathered
pub next_node_number_is_gathered : (old now next ns : List ℕ) (i n : ℕ) → slice_get ns i ≡ Some n
    → IsGathering old now ns i
    → next ≡ cond (is_on_path now n) now (now ++ n ∷ []) → IsGathering old next ns (i + 1)
next_node_number_is_gathered old now next ns i n at g e m = (to, from)
  where
    to : Contains next m → Contains old m ⊎ Contains (take (i + 1) ns) m
    to h = elim ((gathered_node_number_is_added now next n e m).0 h) [
      | inl a ↦ elim ((g m).0 a) [
        | inl b ↦ inl b
        | inr b ↦ inr (subst (λ (xs : List ℕ). Contains xs m) (sym (take_at ns i n at))
            (Contains-append_left (take i ns) (n ∷ []) m b))
      ]
      | inr is ↦ inr (subst (λ (xs : List ℕ). Contains xs m) (sym (take_at ns i n at))
          (subst (λ (x : ℕ). Contains (take i ns ++ n ∷ []) x) (sym is) (Contains-push (take i ns) n)))
    ]

    from : Contains old m ⊎ Contains (take (i + 1) ns) m → Contains next m
    from (inl a) = (gathered_node_number_is_added now next n e m).1 (inl ((g m).1 (inl a)))
    from (inr a) = elim (Contains-push_cases (take i ns) n m
        (subst (λ (xs : List ℕ). Contains xs m) (take_at ns i n at) a)) [
          | inl b ↦ (gathered_node_number_is_added now next n e m).1 (inl ((g m).1 (inr b)))
          | inr is ↦ (gathered_node_number_is_added now next n e m).1 (inr (sym is))
        ]

-- at the end all numbers are gathered
pub all_node_numbers_are_gathered : (old now ns : List ℕ) (i : ℕ) → length ns ≡ i → IsGathering old now ns i → (m : ℕ)
    → Contains now m ↔ (Contains old m ⊎ Contains ns m)
all_node_numbers_are_gathered old now ns i e g m =
    subst (λ (xs : List ℕ). Contains now m ↔ (Contains old m ⊎ Contains xs m)) (take_all i ns (omega (arith, e))) (g m)
