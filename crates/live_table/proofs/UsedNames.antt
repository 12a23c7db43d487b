-- The names to which the first steps lead.
use Rattle.std.proofs.Common.{◌≡◌, ◌⊎◌, ◌↔◌, ◌+◌, ◌≤◌, ◌++◌, ◌∷◌, [], ℕ, cond, List, Some, take, length}
use Rattle.std.proofs.Common.{sym, ◌∙◌, ap, subst, inl, inr, Contains}
use Rattle.std.specs.List.{slice_get}
use Rattle.std.proofs.lemmas.List.{take_all}
use Rattle.std.proofs.lemmas.List.Elements.{Contains-append_left, Contains-push, Contains-push_cases}
use Rattle.name_walk.specs.declared.step.Step.{Step}
use Rattle.name_walk.specs.declared.step.Step.TheVariants.{Nowhere, To}
use Rattle.name_walk.specs.Faults.{is_on_path}
use Rattle.live_table.proofs.GatheredNumbers.{gathered_node_number_is_added}
use Rattle.general_lemmas.proofs.Places.{take_at}
use Rattle.general_lemmas.proofs.Members.{no_member}

-- numbers to which steps lead
abbrev pub AreUsed : List ℕ → List Step → Type 0
AreUsed targets xs = (m : ℕ) → Contains targets m ↔ Contains xs (To m)

-- one more step adds the name to which it leads
abbrev pub IsUsed : List ℕ → List ℕ → Step → Type 0
IsUsed old new x = (m : ℕ) → Contains new m ↔ (Contains old m ⊎ (x ≡ To m))

-- equal steps lead to one number
equal_steps_lead_to_one_node : (m n : ℕ) → To m ≡ To n → m ≡ n
equal_steps_lead_to_one_node m n e = cc

-- a step to a number adds the number
pub step_target_is_used_node : (old new : List ℕ) (n : ℕ) (x : Step) → x ≡ To n → new ≡ cond (is_on_path old n) old
    (old ++ n ∷ [])
    → IsUsed old new x
step_target_is_used_node old new n x is e m = (
  λ i. elim ((gathered_node_number_is_added old new n e m).0 i) [ inl j ↦ inl j | inr q ↦ inr (is ∙ ap To (sym q)) ],
  λ h. elim h [
    | inl j ↦ (gathered_node_number_is_added old new n e m).1 (inl j)
    | inr q ↦ (gathered_node_number_is_added old new n e m).1 (inr (equal_steps_lead_to_one_node m n (sym q ∙ is)))
  ],
)

-- a step that leads nowhere adds nothing
pub dead_end_uses_no_node : (old : List ℕ) (t : ℕ) (x : Step) → x ≡ Nowhere t → IsUsed old old x
dead_end_uses_no_node old t x is m = (λ i. inl i, λ h. elim h [ inl j ↦ j | inr q ↦ absurd (apart (sym is ∙ q)) ])
  where
    apart : Nowhere t ≡ To m → ⊥
    apart q = cc

-- without steps no names are used
pub no_steps_use_no_nodes : (xs : List Step) → AreUsed [] (take 0 xs)
no_steps_use_no_nodes xs m = (λ c. absurd (no_member m c), λ i. absurd (no_member (To m) i))

-- the next step is used with those before it
pub next_step_uses_its_node : (old new : List ℕ) (xs : List Step) (i : ℕ) (x : Step) → slice_get xs i ≡ Some x
    → AreUsed old (take i xs) → IsUsed old new x → AreUsed new (take (i + 1) xs)
next_step_uses_its_node old new xs i x at are put = subst (AreUsed new) (sym (take_at xs i x at)) (λ m. (
  λ c. elim ((put m).0 c) [
    | inl j ↦ Contains-append_left (take i xs) (x ∷ []) (To m) ((are m).0 j)
    | inr q ↦ subst (λ (s : Step). Contains (take i xs ++ x ∷ []) s) q (Contains-push (take i xs) x)
  ],
  λ j. elim (Contains-push_cases (take i xs) x (To m) j) [
    | inl k ↦ (put m).1 (inl ((are m).1 k))
    | inr q ↦ (put m).1 (inr q)
  ],
))

-- at the end all steps are used
pub all_steps_use_their_nodes : (targets : List ℕ) (xs : List Step) (i : ℕ) → length xs ≤ i
    → AreUsed targets (take i xs)
    → AreUsed targets xs
all_steps_use_their_nodes targets xs i l are = subst (AreUsed targets) (take_all i xs l) are
