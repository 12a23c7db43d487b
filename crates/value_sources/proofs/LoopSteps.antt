-- One step of the search for a failed step along the members of an expression.
use Rattle.std.proofs.Common.{◌≡◌, ◌<◌, ◌+◌, ℕ, zero, suc, List, [], ◌∷◌, Option, Some, drop, get_or, length, map}
use Rattle.std.proofs.Common.{arith, ap, subst, sym, ◌∙◌}
use Rattle.expr_tree.specs.declared.operator.Scale.{Scale}
use Rattle.expr_tree.specs.declared.operator.Sign.{Sign}
use Rattle.expr_tree.specs.declared.tree.Tree.{Tree}
use Rattle.expr_tree.specs.Syntax.{Syntax}
use Rattle.expr_tree.specs.Trees.{factor_syntax, factors_syntax, members_syntax, syntax, term_syntax, terms_syntax}
use Rattle.quantity.specs.Amount.{Amount}
use Rattle.def_entry.specs.Tables.{EntryTable}
use Rattle.tree_eval.specs.declared.step.Step.{Step}
use Rattle.tree_eval.specs.declared.step.Step.TheVariants.{Multiply}
use Rattle.tree_eval.specs.Expansion.{scale_operand_step, sign_operand_step}
use Rattle.value_sources.specs.declared.failure.FailedStep.{FailedStep}
use Rattle.value_sources.specs.declared.joining.Progress.{Progress}
use Rattle.value_sources.specs.declared.joining.Progress.TheVariants.{End, Value}
use Rattle.value_sources.specs.FailedSteps.{failed_factors, failed_members, failed_step, failed_step_after}
use Rattle.value_sources.specs.FailedSteps.{failed_terms}
use Rattle.value_sources.specs.FailedSteps.{failed_step_of_join, is_source_function_word, source_value_of_tree}
use Rattle.value_sources.specs.Joinings.{IsFailedStepProgress, IsJoinedUpToFailedStep, failed_step_after_progress}

-- a list from the place of a member on begins with this member
get_drop : {A : Type 0} (xs : List A) (i : ℕ) (x : A) → i < length xs → x ≡ get_or xs i x
    → drop i xs ≡ x ∷ drop (i + 1) xs
get_drop [] i x l h = absurd (omega (arith, l))
get_drop (y ∷ xs) zero x l h = ap (λ z. z ∷ xs) (sym h)
get_drop (y ∷ xs) (suc i) x l h =
    let n : suc i + 1 ≡ suc (i + 1) = omega arith in
    get_drop xs i x (omega (arith, l)) h ∙ ap (λ k. x ∷ drop k (y ∷ xs)) (sym n)

-- Members of any kind. step, expression: of a member; search: along members, from a running value.
module _ {X : Type 0} (step : X → Step) (expression : X → Syntax) (t : EntryTable)
    (search_along : (running : Option Amount) → List X → Option FailedStep)
    (unfolds : (running : Option Amount) (x : X) (xs : List X) → search_along running (x ∷ xs)
    ≡ failed_step_after (source_value_of_tree t (expression x)) (failed_step t (expression x))
    (λ v. failed_step_of_join (step x) running v (λ next. search_along (Some next) xs))) where
  -- the search from a member on joins this member and goes on
  goes_on : (u : EntryTable) (xs : List X) (i : ℕ) (x : X) (s : Step) (running : Option Amount)
      (member result : Progress)
      → u ≡ t → i < length xs → x ≡ get_or xs i x → s ≡ step x
      → IsFailedStepProgress (source_value_of_tree u (expression x)) (failed_step u (expression x)) member
      → IsJoinedUpToFailedStep s running member result
      → search_along running (drop i xs) ≡ failed_step_after_progress result
      (λ next. search_along (Some next) (drop (i + 1) xs))
  goes_on u xs i x s running member result same l h by reached is =
      let rest : Amount → Option FailedStep = λ next. search_along (Some next) (drop (i + 1) xs) in
      let here : IsFailedStepProgress (source_value_of_tree t (expression x)) (failed_step t (expression x)) member =
      subst (λ (w : EntryTable). IsFailedStepProgress (source_value_of_tree w (expression x))
      (failed_step w (expression x)) member) same
      reached in
      let fits : IsJoinedUpToFailedStep (step x) running member result =
      subst (λ (k : Step). IsJoinedUpToFailedStep k running member result) by is in
      ap (search_along running) (get_drop xs i x l h)
      ∙ (unfolds running x (drop (i + 1) xs)
      ∙ (here (λ v. failed_step_of_join (step x) running v rest) ∙ fits rest))

  module _ (u : EntryTable) (xs : List X) (i : ℕ) (x : X) (s : Step) (running : Option Amount)
      (member result : Progress)
      (same : u ≡ t) (l : i < length xs) (h : x ≡ get_or xs i x) (by : s ≡ step x)
      (reached : IsFailedStepProgress (source_value_of_tree u (expression x)) (failed_step u (expression x)) member)
      (is : IsJoinedUpToFailedStep s running member result) where
    rest : Amount → Option FailedStep
    rest next = search_along (Some next) (drop (i + 1) xs)

    -- the search from the next running value has the same result as the one from the running value
    pub next_value : (v : Amount) → result ≡ Value v
        → search_along (Some v) (drop (i + 1) xs) ≡ search_along running (drop i xs)
    next_value v value =
        sym (goes_on u xs i x s running member result same l h by reached is
        ∙ ap (λ (p : Progress). failed_step_after_progress p (λ next. search_along (Some next) (drop (i + 1) xs)))
        value)

    -- the search from the running value has this end
    pub search_end : (found : Option FailedStep) → result ≡ End found → found ≡ search_along running (drop i xs)
    search_end found end =
        sym (goes_on u xs i x s running member result same l h by reached is
        ∙ ap (λ (p : Progress). failed_step_after_progress p (λ next. search_along (Some next) (drop (i + 1) xs))) end)

-- the step to a member, and its expression
abbrev pub multiplied_member : Tree → Step
multiplied_member x = Multiply

abbrev pub factor_step : Scale × Tree → Step
factor_step x = scale_operand_step x.0

abbrev pub factor_operand : Scale × Tree → Syntax
factor_operand x = syntax x.1

abbrev pub term_step : Sign × Tree → Step
term_step x = sign_operand_step x.0

abbrev pub term_operand : Sign × Tree → Syntax
term_operand x = syntax x.1

-- the search along operands side by side, along a product and along a sum
module _ (t : EntryTable) where
  abbrev pub along_members : Option Amount → List Tree → Option FailedStep
  along_members running xs =
      failed_members (is_source_function_word t) (source_value_of_tree t) running (members_syntax (map syntax xs))

  abbrev pub along_factors : Option Amount → List (Scale × Tree) → Option FailedStep
  along_factors running xs =
      failed_factors (is_source_function_word t) (source_value_of_tree t) running
      (factors_syntax (map factor_syntax xs))

  abbrev pub along_terms : Option Amount → List (Sign × Tree) → Option FailedStep
  along_terms running xs = failed_terms (is_source_function_word t) (source_value_of_tree t) running
      (terms_syntax (map term_syntax xs))
