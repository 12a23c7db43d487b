-- A word before its operand, by the reported meaning of the word.
use Rattle.std.proofs.Common.{◌≡◌, ℕ, Bool, Option, Result, Ok, Err, refl, sym, ◌∙◌, ap, subst}
use Rattle.quantity.specs.Amount.{Amount}
use Rattle.quantity.specs.Products.{quantity_product}
use Rattle.tree_eval.specs.declared.direction.Direction.{Direction}
use Rattle.tree_eval.specs.declared.direction.Direction.TheVariants.{Forward, Inverse}
use Rattle.tree_eval.specs.declared.fault.EvalFault.{EvalFault}
use Rattle.tree_eval.specs.declared.meaning.Meaning.{Meaning as ReportedMeaning}
use Rattle.tree_eval.specs.declared.meaning.Meaning.TheVariants as reports
use Rattle.tree_eval.specs.declared.step.Step.TheVariants.{Multiply}
use Rattle.tree_eval.specs.Answers.{GivesValueOrFault, amount_of_held_value}
use Rattle.tree_eval.specs.Environment.{IsReportedEvalMeaning}
use Rattle.tree_eval.specs.Expansions.{Callable, Expanded, EvalMeaning, Callee, Chain, Link, NoLink}
use Rattle.tree_eval.specs.Directions.{direction_value, operand_expansion}
use Rattle.tree_eval.specs.Expansion.{eval_meaning_expansion}
use Rattle.tree_eval.specs.Operands.{value_with_operand}
use Rattle.units_io.specs.Outcomes.{◌>>=◌}
use Rattle.tree_eval.specs.Steps.{ValueOrFault, operand_step_value, value_of_quantity_step}
use Rattle.tree_eval.specs.WordValues.{reported_word_value}
use Rattle.tree_eval.specs.Value.{value}
use Rattle.tree_eval.proofs.StepBinds.{first_eval_step_fault}
use Rattle.tree_eval.proofs.Calls.{reported_plain_word_value}

-- the product of both values, or the first fault
abbrev pub times : ValueOrFault → ValueOrFault → ValueOrFault
times r s = r >>= (λ v. s >>= (λ w. value_of_quantity_step (quantity_product v w)))

-- a last step that only returns its argument changes nothing
last_eval_step_changes_nothing : (r : ValueOrFault) → (r >>= (λ n. Ok n)) ≡ r
last_eval_step_changes_nothing (Ok n) = refl
last_eval_step_changes_nothing (Err f) = refl

-- a chain of two members is their product
two_operand_chain_value : (r s : ValueOrFault)
    → (r >>= (λ v. s >>= (λ w. operand_step_value Multiply v w >>= (λ n. Ok n)))) ≡ times r s
two_operand_chain_value (Err f) s = refl
two_operand_chain_value (Ok v) (Err f) = refl
two_operand_chain_value (Ok v) (Ok w) = last_eval_step_changes_nothing (value_of_quantity_step (quantity_product v w))

-- the value of a word and one more operand is their product
chained_word_value : (m : EvalMeaning) (y : Expanded) (a : Option Amount)
    → value (Chain (eval_meaning_expansion m) (Link Multiply y NoLink)) a ≡ times (value (eval_meaning_expansion m) a)
    (value y a)
chained_word_value m y a = two_operand_chain_value (value (eval_meaning_expansion m) a) (value y a)

module _ (has : ℕ → Bool) (callee : ℕ → Callable) (m : EvalMeaning) (t : ReportedMeaning) (y : Expanded)
    (a : Option Amount)
    (h : IsReportedEvalMeaning has callee m t) where
  reported_word_gives_value : times (value (eval_meaning_expansion m) a) (value y a) ≡ times
      (reported_word_value callee t) (value y a)
  reported_word_gives_value = ap (λ r. times r (value y a)) (reported_plain_word_value has callee m t a h)

-- a word that is not a function, before an operand, is a chain of the two
operand_word_is_chain : (direction : Direction) (has : ℕ → Bool) (callee : ℕ → Callable) (m : EvalMeaning)
    (t : ReportedMeaning)
    (y : Expanded)
    → IsReportedEvalMeaning has callee m t → ((id : ℕ) → t ≡ reports.Function id → ⊥)
    → operand_expansion direction m y ≡ Chain (eval_meaning_expansion m) (Link Multiply y NoLink)
operand_word_is_chain Forward has callee m (reports.One o) y h n =
    ap (λ k. operand_expansion Forward k y) h.1 ∙ ap (λ k. Chain (eval_meaning_expansion k) (Link Multiply y NoLink))
    (sym h.1)
operand_word_is_chain Forward has callee m (reports.Two p u) y h n =
    ap (λ k. operand_expansion Forward k y) h.2 ∙ ap (λ k. Chain (eval_meaning_expansion k) (Link Multiply y NoLink))
    (sym h.2)
operand_word_is_chain Inverse has callee m (reports.One o) y h n =
    ap (λ k. operand_expansion Inverse k y) h.1 ∙ ap (λ k. Chain (eval_meaning_expansion k) (Link Multiply y NoLink))
    (sym h.1)
operand_word_is_chain Inverse has callee m (reports.Two p u) y h n =
    ap (λ k. operand_expansion Inverse k y) h.2 ∙ ap (λ k. Chain (eval_meaning_expansion k) (Link Multiply y NoLink))
    (sym h.2)
operand_word_is_chain direction has callee m (reports.Function id) y h n = absurd (n id refl)

-- the value of a word that is not a function, before an operand, is the product of both
operand_word_value : (direction : Direction) (has : ℕ → Bool) (callee : ℕ → Callable) (m : EvalMeaning)
    (t : ReportedMeaning)
    (y : Expanded) (a : Option Amount)
    → IsReportedEvalMeaning has callee m t → ((id : ℕ) → t ≡ reports.Function id → ⊥)
    → value (operand_expansion direction m y) a ≡ times (reported_word_value callee t) (value y a)
operand_word_value direction has callee m t y a h n =
    ap (λ z. value z a) (operand_word_is_chain direction has callee m t y h n)
    ∙ (chained_word_value m y a ∙ reported_word_gives_value has callee m t y a h)

-- the value of a function with an operand is the function at the value of the operand
callable_operand_value : (direction : Direction) (f : Callable) (y : Expanded) (a : Option Amount)
    → value (operand_expansion direction (Callee f) y) a ≡ (value y a >>= direction_value direction f)
callable_operand_value Forward f y a = refl
callable_operand_value Inverse f y a = refl

-- a result for a value is a result for each equal value
eval_result_of_equal_values : {A : Type 0} (f : A → Amount) (r : Result A EvalFault) {v w : ValueOrFault} → w ≡ v
    → GivesValueOrFault f r v
    → GivesValueOrFault f r w
eval_result_of_equal_values f r is h = subst (GivesValueOrFault f r) (sym is) h

-- the cases of a product of two values
module _ (w r s : ValueOrFault) (is : w ≡ times r s) where
  times_first : (e : EvalFault) → GivesValueOrFault amount_of_held_value (Err e) r
      → GivesValueOrFault amount_of_held_value (Err e) w
  times_first e h = first_eval_step_fault amount_of_held_value amount_of_held_value e r
      (λ v. s >>= (λ u. value_of_quantity_step (quantity_product v u))) w is h

  module _ {p : Amount} (k : r ≡ Ok p) where
    times_behind : w ≡ (s >>= (λ u. value_of_quantity_step (quantity_product p u)))
    times_behind = is ∙ ap (λ x. times x s) k

-- a word that is not a function, with an operand
module _ (direction : Direction) (has : ℕ → Bool) (callee : ℕ → Callable) (m : EvalMeaning) {t : ReportedMeaning}
    (y : Expanded)
    (a : Option Amount) (h : IsReportedEvalMeaning has callee m t) (n : (id : ℕ) → t ≡ reports.Function id → ⊥) where
  abbrev whole : ValueOrFault
  whole = value (operand_expansion direction m y) a

  -- the value of the whole is the product
  is_product : whole ≡ times (reported_word_value callee t) (value y a)
  is_product = operand_word_value direction has callee m t y a h n

  -- the fault of the word is that of the whole
  pub word_fault : (e : EvalFault)
      → GivesValueOrFault amount_of_held_value (Err e) (reported_word_value callee t)
      → GivesValueOrFault amount_of_held_value (Err e) whole
  word_fault e k = times_first whole (reported_word_value callee t) (value y a) is_product e k

  -- if the word has a value, a result for its product with the operand is a result for the whole
  pub product_gives : {p : Amount} → reported_word_value callee t ≡ Ok p → {A : Type 0} (f : A → Amount)
      (r : Result A EvalFault)
      → GivesValueOrFault f r (value_with_operand Multiply p (value y a)) → GivesValueOrFault f r whole
  product_gives k f r j =
      eval_result_of_equal_values f r (times_behind whole (reported_word_value callee t) (value y a) is_product k) j

-- a function with its operand
module _ (direction : Direction) (has : ℕ → Bool) (callee : ℕ → Callable) (m : EvalMeaning) {t : ReportedMeaning}
    (y : Expanded)
    (a : Option Amount) (h : IsReportedEvalMeaning has callee m t) {id : ℕ} (function : t ≡ reports.Function id) where
  taken_word : value (operand_expansion direction m y) a ≡ (value y a >>= direction_value direction (callee id))
  taken_word =
      let k : IsReportedEvalMeaning has callee m (reports.Function id) = subst (IsReportedEvalMeaning has callee m)
      function h in
      ap (λ x. value (operand_expansion direction x y) a) k.1 ∙ callable_operand_value direction (callee id) y a

  -- the fault of the operand is that of the whole
  pub operand_fault : (e : EvalFault) → GivesValueOrFault amount_of_held_value (Err e) (value y a)
      → GivesValueOrFault amount_of_held_value (Err e) (value (operand_expansion direction m y) a)
  operand_fault e k =
      first_eval_step_fault amount_of_held_value amount_of_held_value e (value y a)
      (direction_value direction (callee id))
      (value (operand_expansion direction m y) a)
      taken_word k

  -- a result for the function at the value of the operand is a result for the whole
  pub taken_give : {u : Amount} → value y a ≡ Ok u → {A : Type 0} (f : A → Amount) (r : Result A EvalFault)
      → GivesValueOrFault f r (direction_value direction (callee id) u)
      → GivesValueOrFault f r (value (operand_expansion direction m y) a)
  taken_give k f r j =
      eval_result_of_equal_values f r (taken_word ∙ ap (λ x. x >>= direction_value direction (callee id)) k) j
