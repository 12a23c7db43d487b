-- A number and a word side by side, the form of most definitions.
use Rattle.std.specs.Prelude.{◌≡◌, ℕ, List, [], ◌∷◌, Option, Result}
use Rattle.expr_tree.specs.declared.word_list.WordUse.{WordUse}
use Rattle.expr_tree.specs.Syntax.{Syntax, Word}
use Rattle.expr_tree.specs.Words.{words_in}
use Rattle.frac128.specs.declared.fault.FracFault.{FracFault}
use Rattle.frac128.specs.Decimals.{fraction_of_decimal}
use Rattle.frac128.specs.Fraction.{Fraction}
use Rattle.quantity.specs.Amount.{Amount}
use Rattle.units_io.specs.Outcomes.{◌>>=◌}
use Rattle.tree_eval.specs.declared.multiple.Factor.{Factor}
use Rattle.tree_eval.specs.declared.multiple.Factor.TheVariants as factor
use Rattle.tree_eval.specs.declared.step.Step.TheVariants.{Multiply}
use Rattle.tree_eval.specs.Expansions.{EvalMeaning}
use Rattle.tree_eval.specs.Expansion.{expand}
use Rattle.tree_eval.specs.Operands.{value_with_operand}
use Rattle.tree_eval.specs.Steps.{ValueOrFault, numeral_quotient_value, value_of_number}
use Rattle.tree_eval.specs.Value.{value}

-- the number that a factor states, a numeral or a quotient of two
abbrev pub factor_number_value : Factor → Result Fraction FracFault
factor_number_value (factor.Numeral x) = fraction_of_decimal x.now
factor_number_value (factor.Bar bar) = numeral_quotient_value bar.now.top bar.now.bottom

-- the value of a tree is this number in every context
abbrev pub HasNumberValue : Syntax → Result Fraction FracFault → Type 0
HasNumberValue e x = (means : WordUse → EvalMeaning) (a : Option Amount) → value (expand means e) a ≡ value_of_number x

-- the members are a tree without words that states the number, and a word
abbrev pub IsOperandMultiple : List Syntax → Result Fraction FracFault → Type 0
IsOperandMultiple es x = (e : Syntax) × (w : List ℕ) × (es ≡ e ∷ Word w ∷ []) × (words_in e ≡ []) × HasNumberValue e x

-- a number times the value of a word
abbrev pub word_multiple_value : Result Fraction FracFault → ValueOrFault → ValueOrFault
word_multiple_value x value_or_fault = value_of_number x >>= λ left. value_with_operand Multiply left value_or_fault
