-- The members of a juxtaposition, a product or a sum, in a common form.
use Rattle.std.specs.Prelude.{List, [], ◌∷◌, ◌++◌, map}
use Rattle.expr_tree.specs.declared.operator.Scale.{Scale}
use Rattle.expr_tree.specs.declared.operator.Sign.{Sign}
use Rattle.expr_tree.specs.declared.word_list.WordUse.{WordUse}
use Rattle.expr_tree.specs.Syntax.{Syntax}
use Rattle.expr_tree.specs.Trees.{syntax, syntax_of_factors, syntax_of_terms, syntax_of_trees}
use Rattle.expr_tree.specs.Words.{words_in}
use Rattle.quantity.specs.Amount.{Amount}
use Rattle.units_io.specs.Outcomes.{◌>>=◌}
use Rattle.tree_eval.specs.declared.operands.Operand.{Operand}
use Rattle.tree_eval.specs.declared.operands.Operands.{Operands}
use Rattle.tree_eval.specs.declared.operands.Operands.TheVariants.{Juxtaposed, Product, Sum}
use Rattle.tree_eval.specs.declared.step.Step.{Step}
use Rattle.tree_eval.specs.declared.step.Step.TheVariants.{Multiply}
use Rattle.tree_eval.specs.Expansions.{Dimensionless, Chain, EvalMeaning, Expanded, Link, Links, NoLink}
use Rattle.tree_eval.specs.Expansion.{expand, scale_operand_step, sign_operand_step}
use Rattle.tree_eval.specs.Steps.{ValueOrFault, operand_step_value}

-- a member with its step
abbrev pub operand : Operand → Step × Syntax
operand o = (o.step, syntax o.tree.now)

abbrev pub operand_by_side : Syntax → Step × Syntax
operand_by_side e = (Multiply, e)

abbrev pub scaled_operand : Scale × Syntax → Step × Syntax
scaled_operand f = (scale_operand_step f.0, f.1)

abbrev pub signed_operand : Sign × Syntax → Step × Syntax
signed_operand t = (sign_operand_step t.0, t.1)

abbrev pub operands_with_steps : Operands → List (Step × Syntax)
operands_with_steps (Juxtaposed trees) = map operand_by_side (syntax_of_trees trees.now)
operands_with_steps (Product factors) = map scaled_operand (syntax_of_factors factors.now)
operands_with_steps (Sum terms) = map signed_operand (syntax_of_terms terms.now)

-- the running value combined with a member of this value
abbrev pub value_with_operand : Step → Amount → ValueOrFault → ValueOrFault
value_with_operand step held value_or_fault = value_or_fault >>= operand_step_value step held

-- the words of all members
abbrev pub words_of_operands : List (Step × Syntax) → List WordUse
words_of_operands [] = []
words_of_operands (o ∷ os) = words_in o.1 ++ words_of_operands os

-- the expansion of the further members, and of all members
module _ (means : WordUse → EvalMeaning) where
  abbrev pub links : List (Step × Syntax) → Links
  links [] = NoLink
  links (o ∷ os) = Link o.0 (expand means o.1) (links os)

  abbrev pub chain : List (Step × Syntax) → Expanded
  chain [] = Dimensionless
  chain (o ∷ os) = Chain (expand means o.1) (links os)
