-- Functions in either direction.
use Rattle.std.specs.Prelude.{◌≡◌, ℕ, false, nat_lt, List}
use Rattle.def_entry.specs.Entries.{What}
use Rattle.expr_tree.specs.declared.word_list.WordUse.{WordUse}
use Rattle.quantity.specs.Amount.{Amount}
use Rattle.tree_eval.specs.declared.direction.Direction.{Direction}
use Rattle.tree_eval.specs.declared.direction.Direction.TheVariants.{Forward, Inverse}
use Rattle.tree_eval.specs.declared.holder.Holder.{Holder}
use Rattle.tree_eval.specs.Environment.{IsEvalFunction}
use Rattle.tree_eval.specs.Expansions.{Callable, EvalMeaning, Expanded, callable_rank}
use Rattle.tree_eval.specs.Expansion.{operand_call_expansion, operand_inverse_expansion}
use Rattle.tree_eval.specs.Steps.{ValueOrFault}
use Rattle.tree_eval.specs.Value.{inverse_value_at, most_rank, value_at}

-- the value of a function, or of its inverse, at a quantity
abbrev pub direction_value : Direction → Callable → Amount → ValueOrFault
direction_value Forward = value_at
direction_value Inverse = inverse_value_at

-- a word applied to its operand, or inverted at it
abbrev pub operand_expansion : Direction → EvalMeaning → Expanded → Expanded
operand_expansion Forward = operand_call_expansion
operand_expansion Inverse = operand_inverse_expansion

-- the function with this number has this entry, and its rank is not too great for a call
abbrev pub HasCallableRank : (Holder → List WordUse) → (WordUse → EvalMeaning) → ℕ → Callable → What → Type 0
HasCallableRank words means id f what =
    IsEvalFunction words means id f what × (nat_lt most_rank (callable_rank f) ≡ false)
