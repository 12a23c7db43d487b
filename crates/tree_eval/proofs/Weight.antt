-- The size of an expansion.
use Rattle.std.proofs.Common.{ℕ, suc, ◌+◌, Option, Some, None}
use Rattle.expr_tree.specs.declared.word_list.WordUse.{WordUse}
use Rattle.tree_eval.specs.declared.direction.Direction.{Direction}
use Rattle.tree_eval.specs.declared.meaning.Meaning.{Meaning as ReportedMeaning}
use Rattle.tree_eval.specs.declared.meaning.Meaning.TheVariants as reports
use Rattle.tree_eval.specs.Expansions.{Expanded, Number, Bar, Argument, Primitive, Dimensionless, Named, Prefixed}
use Rattle.tree_eval.specs.Expansions.{Uncalled, Applied, Unapplied, Root, Group, Negated, Power, Chain}
use Rattle.tree_eval.specs.Directions.{operand_expansion}
use Rattle.tree_eval.specs.Expansions.{EvalMeaning, Links, NoLink, Link, Callable, Function, Alias, Table, Given}
use Rattle.tree_eval.specs.Expansions.{Absent}
use Rattle.tree_eval.specs.Expansions.{Present}

abbrev mutual
  pub weight : Expanded → ℕ
  weight (Number x) = 1
  weight (Bar x y) = 1
  weight Argument = 1
  weight (Primitive name) = 1
  weight Dimensionless = 1
  weight (Named x) = suc (weight x)
  weight (Prefixed x y) = suc (weight x + weight y)
  weight (Uncalled f) = suc (weight_callable f)
  weight (Applied f x) = suc (weight_callable f + weight x)
  weight (Unapplied f x) = suc (weight_callable f + weight x)
  weight (Root kind x) = suc (weight x)
  weight (Group x) = suc (weight x)
  weight (Negated x) = suc (weight x)
  weight (Power x y) = suc (weight x + weight y)
  weight (Chain x links) = suc (weight x + weight_links links)

  pub weight_links : Links → ℕ
  weight_links NoLink = 0
  weight_links (Link step x links) = weight x + weight_links links

  pub weight_callable : Callable → ℕ
  weight_callable (Function name rank in_unit out_unit domain range forward inverse) =
      suc (weight_given in_unit + weight_given out_unit + weight forward + weight_given inverse)
  weight_callable (Alias name rank target) = suc (weight_callable target)
  weight_callable (Table name rank unit points) = suc (weight unit)

  pub weight_given : Given → ℕ
  weight_given Absent = 0
  weight_given (Present x) = weight x

-- the weight of a word with its operand, or 0 if there is no word
abbrev pub weight_of_use : (WordUse → EvalMeaning) → Direction → Option WordUse → Expanded → ℕ
weight_of_use means direction (Some u) y = weight (operand_expansion direction (means u) y)
weight_of_use means direction None y = 0

-- the weight of the reported function, or 0 for a name
abbrev pub weight_of_meaning : (ℕ → Callable) → ReportedMeaning → ℕ
weight_of_meaning callee (reports.Function id) = weight_callable (callee id)
weight_of_meaning callee _ = 0
