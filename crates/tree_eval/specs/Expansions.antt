-- Expressions in which each word is replaced by its meaning. No name of a unit is left.
use Rattle.std.specs.Prelude.{ℕ, List, Option}
use Rattle.def_entry.specs.declared.entry.Span.{Span}
use Rattle.expr_tree.specs.declared.operator.RootKind.{RootKind}
use Rattle.frac128.specs.Decimals.{NumeralDecimal}
use Rattle.piecewise.specs.Lines.{Point}
use Rattle.tree_eval.specs.declared.step.Step.{Step}

mutual
  pub data Expanded : Type 0 where
    -- a numeral, and the quotient of two numerals
    Number : NumeralDecimal → Expanded
    Bar : NumeralDecimal → NumeralDecimal → Expanded
    -- the argument of the function whose expression this is
    Argument : Expanded
    -- a unit that is not defined by other units, and one that counts as 1
    Primitive : List ℕ → Expanded
    Dimensionless : Expanded
    -- the tree of a name, and those of a prefix and a unit
    Named : Expanded → Expanded
    Prefixed : Expanded → Expanded → Expanded
    -- a function without an argument, a function at an argument, and an inverse at a value
    Uncalled : Callable → Expanded
    Applied : Callable → Expanded → Expanded
    Unapplied : Callable → Expanded → Expanded
    Root : RootKind → Expanded → Expanded
    Group : Expanded → Expanded
    Negated : Expanded → Expanded
    Power : Expanded → Expanded → Expanded
    -- the first member, and the further ones with their steps
    Chain : Expanded → Links → Expanded

  pub data Links : Type 0 where
    NoLink : Links
    Link : Step → Expanded → Links → Links

  -- a function, with the name and the rank of its key
  pub data Callable : Type 0 where
    Function : (name : List ℕ) → (rank : ℕ)
        → (in_unit out_unit : Given) → (domain range : Option Span)
        → (forward : Expanded) → (inverse : Given) → Callable
    Alias : (name : List ℕ) → (rank : ℕ) → (target : Callable) → Callable
    Table : (name : List ℕ) → (rank : ℕ) → (unit : Expanded) → (points : List Point) → Callable

  -- an optional expression
  pub data Given : Type 0 where
    Absent : Given
    Present : Expanded → Given

-- the meaning of a word: a name, a prefix and a unit, or a function
pub data EvalMeaning : Type 0 where
  One : Expanded → EvalMeaning
  Two : Expanded → Expanded → EvalMeaning
  Callee : Callable → EvalMeaning

abbrev pub eval_callable_name : Callable → List ℕ
eval_callable_name (Function name rank in_unit out_unit domain range forward inverse) = name
eval_callable_name (Alias name rank target) = name
eval_callable_name (Table name rank unit points) = name

abbrev pub callable_rank : Callable → ℕ
callable_rank (Function name rank in_unit out_unit domain range forward inverse) = rank
callable_rank (Alias name rank target) = rank
callable_rank (Table name rank unit points) = rank
