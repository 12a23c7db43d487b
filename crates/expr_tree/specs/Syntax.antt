-- The meaning of an expression: a tree, wherever it is in memory.
use Rattle.std.specs.Prelude.{ℕ, List}
use Rattle.frac128.specs.Decimals.{NumeralDecimal}
use Rattle.expr_tree.specs.declared.operator.RootKind.{RootKind}
use Rattle.expr_tree.specs.declared.operator.RootKind.TheVariants.{Square, Cube}
use Rattle.expr_tree.specs.declared.operator.Scale.{Scale}
use Rattle.expr_tree.specs.declared.operator.Sign.{Sign}

-- the degree of a root
abbrev pub degree : RootKind → ℕ
degree Square = 2
degree Cube = 3

mutual
  pub data Syntax : Type 0 where
    Number : NumeralDecimal → Syntax
    Bar : NumeralDecimal → NumeralDecimal → Syntax
    Word : List ℕ → Syntax
    Argument : Syntax
    Call : List ℕ → Syntax → Syntax
    Inverse : List ℕ → Syntax → Syntax
    Root : RootKind → Syntax → Syntax
    Group : Syntax → Syntax
    Negate : Syntax → Syntax
    Power : Syntax → Syntax → Syntax
    Juxtaposed : Members → Syntax
    Product : Factors → Syntax
    Sum : Terms → Syntax

  pub data Members : Type 0 where
    NoMember : Members
    Member : Syntax → Members → Members

  pub data Factors : Type 0 where
    NoFactor : Factors
    Factor : Scale → Syntax → Factors → Factors

  pub data Terms : Type 0 where
    NoTerm : Terms
    Term : Sign → Syntax → Terms → Terms
