-- The tokens of an expression.
use Rattle.std.specs.Prelude.{ℕ, List}
use Rattle.frac128.specs.Decimals.{NumeralDecimal}
use Rattle.expr_tree.specs.declared.operator.RootKind.{RootKind}

-- a word with power has its digit as a numeral; a head includes its `(`; `sqrt` is the square root and `cuberoot` the
-- cube root; `per` is a slash and `**` a caret
pub data Token : Type 0 where
  Numeral : NumeralDecimal → Token
  Word : List ℕ → Token
  WordWithPower : List ℕ → NumeralDecimal → Token
  Head : List ℕ → Token
  Root : RootKind → Token
  Plus : Token
  Minus : Token
  Star : Token
  Slash : Token
  Bar : Token
  Caret : Token
  Tilde : Token
  Open : Token
  Close : Token
