-- A word of an expression: its bytes, and how it is used.
use Rattle.std.specs.Prelude.{ℕ, List}
use Rattle.expr_tree.specs.declared.word_list.WordKind.{WordKind}

pub record WordUse : Type 0 where
  pub text : List ℕ
  pub kind : WordKind
