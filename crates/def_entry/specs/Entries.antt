-- The definitions that lines give to their keys, independent of how they are stored.
use Rattle.std.specs.Prelude.{ℕ, List, Option}
use Rattle.def_entry.specs.declared.entry.Span.{Span}
use Rattle.expr_tree.specs.Syntax.{Syntax}
use Rattle.piecewise.specs.Lines.{Point}

-- a function by expressions
pub record FunctionDef : Type 0 where
  pub in_unit : Option Syntax
  pub out_unit : Option Syntax
  pub domain : Option Span
  pub range : Option Span
  pub forward : Syntax
  pub inverse : Option Syntax

-- a function by a table of points
pub record TableDef : Type 0 where
  pub unit : Syntax
  pub points : List Point

-- the meaning of a key
pub data What : Type 0 where
  Primitive : What
  Dimensionless : What
  Body : Syntax → What
  Function : FunctionDef → What
  Alias : List ℕ → What
  Table : TableDef → What
  ListOf : List Syntax → What

-- the text of a definition, and its meaning
pub record Entry : Type 0 where
  pub text : List ℕ
  pub what : What
