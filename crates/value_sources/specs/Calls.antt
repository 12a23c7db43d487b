-- The calls of an expression: each word before an operand in parentheses, with a `~` before it or not.
use Rattle.std.specs.Prelude.{List, [], ◌∷◌, ◌++◌}
use Rattle.expr_tree.specs.Syntax.{Syntax, Number, Bar, Word, Argument, Call, Inverse, Root, Group, Negate, Power}
use Rattle.expr_tree.specs.Syntax.{Juxtaposed, Product, Sum}
use Rattle.expr_tree.specs.Syntax.{Members, NoMember, Member, Factors, NoFactor, Factor, Terms, NoTerm, Term}

-- the calls in the order of their words, each with its operand
abbrev mutual
  pub calls_in : Syntax → List Syntax
  calls_in (Number x) = []
  calls_in (Bar x y) = []
  calls_in (Word w) = []
  calls_in Argument = []
  calls_in (Call w e) = Call w e ∷ calls_in e
  calls_in (Inverse w e) = Inverse w e ∷ calls_in e
  calls_in (Root kind e) = calls_in e
  calls_in (Group e) = calls_in e
  calls_in (Negate e) = calls_in e
  calls_in (Power e f) = calls_in e ++ calls_in f
  calls_in (Juxtaposed es) = calls_in_members es
  calls_in (Product fs) = calls_in_factors fs
  calls_in (Sum ts) = calls_in_terms ts

  pub calls_in_members : Members → List Syntax
  calls_in_members NoMember = []
  calls_in_members (Member e es) = calls_in e ++ calls_in_members es

  pub calls_in_factors : Factors → List Syntax
  calls_in_factors NoFactor = []
  calls_in_factors (Factor scale e fs) = calls_in e ++ calls_in_factors fs

  pub calls_in_terms : Terms → List Syntax
  calls_in_terms NoTerm = []
  calls_in_terms (Term sign e ts) = calls_in e ++ calls_in_terms ts
