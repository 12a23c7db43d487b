-- The words of an expression, from left to right.
use Rattle.std.specs.Prelude.{List, [], ◌∷◌, ◌++◌}
use Rattle.expr_tree.specs.declared.word_list.WordKind.TheVariants as kind
use Rattle.expr_tree.specs.WordUses.{WordUse}
use Rattle.expr_tree.specs.Syntax.{Syntax, Number, Bar, Word, Argument, Call, Inverse, Root, Group, Negate, Power}
use Rattle.expr_tree.specs.Syntax.{Juxtaposed, Product, Sum}
use Rattle.expr_tree.specs.Syntax.{Members, NoMember, Member, Factors, NoFactor, Factor, Terms, NoTerm, Term}

abbrev mutual
  pub words_in : Syntax → List WordUse
  words_in (Number x) = []
  words_in (Bar x y) = []
  words_in (Word w) = record { text = w; kind = kind.Plain } ∷ []
  words_in Argument = []
  words_in (Call w e) = record { text = w; kind = kind.Call } ∷ words_in e
  words_in (Inverse w e) = record { text = w; kind = kind.Inverse } ∷ words_in e
  words_in (Root kind e) = words_in e
  words_in (Group e) = words_in e
  words_in (Negate e) = words_in e
  words_in (Power e f) = words_in e ++ words_in f
  words_in (Juxtaposed es) = words_in_members es
  words_in (Product fs) = words_in_factors fs
  words_in (Sum ts) = words_in_terms ts

  pub words_in_members : Members → List WordUse
  words_in_members NoMember = []
  words_in_members (Member e es) = words_in e ++ words_in_members es

  pub words_in_factors : Factors → List WordUse
  words_in_factors NoFactor = []
  words_in_factors (Factor scale e fs) = words_in e ++ words_in_factors fs

  pub words_in_terms : Terms → List WordUse
  words_in_terms NoTerm = []
  words_in_terms (Term sign e ts) = words_in e ++ words_in_terms ts
