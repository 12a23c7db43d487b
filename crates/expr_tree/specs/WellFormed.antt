-- Well-formed trees.
use Rattle.std.specs.Prelude.{◌≡◌, ℕ, Bool, true, false, ◌&&◌, IsTrue, List, Option, Ok}
use Rattle.expr_tree.specs.declared.operator.Scale.TheVariants.{Multiply}
use Rattle.expr_tree.specs.declared.operator.Sign.TheVariants.{Plus}
use Rattle.expr_tree.specs.ParseResult.{parse_of}
use Rattle.expr_tree.specs.Syntax.{Syntax, Number, Bar, Word, Argument, Call, Inverse, Root, Group, Negate, Power}
use Rattle.expr_tree.specs.Syntax.{Juxtaposed, Product, Sum}
use Rattle.expr_tree.specs.Syntax.{Members, NoMember, Member, Factors, NoFactor, Factor, Terms, NoTerm, Term}

-- no list is empty, the first member of a product multiplies, and the first member of a sum has a plus
abbrev mutual
  pub is_formed : Syntax → Bool
  is_formed (Number x) = true
  is_formed (Bar x y) = true
  is_formed (Word w) = true
  is_formed Argument = true
  is_formed (Call w e) = is_formed e
  is_formed (Inverse w e) = is_formed e
  is_formed (Root kind e) = is_formed e
  is_formed (Group e) = is_formed e
  is_formed (Negate e) = is_formed e
  is_formed (Power e f) = is_formed e && is_formed f
  is_formed (Juxtaposed (Member e es)) = is_formed e && are_formed es
  is_formed (Product (Factor Multiply e fs)) = is_formed e && are_formed_factors fs
  is_formed (Sum (Term Plus e ts)) = is_formed e && are_formed_terms ts
  is_formed _ = false

  pub are_formed : Members → Bool
  are_formed NoMember = true
  are_formed (Member e es) = is_formed e && are_formed es

  pub are_formed_factors : Factors → Bool
  are_formed_factors NoFactor = true
  are_formed_factors (Factor scale e fs) = is_formed e && are_formed_factors fs

  pub are_formed_terms : Terms → Bool
  are_formed_terms NoTerm = true
  are_formed_terms (Term sign e ts) = is_formed e && are_formed_terms ts

-- law: a text that has a tree is parsed to a well-formed one
abbrev pub WellFormedTreeLaw : Type 0
WellFormedTreeLaw = (binder : Option (List ℕ)) (text : List ℕ) (e : Syntax) → parse_of binder text ≡ Ok e
    → IsTrue (is_formed e)
