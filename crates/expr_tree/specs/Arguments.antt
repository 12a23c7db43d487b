-- Trees that contain the argument of a function.
use Rattle.std.specs.Prelude.{◌≡◌, ℕ, Bool, true, false, ◌||◌, List, None, Ok}
use Rattle.expr_tree.specs.ParseResult.{parse_of}
use Rattle.expr_tree.specs.Syntax.{Syntax, Number, Bar, Word, Argument, Call, Inverse, Root, Group, Negate, Power}
use Rattle.expr_tree.specs.Syntax.{Juxtaposed, Product, Sum}
use Rattle.expr_tree.specs.Syntax.{Members, NoMember, Member, Factors, NoFactor, Factor, Terms, NoTerm, Term}

abbrev mutual
  pub holds_argument : Syntax → Bool
  holds_argument (Number x) = false
  holds_argument (Bar x y) = false
  holds_argument (Word w) = false
  holds_argument Argument = true
  holds_argument (Call w e) = holds_argument e
  holds_argument (Inverse w e) = holds_argument e
  holds_argument (Root kind e) = holds_argument e
  holds_argument (Group e) = holds_argument e
  holds_argument (Negate e) = holds_argument e
  holds_argument (Power e f) = holds_argument e || holds_argument f
  holds_argument (Juxtaposed es) = members_hold es
  holds_argument (Product fs) = factors_hold fs
  holds_argument (Sum ts) = terms_hold ts

  pub members_hold : Members → Bool
  members_hold NoMember = false
  members_hold (Member e es) = holds_argument e || members_hold es

  pub factors_hold : Factors → Bool
  factors_hold NoFactor = false
  factors_hold (Factor scale e fs) = holds_argument e || factors_hold fs

  pub terms_hold : Terms → Bool
  terms_hold NoTerm = false
  terms_hold (Term sign e ts) = holds_argument e || terms_hold ts

-- law: the tree of a text that is parsed without a binder contains no argument
abbrev pub ArgumentFreeTreeLaw : Type 0
ArgumentFreeTreeLaw = (text : List ℕ) (e : Syntax) → parse_of None text ≡ Ok e → holds_argument e ≡ false
