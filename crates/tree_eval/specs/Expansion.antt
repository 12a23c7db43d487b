-- The expansion of a tree: each word is replaced by its meaning.
use Rattle.std.specs.Prelude.{ℕ, List, Option, Some, None}
use Rattle.expr_tree.specs.declared.operator.Scale.{Scale}
use Rattle.expr_tree.specs.declared.operator.Scale.TheVariants as scale
use Rattle.expr_tree.specs.declared.operator.Sign.{Sign}
use Rattle.expr_tree.specs.declared.operator.Sign.TheVariants as sign
use Rattle.expr_tree.specs.declared.word_list.WordKind.TheVariants as standing
use Rattle.expr_tree.specs.declared.word_list.WordUse.{WordUse}
use Rattle.expr_tree.specs.Syntax as tree
use Rattle.expr_tree.specs.Syntax.{Syntax, Members, NoMember, Member, Factors, NoFactor, Factor, Terms, NoTerm, Term}
use Rattle.tree_eval.specs.declared.step.Step.{Step}
use Rattle.tree_eval.specs.declared.step.Step.TheVariants.{Multiply, Divide, Add, Subtract}
use Rattle.tree_eval.specs.Expansions.{Expanded, Number, Bar, Argument, Dimensionless, Named, Prefixed}
use Rattle.tree_eval.specs.Expansions.{Uncalled, Applied, Unapplied, Root, Group, Negated, Power, Chain}
use Rattle.tree_eval.specs.Expansions.{Links, NoLink, Link, Given, Absent, Present, EvalMeaning, One, Two, Callee}

-- a single word
abbrev pub eval_meaning_expansion : EvalMeaning → Expanded
eval_meaning_expansion (One x) = Named x
eval_meaning_expansion (Two x y) = Prefixed x y
eval_meaning_expansion (Callee f) = Uncalled f

-- a word before its operand: a function is applied, any other meaning is multiplied
abbrev pub operand_call_expansion : EvalMeaning → Expanded → Expanded
operand_call_expansion (Callee f) y = Applied f y
operand_call_expansion m y = Chain (eval_meaning_expansion m) (Link Multiply y NoLink)

-- a word after a `~`, which is a function
abbrev pub operand_inverse_expansion : EvalMeaning → Expanded → Expanded
operand_inverse_expansion (Callee f) y = Unapplied f y
operand_inverse_expansion m y = Chain (eval_meaning_expansion m) (Link Multiply y NoLink)

abbrev pub scale_operand_step : Scale → Step
scale_operand_step scale.Multiply = Multiply
scale_operand_step scale.Divide = Divide

abbrev pub sign_operand_step : Sign → Step
sign_operand_step sign.Plus = Add
sign_operand_step sign.Minus = Subtract

-- a plain use of a word
abbrev pub plain_eval_word : List ℕ → WordUse
plain_eval_word w = record { text = w; kind = standing.Plain }

abbrev pub called_eval_word : List ℕ → WordUse
called_eval_word w = record { text = w; kind = standing.Call }

abbrev pub inverted_eval_word : List ℕ → WordUse
inverted_eval_word w = record { text = w; kind = standing.Inverse }

-- means: the meaning of each word. A list without members, which no text can produce, counts as 1
module _ (means : WordUse → EvalMeaning) where
  abbrev mutual
    pub expand : Syntax → Expanded
    expand (tree.Number x) = Number x
    expand (tree.Bar x y) = Bar x y
    expand (tree.Word w) = eval_meaning_expansion (means (plain_eval_word w))
    expand tree.Argument = Argument
    expand (tree.Call w e) = operand_call_expansion (means (called_eval_word w)) (expand e)
    expand (tree.Inverse w e) = operand_inverse_expansion (means (inverted_eval_word w)) (expand e)
    expand (tree.Root kind e) = Root kind (expand e)
    expand (tree.Group e) = Group (expand e)
    expand (tree.Negate e) = Negated (expand e)
    expand (tree.Power e f) = Power (expand e) (expand f)
    expand (tree.Juxtaposed NoMember) = Dimensionless
    expand (tree.Juxtaposed (Member e es)) = Chain (expand e) (member_links es)
    expand (tree.Product NoFactor) = Dimensionless
    expand (tree.Product (Factor s e fs)) = Chain (expand e) (factor_links fs)
    expand (tree.Sum NoTerm) = Dimensionless
    expand (tree.Sum (Term s e ts)) = Chain (expand e) (term_links ts)

    pub member_links : Members → Links
    member_links NoMember = NoLink
    member_links (Member e es) = Link Multiply (expand e) (member_links es)

    pub factor_links : Factors → Links
    factor_links NoFactor = NoLink
    factor_links (Factor s e fs) = Link (scale_operand_step s) (expand e) (factor_links fs)

    pub term_links : Terms → Links
    term_links NoTerm = NoLink
    term_links (Term s e ts) = Link (sign_operand_step s) (expand e) (term_links ts)

  abbrev pub expand_if : Option Syntax → Given
  expand_if None = Absent
  expand_if (Some e) = Present (expand e)
