-- The sizes of trees: each tree is larger than its parts.
use Rattle.std.proofs.Common.{◌≡◌, ◌+◌, ◌<◌, ℕ, zero, suc, List, [], ◌∷◌, length, map, get_or, ap, ◌∙◌, arith, Box}
use Rattle.std.proofs.Common.{Global}
use Rattle.expr_tree.specs.declared.operator.RootKind.{RootKind}
use Rattle.expr_tree.specs.declared.operator.Scale.{Scale}
use Rattle.expr_tree.specs.declared.operator.Sign.{Sign}
use Rattle.expr_tree.specs.declared.tree.Factors.{Factors as FactorList}
use Rattle.expr_tree.specs.declared.tree.Terms.{Terms as TermList}
use Rattle.expr_tree.specs.declared.tree.Tree.{Tree}
use Rattle.expr_tree.specs.declared.tree.Tree.TheVariants as made
use Rattle.expr_tree.specs.declared.tree.Trees.{Trees}
use Rattle.expr_tree.specs.Syntax.{Syntax, Members, NoMember, Member, Factors, NoFactor, Factor, Terms, NoTerm, Term}
use Rattle.expr_tree.specs.Syntax as tree
use Rattle.expr_tree.specs.Trees.{factor_syntax, factors_syntax, members_syntax, syntax, syntax_of_factors}
use Rattle.expr_tree.specs.Trees.{syntax_of_terms, term_syntax, terms_syntax, syntax_of_trees}
use Rattle.expr_tree.proofs.Views.{syntax_of_call, syntax_of_inverse, syntax_of_root, syntax_of_group, syntax_of_negate}
use Rattle.expr_tree.proofs.Views.{syntax_of_power, syntax_of_juxtaposed, syntax_of_product, syntax_of_sum}

abbrev mutual
  pub size : Syntax → ℕ
  size (tree.Call w e) = suc (size e)
  size (tree.Inverse w e) = suc (size e)
  size (tree.Root kind e) = suc (size e)
  size (tree.Group e) = suc (size e)
  size (tree.Negate e) = suc (size e)
  size (tree.Power e f) = suc (size e + size f)
  size (tree.Juxtaposed es) = suc (members_size es)
  size (tree.Product fs) = suc (factors_size fs)
  size (tree.Sum ts) = suc (terms_size ts)
  size _ = 0

  pub members_size : Members → ℕ
  members_size NoMember = 0
  members_size (Member e es) = suc (size e + members_size es)

  pub factors_size : Factors → ℕ
  factors_size NoFactor = 0
  factors_size (Factor s e fs) = suc (size e + factors_size fs)

  pub terms_size : Terms → ℕ
  terms_size NoTerm = 0
  terms_size (Term s e ts) = suc (size e + terms_size ts)

-- the size of a call is one more than that of its operand
pub of_call_size : (t : Tree) (w : Box (List ℕ) Global) (e : Box Tree Global) → t ≡ made.Call w e
    → size (syntax t) ≡ suc (size (syntax e.value))
of_call_size t w e is = ap (λ (x : Tree). size (syntax x)) is ∙ ap size (syntax_of_call w e)

-- the size of an inverse is one more than that of its operand
pub of_inverse_size : (t : Tree) (w : Box (List ℕ) Global) (e : Box Tree Global) → t ≡ made.Inverse w e
    → size (syntax t) ≡ suc (size (syntax e.value))
of_inverse_size t w e is = ap (λ (x : Tree). size (syntax x)) is ∙ ap size (syntax_of_inverse w e)

-- the size of a root is one more than that of its operand
pub of_root_size : (t : Tree) (n : RootKind) (e : Box Tree Global) → t ≡ made.Root n e
    → size (syntax t) ≡ suc (size (syntax e.value))
of_root_size t n e is = ap (λ (x : Tree). size (syntax x)) is ∙ ap size (syntax_of_root n e)

-- the size of a group is one more than that of its operand
pub of_group_size : (t : Tree) (e : Box Tree Global) → t ≡ made.Group e → size (syntax t) ≡ suc (size (syntax e.value))
of_group_size t e is = ap (λ (x : Tree). size (syntax x)) is ∙ ap size (syntax_of_group e)

-- the size of a negation is one more than that of its operand
pub of_negate_size : (t : Tree) (e : Box Tree Global) → t ≡ made.Negate e
    → size (syntax t) ≡ suc (size (syntax e.value))
of_negate_size t e is = ap (λ (x : Tree). size (syntax x)) is ∙ ap size (syntax_of_negate e)

-- the size of a power is one more than that of both its parts
pub of_power_size : (t : Tree) (e f : Box Tree Global) → t ≡ made.Power e f
    → size (syntax t) ≡ suc (size (syntax e.value) + size (syntax f.value))
of_power_size t e f is = ap (λ (x : Tree). size (syntax x)) is ∙ ap size (syntax_of_power e f)

-- the size of juxtaposed operands is one more than that of all of them
pub of_juxtaposed_size : (t : Tree) (es : Trees) → t ≡ made.Juxtaposed es
    → size (syntax t) ≡ suc (members_size (members_syntax (syntax_of_trees es)))
of_juxtaposed_size t es is = ap (λ (x : Tree). size (syntax x)) is ∙ ap size (syntax_of_juxtaposed es)

-- the size of a product is one more than that of its members
pub of_product_size : (t : Tree) (fs : FactorList) → t ≡ made.Product fs
    → size (syntax t) ≡ suc (factors_size (factors_syntax (syntax_of_factors fs)))
of_product_size t fs is = ap (λ (x : Tree). size (syntax x)) is ∙ ap size (syntax_of_product fs)

-- the size of a sum is one more than that of its members
pub of_sum_size : (t : Tree) (ts : TermList) → t ≡ made.Sum ts
    → size (syntax t) ≡ suc (terms_size (terms_syntax (syntax_of_terms ts)))
of_sum_size t ts is = ap (λ (x : Tree). size (syntax x)) is ∙ ap size (syntax_of_sum ts)

-- each operand is smaller than all of them together
pub member_smaller : (ts : List Tree) (i : ℕ) (d : Tree) → i < length ts
    → size (syntax (get_or ts i d)) < members_size (members_syntax (map syntax ts))
member_smaller [] i d h = absurd (omega arith)
member_smaller (t ∷ ts) zero d h = omega arith
member_smaller (t ∷ ts) (suc i) d h = omega (arith, member_smaller ts i d (omega arith))

-- each member of a product is smaller than all of them together
pub factor_smaller : (fs : List (Scale × Tree)) (i : ℕ) (d : Scale × Tree) → i < length fs
    → size (syntax (get_or fs i d).1) < factors_size (factors_syntax (map factor_syntax fs))
factor_smaller [] i d h = absurd (omega arith)
factor_smaller (f ∷ fs) zero d h = omega arith
factor_smaller (f ∷ fs) (suc i) d h = omega (arith, factor_smaller fs i d (omega arith))

-- each member of a sum is smaller than all of them together
pub term_smaller : (ts : List (Sign × Tree)) (i : ℕ) (d : Sign × Tree) → i < length ts
    → size (syntax (get_or ts i d).1) < terms_size (terms_syntax (map term_syntax ts))
term_smaller [] i d h = absurd (omega arith)
term_smaller (t ∷ ts) zero d h = omega arith
term_smaller (t ∷ ts) (suc i) d h = omega (arith, term_smaller ts i d (omega arith))

pub ruleset sizes = (
  member_smaller,
  factor_smaller,
  term_smaller,
  of_call_size,
  of_inverse_size,
  of_root_size,
  of_group_size,
  of_negate_size,
  of_power_size,
  of_juxtaposed_size,
  of_product_size,
  of_sum_size,
)
