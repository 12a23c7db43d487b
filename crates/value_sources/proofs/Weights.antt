-- The number of parts of an expression, which decreases along a walk over it.
use Rattle.std.proofs.Common.{◌≡◌, ◌+◌, ◌*◌, ◌<◌, ℕ, zero, suc, List, [], ◌∷◌, get_or, length, map, arith, ap, subst}
use Rattle.expr_tree.specs.declared.operator.Scale.{Scale}
use Rattle.expr_tree.specs.declared.operator.Sign.{Sign}
use Rattle.expr_tree.specs.declared.tree.Tree.{Tree}
use Rattle.expr_tree.specs.Syntax.{Syntax, Number, Bar, Word, Argument, Call, Inverse, Root, Group, Negate, Power}
use Rattle.expr_tree.specs.Syntax.{Juxtaposed, Product, Sum}
use Rattle.expr_tree.specs.Syntax.{Members, NoMember, Member, Factors, NoFactor, Factor, Terms, NoTerm, Term}
use Rattle.expr_tree.specs.Trees.{factor_syntax, factors_syntax, members_syntax, syntax, term_syntax, terms_syntax}

abbrev mutual
  pub weight : Syntax → ℕ
  weight (Number x) = 1
  weight (Bar x y) = 1
  weight (Word w) = 1
  weight Argument = 1
  weight (Call w e) = suc (weight e)
  weight (Inverse w e) = suc (weight e)
  weight (Root kind e) = suc (weight e)
  weight (Group e) = suc (weight e)
  weight (Negate e) = suc (weight e)
  weight (Power e f) = suc (weight e + weight f)
  weight (Juxtaposed es) = suc (weight_members es)
  weight (Product fs) = suc (weight_factors fs)
  weight (Sum ts) = suc (weight_terms ts)

  pub weight_members : Members → ℕ
  weight_members NoMember = 0
  weight_members (Member e es) = weight e + weight_members es

  pub weight_factors : Factors → ℕ
  weight_factors NoFactor = 0
  weight_factors (Factor scale e fs) = weight e + weight_factors fs

  pub weight_terms : Terms → ℕ
  weight_terms NoTerm = 0
  weight_terms (Term sign e ts) = weight e + weight_terms ts

-- a member weighs no more than all of its list
failing_step_tree_within : (ts : List Tree) (i : ℕ) (t : Tree) → i < length ts → t ≡ get_or ts i t
    → weight (syntax t) < suc (weight_members (members_syntax (map syntax ts)))
failing_step_tree_within [] i t l h = omega (arith, l)
failing_step_tree_within (x ∷ ts) zero t l h =
    let w : weight (syntax t) ≡ weight (syntax x) = ap (λ (y : Tree). weight (syntax y)) h in omega (arith, w)
failing_step_tree_within (x ∷ ts) (suc i) t l h = let w = failing_step_tree_within ts i t (omega (arith, l)) h in
    omega (arith, w)

failing_step_factor_within : (fs : List (Scale × Tree)) (i : ℕ) (f : Scale × Tree) → i < length fs → f ≡ get_or fs i f
    → weight (syntax f.1) < suc (weight_factors (factors_syntax (map factor_syntax fs)))
failing_step_factor_within [] i f l h = omega (arith, l)
failing_step_factor_within (x ∷ fs) zero f l h =
    let w : weight (syntax f.1) ≡ weight (syntax x.1) = ap (λ (y : Scale × Tree). weight (syntax y.1)) h in
    omega (arith, w)
failing_step_factor_within (x ∷ fs) (suc i) f l h = let w = failing_step_factor_within fs i f (omega (arith, l)) h in
    omega (arith, w)

failing_step_term_within : (ts : List (Sign × Tree)) (i : ℕ) (t : Sign × Tree) → i < length ts → t ≡ get_or ts i t
    → weight (syntax t.1) < suc (weight_terms (terms_syntax (map term_syntax ts)))
failing_step_term_within [] i t l h = omega (arith, l)
failing_step_term_within (x ∷ ts) zero t l h =
    let w : weight (syntax t.1) ≡ weight (syntax x.1) = ap (λ (y : Sign × Tree). weight (syntax y.1)) h in
    omega (arith, w)
failing_step_term_within (x ∷ ts) (suc i) t l h = let w = failing_step_term_within ts i t (omega (arith, l)) h in
    omega (arith, w)

pub failing_step_tree_lighter : (ts : List Tree) (i : ℕ) (t : Tree) (es : List Syntax) → i < length ts
    → t ≡ get_or ts i t
    → map syntax ts ≡ es → 2 * weight (syntax t) < 2 * weight_members (members_syntax es) + 1
failing_step_tree_lighter ts i t es l h is =
    subst (λ (xs : List Syntax). 2 * weight (syntax t) < 2 * weight_members (members_syntax xs) + 1) is
    (let w = failing_step_tree_within ts i t l h in omega (arith, w))

pub failing_step_factor_lighter : (fs : List (Scale × Tree)) (i : ℕ) (f : Scale × Tree) (es : List (Scale × Syntax))
    → i < length fs
    → f ≡ get_or fs i f → map factor_syntax fs ≡ es → 2 * weight (syntax f.1) < 2 * weight_factors (factors_syntax es)
    + 1
failing_step_factor_lighter fs i f es l h is =
    subst (λ (xs : List (Scale × Syntax)). 2 * weight (syntax f.1) < 2 * weight_factors (factors_syntax xs) + 1) is
    (let w = failing_step_factor_within fs i f l h in omega (arith, w))

pub failing_step_term_lighter : (ts : List (Sign × Tree)) (i : ℕ) (t : Sign × Tree) (es : List (Sign × Syntax))
    → i < length ts
    → t ≡ get_or ts i t → map term_syntax ts ≡ es → 2 * weight (syntax t.1) < 2 * weight_terms (terms_syntax es) + 1
failing_step_term_lighter ts i t es l h is =
    subst (λ (xs : List (Sign × Syntax)). 2 * weight (syntax t.1) < 2 * weight_terms (terms_syntax xs) + 1) is
    (let w = failing_step_term_within ts i t l h in omega (arith, w))
