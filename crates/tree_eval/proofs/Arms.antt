-- The parts of each kind of tree: they are lighter than the tree, and their words are among those of the tree.
use Rattle.std.proofs.Common.{◌≡◌, ◌<◌, ◌+◌, ◌*◌, ℕ, suc, List, ◌++◌, length, sym, ap, subst, arith, Option, Result}
use Rattle.std.proofs.Common.{Ok, Err, length-append}
use Rattle.std.specs.Prelude.{OnOk}
use Rattle.expr_tree.specs.declared.operator.RootKind.{RootKind}
use Rattle.expr_tree.specs.declared.word_list.WordUse.{WordUse}
use Rattle.expr_tree.specs.Syntax as tree
use Rattle.expr_tree.specs.Syntax.{Syntax}
use Rattle.expr_tree.specs.Words.{words_in}
use Rattle.quantity.specs.Amount.{Amount}
use Rattle.quantity.specs.Powers.{quantity_power}
use Rattle.tree_eval.specs.declared.fault.EvalFault.{EvalFault}
use Rattle.tree_eval.specs.Answers.{GivesValueOrFault}
use Rattle.tree_eval.specs.Environment.{IsEvalWordRun}
use Rattle.tree_eval.specs.Expansions.{EvalMeaning, Expanded, Power}
use Rattle.tree_eval.specs.Expansion.{expand}
use Rattle.tree_eval.specs.declared.step.Step.{Step}
use Rattle.tree_eval.specs.Operands.{chain, words_of_operands}
use Rattle.tree_eval.specs.Steps.{value_of_quantity_step}
use Rattle.tree_eval.specs.Value.{value}
use Rattle.units_io.specs.Outcomes.{◌>>=◌}
use Rattle.tree_eval.proofs.MemberChains.{IsChain}
use Rattle.tree_eval.proofs.Places.{left_eval_words_at_run, right_eval_words_at_run}
use Rattle.tree_eval.proofs.Weight.{weight}

-- the only part of a tree; its words are at the place of those of the tree
pub record IsPart (means : WordUse → EvalMeaning) (us : List WordUse) (p : ℕ) (e part : Syntax) : Type 0 where
  pub lighter : 8 * weight (expand means part) + 3 < 8 * weight (expand means e) + 2
  pub stand : IsEvalWordRun us p (words_in part)

-- a base and its exponent, the two parts of a tree
pub record IsPair (means : WordUse → EvalMeaning) (us : List WordUse) (p : ℕ) (e b x : Syntax) : Type 0 where
  pub lighter : 8 * (weight (expand means b) + weight (expand means x)) + 3 < 8 * weight (expand means e) + 2
  pub stand : IsEvalWordRun us p (words_in b ++ words_in x)

-- the part of each kind of tree that has one, and the two parts of a power
module _ (means : WordUse → EvalMeaning) {us : List WordUse} {p : ℕ} where
  module _ {e x : Syntax} where
    -- a tree that is heavier by one than its part and has the same words
    only_part : weight (expand means e) ≡ suc (weight (expand means x)) → words_in e ≡ words_in x
        → IsEvalWordRun us p (words_in e) → IsPart means us p e x
    only_part w v s = record { lighter = omega (arith, w); stand = subst (IsEvalWordRun us p) v s }

    -- the part of a group
    pub group_part : e ≡ tree.Group x → IsEvalWordRun us p (words_in e) → IsPart means us p e x
    group_part h = only_part (ap (λ y. weight (expand means y)) h) (ap words_in h)

    -- the part of a negation
    pub negate_part : e ≡ tree.Negate x → IsEvalWordRun us p (words_in e) → IsPart means us p e x
    negate_part h = only_part (ap (λ y. weight (expand means y)) h) (ap words_in h)

    -- the part of a root
    pub root_part : {kind : RootKind} → e ≡ tree.Root kind x → IsEvalWordRun us p (words_in e) → IsPart means us p e x
    root_part h = only_part (ap (λ y. weight (expand means y)) h) (ap words_in h)

  -- the two parts of a power
  pub power_pair : {e b x : Syntax} → e ≡ tree.Power b x → IsEvalWordRun us p (words_in e) → IsPair means us p e b x
  power_pair {e} {b} {x} h s =
      let w : weight (expand means e) ≡ suc (weight (expand means b) + weight (expand means x)) =
      ap (λ y. weight (expand means y)) h in
      record { lighter = omega (arith, w); stand = subst (λ y. IsEvalWordRun us p (words_in y)) h s }

-- the base and the exponent are each lighter than the power
module _ (means : WordUse → EvalMeaning) (b x : Syntax) where
  pub base_lighter : 8 * weight (expand means b) + 2 < 8 * (weight (expand means b) + weight (expand means x)) + 3
  base_lighter = omega arith

  pub exponent_lighter : 8 * weight (expand means x) + 2 < 8 * (weight (expand means b) + weight (expand means x)) + 3
  exponent_lighter = omega arith

-- the words of the base and then those of the exponent are at the place
module _ (us : List WordUse) (p : ℕ) (b x : Syntax) (s : IsEvalWordRun us p (words_in b ++ words_in x)) where
  pub base_stands : IsEvalWordRun us p (words_in b)
  base_stands = left_eval_words_at_run us p (words_in b) (words_in x) s

  pub exponent_stands : {q : ℕ} → q ≡ p + length (words_in b) → IsEvalWordRun us q (words_in x)
  exponent_stands n = subst (λ k. IsEvalWordRun us k (words_in x)) (sym n)
      (right_eval_words_at_run us p (words_in b) (words_in x) s)

-- the end of the words of the exponent is that of both
pub power_ends : {A : Type 0} (r : Result A EvalFault) (b x : Syntax) (p q n : ℕ) → q ≡ p + length (words_in b)
    → OnOk r (n ≡ q + length (words_in x)) → OnOk r (n ≡ p + length (words_in b ++ words_in x))
power_ends (Ok y) b x p q n h k = omega (arith, h, k, length-append (words_in b) (words_in x))
power_ends (Err e) b x p q n h k = tt

-- if the base has a value, a result for its power is a result for the whole
pub power_gives : {v : Amount} (x y : Expanded) (a : Option Amount) → value x a ≡ Ok v → {A : Type 0}
    (seen : A → Amount) (r : Result A EvalFault)
    → GivesValueOrFault seen r (value y a >>= λ w. value_of_quantity_step (quantity_power v w))
    → GivesValueOrFault seen r (value (Power x y) a)
power_gives x y a is seen r =
    subst (λ k. GivesValueOrFault seen r (k >>= λ v. value y a >>= λ w. value_of_quantity_step (quantity_power v w)))
    (sym is)

-- a tree that is a list of members
module _ {means : WordUse → EvalMeaning} {e : Syntax} {os : List (Step × Syntax)} (is : IsChain means e os) where
  -- the tree is heavier than its members
  pub chain_lighter : 8 * weight (chain means os) + 1 < 8 * weight (expand means e) + 2
  chain_lighter = let w : weight (expand means e) ≡ weight (chain means os) = ap weight is.expands in omega (arith, w)

  -- the words of the members are at the place of those of the tree
  pub chain_stands : (us : List WordUse) (p : ℕ) → IsEvalWordRun us p (words_in e)
      → IsEvalWordRun us p (words_of_operands os)
  chain_stands us p s = subst (IsEvalWordRun us p) is.words s

  -- a result for the members is a result for the tree
  pub chain_gives : (a : Option Amount) {A : Type 0} (seen : A → Amount) (r : Result A EvalFault)
      → GivesValueOrFault seen r (value (chain means os) a) → GivesValueOrFault seen r (value (expand means e) a)
  chain_gives a seen r h = subst (λ y. GivesValueOrFault seen r (value y a)) (sym is.expands) h

  -- the end of the words of the members is the end of those of the tree
  pub chain_ends : {A : Type 0} (r : Result A EvalFault) (p q : ℕ) → OnOk r (q ≡ p + length (words_of_operands os))
      → OnOk r (q ≡ p + length (words_in e))
  chain_ends r p q h = subst (λ ws. OnOk r (q ≡ p + length ws)) (sym is.words) h
