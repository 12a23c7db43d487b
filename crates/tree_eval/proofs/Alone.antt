-- A single word, by its place among the words.
use Rattle.std.proofs.Common.{◌≡◌, ◌<◌, ◌∷◌, ℕ, zero, suc, List, [], Option, Some, Result, length, refl, sym}
use Rattle.std.proofs.Common.{arith, subst}
use Rattle.std.specs.Prelude.{slice_get}
use Rattle.expr_tree.specs.declared.word_list.WordUse.{WordUse}
use Rattle.expr_tree.specs.Syntax as tree
use Rattle.expr_tree.specs.Syntax.{Syntax}
use Rattle.expr_tree.specs.Words.{words_in}
use Rattle.quantity.specs.Amount.{Amount}
use Rattle.tree_eval.specs.declared.fault.EvalFault.{EvalFault}
use Rattle.tree_eval.specs.declared.step.Step.{Step}
use Rattle.tree_eval.specs.Answers.{GivesValueOrFault}
use Rattle.tree_eval.specs.Environment.{IsEvalWordRun}
use Rattle.tree_eval.specs.Expansions.{EvalMeaning}
use Rattle.tree_eval.specs.Expansion.{eval_meaning_expansion, expand, plain_eval_word}
use Rattle.tree_eval.specs.Operands.{value_with_operand}
use Rattle.tree_eval.specs.Value.{value}
use Rattle.tree_eval.proofs.Places.{first_eval_word_at_run, first_eval_word_within}

-- a tree that is a word, and the word is at a place
module _ (us : List WordUse) (p : ℕ) {e : Syntax} {w : List ℕ} (is : e ≡ tree.Word w)
    (stand : IsEvalWordRun us p (words_in e))
  where
    -- the word is at the place
    word_stands : IsEvalWordRun us p (plain_eval_word w ∷ [])
    word_stands = subst (λ y. IsEvalWordRun us p (words_in y)) is stand

    -- the place is within the words
    pub alone_within : p < length us
    alone_within = first_eval_word_within us p (plain_eval_word w) [] word_stands

    -- a result for the word at the place is a result for the tree
    pub alone_gives : (means : WordUse → EvalMeaning) (a : Option Amount) {A : Type 0} (seen : A → Amount)
        (r : Result A EvalFault)
        → ((u : WordUse) → slice_get us p ≡ Some u
        → GivesValueOrFault seen r (value (eval_meaning_expansion (means u)) a))
        → GivesValueOrFault seen r (value (expand means e) a)
    alone_gives means a seen r h =
        subst (λ y. GivesValueOrFault seen r (value (expand means y) a)) (sym is)
        (h (plain_eval_word w) (first_eval_word_at_run us p (plain_eval_word w) [] word_stands))

    -- a step with the word at the place as one more member is a step with the tree
    pub member_gives : (means : WordUse → EvalMeaning) (a : Option Amount) (step : Step) (held : Amount) {A : Type 0}
        (seen : A → Amount) (r : Result A EvalFault)
        → ((u : WordUse) → slice_get us p ≡ Some u
        → GivesValueOrFault seen r (value_with_operand step held (value (eval_meaning_expansion (means u)) a)))
        → GivesValueOrFault seen r (value_with_operand step held (value (expand means e) a))
    member_gives means a step held seen r h =
        subst (λ y. GivesValueOrFault seen r (value_with_operand step held (value (expand means y) a))) (sym is)
        (h (plain_eval_word w) (first_eval_word_at_run us p (plain_eval_word w) [] word_stands))

-- each place within the words holds a word
pub eval_word_at_place : (us : List WordUse) (p : ℕ) → p < length us → (u : WordUse) × (slice_get us p ≡ Some u)
eval_word_at_place [] p h = let z : ⊥ = omega (arith, h) in absurd z
eval_word_at_place (u ∷ us) zero h = (u, refl)
eval_word_at_place (u ∷ us) (suc p) h = eval_word_at_place us p (omega (arith, h))
