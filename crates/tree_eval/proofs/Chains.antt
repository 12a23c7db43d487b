-- The loop over the members of a chain.
use Rattle.std.proofs.Common.{◌≡◌, ◌<◌, ◌≤◌, ◌+◌, ◌*◌, ℕ, suc, List, [], ◌∷◌, ◌++◌, Option, Some, Ok, Err}
use Rattle.std.proofs.Common.{drop, length, refl, sym, ap, ◌∙◌, subst, arith, length-append}
use Rattle.std.specs.Prelude.{slice_get}
use Rattle.std.proofs.Math.ListN.{drop_of_length-le}
use Rattle.expr_tree.specs.declared.word_list.WordUse.{WordUse}
use Rattle.expr_tree.specs.Syntax.{Syntax}
use Rattle.expr_tree.specs.Words.{words_in}
use Rattle.quantity.specs.Amount.{Amount}
use Rattle.tree_eval.specs.declared.fault.EvalFault.{EvalFault}
use Rattle.tree_eval.specs.declared.step.Step.{Step}
use Rattle.tree_eval.specs.Answers.{GivesValueOrFault, amount_of_held_value}
use Rattle.tree_eval.specs.Environment.{IsEvalWordRun}
use Rattle.tree_eval.specs.Expansions.{EvalMeaning}
use Rattle.tree_eval.specs.Expansion.{expand}
use Rattle.tree_eval.specs.Operands.{chain, links, value_with_operand, words_of_operands}
use Rattle.units_io.specs.Outcomes.{◌>>=◌}
use Rattle.tree_eval.specs.Steps.{ValueOrFault, operand_step_value}
use Rattle.tree_eval.specs.Value.{chain_value, value}
use Rattle.tree_eval.proofs.StepBinds.{first_eval_step_fault}
use Rattle.tree_eval.proofs.Places.{left_eval_words_at_run, right_eval_words_at_run}
use Rattle.tree_eval.proofs.Weight.{weight, weight_links}
use Rattle.general_lemmas.proofs.Places.{drop_at}

-- two steps in turn are one step that makes both
eval_steps_in_two : (r : ValueOrFault) (f g : Amount → ValueOrFault) → (r >>= (λ w. f w >>= g)) ≡ (r >>= f >>= g)
eval_steps_in_two (Ok w) f g = refl
eval_steps_in_two (Err e) f g = refl

-- the members before member i have been taken, and those from member i on are left
pub record IsRunning (means : WordUse → EvalMeaning) (us : List WordUse) (place : ℕ) (all : List (Step × Syntax))
    (a : Option Amount) (i : ℕ) (held : Amount) (next : ℕ) : Type 0 where
  pub goes_on : value (chain means all) a ≡ chain_value held (links means (drop i all)) a
  pub places : next + length (words_of_operands (drop i all)) ≡ place + length (words_of_operands all)
  pub stand : IsEvalWordRun us next (words_of_operands (drop i all))
  pub lighter : weight_links (links means (drop i all)) < weight (chain means all)

-- the first member of a chain
module _ (all : List (Step × Syntax)) {o : Step × Syntax} (is : slice_get all 0 ≡ Some o) where
  split_first : all ≡ o ∷ drop 1 all
  split_first = drop_at all 0 o is

  words_first : words_of_operands all ≡ words_in o.1 ++ words_of_operands (drop 1 all)
  words_first = ap words_of_operands split_first

  -- the words of the first member are at the place of those of the chain
  pub first_stand : (us : List WordUse) (place : ℕ) → IsEvalWordRun us place (words_of_operands all)
      → IsEvalWordRun us place (words_in o.1)
  first_stand us place h =
      left_eval_words_at_run us place (words_in o.1) (words_of_operands (drop 1 all))
      (subst (IsEvalWordRun us place) words_first h)

  module _ (means : WordUse → EvalMeaning) where
    weight_first : weight (chain means all) ≡ suc (weight (expand means o.1) + weight_links (links means (drop 1 all)))
    weight_first = ap (λ y. weight (chain means y)) split_first

    -- the first member is lighter than the chain
    pub first_lighter : 8 * weight (expand means o.1) + 2 < 8 * weight (chain means all)
    first_lighter = omega (arith, weight_first)

  module _ (means : WordUse → EvalMeaning) (a : Option Amount) where
    abbrev behind : Amount → ValueOrFault
    behind v = chain_value v (links means (drop 1 all)) a

    value_after_first : value (chain means all) a ≡ (value (expand means o.1) a >>= behind)
    value_after_first = ap (λ y. value (chain means y) a) split_first

    -- the fault of the first member is that of the chain
    pub first_fault : (e : EvalFault)
        → GivesValueOrFault amount_of_held_value (Err e) (value (expand means o.1) a)
        → GivesValueOrFault amount_of_held_value (Err e) (value (chain means all) a)
    first_fault e h =
        first_eval_step_fault amount_of_held_value amount_of_held_value e (value (expand means o.1) a) behind
        (value (chain means all) a) value_after_first h

    -- the loop begins with the value of the first member
    pub begins : {us : List WordUse} {place next : ℕ} {held : Amount} → IsEvalWordRun us place (words_of_operands all)
        → value (expand means o.1) a ≡ Ok held → next ≡ place + length (words_in o.1)
        → IsRunning means us place all a 1 held next
    begins {us} {place} {next} {held} h v n =
        let w : length (words_of_operands all) ≡ length (words_in o.1) + length (words_of_operands (drop 1 all)) =
        ap length words_first ∙ length-append (words_in o.1) (words_of_operands (drop 1 all)) in
        record {
          goes_on = value_after_first ∙ ap (λ r. r >>= behind) v;
          places = omega (arith, n, w);
          stand = subst (λ k. IsEvalWordRun us k (words_of_operands (drop 1 all))) (sym n)
              (right_eval_words_at_run us place (words_in o.1) (words_of_operands (drop 1 all))
              (subst (IsEvalWordRun us place) words_first h));
          lighter = omega (arith, weight_first means);
        }

module _ {means : WordUse → EvalMeaning} {us : List WordUse} {place : ℕ} {all : List (Step × Syntax)}
    {a : Option Amount}
    {i : ℕ} {held : Amount} {next : ℕ} (running : IsRunning means us place all a i held next) where
  -- a further member
  module _ {o : Step × Syntax} (is : slice_get all i ≡ Some o) where
    split : drop i all ≡ o ∷ drop (i + 1) all
    split = drop_at all i o is

    words_here : words_of_operands (drop i all) ≡ words_in o.1 ++ words_of_operands (drop (i + 1) all)
    words_here = ap words_of_operands split

    weight_here : weight_links (links means (drop i all))
        ≡ weight (expand means o.1) + weight_links (links means (drop (i + 1) all))
    weight_here = ap (λ y. weight_links (links means y)) split

    -- the words of the member are at the place
    pub member_stand : IsEvalWordRun us next (words_in o.1)
    member_stand = left_eval_words_at_run us next (words_in o.1) (words_of_operands (drop (i + 1) all))
        (subst (IsEvalWordRun us next) words_here running.stand)

    -- the member is lighter than the chain
    pub member_lighter : 8 * weight (expand means o.1) + 4 < 8 * weight (chain means all)
    member_lighter = omega (arith, weight_here, running.lighter)

    abbrev others : Amount → ValueOrFault
    others n = chain_value n (links means (drop (i + 1) all)) a

    abbrev here : ValueOrFault
    here = value_with_operand o.0 held (value (expand means o.1) a)

    value_from_here : value (chain means all) a ≡ (here >>= others)
    value_from_here = running.goes_on ∙ ap (λ y. chain_value held (links means y) a) split
        ∙ eval_steps_in_two (value (expand means o.1) a) (operand_step_value o.0 held) others

    -- the fault of the member is that of the chain
    pub member_fault : (e : EvalFault) → GivesValueOrFault amount_of_held_value (Err e) here
        → GivesValueOrFault amount_of_held_value (Err e) (value (chain means all) a)
    member_fault e h = first_eval_step_fault amount_of_held_value amount_of_held_value e here others
        (value (chain means all) a) value_from_here h

    -- the loop continues with the result of the step
    pub run_goes_on : {x : Amount} {after : ℕ} → here ≡ Ok x → after ≡ next + length (words_in o.1)
        → IsRunning means us place all a (i + 1) x after
    run_goes_on {x} {after} j n =
        let m : length (words_of_operands (drop i all)) ≡ length (words_in o.1) + length
        (words_of_operands (drop (i + 1) all)) =
        ap length words_here ∙ length-append (words_in o.1) (words_of_operands (drop (i + 1) all)) in
        record {
          goes_on = value_from_here ∙ ap (λ r. r >>= others) j;
          places = omega (arith, n, m, running.places);
          stand = subst (λ k. IsEvalWordRun us k (words_of_operands (drop (i + 1) all))) (sym n)
              (right_eval_words_at_run us next (words_in o.1) (words_of_operands (drop (i + 1) all))
              (subst (IsEvalWordRun us next) words_here running.stand));
          lighter = omega (arith, weight_here, running.lighter);
        }

  -- the state after the last member
  module _ (last : length all ≤ i) where
    none_left : drop i all ≡ []
    none_left = drop_of_length-le all last

    -- the held quantity is the value of the chain
    pub value_at_end : value (chain means all) a ≡ Ok held
    value_at_end = running.goes_on ∙ ap (λ y. chain_value held (links means y) a) none_left

    -- the place is past the words of the chain
    pub end_place : next ≡ place + length (words_of_operands all)
    end_place =
        let z : length (words_of_operands (drop i all)) ≡ 0 = ap (λ y. length (words_of_operands y)) none_left in
        omega (arith, running.places, z)
