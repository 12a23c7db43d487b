-- Steps that may have a fault, by the results of calls.
use Rattle.std.proofs.Common.{◌≡◌, Result, Ok, Err, ◌∙◌, ap, subst, sym}
use Rattle.std.specs.Prelude.{OnOk}
use Rattle.tree_eval.specs.declared.fault.EvalFault.{EvalFault}
use Rattle.tree_eval.specs.declared.fault.EvalFault.TheVariants.{Value, OutOfMemory}
use Rattle.tree_eval.specs.declared.fault.ValueFault.{ValueFault}
use Rattle.tree_eval.specs.Answers.{GivesValueOrFault}
use Rattle.units_io.specs.Outcomes.{◌>>=◌}

-- the two kinds of results of an evaluation
module _ {A B : Type 0} (view : A → B) {r : Result A EvalFault} (expected : Result B ValueFault)
    (h : GivesValueOrFault view r expected) where
  -- the value of a success is the expected one
  pub success_value : {x : A} → r ≡ Ok x → expected ≡ Ok (view x)
  success_value is = subst (λ z. GivesValueOrFault view z expected) is h

  -- the fault of a failure is the expected one
  pub failure_fault : {e : EvalFault} → r ≡ Err e → GivesValueOrFault view (Err e) expected
  failure_fault is = subst (λ z. GivesValueOrFault view z expected) is h

-- what holds after a success
pub after_success : {A E : Type 0} {r : Result A E} (P : Type 0) → OnOk r P → {x : A} → r ≡ Ok x → P
after_success P h is = subst (λ z. OnOk z P) is h

-- the fault of the first step is that of the whole
pub first_eval_step_fault : {A B C D : Type 0} (view : A → B) (seen : D → C) (e : EvalFault) (r : Result B ValueFault)
    (k : B → Result C ValueFault) (w : Result C ValueFault)
    → w ≡ (r >>= k) → GivesValueOrFault view (Err e) r → GivesValueOrFault seen (Err e) w
first_eval_step_fault view seen (Value f) r k w p h = p ∙ ap (λ x. x >>= k) h
first_eval_step_fault view seen OutOfMemory r k w p h = tt

-- if an evaluation has a value, a result for a step with it is a result for both
pub evaluated_value : {A B C : Type 0} (view : A → B) (r : Result A EvalFault) (expected : Result B ValueFault)
    (k : B → Result C ValueFault) → GivesValueOrFault view r expected → {x : A} → r ≡ Ok x
    → {D : Type 0} (seen : D → C) (y : Result D EvalFault)
    → GivesValueOrFault seen y (k (view x)) → GivesValueOrFault seen y (expected >>= k)
evaluated_value view r expected k h {x} is seen y =
    subst (λ z. GivesValueOrFault seen y (z >>= k)) (sym (success_value view expected h is))

-- what holds after an evaluation with a value holds after the step that follows it
pub after_evaluated : {A B E F : Type 0} (y : Result A E) (r : Result B F) (P : Type 0) {x : B} → r ≡ Ok x → OnOk r P
    → OnOk y P
after_evaluated (Ok y) r P is h = after_success P h is
after_evaluated (Err f) r P is h = tt
