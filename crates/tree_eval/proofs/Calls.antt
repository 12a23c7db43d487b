-- Calls of functions.
use Rattle.std.proofs.Common.{◌≡◌, ◌≢◌, ℕ, Bool, None, Option, Ok, Err, refl, sym, ◌∙◌, ap}
use Rattle.quantity.specs.Amount.{Amount}
use Rattle.tree_eval.specs.declared.meaning.Meaning.{Meaning as ReportedMeaning}
use Rattle.tree_eval.specs.declared.meaning.Meaning.TheVariants as reports
use Rattle.tree_eval.specs.declared.outcome.Outcome.TheVariants as outcome
use Rattle.tree_eval.specs.Environment.{IsReportedEvalMeaning}
use Rattle.tree_eval.specs.Expansions.{Callable, EvalMeaning}
use Rattle.tree_eval.specs.Expansion.{eval_meaning_expansion}
use Rattle.tree_eval.specs.Outcomes.{outcome_of_value, value_in_outcome}
use Rattle.tree_eval.specs.Steps.{ValueOrFault}
use Rattle.tree_eval.specs.WordValues.{IsUsableEvalMeaning, reported_word_value}
use Rattle.tree_eval.specs.Value.{value}

-- a stored value or fault is read back unchanged
pub stored_value_is_read_back : (w : ValueOrFault) → value_in_outcome (outcome_of_value w) ≡ w
stored_value_is_read_back (Ok q) = refl
stored_value_is_read_back (Err f) = refl

-- a stored value or fault is not `Callable`
pub stored_value_is_not_callable : (w : ValueOrFault) → outcome_of_value w ≢ outcome.Callable
stored_value_is_not_callable (Ok q) e = cc
stored_value_is_not_callable (Err f) e = cc

-- the reported meaning of a word is usable
pub reported_eval_meaning_is_usable : (has : ℕ → Bool) (callee : ℕ → Callable) (m : EvalMeaning) (t : ReportedMeaning)
    → IsReportedEvalMeaning has callee m t
    → IsUsableEvalMeaning has t
reported_eval_meaning_is_usable has callee m (reports.One o) h = λ e. stored_value_is_not_callable (value h.0 None)
    (sym h.2 ∙ e)
reported_eval_meaning_is_usable has callee m (reports.Two p u) h = (
  λ e. stored_value_is_not_callable (value h.0 None) (sym h.3 ∙ e),
  λ e. stored_value_is_not_callable
      (value h.1 None) (sym h.4 ∙ e),
)
reported_eval_meaning_is_usable has callee m (reports.Function id) h = h.0

-- the value of a single word by its reported meaning
pub reported_plain_word_value : (has : ℕ → Bool) (callee : ℕ → Callable) (m : EvalMeaning) (t : ReportedMeaning)
    (a : Option Amount)
    → IsReportedEvalMeaning has callee m t
    → value (eval_meaning_expansion m) a ≡ reported_word_value callee t
reported_plain_word_value has callee m (reports.One o) a h =
    let w : value_in_outcome o.now ≡ value h.0 None = ap value_in_outcome h.2
    ∙ stored_value_is_read_back (value h.0 None) in
    ap (λ x. value (eval_meaning_expansion x) a) h.1 ∙ sym w
reported_plain_word_value has callee m (reports.Two p u) a h =
    let v : value_in_outcome p.now ≡ value h.0 None = ap value_in_outcome h.3
    ∙ stored_value_is_read_back (value h.0 None) in
    let w : value_in_outcome u.now ≡ value h.1 None = ap value_in_outcome h.4
    ∙ stored_value_is_read_back (value h.1 None) in
    rw (h.2, v, w) refl
reported_plain_word_value has callee m (reports.Function id) a h = ap (λ x. value (eval_meaning_expansion x) a) h.1
