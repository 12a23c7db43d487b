-- Reports of an environment, and the meanings that they tell.
use Rattle.std.proofs.Common.{◌≡◌, ℕ, Bool, true, false, Some, None, refl, ap}
use Rattle.std.specs.Prelude.{if◌then◌else◌}
use Rattle.tree_eval.specs.declared.meaning.Meaning.{Meaning as ReportedMeaning}
use Rattle.tree_eval.specs.declared.meaning.Meaning.TheVariants as reports
use Rattle.tree_eval.specs.Environment.{EvalReport, IsReportedEvalMeaning, OfFunction, OfName, OfPrefixed}
use Rattle.tree_eval.specs.Environment.{given_eval_report, eval_meaning_report}
use Rattle.tree_eval.specs.Expansions.{Callable, Callee, EvalMeaning, One, Two}
use Rattle.tree_eval.specs.Outcomes.{outcome_of_eval_meaning}

-- a report of a function by number is given only if the number is that of a function
eval_report_by_number : (b : Bool) (f : Callable) (r : EvalReport) → (if b then Some (OfFunction f) else None) ≡ Some r
    → (b ≡ true) × (r ≡ OfFunction f)
eval_report_by_number true f r e = let p : r ≡ OfFunction f = cc in (refl, p)
eval_report_by_number false f r e = cc

-- the report on a word tells its meaning
pub eval_meaning_by_report : (has : ℕ → Bool) (callee : ℕ → Callable) (m : EvalMeaning) (t : ReportedMeaning)
    → given_eval_report has callee t ≡ Some (eval_meaning_report m) → IsReportedEvalMeaning has callee m t
eval_meaning_by_report has callee (One x) (reports.One o) e =
    let same : o.now ≡ outcome_of_eval_meaning (One x) = cc in
    (x, refl, same)
eval_meaning_by_report has callee (Two x y) (reports.One o) e = cc
eval_meaning_by_report has callee (Callee f) (reports.One o) e = cc
eval_meaning_by_report has callee (One x) (reports.Two p u) e = cc
eval_meaning_by_report has callee (Two x y) (reports.Two p u) e =
    let first : p.now ≡ outcome_of_eval_meaning (One x) = cc in
    let second : u.now ≡ outcome_of_eval_meaning (One y) = cc in
    (x, y, refl, first, second)
eval_meaning_by_report has callee (Callee f) (reports.Two p u) e = cc
eval_meaning_by_report has callee (One x) (reports.Function id) e =
    let q : OfName (outcome_of_eval_meaning (One x)) ≡ OfFunction (callee id) =
    (eval_report_by_number (has id) (callee id) _ e).1 in
    cc
eval_meaning_by_report has callee (Two x y) (reports.Function id) e =
    let q : OfPrefixed (outcome_of_eval_meaning (One x)) (outcome_of_eval_meaning (One y)) ≡ OfFunction (callee id) =
    (eval_report_by_number (has id) (callee id) _ e).1 in
    cc
eval_meaning_by_report has callee (Callee f) (reports.Function id) e =
    let q : OfFunction f ≡ OfFunction (callee id) = (eval_report_by_number (has id) (callee id) _ e).1 in
    let same : f ≡ callee id = cc in
    ((eval_report_by_number (has id) (callee id) _ e).0, ap Callee same)

-- a number that is reported is that of a function
pub eval_function_reported : (has : ℕ → Bool) (callee : ℕ → Callable) (m : EvalMeaning) (id : ℕ)
    → given_eval_report has callee (reports.Function id) ≡ Some (eval_meaning_report m) → has id ≡ true
eval_function_reported has callee m id e = (eval_report_by_number (has id) (callee id) (eval_meaning_report m) e).0
