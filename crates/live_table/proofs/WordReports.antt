-- The reports on words of an environment.
use Rattle.std.proofs.Common.{◌≡◌, ℕ, Bool, Some, None, refl, sym, ◌∙◌, ap}
use Rattle.std.specs.Prelude.{if◌then◌else◌}
use Rattle.tree_eval.specs.declared.meaning.Meaning.{Meaning as ReportedMeaning}
use Rattle.tree_eval.specs.declared.meaning.Meaning.TheVariants as reports
use Rattle.tree_eval.specs.Environment.{IsReportedEvalMeaning, OfFunction, eval_meaning_report, given_eval_report}
use Rattle.tree_eval.specs.Expansions.{Callable, EvalMeaning}

-- a reported meaning gives the report on the word
pub node_meaning_gives_report : (has : ℕ → Bool) (callee : ℕ → Callable) (m : EvalMeaning) (t : ReportedMeaning)
    → IsReportedEvalMeaning has callee m t → given_eval_report has callee t ≡ Some (eval_meaning_report m)
node_meaning_gives_report has callee m (reports.One o) h = rw (h.1, h.2) refl
node_meaning_gives_report has callee m (reports.Two p u) h = rw (h.2, h.3, h.4) refl
node_meaning_gives_report has callee m (reports.Function id) h =
    ap (λ b. if b then Some (OfFunction (callee id)) else None) h.0 ∙ ap (λ f. Some (eval_meaning_report f)) (sym h.1)
