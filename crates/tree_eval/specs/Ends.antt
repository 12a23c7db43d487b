-- The two ends of a function.
use Rattle.std.specs.Prelude.{◌≡◌, ℕ, List, Option, Result}
use Rattle.def_entry.specs.declared.entry.Span.{Span}
use Rattle.expr_tree.specs.declared.tree.Tree.{Tree}
use Rattle.quantity.specs.Amount.{Amount}
use Rattle.tree_eval.specs.declared.end.End.{End}
use Rattle.tree_eval.specs.declared.holder.Part.{Part}
use Rattle.tree_eval.specs.declared.refusal.Refusal.{Refusal}
use Rattle.tree_eval.specs.declared.fault.ValueFault.{ValueFault}
use Rattle.tree_eval.specs.Refusals.{eval_refusal_fault}
use Rattle.tree_eval.specs.Steps.{ValueOrFault}
use Rattle.tree_eval.specs.Tests.{value_tested_by_unit_and_span}

-- an end with this part, which holds its unit, this unit, this span, and these refusals
abbrev pub IsEvalEnd : End → Part → Option Tree → Option Span → Refusal → Refusal → Type 0
IsEvalEnd end part unit span wrong outside =
    (end.part ≡ part) × (end.unit.now ≡ unit) × (end.span.now ≡ span) × (end.wrong ≡ wrong) × (end.outside ≡ outside)

-- the test of a quantity at this end of the function with this name, by the value of the unit
abbrev pub value_tested_at_end : List ℕ → Result (Option Amount) ValueFault → End → Amount → ValueOrFault
value_tested_at_end name unit end = value_tested_by_unit_and_span (eval_refusal_fault end.wrong name)
    (eval_refusal_fault end.outside name) unit end.span.now
