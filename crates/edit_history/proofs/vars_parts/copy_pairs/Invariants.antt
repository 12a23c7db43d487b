use Rattle.std.proofs.Common.{◌≡◌}
use Rattle.edit_history.specs.VarsParts.{history_pairs_between, history_with_pairs}
use Rattle.edit_history.proofs.vars_parts.copy_pairs.Given as goal

abbrev pub invariant-loop-i : goal.invariant-loop-i
invariant-loop-i l =
    history_with_pairs l.copies (history_pairs_between l.i l.end l.vars) ≡ history_with_pairs l.fn.copies
    (history_pairs_between l.first l.end l.vars)
