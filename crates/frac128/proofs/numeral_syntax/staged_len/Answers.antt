use Rattle.std.proofs.Common.{◌≡◌, ◌+◌, if◌then◌else◌, sym, ◌∙◌}
use Rattle.frac128.specs.Stages.{numeral_may_end}
use Rattle.frac128.proofs.DigitFronts.{digit_extends_ended_numeral}
use Rattle.frac128.proofs.StageRuns.{numeral_read_end, numeral_read_more, numeral_read_start}
use Rattle.frac128.proofs.numeral_syntax.staged_len.Goals.{then-may_end-2, else-may_end-2}
use Rattle.frac128.proofs.numeral_syntax.staged_len.Goals as goal

pub loop-i-init : goal.loop-i-init
loop-i-init c = numeral_read_start _

pub returns-in-None : goal.returns-in-None
returns-in-None c = numeral_read_end _ _ _ _ _ c.loop-i.invariant c.loop-i-test.true c.of.ensures c.in-None.ensures

pub loop-i-preserved : goal.loop-i-preserved
loop-i-preserved c =
    let len_is : c.if-may_end-2.len ≡ (if numeral_may_end c.in-Some.next then c.loop-i.i + 1 else c.loop-i.len) =
    elim c.if-may_end-2.branch [
      | then-may_end-2 w ↦ rw (sym c.may_end-in-loop-i.ensures ∙ w.if-may_end-2.true) w.len-is
      | else-may_end-2 w ↦ rw (sym c.may_end-in-loop-i.ensures ∙ w.if-may_end-2.false) w.len-is
    ] in
    numeral_read_more _ _ _ _ _ _ _ c.loop-i.invariant c.loop-i-test.true c.of.ensures c.in-Some.ensures len_is

pub loop-i-preserved-then-may_end : goal.loop-i-preserved-then-may_end
loop-i-preserved-then-may_end c =
    digit_extends_ended_numeral _ _ _ _ c.loop-i.invariant c.loop-i-test.true (sym c.if-is_ascii_digit.ensures.value)
    (sym c.may_end.ensures ∙ c.if-may_end.true)
