use Rattle.std.proofs.Common.{◌≡◌, ◌%◌, ◌⊎◌, inl, inr, sym, ◌∙◌, arith}
use Rattle.std.proofs.Math.Nat.{mul_comm}
use Rattle.frac128.proofs.Quotients.{fraction_order_quotients_decide, fraction_order_quotients_equal}
use Rattle.frac128.proofs.Quotients.{fraction_order_remainders_decide}
use Rattle.frac128.proofs.order.compare_by_quotients.Goals.{then-left_rest-eq0-via-then-left_rest-eq0}
use Rattle.frac128.proofs.order.compare_by_quotients.Goals.{then-left_rest-eq0-via-else-left_rest-eq0+then-right_rest-eq0}
use Rattle.frac128.proofs.order.compare_by_quotients.Goals as goal

pub returns-then-left-right : goal.returns-then-left-right
returns-then-left-right c =
    let is = c.loop-left.invariant in
    c.cmp.ensures ∙ fraction_order_quotients_decide _ _ _ _ is.some_b is.some_d c.if-left-right.true ∙ is.alike

pub returns-then-left_rest-eq0 : goal.returns-then-left_rest-eq0
returns-then-left_rest-eq0 c =
    let is = c.loop-left.invariant in
    let none : (c.loop-left.a % c.loop-left.b ≡ 0) ⊎ (c.loop-left.c % c.loop-left.d ≡ 0) =
    elim c.then-left_rest-eq0.branch [
      | then-left_rest-eq0-via-then-left_rest-eq0 w ↦ inl w.if-left_rest-eq0.true
      | then-left_rest-eq0-via-else-left_rest-eq0+then-right_rest-eq0 w ↦ inr w.if-right_rest-eq0.true
    ] in
    c.cmp-then-left_rest-eq0.ensures ∙ fraction_order_remainders_decide _ _ _ _ is.some_b is.some_d none
    ∙ sym (fraction_order_quotients_equal _ _ _ _ is.some_b is.some_d c.if-left-right.false) ∙ is.alike

pub loop-left-preserved : goal.loop-left-preserved
loop-left-preserved c =
    let is = c.loop-left.invariant in
    record {
      some_b = omega arith;
      some_d = omega arith;
      alike = rw (
        mul_comm c.loop-left.d (c.loop-left.a % c.loop-left.b),
        mul_comm c.loop-left.b (c.loop-left.c % c.loop-left.d),
      )
          (sym (fraction_order_quotients_equal _ _ _ _ is.some_b is.some_d c.if-left-right.false) ∙ is.alike);
    }
