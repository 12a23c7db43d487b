use Rattle.std.proofs.Common.{SFits, arith, ◌∙◌}
use mir.Syntax.{w32}
use Rattle.std.proofs.lemmas.Int.{to_z-of_z}
use Rattle.std.proofs.lemmas.Nat.Gcd.{IsGcd-swap}
use Rattle.frac128.proofs.Powers.{IsMade, fraction_power_at, fraction_power_below}
use Rattle.frac128.proofs.fraction.Frac.pow.Goals as goal

pub raise_parts-requires-clause-lowest : goal.raise_parts-requires-clause-lowest
raise_parts-requires-clause-lowest c = rw c.bottom-bottom.ensures.is c.top-top.ensures.lowest

pub raise_parts-requires-else-top-eq0-clause-lowest : goal.raise_parts-requires-else-top-eq0-clause-lowest
raise_parts-requires-else-top-eq0-clause-lowest c =
    IsGcd-swap _ _ _ (rw c.bottom-bottom.ensures.is c.top-top.ensures.lowest)

pub returns-then-k-ge0 : goal.returns-then-k-ge0
returns-then-k-ge0 c =
    let fits : SFits w32 c.args.k = c.ranges.k in
    let made : IsMade c.args.self.now c.is_negative.result c.top-top.result c.bottom-bottom.result = record {
      s_is = c.is_negative.ensures;
      a_is = c.top-top.ensures.is;
      b_is = c.bottom-bottom.ensures.is;
      some = c.bottom-bottom.ensures.some;
      lowest = c.top-top.ensures.lowest;
    } in
    c.raise_parts.ensures
    ∙ fraction_power_at _ _ _ _ _ _ made (simp to_z-of_z at c.unsigned_abs-times.ensures.value)
    (simp to_z-of_z at c.if-k-ge0.true)

pub returns-else-top-eq0 : goal.returns-else-top-eq0
returns-else-top-eq0 c =
    let fits : SFits w32 c.args.k = c.ranges.k in
    let made : IsMade c.args.self.now c.is_negative-else-top-eq0.result c.top-top.result c.bottom-bottom.result =
    record {
      s_is = c.is_negative-else-top-eq0.ensures;
      a_is = c.top-top.ensures.is;
      b_is = c.bottom-bottom.ensures.is;
      some = c.bottom-bottom.ensures.some;
      lowest = c.top-top.ensures.lowest;
    } in
    c.raise_parts-else-top-eq0.ensures
    ∙ fraction_power_below _ _ _ _ _ _ made (simp to_z-of_z at c.unsigned_abs-times.ensures.value)
    (simp to_z-of_z at c.if-k-ge0.false) (omega arith)
