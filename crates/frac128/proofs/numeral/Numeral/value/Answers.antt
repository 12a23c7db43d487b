use Rattle.std.proofs.Common.{Ok, sym, ap, ◌∙◌}
use Rattle.frac128.specs.Decimals.{whole_times_ten_power}
use Rattle.frac128.proofs.TenPowers.{zero_times_ten_power}
use Rattle.frac128.proofs.numeral.Numeral.value.Goals as goal

pub returns-then-coefficient-eq0 : goal.returns-then-coefficient-eq0
returns-then-coefficient-eq0 c =
    let none = sym c.coefficient-coefficient.ensures.is ∙ c.if-coefficient-eq0.true in
    ap Ok c.whole.ensures
    ∙ sym (ap (λ n. whole_times_ten_power n c.args.self.now.scale) none
    ∙ zero_times_ten_power c.args.self.now.scale)
