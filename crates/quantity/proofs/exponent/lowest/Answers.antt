use Rattle.std.proofs.Common.{ap, sym, ◌∙◌, SFits}
use mir.Syntax.{w32}
use Rattle.std.proofs.lemmas.Int.{to_z-of_z}
use Rattle.frac128.specs.Steps.{lowest_terms}
use Rattle.quantity.specs.Merges.{as_exponent}
use Rattle.quantity.proofs.Fractions.{whole_is}
use Rattle.quantity.proofs.exponent.lowest.Goals as goal

pub returns-then-den-eq1 : goal.returns-then-den-eq1
returns-then-den-eq1 c =
    let fits : SFits w32 c.args.num = c.ranges.num in
    (simp to_z-of_z at c.whole.ensures)
    ∙ ap as_exponent (sym (whole_is c.reduced_law.ensures c.args.num))
    ∙ ap (λ d. as_exponent (lowest_terms c.args.num d)) (sym c.if-den-eq1.true)
