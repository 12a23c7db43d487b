use Rattle.std.proofs.Common.{◌/◌, ◌∙◌}
use Rattle.digits_print.proofs.Halves.{rounding_half_by_parts}
use Rattle.digits_print.proofs.ratio_rounding.compared_with_half.Goals as goal

pub returns : goal.returns
returns c = c.then.ensures
    ∙ rounding_half_by_parts c.args.whole c.args.part c.args.bottom (c.args.unit / 2) c.args.unit _ _ c.requires.even
    c.requires.part
    c.cmp.ensures c.cmp-2.ensures
