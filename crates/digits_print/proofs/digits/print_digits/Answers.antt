use Rattle.std.proofs.lemmas.Result.{IfOk-weaker}
use Rattle.digits_print.proofs.NearestTexts.{nearest_decimal_text}
use Rattle.digits_print.proofs.digits.print_digits.Goals as goal

pub returns-clause-nearest : goal.returns-clause-nearest
returns-clause-nearest c =
    IfOk-weaker _ _ _
    (λ text is. nearest_decimal_text c.nearest_law.ensures c.args.x.now c.args.digits text c.den.ensures.kept
    c.requires.some is) c.rounded_text.ensures
