use Rattle.std.proofs.Common.{◌≡◌, ◌≤◌, ◌++◌, ◌+ℤ◌, ◌-ℤ◌, ◌<ℤ◌, ◌≤ℤ◌, ◌-◌, OnOk, length, pos, negsuc, arith, subst, sym}
use Rattle.std.proofs.Common.{◌∙◌, to_z, of_z}
use mir.Syntax.{w32}
use Rattle.std.proofs.lemmas.Int.{ints}
use Rattle.frac128.specs.Decimals.{NumeralDecimal}
use Rattle.digits_print.specs.Layout.{decimal_text, print_layout}
use Rattle.digits_print.specs.Nearest.{HasDigits}
use Rattle.digits_print.proofs.Layouts.{enough_digits}
use Rattle.digits_print.proofs.layout.put_decimal.Goals as goal

pub put_layout-requires-clause-enough : goal.put_layout-requires-clause-enough
put_layout-requires-clause-enough c =
    let fits : HasDigits c.args.digits c.x.inside.coefficient =
    subst (λ (d : NumeralDecimal). HasDigits c.args.digits d.coefficient) (sym c.x.view_is) c.requires.fits in
    subst (λ v. c.args.digits ≤ length v) (sym (c.as_bytes.ensures.value ∙ c.in_ok-numeral.ensures.ok))
    (enough_digits _ _ c.requires.some c.requires.most fits)

pub returns : goal.returns
returns c =
    let n = c.args.digits in
    let scale = c.x.inside.scale in
    let low : negsuc 99 <ℤ scale = subst (λ (d : NumeralDecimal). negsuc 99 <ℤ d.scale) (sym c.x.view_is) c.requires.low
    in
    let high : scale ≤ℤ pos 100 = subst (λ (d : NumeralDecimal). d.scale ≤ℤ pos 100) (sym c.x.view_is) c.requires.high
    in
    let numeral = c.as_bytes.ensures.value ∙ c.in_ok-numeral.ensures.ok in
    let power : to_z w32 (of_z w32 (to_z w32 (of_z w32 scale) +ℤ to_z w32 (of_z w32 (to_z w32 n -ℤ pos 1))))
    ≡ scale +ℤ pos (n - 1) = omega (arith, ints) in
    subst (λ (d : NumeralDecimal). OnOk c.put_layout.result
    (c.put_layout.new.text.items ≡ c.args.text.now.items ++ decimal_text n d)) c.x.view_is
    (subst (λ v. OnOk c.put_layout.result
    (c.put_layout.new.text.items ≡ c.args.text.now.items ++ print_layout n v (scale +ℤ pos (n - 1)))) numeral
    (subst (λ v. OnOk c.put_layout.result
    (c.put_layout.new.text.items ≡ c.args.text.now.items ++ print_layout n c.as_bytes.result.now v)) power
    c.put_layout.ensures))
