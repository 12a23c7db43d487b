use Rattle.std.proofs.Common.{◌≡◌, ◌++◌, OnOk, subst, sym}
use mir.Syntax.{w32}
use Rattle.std.proofs.lemmas.Int.{to_z-of_z}
use Rattle.digits_print.proofs.Layouts.{print_layout_large, print_layout_plain, print_layout_small, print_layout_tiny}
use Rattle.digits_print.proofs.layout.put_layout.Goals as goal

pub returns-then-power-lt-LEAST_PLAIN_POWER : goal.returns-then-power-lt-LEAST_PLAIN_POWER
returns-then-power-lt-LEAST_PLAIN_POWER c =
    let is = to_z-of_z w32 c.args.power c.ranges.power in
    let laid = print_layout_tiny c.args.digits c.args.numeral.now c.args.power
    (rw is at c.if-power-lt-LEAST_PLAIN_POWER.true) in
    subst (λ v. OnOk c.put_scientific.result (c.put_scientific.new.text.items ≡ c.args.text.now.items ++ v)) (sym laid)
    (rw is at c.put_scientific.ensures)

pub returns-then-power-lt0 : goal.returns-then-power-lt0
returns-then-power-lt0 c =
    let is = to_z-of_z w32 c.args.power c.ranges.power in
    let laid = print_layout_small c.args.digits c.args.numeral.now c.args.power c.unsigned_abs-size.result
    (rw is at c.unsigned_abs-size.ensures.value) (rw is at c.if-power-lt-LEAST_PLAIN_POWER.false)
    (rw is at c.if-power-lt0.true) in
    subst (λ v. OnOk c.put_below_one.result (c.put_below_one.new.text.items ≡ c.args.text.now.items ++ v))
    (sym laid) c.put_below_one.ensures

pub returns-then-size-digits : goal.returns-then-size-digits
returns-then-size-digits c =
    let is = to_z-of_z w32 c.args.power c.ranges.power in
    let laid = print_layout_plain c.args.digits c.args.numeral.now c.args.power c.unsigned_abs-size.result
    (rw is at c.unsigned_abs-size.ensures.value) (rw is at c.if-power-lt0.false) c.if-size-digits.true in
    subst (λ v. OnOk c.put_plain.result (c.put_plain.new.text.items ≡ c.args.text.now.items ++ v))
    (sym laid) c.put_plain.ensures

pub returns-else-size-digits : goal.returns-else-size-digits
returns-else-size-digits c =
    let is = to_z-of_z w32 c.args.power c.ranges.power in
    let laid = print_layout_large c.args.digits c.args.numeral.now c.args.power c.unsigned_abs-size.result
    (rw is at c.unsigned_abs-size.ensures.value) (rw is at c.if-power-lt0.false) c.if-size-digits.false in
    subst (λ v. OnOk c.put_scientific-else-size-digits.result
    (c.put_scientific-else-size-digits.new.text.items ≡ c.args.text.now.items ++ v)) (sym laid)
    (rw is at c.put_scientific-else-size-digits.ensures)
