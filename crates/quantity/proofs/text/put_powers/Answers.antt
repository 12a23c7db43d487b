use Rattle.std.proofs.Common.{◌++◌, ◌∙◌, ap, sym, codes, filter, flat_map}
use Rattle.quantity.specs.Text.{is_power_after_slash, unit_power_text}
use Rattle.quantity.proofs.Slashes.{powers_text_with_slash, powers_text_without_slash}
use Rattle.quantity.proofs.text.put_powers.Goals as goal

pub returns-in_ok-put_part-2 : goal.returns-in_ok-put_part-2
returns-in_ok-put_part-2 c =
    let below = flat_map unit_power_text (filter is_power_after_slash c.args.powers.now) in
    let slash =
    c.in_ok-extend_from_slice.ensures.items ∙ ap (λ t. c.put_part.new.text.items ++ t) c.as_slice.ensures
    ∙ ap (λ t. t ++ codes " /") c.in_ok-put_part.ensures in
    c.in_ok-put_part-2.ensures ∙ ap (λ t. t ++ below) slash
    ∙ powers_text_with_slash c.args.text.now.items c.args.powers.now (sym c.if-has_part.ensures)

pub returns-else-has_part : goal.returns-else-has_part
returns-else-has_part c = c.in_ok-put_part.ensures
    ∙ powers_text_without_slash c.args.text.now.items c.args.powers.now (sym c.if-has_part.ensures)
