use Rattle.std.proofs.Common.{◌≡◌, ◌++◌, drop}
use Rattle.std.specs.List.{filter, flat_map}
use Rattle.quantity.specs.Text.{is_power_on_side, unit_power_text}
use Rattle.quantity.proofs.text.put_part.Given as goal

-- the text so far and the remaining names are the text with all names
abbrev pub invariant-loop-power : goal.invariant-loop-power
invariant-loop-power l =
    l.text.items ++ flat_map unit_power_text (filter (is_power_on_side l.side) (drop l.power-index l.powers))
    ≡ l.initial.text.items ++ flat_map unit_power_text (filter (is_power_on_side l.side) l.powers)
