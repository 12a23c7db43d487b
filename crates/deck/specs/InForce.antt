-- Variables of which one may be changed.
use Rattle.std.specs.Prelude.{Option, Some, None}
use Rattle.units_io.specs.NamedValues.{NamedTexts, with_named_text}
use Rattle.deck.specs.declared.force.in_force.NewValue.{NewValue}

-- variables with the value of a change, if there is one
abbrev pub changed_setting_variables : Option NewValue → NamedTexts → NamedTexts
changed_setting_variables None vars = vars
changed_setting_variables (Some change) vars = with_named_text vars change.name.now change.value.now
