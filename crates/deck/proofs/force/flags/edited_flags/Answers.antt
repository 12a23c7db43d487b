use Rattle.std.proofs.Common.{◌≡◌, subst}
use Rattle.std.specs.Prelude.{IfOk}
use Rattle.deck.specs.Active.{active_lines}
use Rattle.deck.specs.declared.settings.Settings.{Settings}
use Rattle.deck.proofs.force.flags.edited_flags.Goals as goal

pub returns : goal.returns
returns c =
    subst (λ (s : Settings). IfOk c.flags_in_force.result
    (λ flags. flags.items ≡ active_lines s c.args.edited.now.new_lines)) c.of.ensures c.flags_in_force.ensures
