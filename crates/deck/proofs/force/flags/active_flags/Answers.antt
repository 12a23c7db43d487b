use Rattle.std.proofs.Common.{◌≡◌, subst}
use Rattle.std.specs.Prelude.{IfOk}
use Rattle.deck_lines.specs.StoreEdits.{StoreEdit}
use Rattle.deck.specs.Active.{active_lines}
use Rattle.deck.proofs.force.flags.active_flags.Goals as goal

pub returns : goal.returns
returns c =
    subst (λ (e : StoreEdit). IfOk c.edited_flags.result
    (λ flags. flags.items ≡ active_lines c.args.settings.now e.new_lines))
    c.without_change.ensures.is
    c.edited_flags.ensures
