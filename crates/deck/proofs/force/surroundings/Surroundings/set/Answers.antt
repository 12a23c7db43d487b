use Rattle.std.proofs.Common.{◌≡◌, false, Option, Some, None, sym, subst, ◌∙◌}
use Rattle.std.specs.Prelude.{IfNone, is_some}
use Rattle.deck.specs.Active.{DeckSurroundings}
use Rattle.units_io.specs.NamedValues.{HasNoTextOfName}
use Rattle.deck.proofs.Variables.{no_setting_in_second_part}
use Rattle.deck.proofs.force.surroundings.Surroundings.set.Goals as goal

if_absent : {A : Type 0} (o : Option A) {P : Type 0} → is_some o ≡ false → IfNone o P → P
if_absent None e h = h
if_absent (Some x) e h = cc

pub push-requires : goal.push-requires
push-requires c =
    let lacks : HasNoTextOfName c.args.self.now.vars c.args.name.now =
    if_absent c.value.result (sym c.is_some.ensures ∙ c.if-is_some.false) c.value.ensures.absent in
    subst (HasNoTextOfName c.self.inside.set) (sym c.in_ok-variable.ensures.name)
    (no_setting_in_second_part c.self.inside.base.now.vars c.self.inside.set c.args.name.now
    (subst (λ (s : DeckSurroundings). HasNoTextOfName s.vars c.args.name.now) (sym c.self.view_is) lacks))
