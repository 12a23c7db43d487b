use Rattle.std.proofs.Common.{Option, Some, None, sym, ap, subst, ◌∙◌}
use Rattle.std.specs.Prelude.{IfNone}
use Rattle.units_io.specs.NamedValues.{HasNoTextOfName, named_text}
use Rattle.deck.specs.Active.{DeckSurroundings}
use Rattle.deck.proofs.Variables.{no_setting_in_both_parts, setting_value_in_first_part, setting_value_in_second_part}
use Rattle.deck.proofs.force.surroundings.Surroundings.value.Goals as goal

pub returns-in-Some-clause-value : goal.returns-in-Some-clause-value
returns-in-Some-clause-value c =
    sym (setting_value_in_first_part c.self.inside.base.now.vars c.self.inside.set c.args.name.now c.in-Some.value.now
    (sym c.in-Some.ensures.value))
    ∙ ap (λ (s : DeckSurroundings). named_text s.vars c.args.name.now) c.self.view_is

pub returns-in-None-clause-value : goal.returns-in-None-clause-value
returns-in-None-clause-value c =
    c.value-in-None.ensures.value
    ∙ sym (setting_value_in_second_part c.self.inside.base.now.vars c.self.inside.set c.args.name.now
    (sym c.in-None.ensures.value))
    ∙ ap (λ (s : DeckSurroundings). named_text s.vars c.args.name.now) c.self.view_is

if_none : {A : Type 0} (o : Option A) {P Q : Type 0} → IfNone o P → (P → Q) → IfNone o Q
if_none None h f = f h
if_none (Some x) h f = tt

pub returns-in-None-clause-absent : goal.returns-in-None-clause-absent
returns-in-None-clause-absent c =
    if_none c.value-in-None.result c.value-in-None.ensures.absent
    (λ h. subst (λ (s : DeckSurroundings). HasNoTextOfName s.vars c.args.name.now) c.self.view_is
    (no_setting_in_both_parts c.self.inside.base.now.vars c.self.inside.set c.args.name.now c.in-None.ensures.absent h))
