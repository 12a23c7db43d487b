use Rattle.std.proofs.Common.{◌∙◌, Some, cond, sym, ap}
use Rattle.units_io.specs.NamedValues.{named_text}
use Rattle.units_io.proofs.Names.{HasNoName-not_found, with_named_text-Sets}
use Rattle.deck.proofs.force.in_force.changed_value.Goals as goal

pub returns-then-eq-clause-value : goal.returns-then-eq-clause-value
returns-then-eq-clause-value c =
    let name = c.args.name.now in
    let change = c.args.change.now in
    sym (with_named_text-Sets c.args.vars.now change.name.now change.value.now name
    ∙ ap (λ b. cond b (Some change.value.now) (named_text c.args.vars.now name)) (sym c.eq.ensures ∙ c.if-eq.true))

pub returns-clause-value : goal.returns-clause-value
returns-clause-value c =
    let name = c.args.name.now in
    let change = c.args.change.now in
    c.value.ensures.value
    ∙ sym (with_named_text-Sets c.args.vars.now change.name.now change.value.now name
    ∙ ap (λ b. cond b (Some change.value.now) (named_text c.args.vars.now name)) (sym c.eq.ensures ∙ c.if-eq.false))

pub returns-clause-absent : goal.returns-clause-absent
returns-clause-absent c = HasNoName-not_found _ _ _ (returns-clause-value c)
