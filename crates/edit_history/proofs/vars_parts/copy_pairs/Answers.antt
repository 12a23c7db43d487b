use Rattle.std.proofs.Common.{inr, ◌+◌, ◌∙◌, sym, ap, arith}
use Rattle.units_io.specs.NamedValues.{NamedTexts, with_named_text}
use Rattle.edit_history.specs.VarsParts.{history_pairs_between, history_with_pairs}
use Rattle.edit_history.proofs.PartsOfVars.{history_pairs_between_step, no_history_pairs_between}
use Rattle.edit_history.proofs.vars_parts.copy_pairs.Goals as goal

pub returns-in_default : goal.returns-in_default
returns-in_default c =
    sym (ap (history_with_pairs c.loop-i.copies)
    (no_history_pairs_between c.loop-i.i c.args.end c.args.vars.now (inr (sym c.in_default.ensures))))
    ∙ c.loop-i.invariant

pub loop-i-preserved : goal.loop-i-preserved
loop-i-preserved c =
    let rest = history_pairs_between (c.loop-i.i + 1) c.args.end c.args.vars.now in
    ap (λ (ps : NamedTexts). history_with_pairs ps rest)
    (c.in_ok-set.ensures.ok
    ∙ ap (λ name. with_named_text c.loop-i.copies name c.in_ok-value.value) c.in_ok-name.ensures
    ∙ ap (with_named_text c.loop-i.copies c.in-Some.name.now) c.in_ok-value.ensures)
    ∙ sym (ap (history_with_pairs c.loop-i.copies)
    (history_pairs_between_step c.loop-i.i c.args.end c.args.vars.now (c.in-Some.name.now, c.in-Some.value.now)
    (omega (arith, c.loop-i-test.true)) (sym c.in-Some.ensures)))
    ∙ c.loop-i.invariant
