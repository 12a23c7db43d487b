use Rattle.std.proofs.Common.{◌+◌, ◌∙◌, sym, ap, drop}
use Rattle.std.proofs.lemmas.List.{drop_all, drop_more}
use Rattle.units_c.specs.Definitions.{c_variables_with_entries}
use Rattle.units_c.proofs.definitions.put_values.Goals as goal
use Rattle.units_io.specs.NamedValues.{NamedTexts, with_named_text}

pub loop-entry-preserved : goal.loop-entry-preserved
loop-entry-preserved c =
    let rest = drop (c.loop-entry.entry-index + 1) c.args.entries.now in
    ap (λ (vars : NamedTexts). c_variables_with_entries vars rest)
    (c.in_ok-set.ensures.ok
    ∙ ap (λ name. with_named_text c.loop-entry.vars name c.in_ok-value.value) c.in_ok-name.ensures
    ∙ ap (with_named_text c.loop-entry.vars _) c.in_ok-value.ensures)
    ∙ sym (ap (c_variables_with_entries c.loop-entry.vars)
    (drop_more c.args.entries.now c.loop-entry.entry-index _ c.loop-entry-test.true))
    ∙ c.loop-entry.invariant

pub returns : goal.returns
returns c =
    sym (ap (c_variables_with_entries c.loop-entry.vars)
    (drop_all c.loop-entry.entry-index c.args.entries.now c.loop-entry-test.false))
    ∙ c.loop-entry.invariant
