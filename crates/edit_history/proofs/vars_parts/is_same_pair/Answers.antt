use Rattle.std.proofs.Common.{sym, ap, ◌∙◌}
use Rattle.std.specs.Str.{bytes_eq}
use Rattle.edit_history.proofs.PartsOfVars.{same_history_pair}
use Rattle.edit_history.proofs.vars_parts.is_same_pair.Goals as goal

pub returns-then-eq : goal.returns-then-eq
returns-then-eq c =
    same_history_pair c.args.vars.now c.args.others.now c.args.i c.args.j c.in-Some.name.now c.in-Some.value.now
    c.in-Some-get.other_name.now c.in-Some-get.other_value.now c.eq.result c.eq-then-eq.result
    (sym c.in-Some.ensures) (sym c.in-Some-get.ensures) c.eq.ensures c.if-eq.true
    (c.eq-then-eq.ensures
    ∙ ap (λ v. bytes_eq v c.as_bytes-then-eq.result.now) c.as_bytes.ensures
    ∙ ap (bytes_eq c.in-Some.value.now) c.as_bytes-then-eq.ensures)
