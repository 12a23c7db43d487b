use Rattle.std.proofs.Common.{◌≡◌, ◌∙◌, Err, ap, sym}
use Rattle.std.proofs.lemmas.Result.{on_ok_weaker}
use Rattle.live_table.specs.declared.fault.QueryFault.TheVariants.{OutOfMemory, Value}
use Rattle.survey.proofs.finding_lines.put_finding.Goals as goal

pub returns-in-Err-Value-clause-memory : goal.returns-in-Err-Value-clause-memory
returns-in-Err-Value-clause-memory c =
    on_ok_weaker c.put_fault-in-Err-Value.result (λ _ none.
    let apart : Err (Value c.in-Err-Value.fault) ≡ Err OutOfMemory =
    sym (c.in-Err-Value.is ∙ ap Err c.in-Err-Value.field-0-is) ∙ none in
    cc) c.put_fault-in-Err-Value.ensures
