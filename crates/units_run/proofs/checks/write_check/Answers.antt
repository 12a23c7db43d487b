use Rattle.units_run.proofs.checks.write_check.Goals as goal

pub returns-clause-steps : goal.returns-clause-steps
returns-clause-steps g c = λ worked.
    (c.leaves_law.ensures _ c.args.plan.table c.write_report-status.new.self.table c.args.steps.now
    c.write_report-status.new.steps (c.write_report-status.ensures.queries worked)).steps
