use Rattle.std.proofs.Common.{◌≡◌, ◌∙◌, ◌⊎◌, ◌||◌, ℕ, Bool, Err, ap, false, inl, inr, refl, sym, subst, true}
use Rattle.std.proofs.lemmas.Bool.{both_ways, false_from_ne_true, or_parts}
use Rattle.std.proofs.Math.Bool.{or-true}
use Rattle.std.proofs.Math.Nat.{le_of_eq}
use Rattle.units_io.specs.Faults.{HasIoCountRisen}
use Rattle.session.specs.HeardLines.{heard_input_loads_file}
use Rattle.session.specs.Outside.{session_outside, SessionTookMoreThan}
use Rattle.session.specs.KnownContents.{IsSessionValueKnownIfNeeded}
use Rattle.command_line.specs.Fields.{command_line_of}
use Rattle.units_run.specs.Endings.{IsPlanOutput, IsStatedRunEnd, IsWorkedRunEnd, RunMayEnd}
use Rattle.units_run.specs.LeftAlone.{RunOpensNoSession}
use Rattle.units_run.specs.Needs.{run_converts_column, run_loads_file, run_needs_input, run_opens_session}
use Rattle.units_run.specs.Work.{plan_of}
use Rattle.units_run.specs.declared.status.Status.{Status}
use Rattle.units_run.specs.declared.status.Status.TheVariants.{ReadFault, WriteFault}
use Rattle.units_run.proofs.PlanRuns.{cut_run, run_memory_end_is_no_read_fault, run_memory_end_is_no_write_fault}
use Rattle.units_run.proofs.PlanRuns.{run_memory_end_is_not_done, run_memory_end_is_not_too_long, unmade_run}
use Rattle.units_run.proofs.PlanRuns.{run_done_of_session, run_end_without_fault_is_clean}
use Rattle.units_run.proofs.PlanRuns.{run_input_too_long_of_session, run_is_neither_of_both, run_may_end_as_stated}
use Rattle.units_run.proofs.PlanRuns.{whole_column_plan_is_not_worked, planned_session_is_opened, run_of_opened_session}
use Rattle.units_run.proofs.PlanRuns.{run_read_fault_is_no_write_fault, run_read_fault_is_not_too_long}
use Rattle.units_run.proofs.PlanRuns.{whole_plan_converts_no_column, whole_session_run_is_not_done, plan_course}
use Rattle.units_run.proofs.PlanRuns.{plan_end, run_read_fault_of_session, session_run_opens_a_session}
use Rattle.units_run.proofs.PlanRuns.{stated_session_run_may_end, run_files_stay_known, run_of_valid_words_may_end}
use Rattle.units_run.proofs.PlanRuns.{run_without_input_opens_no_session, run_write_fault_of_session, unread_run}
use Rattle.units_run.proofs.PlanRuns.{whole_run}
use Rattle.units_run.proofs.SessionFiles.{plan_sees}
use Rattle.session.proofs.Blocks.{session_cause_of_two_or_three}
use Rattle.units_run.proofs.WordPlans.{run_input_limit_of_column, session_run_converts_no_column}
use Rattle.units_run.proofs.WordPlans.{session_run_input_limit, session_run_needs_files, needed_run_value_is_known}
use Rattle.units_run.proofs.WordPlans.{run_files_known_for_definitions, run_files_known_for_session}
use Rattle.units_run.specs.Checks.{planned_check_report}
use Rattle.units_run.proofs.GrantedRuns.{run_grants_conversion}
use Rattle.units_run.proofs.FirstOutput.{check_plan_writes_no_err, column_plan_err_before_out, column_plan_opening}
use Rattle.units_run.proofs.FirstOutput.{session_plan_err_before_out, session_plan_opening, whole_plan_err_before_out}
use Rattle.units_run.proofs.CheckRuns.{check_run_input_is_not_too_long, check_run_reads_no_input}
use Rattle.units_run.proofs.CheckRuns.{check_run_work_is_done, planned_check_is_the_run}
use Rattle.units_run.proofs.ColumnRuns.{plan_of_column_has_its_work, planned_column_output, worked_run_may_end}
use Rattle.units_run.proofs.run.units_main.Goals as goal

pub returns-in-Ok-clause-run : goal.returns-in-Ok-clause-run
returns-in-Ok-clause-run g c =
    let planned = c.in-Ok-Whole in
    let kind = rw planned.field-0-is at planned.ensures.kind in
    let stated = run_may_end_as_stated _ _ _ planned.status kind.1 in
    record {
      files_after = λ m input s q.
          whole_run (plan_of c.args.words.now c.args.vars.now m) m input planned.buffers planned.status _ _ stated
          (rw planned.field-0-is at
          (planned.ensures.if_known m (run_files_known_for_definitions c.args.words.now input _ m s)))
          c.in-Ok.ensures.whole.0 c.in-Ok.ensures.whole.1
          (planned.ensures.kept ∙ run_files_stay_known _ _ m s);
      stated_ending = λ ends. kind.1;
      session_input_read = λ input q opens done.
          absurd (whole_session_run_is_not_done _ (run_converts_column c.args.words.now) planned.status kind.0 opens
          done);
      column_input_read = λ input q column over.
          absurd (whole_column_plan_is_not_worked (run_opens_session c.args.words.now) _ planned.status kind.0 column
          over);
      read_fault = λ is. absurd (subst IsStatedRunEnd is stated);
      write_fault = λ is. absurd (subst IsStatedRunEnd is stated);
      too_long = λ is. absurd (subst IsStatedRunEnd is stated);
      complete = λ s f o e w. run_end_without_fault_is_clean planned.status (λ is. subst IsStatedRunEnd is stated)
          (λ is. subst IsStatedRunEnd is stated);
      files_unopened = λ none. planned.ensures.kept;
      stores = λ none. planned.ensures.stores;
    }

pub returns-in-Ok-Check-clause-run : goal.returns-in-Ok-Check-clause-run
returns-in-Ok-Check-clause-run g c =
    let planned = c.in-Ok-Check in
    let kind = rw planned.field-0-is at planned.ensures.kind in
    let ended = c.write_check.ensures in
    let report = planned_check_report planned.plan in
    let unread = check_run_reads_no_input report c.write_check.result _ _ ended.written in
    record {
      files_after = λ m input s q.
          planned_check_is_the_run (plan_of c.args.words.now c.args.vars.now m) m input planned.plan
          c.write_check.result _ _ _
          (rw planned.field-0-is at
          (planned.ensures.if_known m (run_files_known_for_definitions c.args.words.now input _ m s)))
          ended.written ended.steps refl
          (planned.ensures.kept ∙ run_files_stay_known _ _ m s);
      stated_ending = λ stated.
          run_of_valid_words_may_end _ (run_loads_file (command_line_of c.args.words.now)) _ false c.write_check.result
          kind.0
          (or_parts (run_opens_session c.args.words.now) (run_converts_column c.args.words.now) kind.1).0
          (worked_run_may_end _ c.write_check.result
          (check_run_work_is_done report c.write_check.result _ _ ended.written stated));
      session_input_read = λ input q opens done. absurd
          (both_ways _ (or_parts (run_opens_session c.args.words.now) (run_converts_column c.args.words.now) kind.1).0
          opens);
      column_input_read = λ input q column over. absurd
          (both_ways _ (or_parts (run_opens_session c.args.words.now) (run_converts_column c.args.words.now) kind.1).1
          column);
      read_fault = λ is. absurd (unread is);
      write_fault = λ is. inl (ended.write is);
      too_long = λ is. absurd (check_run_input_is_not_too_long report c.write_check.result _ _ ended.written is);
      complete = λ s f o e w. run_end_without_fault_is_clean c.write_check.result unread (λ is. o (ended.write is));
      files_unopened = λ none. planned.ensures.kept;
      stores = λ none. planned.ensures.stores;
    }

pub returns-in-Ok-Opened-clause-run : goal.returns-in-Ok-Opened-clause-run
returns-in-Ok-Opened-clause-run g c =
    let before = session_outside (g.S.Source.left c.args.src.now) (g.O.Sink.written c.args.out.now)
    (g.E.Sink.written c.args.err.now) (g.F.Files.files c.args.files.now) (g.F.Files.faults c.args.files.now)
    (g.F.Files.store_faults c.args.files.now) c.args.steps.now in
    let end = c.answer_source-end.new in
    let after = session_outside (g.S.Source.left end.src) (g.O.Sink.written end.out) (g.E.Sink.written end.err)
    (g.F.Files.files end.files) (g.F.Files.faults end.files) (g.F.Files.store_faults end.files) end.steps in
    let opened = c.in-Ok-Opened in
    let kind = rw opened.field-0-is at opened.ensures.kind in
    let ended = rw c.new-listener.ensures.talk at c.answer_source-end.ensures.run in
    let is = sym c.status_of.ensures in
    let opens : (RunOpensNoSession c.args.words.now c.args.vars.now c.status_of.result
    (g.F.Files.files c.args.files.now) → ⊥) =
    session_run_opens_a_session _ _ _ opened.buffers opened.session c.answer_source-end.result _ _ _ kind.1 is
    (λ m s. rw opened.field-0-is at (opened.ensures.if_known m s)) in
    let read : (c.status_of.result ≡ ReadFault → HasIoCountRisen (g.S.Source.faults c.args.src.now)
    (g.S.Source.faults c.answer_source-end.new.src)
    ⊎ HasIoCountRisen (g.F.Files.faults c.args.files.now) (g.F.Files.faults c.answer_source-end.new.files)) = λ so.
    subst
    (λ (n : ℕ). HasIoCountRisen (g.S.Source.faults c.args.src.now) (g.S.Source.faults c.answer_source-end.new.src)
    ⊎ HasIoCountRisen n (g.F.Files.faults c.answer_source-end.new.files))
    opened.ensures.calm (ended.has_cause.read_cause (run_read_fault_of_session c.answer_source-end.result (is ∙ so))) in
    let write : (c.status_of.result ≡ WriteFault → HasIoCountRisen (g.O.Sink.faults c.args.out.now)
    (g.O.Sink.faults c.answer_source-end.new.out)
    ⊎ HasIoCountRisen (g.E.Sink.faults c.args.err.now) (g.E.Sink.faults c.answer_source-end.new.err)
    ⊎ HasIoCountRisen (g.F.Files.store_faults c.args.files.now) (g.F.Files.store_faults c.answer_source-end.new.files))
    =
    λ so.
    subst
    (λ (n : ℕ). HasIoCountRisen (g.O.Sink.faults c.args.out.now) (g.O.Sink.faults c.answer_source-end.new.out)
    ⊎ HasIoCountRisen (g.E.Sink.faults c.args.err.now) (g.E.Sink.faults c.answer_source-end.new.err)
    ⊎ HasIoCountRisen n (g.F.Files.store_faults c.answer_source-end.new.files))
    opened.ensures.stores
    (ended.has_cause.write_cause (run_write_fault_of_session c.answer_source-end.result (is ∙ so))) in
    record {
      files_after = λ m input s q.
          let want = plan_of c.args.words.now c.args.vars.now m in
          let session : run_opens_session c.args.words.now ≡ true = kind.1 in
          let need : run_needs_input c.args.words.now ≡ true =
          ap (λ (b : Bool). b || run_converts_column c.args.words.now) session in
          let plan =
          rw opened.field-0-is at
          (opened.ensures.if_known m (run_files_known_for_definitions c.args.words.now input _ m s))
          in
          let talk =
          planned_session_is_opened want m opened.buffers opened.session before _ plan refl refl opened.ensures.kept
          (run_files_stay_known _ _ m s)
          (le_of_eq (sym opened.ensures.calm)) (le_of_eq (sym opened.ensures.stores)) in
          subst
          (λ (st : Status). IsPlanOutput want (plan_course want m input) (plan_end want m input) st before after) is
          (run_of_opened_session want talk.0 m input c.answer_source-end.result before after talk.1
          (ended.run_if_known talk.0 input before (needed_run_value_is_known _ _ input need q)
          (subst (IsSessionValueKnownIfNeeded (heard_input_loads_file input)) (sym opened.ensures.kept)
          (run_files_known_for_session c.args.words.now input _ m session s)) talk.2));
      stated_ending = λ stated.
          run_of_valid_words_may_end _ (run_loads_file (command_line_of c.args.words.now)) _ true c.status_of.result
          kind.0 kind.1
          (subst (RunMayEnd true _ true) is
          (stated_session_run_may_end _ c.answer_source-end.result (subst IsStatedRunEnd c.status_of.ensures stated)));
      session_input_read = λ input q need done.
          ended.whole_run input q (run_done_of_session c.answer_source-end.result (is ∙ done));
      column_input_read = λ input q column over. absurd (session_run_converts_no_column c.args.words.now kind.1 column);
      read_fault = read;
      write_fault = write;
      too_long = λ so. subst (λ (n : ℕ). SessionTookMoreThan n (g.S.Source.taken c.args.src.now)
          (g.S.Source.taken c.answer_source-end.new.src))
          (session_run_input_limit c.args.words.now kind.1)
          (ended.has_cause.too_long (run_input_too_long_of_session c.answer_source-end.result (is ∙ so)));
      complete = λ s f o e w.
          run_end_without_fault_is_clean c.status_of.result (λ so. run_is_neither_of_both s f (read so))
          (λ so. run_is_neither_of_both o (run_is_neither_of_both e w) (write so));
      files_unopened = λ none. absurd (opens none);
      stores = λ none. absurd (opens none);
    }

pub returns-in-Ok-Columns-clause-run : goal.returns-in-Ok-Columns-clause-run
returns-in-Ok-Columns-clause-run g c =
    let columns = c.in-Ok-Columns in
    let is_for = rw columns.field-0-is at columns.ensures.kind in
    let ended = c.convert_column.ensures in
    record {
      files_after = λ m input s q.
          let want = plan_of c.args.words.now c.args.vars.now m in
          let need : run_needs_input c.args.words.now ≡ true =
          ap (λ (b : Bool). run_opens_session c.args.words.now || b) is_for.1
          ∙ or-true (run_opens_session c.args.words.now) in
          let plan =
          rw columns.field-0-is at
          (columns.ensures.if_known m (run_files_known_for_definitions c.args.words.now input _ m s)) in
          let column = plan_of_column_has_its_work want m columns.plan c.args.steps.now _ plan in
          planned_column_output want column.0 m input c.convert_column.result _ _ _ _ _
          (g.F.Files.files c.args.files.now) _ _ _
          column.1 columns.ensures.kept
          (c.convert_column.ensures.if_known column.0 m input (g.F.Files.files c.args.files.now)
          (g.F.Files.faults c.args.files.now) (g.F.Files.faults c.make_plan.new.files)
          (g.F.Files.store_faults c.args.files.now) (g.F.Files.store_faults c.make_plan.new.files) c.args.steps.now
          (needed_run_value_is_known _ _ input need q) column.2 (run_files_stay_known _ _ m s));
      stated_ending = λ stated. run_of_valid_words_may_end _ (run_loads_file (command_line_of c.args.words.now)) _ false
          c.convert_column.result is_for.0
          (false_from_ne_true _ (λ opens. session_run_converts_no_column c.args.words.now opens is_for.1))
          (worked_run_may_end _ c.convert_column.result (ended.ends stated));
      session_input_read = λ input q opens done.
          absurd (session_run_converts_no_column c.args.words.now opens is_for.1);
      column_input_read = λ input q column over. ended.whole input q over;
      read_fault = λ so. inl (ended.read so);
      write_fault = λ so. session_cause_of_two_or_three (ended.write so);
      too_long = λ so. subst (λ (n : ℕ). SessionTookMoreThan n (g.S.Source.taken c.args.src.now)
          (g.S.Source.taken c.convert_column.new.src))
          (run_input_limit_of_column c.args.words.now is_for.1) (ended.too_long so);
      complete = λ s f o e w. run_end_without_fault_is_clean c.convert_column.result (λ so. s (ended.read so))
          (λ so. run_is_neither_of_both o e (ended.write so));
      files_unopened = λ none. columns.ensures.kept;
      stores = λ none. columns.ensures.stores;
    }

pub returns-in-Ok-Opened-clause-unasked : goal.returns-in-Ok-Opened-clause-unasked
returns-in-Ok-Opened-clause-unasked g c = λ none.
    let kind = rw c.in-Ok-Opened.field-0-is at c.in-Ok-Opened.ensures.kind in
    absurd (both_ways _ none (session_run_needs_files c.args.words.now kind.1))

pub returns-in-Ok-Opened-clause-source : goal.returns-in-Ok-Opened-clause-source
returns-in-Ok-Opened-clause-source g c = λ none.
    let opened = c.in-Ok-Opened in
    let kind = rw opened.field-0-is at opened.ensures.kind in
    absurd
    (session_run_opens_a_session c.args.words.now c.args.vars.now (g.F.Files.files c.args.files.now) opened.buffers
    opened.session
    c.answer_source-end.result c.status_of.result _ _ kind.1 (sym c.status_of.ensures)
    (λ m s. rw opened.field-0-is at (opened.ensures.if_known m s)) (run_without_input_opens_no_session _ _ _ _ none))

pub returns-in-Ok-Columns-clause-source : goal.returns-in-Ok-Columns-clause-source
returns-in-Ok-Columns-clause-source g c = λ none.
    let planned = c.in-Ok-Columns in
    let kind = rw planned.field-0-is at planned.ensures.kind in
    let words = c.args.words.now in
    absurd
    (run_is_neither_of_both
    (λ (e : run_needs_input words ≡ false). both_ways (run_needs_input words) e
    (ap (λ (b : Bool). run_opens_session words || b) kind.1 ∙ or-true (run_opens_session words)))
    (run_is_neither_of_both
    (λ file. subst IsWorkedRunEnd file (c.convert_column.ensures.ends (subst IsStatedRunEnd (sym file) tt)))
    (λ whole.
    whole_plan_converts_no_column (plan_of words c.args.vars.now whole.0) whole.0 planned.plan _ _ whole.2
    (rw planned.field-0-is at (planned.ensures.if_known whole.0 whole.1))))
    none)

pub returns-in-Ok-Opened-clause-unread : goal.returns-in-Ok-Opened-clause-unread
returns-in-Ok-Opened-clause-unread g c = λ none.
    let opened = c.in-Ok-Opened in
    let kind = rw opened.field-0-is at opened.ensures.kind in
    absurd
    (session_run_opens_a_session c.args.words.now c.args.vars.now (g.F.Files.files c.args.files.now) opened.buffers
    opened.session
    c.answer_source-end.result c.status_of.result _ _ kind.1 (sym c.status_of.ensures)
    (λ m s. rw opened.field-0-is at (opened.ensures.if_known m s)) none)

pub returns-in-Err-ReadFault-clause-run : goal.returns-in-Err-ReadFault-clause-run
returns-in-Err-ReadFault-clause-run g c =
    let rose = c.make_plan.ensures.cause (c.in-Err-ReadFault.is ∙ ap Err c.in-Err-ReadFault.field-0-is) in
    record {
      files_after = λ m input s q. unread_run (plan_of c.args.words.now c.args.vars.now m) m input _ _
          (plan_sees c.args.words.now c.args.vars.now m) refl refl
          (c.make_plan.ensures.kept ∙ run_files_stay_known _ _ m s) rose;
      stated_ending = λ stated. absurd stated;
      session_input_read = λ input q opens done. cc;
      column_input_read = λ input q column over. absurd over;
      read_fault = λ is. inr rose;
      write_fault = λ is. absurd (run_read_fault_is_no_write_fault is);
      too_long = λ is. absurd (run_read_fault_is_not_too_long is);
      complete = λ s f o e w. absurd (f rose);
      files_unopened = λ none. c.make_plan.ensures.kept;
      stores = λ none. c.make_plan.ensures.stores;
    }

pub returns-clause-run : goal.returns-clause-run
returns-clause-run g c = record {
  files_after = λ m input s q. unmade_run (plan_of c.args.words.now c.args.vars.now m) m input _ _
      (plan_sees c.args.words.now c.args.vars.now m) refl refl
      (c.make_plan.ensures.kept ∙ run_files_stay_known _ _ m s);
  stated_ending = λ stated. absurd stated;
  session_input_read = λ input q opens done. absurd (run_memory_end_is_not_done done);
  column_input_read = λ input q column over. absurd over;
  read_fault = λ is. absurd (run_memory_end_is_no_read_fault is);
  write_fault = λ is. absurd (run_memory_end_is_no_write_fault is);
  too_long = λ is. absurd (run_memory_end_is_not_too_long is);
  complete = λ s f o e w. tt;
  files_unopened = λ none. c.make_plan.ensures.kept;
  stores = λ none. c.make_plan.ensures.stores;
}

pub returns-in-Ok-Whole-clause-run : goal.returns-in-Ok-Whole-clause-run
returns-in-Ok-Whole-clause-run g c =
    let planned = c.in-Ok-Whole in record {
      files_after = λ m input s q.
          cut_run (plan_of c.args.words.now c.args.vars.now m) m input planned.buffers planned.status _ _
          (rw planned.field-0-is at
          (planned.ensures.if_known m (run_files_known_for_definitions c.args.words.now input _ m s)))
          c.write.ensures.out c.write.ensures.err
          (planned.ensures.kept ∙ run_files_stay_known _ _ m s);
      stated_ending = λ stated. absurd stated;
      session_input_read = λ input q opens done. cc;
      column_input_read = λ input q column over. absurd over;
      read_fault = λ is. cc;
      write_fault = λ is. session_cause_of_two_or_three c.in-Err.ensures.cause;
      too_long = λ is. cc;
      complete = λ s f o e w. absurd (run_is_neither_of_both o e c.in-Err.ensures.cause);
      files_unopened = λ none. planned.ensures.kept;
      stores = λ none. planned.ensures.stores;
    }

pub returns-in-Ok-clause-granted : goal.returns-in-Ok-clause-granted
returns-in-Ok-clause-granted g c =
    run_grants_conversion c.grant_law.ensures c.args.words.now c.args.vars.now _ _ _ (returns-in-Ok-clause-run g c)

pub returns-in-Ok-Whole-clause-granted : goal.returns-in-Ok-Whole-clause-granted
returns-in-Ok-Whole-clause-granted g c =
    run_grants_conversion c.grant_law.ensures c.args.words.now c.args.vars.now _ _ _
    (returns-in-Ok-Whole-clause-run g c)

pub returns-in-Ok-Check-clause-granted : goal.returns-in-Ok-Check-clause-granted
returns-in-Ok-Check-clause-granted g c =
    run_grants_conversion c.grant_law.ensures c.args.words.now c.args.vars.now _ _ _
    (returns-in-Ok-Check-clause-run g c)

pub returns-in-Ok-Opened-clause-granted : goal.returns-in-Ok-Opened-clause-granted
returns-in-Ok-Opened-clause-granted g c =
    run_grants_conversion c.grant_law.ensures c.args.words.now c.args.vars.now _ _ _
    (returns-in-Ok-Opened-clause-run g c)

pub returns-in-Ok-Columns-clause-granted : goal.returns-in-Ok-Columns-clause-granted
returns-in-Ok-Columns-clause-granted g c =
    run_grants_conversion c.grant_law.ensures c.args.words.now c.args.vars.now _ _ _
    (returns-in-Ok-Columns-clause-run g c)

pub returns-in-Err-ReadFault-clause-granted : goal.returns-in-Err-ReadFault-clause-granted
returns-in-Err-ReadFault-clause-granted g c =
    run_grants_conversion c.grant_law.ensures c.args.words.now c.args.vars.now _ _ _
    (returns-in-Err-ReadFault-clause-run g c)

pub returns-clause-granted : goal.returns-clause-granted
returns-clause-granted g c =
    run_grants_conversion c.grant_law.ensures c.args.words.now c.args.vars.now _ _ _ (returns-clause-run g c)

pub returns-in-Ok-clause-order : goal.returns-in-Ok-clause-order
returns-in-Ok-clause-order g c = λ m s.
    let planned = c.in-Ok-Whole in
    whole_plan_err_before_out (plan_of c.args.words.now c.args.vars.now m) m planned.buffers planned.status _ _ _ _
    (rw planned.field-0-is at (planned.ensures.if_known m s)) c.write.ensures.order

pub returns-in-Ok-Whole-clause-order : goal.returns-in-Ok-Whole-clause-order
returns-in-Ok-Whole-clause-order g c = λ m s.
    let planned = c.in-Ok-Whole in
    whole_plan_err_before_out (plan_of c.args.words.now c.args.vars.now m) m planned.buffers planned.status _ _ _ _
    (rw planned.field-0-is at (planned.ensures.if_known m s)) c.write.ensures.order

pub returns-in-Ok-Check-clause-order : goal.returns-in-Ok-Check-clause-order
returns-in-Ok-Check-clause-order g c = λ m s.
    let planned = c.in-Ok-Check in
    inr
    (check_plan_writes_no_err (plan_of c.args.words.now c.args.vars.now m) m planned.plan _ _ _ _
    (rw planned.field-0-is at (planned.ensures.if_known m s)) refl)

pub returns-in-Ok-Opened-clause-order : goal.returns-in-Ok-Opened-clause-order
returns-in-Ok-Opened-clause-order g c = λ m s.
    let opened = c.in-Ok-Opened in
    session_plan_err_before_out (plan_of c.args.words.now c.args.vars.now m) m opened.buffers opened.session _ _ _ _
    (rw opened.field-0-is at (opened.ensures.if_known m s))
    (rw c.new-listener.ensures.talk at c.answer_source-end.ensures.order)

pub returns-in-Ok-Opened-clause-opened : goal.returns-in-Ok-Opened-clause-opened
returns-in-Ok-Opened-clause-opened g c = λ m s.
    let opened = c.in-Ok-Opened in
    session_plan_opening (plan_of c.args.words.now c.args.vars.now m) m opened.buffers opened.session _ _ _ _ _ _
    (rw opened.field-0-is at (opened.ensures.if_known m s))
    (rw c.new-listener.ensures.talk at c.answer_source-end.ensures.opening)

pub returns-in-Ok-Opened-clause-unnamed : goal.returns-in-Ok-Opened-clause-unnamed
returns-in-Ok-Opened-clause-unnamed g c = λ input q none names.
    c.answer_source-end.ensures.unasked input q names ∙ c.in-Ok-Opened.ensures.unloaded none

pub returns-in-Ok-Columns-clause-order : goal.returns-in-Ok-Columns-clause-order
returns-in-Ok-Columns-clause-order g c = λ m s.
    let columns = c.in-Ok-Columns in
    column_plan_err_before_out (plan_of c.args.words.now c.args.vars.now m) m columns.plan _ _ _ _
    (rw columns.field-0-is at (columns.ensures.if_known m s)) c.convert_column.ensures.noticed

pub returns-in-Ok-Columns-clause-opened : goal.returns-in-Ok-Columns-clause-opened
returns-in-Ok-Columns-clause-opened g c = λ m s.
    let columns = c.in-Ok-Columns in
    column_plan_opening (plan_of c.args.words.now c.args.vars.now m) m columns.plan _ _ _ _ _ _
    (rw columns.field-0-is at (columns.ensures.if_known m s)) c.convert_column.ensures.noticed

pub returns-in-Ok-clause-opened : goal.returns-in-Ok-clause-opened
returns-in-Ok-clause-opened g c = λ m s. inl refl

pub returns-in-Ok-Whole-clause-opened : goal.returns-in-Ok-Whole-clause-opened
returns-in-Ok-Whole-clause-opened g c = λ m s. inl refl

pub returns-in-Ok-Check-clause-opened : goal.returns-in-Ok-Check-clause-opened
returns-in-Ok-Check-clause-opened g c = λ m s. inl refl

pub returns-in-Err-ReadFault-clause-opened : goal.returns-in-Err-ReadFault-clause-opened
returns-in-Err-ReadFault-clause-opened g c = λ m s. inl refl

pub returns-clause-opened : goal.returns-clause-opened
returns-clause-opened g c = λ m s. inl refl

pub returns-in-Err-ReadFault-clause-order : goal.returns-in-Err-ReadFault-clause-order
returns-in-Err-ReadFault-clause-order g c = λ m s. inl refl

pub returns-clause-order : goal.returns-clause-order
returns-clause-order g c = λ m s. inl refl

pub returns-in-Ok-clause-unnamed : goal.returns-in-Ok-clause-unnamed
returns-in-Ok-clause-unnamed g c = λ input q none names. c.in-Ok-Whole.ensures.unloaded none

pub returns-in-Ok-Whole-clause-unnamed : goal.returns-in-Ok-Whole-clause-unnamed
returns-in-Ok-Whole-clause-unnamed g c = λ input q none names. c.in-Ok-Whole.ensures.unloaded none

pub returns-in-Ok-Check-clause-unnamed : goal.returns-in-Ok-Check-clause-unnamed
returns-in-Ok-Check-clause-unnamed g c = λ input q none names. c.in-Ok-Check.ensures.unloaded none

pub returns-in-Ok-Columns-clause-unnamed : goal.returns-in-Ok-Columns-clause-unnamed
returns-in-Ok-Columns-clause-unnamed g c = λ input q none names. c.in-Ok-Columns.ensures.unloaded none

pub returns-in-Err-ReadFault-clause-unnamed : goal.returns-in-Err-ReadFault-clause-unnamed
returns-in-Err-ReadFault-clause-unnamed g c = λ input q none names. c.make_plan.ensures.unloaded none

pub returns-clause-unnamed : goal.returns-clause-unnamed
returns-clause-unnamed g c = λ input q none names. c.make_plan.ensures.unloaded none
