-- The status of a run that needs neither files nor input.
use Rattle.std.proofs.Common.{◌≡◌, ◌∙◌, ℕ, List, Bool, false, Some, None, refl, subst}
use Rattle.std.specs.declared.option.Option.{Option}
use Rattle.units_io.specs.FileMap.{FileMap}
use Rattle.units_io.specs.NamedValues.{NamedTexts}
use Rattle.session.specs.HeardLines.{heard_lines}
use Rattle.session.specs.Input.{input_lines}
use Rattle.session.specs.Outside.{SessionOutside}
use Rattle.session.specs.KnownContents.{IsSessionValueIfKnown}
use Rattle.session.specs.Worlds.{SessionWorld, session_world_outside}
use Rattle.session.specs.WrittenOutput.{SessionCourse, SessionOutput, output_of_session_course}
use Rattle.units_run.specs.Calls.{run_course, run_of, run_over}
use Rattle.units_run.specs.Endings.{IsPlanOutput, IsRunColumnOutput, IsRunOutput, IsStatedRunEnd}
use Rattle.units_run.specs.Headline.{IsRun}
use Rattle.units_run.specs.Needs.{run_fetches_file, run_needs_files, run_needs_input}
use Rattle.units_run.specs.Plans.{IsWholePlan, Plan, Whole, Opened, Columns}
use Rattle.units_run.specs.Work.{plan_of}
use Rattle.units_run.specs.declared.status.Status.{Status}
use Rattle.units_run.specs.declared.status.Status.TheVariants.{Done, Refused, Usage, NoFile, ReadFault, WriteFault}
use Rattle.units_run.specs.declared.status.Status.TheVariants.{NoMemory, InputTooLong}
use Rattle.units_run.proofs.UnneededFiles.{plan_is_the_same_over_all_files, plan_without_input_is_whole}
use Rattle.units_run.proofs.WordPlans.{run_value_known_for_lesser_need, run_without_files_fetches_none}

-- a stated ending is the status of the run
stated_run_status : (course : SessionCourse) (wanted ending : Status) (before after : SessionOutside)
    → IsStatedRunEnd ending
    → IsRunOutput course wanted ending before after → ending ≡ wanted
stated_run_status course wanted Done before after stated left = left.0
stated_run_status course wanted Refused before after stated left = left.0
stated_run_status course wanted Usage before after stated left = left.0
stated_run_status course wanted NoFile before after stated left = left.0
stated_run_status course wanted ReadFault before after stated left = absurd stated
stated_run_status course wanted WriteFault before after stated left = absurd stated
stated_run_status course wanted NoMemory before after stated left = absurd stated
stated_run_status course wanted InputTooLong before after stated left = absurd stated

stated_run_status_of_column : (output : SessionOutput) (wanted ending : Status) (before after : SessionOutside)
    → IsStatedRunEnd ending
    → IsRunColumnOutput output wanted ending before after → ending ≡ wanted
stated_run_status_of_column output wanted Done before after stated left = left.0
stated_run_status_of_column output wanted Refused before after stated left = left.0
stated_run_status_of_column output wanted Usage before after stated left = left.0
stated_run_status_of_column output wanted NoFile before after stated left = left.0
stated_run_status_of_column output wanted ReadFault before after stated left = absurd stated
stated_run_status_of_column output wanted WriteFault before after stated left = absurd stated
stated_run_status_of_column output wanted NoMemory before after stated left = absurd stated
stated_run_status_of_column output wanted InputTooLong before after stated left = absurd stated

stated_plan_status : (plan : Plan) (course : SessionCourse) (wanted ending : Status) (before after : SessionOutside)
    → IsStatedRunEnd ending
    → IsPlanOutput plan course wanted ending before after → ending ≡ wanted
stated_plan_status (Whole run) course wanted ending before after stated left =
    stated_run_status course wanted ending before after stated left
stated_plan_status (Opened talk) course wanted ending before after stated left =
    stated_run_status course wanted ending before after stated left
stated_plan_status (Columns work) course wanted ending before after stated left =
    stated_run_status_of_column (output_of_session_course course) wanted ending before after stated left

-- a value that is not needed, and may be known
pub unneeded_run_value_may_be_known : {X : Type 0} (needed : Bool) (files_if_known : Option X) (x : X) → needed ≡ false
    → (y : X) × IsSessionValueIfKnown needed files_if_known y
unneeded_run_value_may_be_known needed (Some y) x none = (y, refl)
unneeded_run_value_may_be_known needed None x none = (x, none)

-- a whole plan has one status, whatever the files, the input and its lines are
whole_plan_status_is_fixed : (plan : Plan) (files others : FileMap) (input other : List ℕ) (lines more : List (List ℕ))
    → IsWholePlan plan → (run_over plan files input lines).status ≡ (run_over plan others other more).status
whole_plan_status_is_fixed (Whole run) files others input other lines more is = refl
whole_plan_status_is_fixed (Opened talk) files others input other lines more is = absurd is
whole_plan_status_is_fixed (Columns work) files others input other lines more is = absurd is

pub status_of_run : (words : List (List ℕ)) (vars : NamedTexts) (ending : Status) (before after : SessionWorld)
    → IsRun words vars ending before after → run_needs_files words ≡ false → run_needs_input words ≡ false
    → IsStatedRunEnd ending
    → (files : FileMap) (input : List ℕ)
    → ending ≡ (run_of (record { words = words; vars = vars; files = files; input = input })).status
status_of_run words vars ending before after run no_files none stated files input =
    let files_if_known = unneeded_run_value_may_be_known (run_needs_files words) before.files.known_files files no_files
    in
    let left = unneeded_run_value_may_be_known (run_needs_input words) before.source.input_left input none in
    let plan = plan_of words vars files_if_known.0 in
    stated_plan_status plan
    (run_course (record { words = words; vars = vars; files = files_if_known.0; input = left.0 }))
    (run_of (record { words = words; vars = vars; files = files_if_known.0; input = left.0 })).status ending
    (session_world_outside before)
    (session_world_outside after) stated (run.files_after files_if_known.0 left.0
    (run_value_known_for_lesser_need (run_needs_files words) (run_fetches_file words left.0) before.files.known_files
    files_if_known.0
    (run_without_files_fetches_none words left.0)
    files_if_known.1) left.1)
    ∙ whole_plan_status_is_fixed plan files_if_known.0 files left.0 input (heard_lines (input_lines left.0))
    (heard_lines (input_lines input))
    (plan_without_input_is_whole words vars files_if_known.0 none)
    ∙ subst
    (λ (p : Plan). (run_over plan files input (heard_lines (input_lines input))).status
    ≡ (run_over p files input (heard_lines (input_lines input))).status)
    (plan_is_the_same_over_all_files words vars files_if_known.0 files no_files) refl
