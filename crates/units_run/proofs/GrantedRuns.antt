-- The reply of a run that makes a conversion.
use Rattle.std.proofs.Common.{◌≡◌, ◌∙◌, ◌&&◌, ◌||◌, [], ℕ, List, Bool, true, false, Option, Some, None, Result, Ok}
use Rattle.std.proofs.Common.{refl, sym, ap, subst, codes, if◌then◌else◌, is_some, not, unwrap_or}
use Rattle.std.specs.Prelude.{option_map}
use Rattle.std.specs.Str.{bytes_eq}
use Rattle.std.proofs.lemmas.Option.{none-some, same_Some}
use Rattle.command_line.specs.Fields.{command_line_of}
use Rattle.command_line.specs.AcceptedWords.{are_command_words_accepted}
use Rattle.command_line.specs.declared.fields.CommandLine.{CommandLine}
use Rattle.deck.specs.Decks.{DeckContents}
use Rattle.deck.specs.Tables.{table_of_deck}
use Rattle.deck.specs.declared.fault.DeckFault.{DeckFault}
use Rattle.deck.specs.declared.settings.Settings.{Settings}
use Rattle.def_entry.specs.Tables.{EntryTable}
use Rattle.def_lines.specs.Lines.{line_content}
use Rattle.def_lines.specs.Words.{is_empty}
use Rattle.reply.specs.Grants.{ConversionGrantLaw}
use Rattle.reply.specs.Replies.{conversion_reply}
use Rattle.reply.specs.declared.options.Options.{Options}
use Rattle.session.specs.Outside.{SessionOutside}
use Rattle.session.specs.Worlds.{SessionWorld, session_world_outside}
use Rattle.session.specs.WrittenOutput.{IsAllSessionOutput, SessionCourse, output_of_session_course}
use Rattle.survey.specs.ConversionReplies.{asked_conformable, asked_conversion, asked_definition}
use Rattle.units_io.specs.FileMap.{FileMap}
use Rattle.units_io.specs.NamedValues.{NamedTexts}
use Rattle.units_run.specs.CommandReply.{run_reply_for}
use Rattle.units_run.specs.Endings.{IsPlanOutput, IsRunOutput, IsStatedRunEnd}
use Rattle.units_run.specs.GrantedConversions.{RunAsksForConversion, RunGrantsExactly, run_definitions_in_force}
use Rattle.units_run.specs.Headline.{IsRun}
use Rattle.units_run.specs.Needs.{run_fetches_file, run_needs_files, run_needs_input}
use Rattle.units_run.specs.Options.{run_options}
use Rattle.units_run.specs.Plans.{Plan}
use Rattle.units_run.specs.Settings.{run_settings}
use Rattle.units_run.specs.Work.{deck_plan, file_plan, from_plan, plan_of, plan_of_reply, plan_of_trial_or_deck}
use Rattle.units_run.specs.Work.{plan_of_work}
use Rattle.units_run.specs.declared.status.Status.{Status}
use Rattle.units_run.specs.declared.status.Status.TheVariants.{Done, Refused, Usage, NoFile, ReadFault, WriteFault}
use Rattle.units_run.specs.declared.status.Status.TheVariants.{NoMemory, InputTooLong}
use Rattle.units_run.proofs.WordPlans.{plan_of_valid_words, run_value_known_for_lesser_need}
use Rattle.units_run.proofs.WordPlans.{run_without_files_fetches_none}
use Rattle.units_run.proofs.PlanRuns.{plan_course, plan_end}
use Rattle.units_run.proofs.Statuses.{unneeded_run_value_may_be_known}

-- with a stated ending all output is there
stated_run_output_is_all : (course : SessionCourse) (wanted ending : Status) (before after : SessionOutside)
    → IsStatedRunEnd ending
    → IsRunOutput course wanted ending before after → (ending ≡ wanted) × IsAllSessionOutput
    (output_of_session_course course) before after
stated_run_output_is_all course wanted Done before after stated left = left
stated_run_output_is_all course wanted Refused before after stated left = left
stated_run_output_is_all course wanted Usage before after stated left = left
stated_run_output_is_all course wanted NoFile before after stated left = left
stated_run_output_is_all course wanted ReadFault before after stated left = absurd stated
stated_run_output_is_all course wanted WriteFault before after stated left = absurd stated
stated_run_output_is_all course wanted NoMemory before after stated left = absurd stated
stated_run_output_is_all course wanted InputTooLong before after stated left = absurd stated

-- the content of a text that is given
run_text_content : (t : Option (List ℕ)) (text : List ℕ) → option_map line_content t ≡ Some text
    → line_content (unwrap_or t []) ≡ text
run_text_content None text e = absurd (none-some text e)
run_text_content (Some t) text e = same_Some (line_content t) text e

run_text_is_given : (t : Option (List ℕ)) (text : List ℕ) → option_map line_content t ≡ Some text → is_some t ≡ true
run_text_is_given None text e = absurd (none-some text e)
run_text_is_given (Some t) text e = refl

-- a FROM without a column needs no input
run_without_column_needs_no_input : (taken trial from check column : Bool) → from ≡ true → column ≡ false
    → ((taken && (not trial && not (from || check))) || (taken && ((not trial && from) && column))) ≡ false
run_without_column_needs_no_input false trial from check column e f = refl
run_without_column_needs_no_input true true from check column e f = refl
run_without_column_needs_no_input true false true check false e f = refl
run_without_column_needs_no_input true false true check true e f = cc
run_without_column_needs_no_input true false false check column e f = cc

-- the reply for a TO that is neither blank nor `?` is that of the conversion
run_reply_is_that_of_conversion : (t : EntryTable) (options : Options) (from to : List ℕ) → is_empty to ≡ false
    → bytes_eq to (codes "?") ≡ false → run_reply_for t options from to ≡ asked_conversion t options from to
run_reply_is_that_of_conversion t options from to some one =
    ap
    (λ (b : Bool). if b then asked_definition t options from
    else if bytes_eq to (codes "?") then asked_conformable t options from
    else asked_conversion t options from to) some
    ∙ ap (λ (b : Bool). if b then asked_conformable t options from else asked_conversion t options from to) one

-- the plan is the work over the definitions in force
plan_over_known_deck : (file : Option (List ℕ)) (line : CommandLine) (settings : Settings) (files : FileMap)
    (deck : DeckContents)
    → run_definitions_in_force file settings files ≡ Ok deck
    → deck_plan file line settings files ≡ plan_of_work line.from line deck files
plan_over_known_deck None line settings files deck is =
    ap (λ (o : Result DeckContents DeckFault). file_plan line [] o files) is
plan_over_known_deck (Some name) line settings files deck is =
    ap (λ (o : Result DeckContents DeckFault). file_plan line name o files) is

module _ (line : CommandLine) (deck : DeckContents) (files : FileMap) (from to : List ℕ) (column : line.column ≡ None)
    (to_is : option_map line_content line.to ≡ Some to) (some : is_empty to ≡ false)
    (one : bytes_eq to (codes "?") ≡ false) where
  work_converted : (f : Option (List ℕ)) → option_map line_content f ≡ Some from
      → plan_of_work f line deck files ≡ plan_of_reply deck
      (asked_conversion (table_of_deck deck) (run_options line) from to)
  work_converted None e = absurd (none-some from e)
  work_converted (Some f) e =
      ap (λ (c : Option ℕ). from_plan c line (line_content f) (line_content (unwrap_or line.to [])) deck) column
      ∙ ap (λ (x : List ℕ).
      plan_of_reply deck (run_reply_for (table_of_deck deck) (run_options line) x
      (line_content (unwrap_or line.to []))))
      (same_Some (line_content f) from e)
      ∙ ap (λ (x : List ℕ). plan_of_reply deck (run_reply_for (table_of_deck deck) (run_options line) from x))
      (run_text_content line.to to to_is)
      ∙ ap (plan_of_reply deck)
      (run_reply_is_that_of_conversion (table_of_deck deck) (run_options line) from to some one)

-- the plan of words that give a conversion
conversion_plan : (words : List (List ℕ)) (vars : NamedTexts) (files : FileMap) (deck : DeckContents) (from to : List ℕ)
    → RunAsksForConversion words vars files deck from to
    → plan_of words vars files
    ≡ plan_of_reply deck (asked_conversion (table_of_deck deck) (run_options (command_line_of words)) from to)
conversion_plan words vars files deck from to asks =
    let line = command_line_of words in
    sym (plan_of_valid_words words vars files line asks.words_taken refl)
    ∙ ap (λ (t : Option ℕ). plan_of_trial_or_deck t line (run_settings line vars) files) asks.trial
    ∙ plan_over_known_deck line.file line (run_settings line vars) files deck asks.definitions
    ∙ work_converted line deck files from to asks.column asks.to_is asks.to_not_empty asks.to_no_question line.from
    asks.from_is

pub run_grants_conversion : ConversionGrantLaw → (words : List (List ℕ)) (vars : NamedTexts) (ending : Status)
    (before after : SessionWorld)
    → IsRun words vars ending before after
    → RunGrantsExactly words vars ending before.files.known_files before.out.bytes_written after.out.bytes_written
run_grants_conversion law words vars ending before after run files deck from to files_if_known asks stated =
    let line = command_line_of words in
    let none : run_needs_input words ≡ false =
    run_without_column_needs_no_input (are_command_words_accepted words) (is_some line.trial) (is_some line.from)
    line.check (is_some line.column)
    (run_text_is_given line.from from asks.from_is) (ap is_some asks.column) in
    let input = unneeded_run_value_may_be_known (run_needs_input words) before.source.input_left [] none in
    let plan = plan_of_reply deck (asked_conversion (table_of_deck deck) (run_options line) from to) in
    let left =
    stated_run_output_is_all (plan_course plan files input.0) (plan_end plan files input.0) ending
    (session_world_outside before)
    (session_world_outside after) stated
    (subst
    (λ (p : Plan). IsPlanOutput p (plan_course p files input.0) (plan_end p files input.0) ending
    (session_world_outside before)
    (session_world_outside after))
    (conversion_plan words vars files deck from to asks) (run.files_after files input.0
    (run_value_known_for_lesser_need (run_needs_files words) (run_fetches_file words input.0) before.files.known_files
    files
    (run_without_files_fetches_none words input.0)
    files_if_known) input.1)) in
    record {
      reply = conversion_reply (table_of_deck deck) (run_options line) from to;
      grants = law deck (run_options line) from to;
      out = left.1.out;
      ending_is = left.0;
    }
