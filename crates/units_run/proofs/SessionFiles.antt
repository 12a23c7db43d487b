-- The files of a planned session.
use Rattle.std.proofs.Common.{◌≡◌, [], ℕ, List, Bool, true, false, Option, Some, None, Result, Ok, Err, refl}
use Rattle.std.proofs.Common.{if◌then◌else◌, unwrap_or}
use Rattle.std.specs.Prelude.{⊤}
use Rattle.units_io.specs.FileMap.{FileMap}
use Rattle.units_io.specs.NamedValues.{NamedTexts}
use Rattle.command_line.specs.AcceptedWords.{are_command_words_accepted}
use Rattle.command_line.specs.Fields.{command_line_of}
use Rattle.command_line.specs.Usage.{usage_text}
use Rattle.command_line.specs.declared.fields.CommandLine.{CommandLine}
use Rattle.deck.specs.Decks.{DeckContents}
use Rattle.deck.specs.FileLoads.{deck_after_loading}
use Rattle.deck.specs.declared.fault.DeckFault.{DeckFault}
use Rattle.deck.specs.declared.settings.Settings.{Settings}
use Rattle.def_lines.specs.Lines.{line_content}
use Rattle.units_run.specs.Definitions.{run_built_in_deck}
use Rattle.units_run.specs.Plans.{Plan, Whole, Opened, Columns, complaint_plan}
use Rattle.units_run.specs.Settings.{run_settings}
use Rattle.units_run.specs.Work.{deck_plan, file_plan, from_plan, line_plan, plan_of, plan_of_session}
use Rattle.units_run.specs.Work.{plan_of_trial_or_deck, plan_of_check, plan_of_work}
use Rattle.units_run.specs.declared.status.Status.TheVariants.{Usage}

-- a planned session uses these files
abbrev pub SeesFiles : Plan → FileMap → Type 0
SeesFiles (Whole run) files = ⊤
SeesFiles (Opened talk) files = talk.state.files ≡ files
SeesFiles (Columns work) files = ⊤

plan_of_work_sees_files : (from : Option (List ℕ)) (line : CommandLine) (deck : DeckContents) (files : FileMap)
    → SeesFiles (plan_of_work from line deck files) files
plan_of_work_sees_files (Some from) line deck files = by line.column
  where
    by : (column : Option ℕ)
        → SeesFiles (from_plan column line (line_content from) (line_content (unwrap_or line.to [])) deck) files
    by None = tt
    by (Some column) = tt
plan_of_work_sees_files None line deck files = by line.check
  where
    by : (check : Bool) → SeesFiles (if check then plan_of_check line deck else plan_of_session line deck files) files
    by true = tt
    by false = refl

file_plan_sees_files : (outcome : Result DeckContents DeckFault) (line : CommandLine) (name : List ℕ) (files : FileMap)
    → SeesFiles (file_plan line name outcome files) files
file_plan_sees_files (Ok deck) line name files = plan_of_work_sees_files line.from line deck files
file_plan_sees_files (Err fault) line name files = tt

deck_plan_sees_files : (file : Option (List ℕ)) (line : CommandLine) (settings : Settings) (files : FileMap)
    → SeesFiles (deck_plan file line settings files) files
deck_plan_sees_files None line settings files = plan_of_work_sees_files line.from line (run_built_in_deck settings)
    files
deck_plan_sees_files (Some name) line settings files = file_plan_sees_files (deck_after_loading files name settings)
    line name files

trial_or_deck_plan_sees_files : (rounds : Option ℕ) (line : CommandLine) (settings : Settings) (files : FileMap)
    → SeesFiles (plan_of_trial_or_deck rounds line settings files) files
trial_or_deck_plan_sees_files (Some rounds) line settings files = tt
trial_or_deck_plan_sees_files None line settings files = deck_plan_sees_files line.file line settings files

-- the files of the run are those of its session
pub plan_sees : (words : List (List ℕ)) (vars : NamedTexts) (files : FileMap)
    → SeesFiles (plan_of words vars files) files
unfolding plan_of
plan_sees words vars files = by (are_command_words_accepted words)
  where
    by : (taken : Bool)
        → SeesFiles (if taken then line_plan (command_line_of words) vars files else complaint_plan usage_text Usage)
        files
    by true =
        let line = command_line_of words in
        trial_or_deck_plan_sees_files line.trial line (run_settings line vars) files
    by false = tt
