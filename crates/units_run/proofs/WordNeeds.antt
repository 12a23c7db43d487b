-- The needs of some words.
use Rattle.std.proofs.Common.{◌≡◌, ◌&&◌, ◌||◌, ℕ, List, Bool, false, Option, None, ap, ◌∙◌, if◌then◌else◌}
use Rattle.units_io.specs.FetchResults.{file_fetch_answer}
use Rattle.units_io.specs.FileMap.{FileMap, file_of_name}
use Rattle.command_line.specs.Examples.{AreWordsOfCommandLine}
use Rattle.command_line.specs.Fields.{command_line_of}
use Rattle.command_line.specs.AcceptedWords.{are_command_words_accepted}
use Rattle.command_line.specs.declared.fields.CommandLine.{CommandLine}
use Rattle.deck.specs.FileLoads.{deck_after_loading, deck_append_by_answer, empty_deck}
use Rattle.deck.specs.declared.fault.DeckFault.TheVariants.{Absent}
use Rattle.deck.specs.declared.settings.Settings.{Settings}
use Rattle.units_run.specs.Definitions.{no_deck_run_line}
use Rattle.units_run.specs.Examples.{HasRunNeeds}
use Rattle.units_run.specs.Needs.{is_run_of_column, is_run_of_session, run_input_limit, run_loads_file}
use Rattle.units_run.specs.Plans.{complaint_plan}
use Rattle.units_run.specs.Work.{file_plan}
use Rattle.units_run.specs.declared.status.Status.TheVariants.{NoFile}

-- the needs of words, from their command line
pub run_needs_of_command_line : (words : List (List ℕ)) (line : CommandLine) → AreWordsOfCommandLine words line
    → HasRunNeeds words (run_loads_file line || is_run_of_session line)
    (is_run_of_session line || is_run_of_column line)
run_needs_of_command_line words line is =
    let read = command_line_of words in (
      ap (λ (b : Bool). b && (run_loads_file read || is_run_of_session read)) is.0
          ∙ ap (λ (l : CommandLine). run_loads_file l || is_run_of_session l) is.1,
      ap (λ (b : Bool). (b && is_run_of_session read) || (b && is_run_of_column read)) is.0
          ∙ ap (λ (l : CommandLine). is_run_of_session l || is_run_of_column l) is.1,
    )

pub run_needs_of_invalid_words : (words : List (List ℕ)) → are_command_words_accepted words ≡ false
    → HasRunNeeds words false false
run_needs_of_invalid_words words is =
    let read = command_line_of words in (
      ap (λ (b : Bool). b && (run_loads_file read || is_run_of_session read)) is,
      ap (λ (b : Bool). (b && is_run_of_session read) || (b && is_run_of_column read)) is,
    )

-- the limit of the input of words, from their command line
pub run_input_limit_of_command_line : (words : List (List ℕ)) (line : CommandLine) → AreWordsOfCommandLine words line
    → run_input_limit words ≡ (if is_run_of_column line then 16777216 else 4294967296)
run_input_limit_of_command_line words line is =
    ap (λ (b : Bool). if b && is_run_of_column (command_line_of words) then 16777216 else 4294967296) is.0
    ∙ ap (λ (l : CommandLine). if is_run_of_column l then 16777216 else 4294967296) is.1

-- the plan if the definition file is absent
pub plan_for_absent_file : (line : CommandLine) (name : List ℕ) (settings : Settings) (files : FileMap)
    → file_of_name files name ≡ None
    → file_plan line name (deck_after_loading files name settings) files ≡ complaint_plan (no_deck_run_line Absent name)
    NoFile
plan_for_absent_file line name settings files absent =
    ap
    (λ (bytes : Option (List ℕ)).
    file_plan line name (deck_append_by_answer files name (file_fetch_answer bytes) (empty_deck settings))
    files) absent
