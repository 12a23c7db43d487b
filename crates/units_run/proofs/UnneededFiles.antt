-- Files and input that words do not need.
use Rattle.std.proofs.Common.{◌≡◌, ◌&&◌, ◌||◌, ℕ, List, Bool, true, false, Option, Some, None, Result, Ok, Err}
use Rattle.std.proofs.Common.{refl, sym, ap, subst, ◌∙◌, if◌then◌else◌, is_some, not}
use Rattle.std.proofs.lemmas.Bool.{or_parts}
use Rattle.units_io.specs.FileMap.{FileMap}
use Rattle.units_io.specs.NamedValues.{NamedTexts}
use Rattle.command_line.specs.Fields.{command_line_of}
use Rattle.command_line.specs.AcceptedWords.{are_command_words_accepted}
use Rattle.command_line.specs.declared.fields.CommandLine.{CommandLine}
use Rattle.deck.specs.Decks.{DeckContents}
use Rattle.deck.specs.FileLoads.{deck_after_loading}
use Rattle.deck.specs.declared.fault.DeckFault.{DeckFault}
use Rattle.deck.specs.declared.settings.Settings.{Settings}
use Rattle.units_run.specs.Calls.{run_over}
use Rattle.units_run.specs.Definitions.{run_built_in_deck}
use Rattle.units_run.specs.Needs.{is_run_of_column, is_run_of_session, run_loads_file, run_needs_files, run_needs_input}
use Rattle.units_run.specs.Plans.{IsWholePlan, Plan, Whole, Opened, Columns}
use Rattle.units_run.specs.Settings.{run_settings}
use Rattle.units_run.specs.Work.{deck_plan, file_plan, from_plan, plan_of, plan_of_check, plan_of_session}
use Rattle.units_run.specs.Work.{plan_of_trial_or_deck, plan_of_work}
use Rattle.units_run.proofs.WordPlans.{plan_of_invalid_words, plan_of_valid_words}

-- the plan of work that opens no session is the same over all files
plan_of_work_ignores_files : (from : Option (List ℕ)) (check : Bool) (line : CommandLine) (deck : DeckContents)
    (files others : FileMap)
    → line.check ≡ check → not (is_some from || check) ≡ false
    → plan_of_work from line deck files ≡ plan_of_work from line deck others
plan_of_work_ignores_files (Some from) check line deck files others is none = refl
plan_of_work_ignores_files None true line deck files others is none =
    ap (λ (b : Bool). if b then plan_of_check line deck else plan_of_session line deck files) is
    ∙ sym (ap (λ (b : Bool). if b then plan_of_check line deck else plan_of_session line deck others) is)
plan_of_work_ignores_files None false line deck files others is none = cc

deck_plan_ignores_files : (file : Option (List ℕ)) (line : CommandLine) (settings : Settings) (files others : FileMap)
    → is_some file ≡ false → not (is_some line.from || line.check) ≡ false
    → deck_plan file line settings files ≡ deck_plan file line settings others
deck_plan_ignores_files None line settings files others loads opens =
    plan_of_work_ignores_files line.from line.check line (run_built_in_deck settings) files others refl opens
deck_plan_ignores_files (Some name) line settings files others loads opens = cc

trial_or_deck_plan_ignores_files : (trial : Option ℕ) (line : CommandLine) (settings : Settings)
    (files others : FileMap)
    → ((not (is_some trial) && is_some line.file) || (not (is_some trial) && not (is_some line.from || line.check)))
    ≡ false
    → plan_of_trial_or_deck trial line settings files ≡ plan_of_trial_or_deck trial line settings others
trial_or_deck_plan_ignores_files (Some rounds) line settings files others none = refl
trial_or_deck_plan_ignores_files None line settings files others none =
    deck_plan_ignores_files line.file line settings files others (or_parts _ _ none).0 (or_parts _ _ none).1

plan_ignores_unneeded_files : (taken : Bool) (words : List (List ℕ)) (vars : NamedTexts) (files others : FileMap)
    → are_command_words_accepted words ≡ taken
    → (taken && (run_loads_file (command_line_of words) || is_run_of_session (command_line_of words))) ≡ false
    → plan_of words vars files ≡ plan_of words vars others
plan_ignores_unneeded_files true words vars files others is none =
    let line = command_line_of words in
    sym (plan_of_valid_words words vars files line is refl)
    ∙ trial_or_deck_plan_ignores_files line.trial line (run_settings line vars) files others none
    ∙ plan_of_valid_words words vars others line is refl
plan_ignores_unneeded_files false words vars files others is none =
    sym (plan_of_invalid_words words vars files is) ∙ plan_of_invalid_words words vars others is

-- words that need no file have the same plan over all files
pub plan_is_the_same_over_all_files : (words : List (List ℕ)) (vars : NamedTexts) (files others : FileMap)
    → run_needs_files words ≡ false
    → plan_of words vars files ≡ plan_of words vars others
plan_is_the_same_over_all_files words vars files others none = plan_ignores_unneeded_files
    (are_command_words_accepted words) words vars files others refl none

-- the plan of a reply is whole
from_plan_is_whole : (column : Option ℕ) (line : CommandLine) (from to : List ℕ) (deck : DeckContents)
    → is_some column ≡ false
    → IsWholePlan (from_plan column line from to deck)
from_plan_is_whole None line from to deck none = tt
from_plan_is_whole (Some column) line from to deck none = cc

plan_of_work_is_whole : (from : Option (List ℕ)) (check : Bool) (line : CommandLine) (deck : DeckContents)
    (files : FileMap)
    → line.check ≡ check → not (is_some from || check) ≡ false → (is_some from && is_some line.column) ≡ false
    → IsWholePlan (plan_of_work from line deck files)
plan_of_work_is_whole (Some from) check line deck files is opens converts = from_plan_is_whole line.column line _ _ deck
    converts
plan_of_work_is_whole None true line deck files is opens converts =
    subst (λ (b : Bool). IsWholePlan (if b then plan_of_check line deck else plan_of_session line deck files))
    (sym is) tt
plan_of_work_is_whole None false line deck files is opens converts = cc

file_plan_is_whole : (outcome : Result DeckContents DeckFault) (line : CommandLine) (name : List ℕ) (files : FileMap)
    → not (is_some line.from || line.check) ≡ false → (is_some line.from && is_some line.column) ≡ false
    → IsWholePlan (file_plan line name outcome files)
file_plan_is_whole (Ok deck) line name files opens converts =
    plan_of_work_is_whole line.from line.check line deck files refl opens converts
file_plan_is_whole (Err fault) line name files opens converts = tt

deck_plan_is_whole : (file : Option (List ℕ)) (line : CommandLine) (settings : Settings) (files : FileMap)
    → not (is_some line.from || line.check) ≡ false → (is_some line.from && is_some line.column) ≡ false
    → IsWholePlan (deck_plan file line settings files)
deck_plan_is_whole None line settings files opens converts =
    plan_of_work_is_whole line.from line.check line (run_built_in_deck settings) files refl opens converts
deck_plan_is_whole (Some name) line settings files opens converts =
    file_plan_is_whole (deck_after_loading files name settings) line name files opens converts

trial_or_deck_plan_is_whole : (trial : Option ℕ) (line : CommandLine) (settings : Settings) (files : FileMap)
    → ((not (is_some trial) && not (is_some line.from || line.check))
    || ((not (is_some trial) && is_some line.from) && is_some line.column)) ≡ false
    → IsWholePlan (plan_of_trial_or_deck trial line settings files)
trial_or_deck_plan_is_whole (Some rounds) line settings files none = tt
trial_or_deck_plan_is_whole None line settings files none =
    deck_plan_is_whole line.file line settings files (or_parts _ _ none).0 (or_parts _ _ none).1

plan_without_needed_input_is_whole : (taken : Bool) (words : List (List ℕ)) (vars : NamedTexts) (files : FileMap)
    → are_command_words_accepted words ≡ taken
    → ((taken && is_run_of_session (command_line_of words)) || (taken && is_run_of_column (command_line_of words)))
    ≡ false
    → IsWholePlan (plan_of words vars files)
plan_without_needed_input_is_whole true words vars files is none =
    let line = command_line_of words in
    subst IsWholePlan (plan_of_valid_words words vars files line is refl)
    (trial_or_deck_plan_is_whole line.trial line (run_settings line vars) files none)
plan_without_needed_input_is_whole false words vars files is none =
    subst IsWholePlan (plan_of_invalid_words words vars files is) tt

-- a run that needs no input is completely known before any is read
pub plan_without_input_is_whole : (words : List (List ℕ)) (vars : NamedTexts) (files : FileMap)
    → run_needs_input words ≡ false
    → IsWholePlan (plan_of words vars files)
plan_without_input_is_whole words vars files none = plan_without_needed_input_is_whole
    (are_command_words_accepted words) words vars files refl none

-- a whole plan gives the same run over all input
pub whole_plan_ignores_input : (plan : Plan) (files : FileMap) (input other : List ℕ) (lines others : List (List ℕ))
    → IsWholePlan plan
    → run_over plan files input lines ≡ run_over plan files other others
whole_plan_ignores_input (Whole run) files input other lines others whole = refl
whole_plan_ignores_input (Opened talk) files input other lines others whole = absurd whole
whole_plan_ignores_input (Columns work) files input other lines others whole = absurd whole
