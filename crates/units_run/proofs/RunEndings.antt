-- The ways in which a run may end, from its words.
use Rattle.std.proofs.Common.{◌≡◌, ◌&&◌, ◌||◌, ℕ, List, Bool, true, false, Option, Some, None, Result, Ok, Err}
use Rattle.std.proofs.Common.{refl, sym, subst, if◌then◌else◌, is_some, not}
use Rattle.units_io.specs.FileMap.{FileMap}
use Rattle.units_io.specs.NamedValues.{NamedTexts}
use Rattle.command_line.specs.Fields.{command_line_of}
use Rattle.command_line.specs.AcceptedWords.{are_command_words_accepted}
use Rattle.command_line.specs.declared.fields.CommandLine.{CommandLine}
use Rattle.deck.specs.Decks.{DeckContents}
use Rattle.deck.specs.FileLoads.{deck_after_loading}
use Rattle.deck.specs.declared.fault.DeckFault.{DeckFault}
use Rattle.deck.specs.declared.settings.Settings.{Settings}
use Rattle.units_run.specs.Calls.{run_over}
use Rattle.units_run.specs.Definitions.{run_built_in_deck}
use Rattle.units_run.specs.Endings.{RunMayEnd}
use Rattle.units_run.specs.Needs.{is_run_of_session, run_loads_file}
use Rattle.units_run.specs.Plans.{Plan}
use Rattle.units_run.specs.Settings.{run_settings}
use Rattle.units_run.specs.Work.{deck_plan, file_plan, from_plan, plan_of, plan_of_check, plan_of_session}
use Rattle.units_run.specs.Work.{plan_of_trial_or_deck, plan_of_work}
use Rattle.units_run.specs.declared.status.Status.TheVariants.{Done, Refused}
use Rattle.units_run.proofs.WordPlans.{plan_of_invalid_words, plan_of_valid_words}

-- a run that opens no session may end with `Refused`
refused_run_may_end : (file refused : Bool) → RunMayEnd true file false (if refused then Refused else Done)
refused_run_may_end file true = refl
refused_run_may_end file false = tt

check_run_may_end : (file none : Bool) → RunMayEnd true file false (if none then Done else Refused)
check_run_may_end file true = tt
check_run_may_end file false = refl

module _ (files : FileMap) (input : List ℕ) (lines : List (List ℕ)) where
  -- the ending of a plan
  abbrev Ends : (file session : Bool) → Plan → Type 0
  Ends file session plan = RunMayEnd true file session (run_over plan files input lines).status

  from_ends : (file : Bool) (column : Option ℕ) (line : CommandLine) (from to : List ℕ) (deck : DeckContents)
      → Ends file false (from_plan column line from to deck)
  from_ends file None line from to deck = refused_run_may_end file _
  from_ends file (Some column) line from to deck = refused_run_may_end file _

  work_ends : (file : Bool) (from : Option (List ℕ)) (check : Bool) (line : CommandLine) (deck : DeckContents)
      (m : FileMap) → line.check ≡ check → Ends file (not (is_some from || check)) (plan_of_work from line deck m)
  work_ends file (Some from) check line deck m is = from_ends file line.column line _ _ deck
  work_ends file None true line deck m is =
      subst (λ (b : Bool). Ends file false (if b then plan_of_check line deck else plan_of_session line deck m))
      (sym is)
      (check_run_may_end file _)
  work_ends file None false line deck m is =
      subst (λ (b : Bool). Ends file true (if b then plan_of_check line deck else plan_of_session line deck m))
      (sym is) tt

  file_ends : (outcome : Result DeckContents DeckFault) (line : CommandLine) (name : List ℕ) (m : FileMap)
      → Ends true (not (is_some line.from || line.check)) (file_plan line name outcome m)
  file_ends (Ok deck) line name m = work_ends true line.from line.check line deck m refl
  file_ends (Err fault) line name m = refl

  deck_ends : (file : Option (List ℕ)) (line : CommandLine) (settings : Settings) (m : FileMap)
      → Ends (is_some file) (not (is_some line.from || line.check)) (deck_plan file line settings m)
  deck_ends None line settings m = work_ends false line.from line.check line (run_built_in_deck settings) m refl
  deck_ends (Some name) line settings m = file_ends (deck_after_loading m name settings) line name m

  plan_ends : (trial : Option ℕ) (line : CommandLine) (settings : Settings) (m : FileMap)
      → Ends (not (is_some trial) && is_some line.file)
      (not (is_some trial) && not (is_some line.from || line.check)) (plan_of_trial_or_deck trial line settings m)
  plan_ends (Some rounds) line settings m = tt
  plan_ends None line settings m = deck_ends line.file line settings m

  -- the endings of valid words, and of words that are not
  pub words_end : (taken : Bool) (words : List (List ℕ)) (vars : NamedTexts) (m : FileMap)
      → are_command_words_accepted words ≡ taken
      → RunMayEnd taken (run_loads_file (command_line_of words)) (taken && is_run_of_session (command_line_of words))
      (run_over (plan_of words vars m) files input lines).status
  words_end true words vars m is =
      let line = command_line_of words in
      subst (Ends (run_loads_file line) (is_run_of_session line)) (plan_of_valid_words words vars m line is refl)
      (plan_ends line.trial line (run_settings line vars) m)
  words_end false words vars m is =
      let line = command_line_of words in
      subst
      (λ (plan : Plan). RunMayEnd false (run_loads_file line) false (run_over plan files input lines).status)
      (plan_of_invalid_words words vars m is) refl
