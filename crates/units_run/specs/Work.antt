-- The work that the words ask for: the usage line, a trial, a reply, a report, or a session.
use Rattle.std.specs.Prelude.{◌++◌, ℕ, List, [], Option, Some, None, Result, Ok, Err, if◌then◌else◌, unwrap_or}
use Rattle.units_io.specs.FileMap.{FileMap}
use Rattle.units_io.specs.NamedValues.{NamedTexts}
use Rattle.def_lines.specs.Words.{is_empty}
use Rattle.command_line.specs.AcceptedWords.{are_command_words_accepted}
use Rattle.command_line.specs.Fields.{command_line_of}
use Rattle.command_line.specs.Usage.{usage_text}
use Rattle.command_line.specs.declared.fields.CommandLine.{CommandLine}
use Rattle.deck.specs.Decks.{DeckContents}
use Rattle.deck.specs.FileLoads.{deck_after_loading}
use Rattle.deck.specs.Tables.{table_of_deck}
use Rattle.deck.specs.declared.fault.DeckFault.{DeckFault}
use Rattle.deck.specs.declared.settings.Settings.{Settings}
use Rattle.reply.specs.Options.{reply_style}
use Rattle.def_lines.specs.Lines.{line_content}
use Rattle.session.specs.Lines.{session_lines_of_texts}
use Rattle.session.specs.Queries.{fresh_session_table, names_settled_in_session}
use Rattle.session.specs.Sessions.{session_and_files, session_of}
use Rattle.session.specs.Talks.{opened_talk}
use Rattle.session.specs.Trials.{Trial, trial_session}
use Rattle.session.specs.Versions.{no_session_versions}
use Rattle.survey.specs.ConversionReplies.{SurveyedReply}
use Rattle.survey.specs.Checks.{check_report, check_queries}
use Rattle.units_run.specs.CommandReply.{run_reply_for}
use Rattle.units_run.specs.Definitions.{no_deck_run_line, run_built_in_deck}
use Rattle.units_run.specs.Options.{run_options}
use Rattle.units_run.specs.Plans.{Plan, Whole, Opened, Columns, complaint_plan}
use Rattle.units_run.specs.Settings.{run_settings}
use Rattle.units_run.specs.declared.status.Status.TheVariants.{Done, Refused, Usage, NoFile}

-- a reply on `out`, with the notices on `err`
abbrev pub plan_of_reply : DeckContents → SurveyedReply → Plan
plan_of_reply deck asked = Whole (record {
  out = asked.reply.text;
  err = session_lines_of_texts deck.notices;
  steps = names_settled_in_session asked.queries (fresh_session_table deck);
  status = if asked.reply.refused then Refused else Done;
})

-- the check report, which begins with the notices
abbrev pub planned_check_lines : CommandLine → DeckContents → List ℕ
planned_check_lines line deck = session_lines_of_texts deck.notices ++ check_report (table_of_deck deck)
    (reply_style (run_options line))

-- the plan of a check report, which is on `out`; if it has any line, the status is `Refused`
abbrev pub plan_of_check : CommandLine → DeckContents → Plan
plan_of_check line deck = Whole (record {
  out = planned_check_lines line deck;
  err = [];
  steps = names_settled_in_session (check_queries (table_of_deck deck)) (fresh_session_table deck);
  status = if is_empty (planned_check_lines line deck) then Done else Refused;
})

-- a session over a deck
abbrev pub plan_of_session : CommandLine → DeckContents → FileMap → Plan
plan_of_session line deck files =
    Opened (opened_talk (session_and_files
    (session_of (run_options line) (fresh_session_table deck) None no_session_versions []) files))

-- the plan for FROM: its reply, or the conversion of the column with this number
abbrev pub from_plan : (column : Option ℕ) → CommandLine → (from to : List ℕ) → DeckContents → Plan
from_plan None line from to deck = plan_of_reply deck (run_reply_for (table_of_deck deck) (run_options line) from to)
from_plan (Some column) line from to deck = Columns (record {
  deck = deck;
  options = run_options line;
  from = from;
  to = to;
  column = column;
  header = line.header;
  err = session_lines_of_texts deck.notices;
})

-- the plan over a deck: the reply to FROM or the conversion of a column, the check, or a session
abbrev pub plan_of_work : (from : Option (List ℕ)) → CommandLine → DeckContents → FileMap → Plan
plan_of_work (Some from) line deck files =
    from_plan line.column line (line_content from) (line_content (unwrap_or line.to [])) deck
plan_of_work None line deck files = if line.check then plan_of_check line deck else plan_of_session line deck files

-- the plan over the file of this name, which may give no deck
abbrev pub file_plan : CommandLine → (name : List ℕ) → Result DeckContents DeckFault → FileMap → Plan
file_plan line name (Ok deck) files = plan_of_work line.from line deck files
file_plan line name (Err fault) files = complaint_plan (no_deck_run_line fault name) NoFile

-- the plan over the definition file, or over the built-in text if none is named
abbrev pub deck_plan : (file : Option (List ℕ)) → CommandLine → Settings → FileMap → Plan
deck_plan None line settings files = plan_of_work line.from line (run_built_in_deck settings) files
deck_plan (Some name) line settings files = file_plan line name (deck_after_loading files name settings) files

-- the plan with the summary of a trial
abbrev pub trial_plan : Trial → Plan
trial_plan trial_session =
    Whole (record { out = trial_session.text; err = []; steps = trial_session.steps; status = Done })

-- the plan of a trial, or of work on a deck
abbrev pub plan_of_trial_or_deck : (rounds : Option ℕ) → CommandLine → Settings → FileMap → Plan
plan_of_trial_or_deck (Some rounds) line settings files = trial_plan (trial_session (run_options line) settings rounds)
plan_of_trial_or_deck None line settings files = deck_plan line.file line settings files

-- the plan of a command line
abbrev pub line_plan : CommandLine → NamedTexts → FileMap → Plan
line_plan line vars files = plan_of_trial_or_deck line.trial line (run_settings line vars) files

-- the plan of the words
unfoldable pub plan_of : (words : List (List ℕ)) → (vars : NamedTexts) → FileMap → Plan
plan_of words vars files =
    if are_command_words_accepted words then line_plan (command_line_of words) vars files else complaint_plan usage_text
    Usage
