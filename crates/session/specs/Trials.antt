-- A trial: a session over generated definitions and generated lines.
use Rattle.std.specs.Prelude.{◌++◌, ◌+◌, [], ℕ, List, None, true, length, codes}
use Rattle.units_io.specs.FileMap.{no_files_in_map}
use Rattle.deck.specs.Decks.{DeckContents}
use Rattle.deck.specs.declared.settings.Settings.{Settings}
use Rattle.live_table.specs.TableView.{LiveView}
use Rattle.reply.specs.declared.options.Options.{Options}
use Rattle.session.specs.TableCounts.{session_count_text, session_statistics}
use Rattle.session.specs.Queries.{fresh_session_table}
use Rattle.session.specs.Sessions.{SessionState, session_and_files, session_of}
use Rattle.session.specs.Talks.{SessionTrace, talk_over_input}
use Rattle.session.specs.TextDecks.{text_deck}
use Rattle.session.specs.TrialLines.{trial_definitions, trial_rounds_text}
use Rattle.session.specs.Versions.{no_session_versions}

-- a talk without output, of a session that uses no files
abbrev pub silent_talk : SessionState → SessionTrace
silent_talk session = record { out = []; err = []; steps = 0; state = session_and_files session no_files_in_map }

-- a quiet session over a deck in which no name is settled
abbrev pub quiet_trial_session : Options → DeckContents → SessionState
quiet_trial_session options deck =
    session_of (record options { quiet = true }) (fresh_session_table deck) None no_session_versions []

-- the summary of a trial, and the number of names that it settled
pub record Trial : Type 0 where
  pub text : List ℕ
  pub steps : ℕ

-- the summary of n rounds whose replies have `bytes` bytes and which left this table
abbrev pub trial_summary : (n bytes : ℕ) → LiveView → List ℕ
trial_summary n bytes table =
    (((codes "definitions " ++ session_count_text (n + 1) (codes ", edits ")) ++ session_count_text n
    (codes ", reply bytes "))
    ++ session_count_text bytes (codes ", ")) ++ session_statistics table

abbrev pub trial_over : Options → ℕ → DeckContents → Trial
trial_over options n deck =
    let talk = talk_over_input (silent_talk (quiet_trial_session options deck)) (trial_rounds_text n n) in
    record { text = trial_summary n (length talk.out) talk.state.session.table; steps = talk.steps }

-- the deck of a trial
abbrev pub trial_deck : Settings → ℕ → DeckContents
trial_deck settings n = text_deck (codes "trial") (trial_definitions n) settings

-- a trial of n rounds
unfoldable pub trial_session : Options → Settings → ℕ → Trial
trial_session options settings n = trial_over options n (trial_deck settings n)
