-- Some lines and the answers to them, in any session.
use Rattle.std.specs.Prelude.{◌≡◌, ◌+◌, ◌++◌, ◌∷◌, [], ℕ, List, false, true, length, take, drop, Some, None, Ok, Err}
use Rattle.std.specs.Prelude.{codes}
use Rattle.std.specs.FinMap as map_of
use Rattle.units_io.specs.FileMap.{file_of_name, with_file}
use Rattle.def_entry.specs.Keys.{key}
use Rattle.def_entry.specs.declared.key.Kind.TheVariants as kind
use Rattle.deck.specs.Decks.{DeckContents}
use Rattle.deck.specs.Edits.{deck_after_switching}
use Rattle.deck.specs.Tables.{last_definition_place, table_of_deck as table_in}
use Rattle.deck_lines.specs.Limits.{pass_store_limit}
use Rattle.deck_lines.specs.Marks.{plain_store_line}
use Rattle.deck_save.specs.SavedText.{saved_file}
use Rattle.deck_save.specs.declared.fault.SaveFault.TheVariants.{TooLong}
use Rattle.live_table.specs.Calls.{all_settleable_names}
use Rattle.quantity.specs.Amount.{Amount}
use Rattle.reply.specs.Examples.{default_reply_options}
use Rattle.reply.specs.GrantExamples.{reply_example_measures}
use Rattle.reply.specs.Replies.{from_value}
use Rattle.reply.specs.declared.reply.FromValue.TheVariants.{Good}
use Rattle.session.specs.Answers.{SessionAnswer, session_output_answer}
use Rattle.session.specs.DeckEdits.{settings_with_locale, settings_with_variable}
use Rattle.session.specs.HeardLines.{readable_session_line}
use Rattle.session.specs.HistoryLaws.{session_deck}
use Rattle.session.specs.Sessions.{SessionAndFiles}
use Rattle.session.specs.Steps.{session_line_answer}
use Rattle.session.specs.WatchQueries.{is_session_watch_list_full}

-- the answer is a reply on `out`, and nothing changes
abbrev pub IsAnswerWithoutChange : (line : List ℕ) → (reply : List ℕ) → SessionAndFiles → Type 0
IsAnswerWithoutChange line reply state = session_line_answer state line ≡ session_output_answer reply state

-- the deck after a line is answered
abbrev pub deck_after_session_line : SessionAndFiles → (line : List ℕ) → DeckContents
deck_after_session_line state line = session_deck (session_line_answer state line).state_after

-- the answer is this reply, no FROM is pending after it, and the deck is as before
pub record IsAnswerWithNonePending (reply : List ℕ) (given : SessionAnswer) (state : SessionAndFiles) : Type 0 where
  pub out : given.out ≡ reply
  pub err : given.err ≡ []
  pub none_pending : given.state_after.session.pending_from ≡ None
  pub deck : session_deck given.state_after ≡ session_deck state

-- the answer is empty, and this FROM is pending after it
pub record IsFromPendingAfterAnswer (from : List ℕ) (given : SessionAnswer) : Type 0 where
  pub out : given.out ≡ []
  pub from_is_pending : given.state_after.session.pending_from ≡ Some from

-- the reply to a line as TO of this FROM, over the definitions of the examples of replies
abbrev pub ConvertsPendingFrom : (from line reply : List ℕ) → Type 0
ConvertsPendingFrom from line reply =
    (state : SessionAndFiles) → table_in (session_deck state) ≡ reply_example_measures
    → state.session.options ≡ default_reply_options
    → state.session.pending_from ≡ Some from → IsAnswerWithNonePending reply (session_line_answer state line) state

pub record AnswerExamples : Type 0 where
  pub quit : (state : SessionAndFiles) → IsAnswerWithoutChange (codes "quit") [] state
  pub blank_line : (state : SessionAndFiles) → state.session.pending_from ≡ None
      → IsAnswerWithoutChange (codes " # no text") [] state
  pub long : (state : SessionAndFiles) (line : List ℕ) → readable_session_line line ≡ None
      → IsAnswerWithoutChange line (codes "line too long\n") state
  -- lines that are refused
  pub unknown_command : (state : SessionAndFiles) → IsAnswerWithoutChange (codes ":exit")
      (codes "unknown command: :exit\n") state
  pub bad : (state : SessionAndFiles) → IsAnswerWithoutChange (codes ":set SYSTEM") (codes "bad command: :set\n") state
  pub no_key : (state : SessionAndFiles) → IsAnswerWithoutChange (codes ":drop") (codes "bad command: :drop\n") state
  pub no_such_key : (state : SessionAndFiles)
      → last_definition_place (session_deck state).settings (session_deck state).lines
      (key kind.Prefix (codes "k")) ≡ None
      → IsAnswerWithoutChange (codes ":drop k-") (codes "no such definition: k-\n") state
  pub bad_form : (state : SessionAndFiles) → IsAnswerWithoutChange (codes ":define m") (codes "bad definition\n") state
  pub bad_name : (state : SessionAndFiles) → IsAnswerWithoutChange (codes ":define 1a m") (codes "bad name: 1a\n") state
  pub deck_full : (state : SessionAndFiles)
      → pass_store_limit ((session_deck state).lines ++ plain_store_line 0 (codes "m !") ∷ []) ≡ true
      → IsAnswerWithoutChange (codes ":define m !") (codes "deck full\n") state
  pub no_undo : (state : SessionAndFiles) → state.session.versions.past ≡ []
      → IsAnswerWithoutChange (codes ":undo") (codes "nothing to undo\n") state
  pub no_redo : (state : SessionAndFiles) → state.session.versions.future ≡ []
      → IsAnswerWithoutChange (codes ":redo") (codes "nothing to redo\n") state
  pub no_file : (state : SessionAndFiles) → file_of_name state.files (codes "my units") ≡ None
      → IsAnswerWithoutChange (codes ":load my units") (codes "no file: my units\n") state
  pub too_long : (state : SessionAndFiles) → saved_file (session_deck state) ≡ Err TooLong
      → IsAnswerWithoutChange (codes ":save mine") (codes "file too long: mine\n") state
  pub many_watches : (state : SessionAndFiles) → is_session_watch_list_full state.session.watched_pairs ≡ true
      → IsAnswerWithoutChange (codes ":watch ft ; m") (codes "too many watches\n") state
  -- a FROM that has a value: its text is pending, not the value
  pub from_line : (state : SessionAndFiles) (x : Amount) → state.session.pending_from ≡ None
      → from_value (table_in (session_deck state)) state.session.options (codes "2 km") ≡ Good x
      → IsFromPendingAfterAnswer (codes "2 km") (session_line_answer state (codes " 2 km"))
  -- conversions that succeed, and one of units that do not conform
  pub linear : ConvertsPendingFrom (codes "2 km") (codes " yards # far") (codes "\t* 2187.2266\n\t/ 0.0004572\n")
  pub reciprocal : ConvertsPendingFrom (codes "2 Hz") (codes "s") (codes "\treciprocal conversion\n\t* 0.5\n\t/ 2\n")
  pub unlike : ConvertsPendingFrom (codes "m") (codes "s") (codes "conformability error\n\t1 m\n\t1 s\n")
  -- edits
  pub define : (state : SessionAndFiles)
      → pass_store_limit ((session_deck state).lines ++ plain_store_line 0 (codes "m !") ∷ []) ≡ false
      → (deck_after_session_line state (codes ":define m !")).lines
      ≡ (session_deck state).lines ++ plain_store_line 0 (codes "m !") ∷ []
  pub drop_last : (state : SessionAndFiles) (place : ℕ)
      → last_definition_place (session_deck state).settings (session_deck state).lines
      (key kind.Prefix (codes "k")) ≡ Some place
      → (deck_after_session_line state (codes ":drop k-")).lines
      ≡ take place (session_deck state).lines ++ drop (place + 1) (session_deck state).lines
  pub set : (state : SessionAndFiles) → deck_after_session_line state (codes ":set SYSTEM us")
      ≡ deck_after_switching (settings_with_variable (session_deck state).settings (codes "SYSTEM") (codes "us"))
      (session_deck state)
  pub locale : (state : SessionAndFiles) → deck_after_session_line state (codes ":locale en_GB")
      ≡ deck_after_switching (settings_with_locale (session_deck state).settings (codes "en_GB")) (session_deck state)
  -- lines that edit nothing: four of seven names are settled, after six reductions
  pub stats : (state : SessionAndFiles) → map_of.len state.session.table.kept_outcomes ≡ 4
      → length (all_settleable_names (table_in (session_deck state))) ≡ 7 → state.session.table.reductions ≡ 6
      → IsAnswerWithoutChange (codes ":stats") (codes "settled 4 of 7, reductions 6\n") state
  pub save : (state : SessionAndFiles) (text : List ℕ) → saved_file (session_deck state) ≡ Ok text
      → session_line_answer state (codes ":save mine") ≡ record {
        out = [];
        err = [];
        newly = 0;
        state_after = record { session = state.session; files = with_file state.files (codes "mine") text };
      }
  pub unwatch : (state : SessionAndFiles)
      → (session_line_answer state (codes ":unwatch")).state_after.session.watched_pairs ≡ []
