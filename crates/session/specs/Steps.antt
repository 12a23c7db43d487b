-- One step of a session: the answer to a line.
use Rattle.std.specs.Prelude.{ℕ, List, [], Option, Some, None, codes}
use Rattle.deck.specs.FileLoads.{deck_after_appending}
use Rattle.deck.specs.Tables.{table_of_deck as table_in}
use Rattle.deck_save.specs.SavedText.{saved_file}
use Rattle.reply.specs.Replies.{from_value}
use Rattle.survey.specs.ConversionReplies.{asked_conformable, asked_conversion, asked_definition}
use Rattle.survey.specs.Searches.{search_report}
use Rattle.session.specs.Answers.{SessionAnswer, session_edit_answer, session_output_answer, session_query_answer}
use Rattle.session.specs.Answers.{session_save_answer, session_unwatch_answer, session_watch_answer}
use Rattle.session.specs.TextQueries.{pending_from_of_text, pending_from_query}
use Rattle.session.specs.Commands.{Command, Blank, Quit, Conformable, Search, Edit, Load, Save, Watch, Unwatch, Stats}
use Rattle.session.specs.Commands.{Unknown, Bad, Expression, session_command_of_line}
use Rattle.session.specs.TableCounts.{session_statistics}
use Rattle.session.specs.DeckEdits.{notice_lines}
use Rattle.session.specs.EditResults.{session_edit_result, session_result_of_edit}
use Rattle.session.specs.HeardLines.{readable_session_line}
use Rattle.session.specs.Lines.{session_line_with_word}
use Rattle.session.specs.Sessions.{SessionAndFiles, session_table_and_versions}
use Rattle.session.specs.WatchQueries.{is_session_watch_list_full}
use Rattle.watch.specs.WatchViews.{watch_subject}

-- the answer to a text as FROM: its fault, or else the text becomes the pending FROM
abbrev pub pending_from_answer : (text : List ℕ) → SessionAndFiles → SessionAnswer
pending_from_answer text state =
    let table = table_in state.session.table.deck in
    let options = state.session.options in
    session_query_answer (pending_from_query table options text)
    (pending_from_of_text (from_value table options text) text) state

abbrev pub session_blank_answer : (pending : Option (List ℕ)) → SessionAndFiles → SessionAnswer
session_blank_answer None state = session_output_answer [] state
session_blank_answer (Some from) state =
    session_query_answer (asked_definition (table_in state.session.table.deck) state.session.options from) None state

abbrev pub session_conformable_answer : (pending : Option (List ℕ)) → SessionAndFiles → SessionAnswer
session_conformable_answer None state = pending_from_answer (codes "?") state
session_conformable_answer (Some from) state =
    session_query_answer (asked_conformable (table_in state.session.table.deck) state.session.options from)
    (Some from) state

abbrev pub session_expression_answer : (pending : Option (List ℕ)) → (text : List ℕ) → SessionAndFiles → SessionAnswer
session_expression_answer None text state = pending_from_answer text state
session_expression_answer (Some from) text state =
    session_query_answer (asked_conversion (table_in state.session.table.deck) state.session.options from text) None
    state

-- the answer to a command
unfoldable pub session_answer_to : SessionAndFiles → Command → SessionAnswer
session_answer_to state Blank = session_blank_answer state.session.pending_from state
session_answer_to state Quit = session_output_answer [] state
session_answer_to state Conformable = session_conformable_answer state.session.pending_from state
session_answer_to state (Search text) = session_output_answer (search_report (table_in state.session.table.deck) text)
    state
session_answer_to state (Edit edit) =
    session_edit_answer (session_result_of_edit edit (session_table_and_versions state.session)) [] state
session_answer_to state (Load name) =
    let outcome = deck_after_appending state.files name state.session.table.deck in
    session_edit_answer (session_edit_result outcome name (session_table_and_versions state.session))
    (notice_lines outcome) state
session_answer_to state (Save name) = session_save_answer (saved_file state.session.table.deck) name state
session_answer_to state (Watch from to) = session_watch_answer (is_session_watch_list_full state.session.watched_pairs)
    (watch_subject from to) state
session_answer_to state Unwatch = session_unwatch_answer state
session_answer_to state Stats = session_output_answer (session_statistics state.session.table) state
session_answer_to state (Unknown word) = session_output_answer (session_line_with_word (codes "unknown command: ") word)
    state
session_answer_to state (Bad word) = session_output_answer (session_line_with_word (codes "bad command: ") word) state
session_answer_to state (Expression text) = session_expression_answer state.session.pending_from text state

-- the answer to a line as it was read, which may be too long
abbrev pub session_answer_to_read_line : SessionAndFiles → Option (List ℕ) → SessionAnswer
session_answer_to_read_line state None = session_output_answer (codes "line too long\n") state
session_answer_to_read_line state (Some line) = session_answer_to state (session_command_of_line line)

-- the answer to a line
abbrev pub session_line_answer : SessionAndFiles → (line : List ℕ) → SessionAnswer
session_line_answer state line = session_answer_to_read_line state (readable_session_line line)
