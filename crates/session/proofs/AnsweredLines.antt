-- The examples of answers to lines.
use Rattle.std.proofs.Common.{◌≡◌, ◌∙◌, ◌++◌, [], length, refl, ap, Bool, ℕ, List, Option, Some, None, Ok, Err}
use Rattle.std.proofs.Common.{if◌then◌else◌, codes}
use Rattle.std.specs.FinMap as map_of
use Rattle.std.specs.Fmt.{digits}
use Rattle.units_io.specs.FetchResults.{file_fetch_answer}
use Rattle.def_entry.specs.Forms.{form_of}
use Rattle.def_entry.specs.Headings.{heading_of_line}
use Rattle.def_entry.specs.Keys.{key_of_spelling}
use Rattle.def_entry.specs.EntryReading.{what_of}
use Rattle.def_entry.specs.Tables.{EntryTable}
use Rattle.def_lines.specs.Blanks.{trimmed_of_blanks}
use Rattle.def_lines.specs.Kinds.{kind_of_line}
use Rattle.def_lines.specs.Lines.{line_content}
use Rattle.deck.specs.Edits.{deck_with_line, deck_without_some_line}
use Rattle.deck.specs.FileLoads.{deck_append_by_answer}
use Rattle.deck.specs.Tables.{table_of_deck as table_in}
use Rattle.deck.specs.declared.fault.DeckFault.TheVariants.{DeckFull}
use Rattle.live_table.specs.Calls.{all_settleable_names}
use Rattle.quantity.specs.Amount.{Amount}
use Rattle.reply.specs.Conversions.{conversion}
use Rattle.reply.specs.Examples.{default_reply_options}
use Rattle.reply.specs.GrantExamples.{ConversionExamplesLaw, reply_example_measures}
use Rattle.reply.specs.Options.{reply_form as reply_form}
use Rattle.reply.specs.Replies.{conversion_reply, conversion_result_as_reply, from_value}
use Rattle.reply.specs.declared.options.Options.{Options}
use Rattle.reply.specs.declared.reply.FromValue.{FromValue}
use Rattle.reply.specs.declared.reply.FromValue.TheVariants.{Good}
use Rattle.reply.specs.declared.reply.Reply.{Reply}
use Rattle.session.specs.AnswerExamples.{AnswerExamples, IsAnswerWithNonePending, IsFromPendingAfterAnswer}
use Rattle.session.specs.Answers.{session_edit_answer, session_output_answer, session_save_answer, session_watch_answer}
use Rattle.session.specs.TextQueries.{pending_from_of_text, pending_from_reply}
use Rattle.session.specs.Commands.{colon_command, session_command_in_text}
use Rattle.session.specs.TableCounts.{session_count_text, session_statistics}
use Rattle.session.specs.EditResults.{session_edit_result, session_undo_redo_result}
use Rattle.session.specs.DeckEdits.{notice_lines}
use Rattle.session.specs.HeardLines.{readable_session_line}
use Rattle.session.specs.HistoryLaws.{session_deck}
use Rattle.session.specs.Queries.{session_table_after_events}
use Rattle.session.specs.Sessions.{SessionAndFiles, session_table_and_versions}
use Rattle.session.specs.Steps.{session_answer_to, session_answer_to_read_line, session_blank_answer}
use Rattle.session.specs.Steps.{session_expression_answer}
use Rattle.session.specs.Versions.{session_timeline}
use Rattle.edit_history.specs.Timelines.{timeline_redone_to, timeline_undone_to}
use Rattle.watch.specs.WatchViews.{watch_subject}

-- the reply depends only on the texts of FROM and TO without the blanks at their ends
session_reply_ignores_end_blanks : (table : EntryTable) (options : Options) (from to same : List ℕ)
    → trimmed_of_blanks to ≡ trimmed_of_blanks same
    → conversion_reply table options from to ≡ conversion_reply table options from same
session_reply_ignores_end_blanks table options from to same e =
    ap (λ (text : List ℕ). conversion_result_as_reply (reply_form options) (trimmed_of_blanks from) text
    (conversion table options (trimmed_of_blanks from) text).answer) e

-- the answer to a text as TO, from the reply over the definitions of the examples
pending_from_is_converted : (from text : List ℕ) (reply : Reply)
    → conversion_reply reply_example_measures default_reply_options from text ≡ reply
    → (state : SessionAndFiles) → table_in (session_deck state) ≡ reply_example_measures
    → state.session.options ≡ default_reply_options
    → state.session.pending_from ≡ Some from
    → IsAnswerWithNonePending reply.text (session_expression_answer state.session.pending_from text state) state
unfolding session_table_after_events
pending_from_is_converted from text reply gives state table options pending = record {
  out = ap (λ (p : Option (List ℕ)). (session_expression_answer p text state).out) pending
      ∙ ap (λ (t : EntryTable). (conversion_reply t state.session.options from text).text) table
      ∙ ap (λ (o : Options). (conversion_reply reply_example_measures o from text).text) options
      ∙ ap (λ (r : Reply). r.text) gives;
  err = ap (λ (p : Option (List ℕ)). (session_expression_answer p text state).err) pending;
  none_pending = ap (λ (p : Option (List ℕ)). (session_expression_answer p text state).state_after.session.pending_from)
      pending;
  deck = ap (λ (p : Option (List ℕ)). session_deck (session_expression_answer p text state).state_after) pending;
}

-- a text becomes the pending FROM, if it has a value
expression_becomes_pending : (text : List ℕ) (state : SessionAndFiles) (x : Amount) → state.session.pending_from ≡ None
    → from_value (table_in (session_deck state)) state.session.options text ≡ Good x
    → IsFromPendingAfterAnswer text (session_expression_answer state.session.pending_from text state)
expression_becomes_pending text state x none good = record {
  out = ap (λ (p : Option (List ℕ)). (session_expression_answer p text state).out) none
      ∙ ap (λ (v : FromValue). (pending_from_reply v).text) good;
  from_is_pending = ap (λ (p : Option (List ℕ)).
      (session_expression_answer p text state).state_after.session.pending_from) none
      ∙ ap (λ (v : FromValue). pending_from_of_text v text) good;
}

-- the three counts of `:stats`
abbrev counts_text : (settled names reductions : ℕ) → List ℕ
counts_text settled names reductions =
    ((codes "settled " ++ session_count_text settled (codes " of ")) ++ session_count_text names
    (codes ", reductions "))
    ++ session_count_text reductions (codes "\n")

session_statistics_example : (state : SessionAndFiles) → map_of.len state.session.table.kept_outcomes ≡ 4
    → length (all_settleable_names (table_in (session_deck state))) ≡ 7 → state.session.table.reductions ≡ 6
    → session_statistics state.session.table ≡ codes "settled 4 of 7, reductions 6\n"
unfolding session_statistics digits
session_statistics_example state settled names reductions =
    let table = state.session.table in
    ap (λ (n : ℕ). counts_text n (length (all_settleable_names (table_in table.deck))) table.reductions) settled
    ∙ ap (λ (n : ℕ). counts_text 4 n table.reductions) names
    ∙ ap (λ (n : ℕ). counts_text 4 7 n) reductions

pub session_answer_examples : ConversionExamplesLaw → AnswerExamples
unfolding readable_session_line line_content session_command_in_text colon_command session_answer_to
    session_table_after_events key_of_spelling kind_of_line form_of heading_of_line
    what_of
session_answer_examples law = record {
  quit = λ state. refl;
  blank_line = λ state h. ap (λ pending. session_blank_answer pending state) h;
  long = λ state line h. ap (session_answer_to_read_line state) h;
  unknown_command = λ state. refl;
  bad = λ state. refl;
  no_key = λ state. refl;
  no_such_key = λ state h.
      ap (λ p. session_edit_answer
      (session_edit_result (deck_without_some_line p (session_deck state)) (codes "k-")
      (session_table_and_versions state.session)) []
      state) h;
  bad_form = λ state. refl;
  bad_name = λ state. refl;
  deck_full = λ state h.
      let d = deck_with_line (codes "m !") (session_deck state) in
      ap (λ (b : Bool). session_edit_answer
      (session_edit_result (if b then Err DeckFull else Ok d) [] (session_table_and_versions state.session)) []
      state)
      h;
  no_undo = λ state h.
      ap (λ past. session_edit_answer
      (session_undo_redo_result
      (timeline_undone_to past (session_timeline (session_deck state) state.session.versions))
      (codes "nothing to undo") (session_deck state)) [] state) h;
  no_redo = λ state h.
      ap (λ future. session_edit_answer
      (session_undo_redo_result
      (timeline_redone_to future (session_timeline (session_deck state) state.session.versions))
      (codes "nothing to redo") (session_deck state)) [] state) h;
  no_file = λ state h.
      ap (λ found. session_edit_answer
      (session_edit_result (deck_append_by_answer state.files (codes "my units") (file_fetch_answer found)
      (session_deck state)) (codes "my units")
      (session_table_and_versions state.session))
      (notice_lines (deck_append_by_answer state.files (codes "my units") (file_fetch_answer found)
      (session_deck state))) state) h;
  too_long = λ state h. ap (λ outcome. session_save_answer outcome (codes "mine") state) h;
  many_watches = λ state h. ap (λ full. session_watch_answer full (watch_subject (codes "ft") (codes "m")) state) h;
  from_line = expression_becomes_pending (codes "2 km");
  linear = pending_from_is_converted (codes "2 km") (codes "yards") _
      (session_reply_ignores_end_blanks reply_example_measures default_reply_options (codes "2 km") (codes "yards")
      (codes " yards ") refl ∙ law.linear);
  reciprocal = pending_from_is_converted (codes "2 Hz") (codes "s") _ law.reciprocal;
  unlike = pending_from_is_converted (codes "m") (codes "s") _ law.unlike;
  define = λ state h.
      let d = deck_with_line (codes "m !") (session_deck state) in
      ap (λ (b : Bool). (session_deck (session_edit_answer
      (session_edit_result (if b then Err DeckFull else Ok d) [] (session_table_and_versions state.session)) []
      state).state_after).lines) h;
  drop_last = λ state place h.
      ap (λ p. (session_deck (session_edit_answer
      (session_edit_result (deck_without_some_line p (session_deck state)) (codes "k-")
      (session_table_and_versions state.session)) [] state).state_after).lines)
      h;
  set = λ state. refl;
  locale = λ state. refl;
  stats = λ state settled names reductions. ap (λ text. session_output_answer text state)
      (session_statistics_example state settled names reductions);
  save = λ state text h. ap (λ outcome. session_save_answer outcome (codes "mine") state) h;
  unwatch = λ state. refl;
}
