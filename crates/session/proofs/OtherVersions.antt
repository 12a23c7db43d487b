-- The versions of the deck affect only the answers to `:undo` and `:redo`.
use Rattle.std.proofs.Common.{◌≡◌, ◌∙◌, ◌+◌, ◌++◌, refl, sym, ap, ap₂, subst, ℕ, Bool, true, false, true≢false, List}
use Rattle.std.proofs.Common.{[], ◌∷◌, Option, Some, None, Result, Ok, Err, if◌then◌else◌, length, nat_le}
use Rattle.std.specs.List.{list_any}
use Rattle.std.proofs.lemmas.Bool.{or_parts}
use Rattle.def_entry.specs.declared.key.Key.{Key}
use Rattle.def_entry.specs.Keys.{key_of_spelling}
use Rattle.def_lines.specs.Blanks.{trimmed_of_blanks}
use Rattle.deck.specs.Decks.{DeckContents}
use Rattle.deck.specs.Edits.{deck_after_defining, deck_after_dropping, deck_after_switching}
use Rattle.deck.specs.declared.fault.DeckFault.{DeckFault}
use Rattle.deck.specs.FileLoads.{deck_after_appending}
use Rattle.session.specs.Answers.{SessionAnswer, session_edit_answer, session_watch_answer}
use Rattle.session.specs.Commands as command
use Rattle.session.specs.Commands.{DeckEdit, Define, DropLast, Edit, Locale, Redo, Set, Undo, session_command_of_line}
use Rattle.session.specs.EditResults.{session_drop_result, session_edit_result, session_result_of_edit}
use Rattle.session.specs.DeckEdits.{notice_lines, settings_with_locale, settings_with_variable}
use Rattle.session.specs.HeardLines.{is_last_session_line, longest_session_line, readable_session_line}
use Rattle.session.specs.HistoryLaws.{AreSameTalksButVersions, IsSameAnswerButVersions, SessionVersionsLaw}
use Rattle.session.specs.HistoryLaws.{VersionsTalkLaw}
use Rattle.session.specs.HistoryLaws.{is_session_undo_or_redo, is_session_undo_redo_command, session_with_versions}
use Rattle.session.specs.Sessions.{SessionAndFiles, prompt, session_table_and_versions}
use Rattle.session.specs.Steps.{session_answer_to, session_answer_to_read_line, session_blank_answer}
use Rattle.session.specs.Steps.{session_conformable_answer, session_expression_answer, session_line_answer}
use Rattle.session.specs.Talks.{SessionTrace, talk_with_answer}
use Rattle.session.specs.Versions.{Versions}
use Rattle.session.specs.WatchQueries.{is_session_watch_list_full}
use Rattle.watch.specs.WatchViews.{WatchSubject, watch_subject}

module _ (state : SessionAndFiles) (versions : Versions) where
  abbrev dated_otherwise : SessionAndFiles
  dated_otherwise = session_with_versions versions state

  abbrev AlikeBut : (SessionAndFiles → SessionAnswer) → Type 0
  AlikeBut of = IsSameAnswerButVersions (of state) (of dated_otherwise)

  blank-dated : (pending : Option (List ℕ)) → AlikeBut (session_blank_answer pending)
  blank-dated None = record { out = refl; err = refl; newly = refl; versions = versions; same_state = refl }
  blank-dated (Some from) = record { out = refl; err = refl; newly = refl; versions = versions; same_state = refl }

  conformable-dated : (pending : Option (List ℕ)) → AlikeBut (session_conformable_answer pending)
  conformable-dated None = record { out = refl; err = refl; newly = refl; versions = versions; same_state = refl }
  conformable-dated (Some from) =
      record { out = refl; err = refl; newly = refl; versions = versions; same_state = refl }

  expression-dated : (pending : Option (List ℕ)) (text : List ℕ) → AlikeBut (session_expression_answer pending text)
  expression-dated None text = record { out = refl; err = refl; newly = refl; versions = versions; same_state = refl }
  expression-dated (Some from) text =
      record { out = refl; err = refl; newly = refl; versions = versions; same_state = refl }

  watching-dated : (full : Bool) (s : WatchSubject) → AlikeBut (session_watch_answer full s)
  watching-dated true s = record { out = refl; err = refl; newly = refl; versions = versions; same_state = refl }
  watching-dated false s = record { out = refl; err = refl; newly = refl; versions = versions; same_state = refl }

  result-dated : (outcome : Result DeckContents DeckFault) (named notices : List ℕ)
      → IsSameAnswerButVersions
      (session_edit_answer (session_edit_result outcome named (session_table_and_versions state.session)) notices state)
      (session_edit_answer (session_edit_result outcome named (session_table_and_versions dated_otherwise.session))
      notices dated_otherwise)
  result-dated (Ok deck) named notices =
      record { out = refl; err = refl; newly = refl; versions = _; same_state = refl }
  result-dated (Err fault) named notices =
      record { out = refl; err = refl; newly = refl; versions = versions; same_state = refl }

  drop-dated : (key : Option Key) (text : List ℕ)
      → IsSameAnswerButVersions
      (session_edit_answer (session_drop_result key text (session_table_and_versions state.session)) [] state)
      (session_edit_answer (session_drop_result key text (session_table_and_versions dated_otherwise.session)) []
      dated_otherwise)
  drop-dated None text = record { out = refl; err = refl; newly = refl; versions = versions; same_state = refl }
  drop-dated (Some key) text = result-dated (deck_after_dropping key state.session.table.deck) text []

  edited-dated : (edit : DeckEdit) → is_session_undo_or_redo edit ≡ false
      → IsSameAnswerButVersions
      (session_edit_answer (session_result_of_edit edit (session_table_and_versions state.session)) [] state)
      (session_edit_answer (session_result_of_edit edit (session_table_and_versions dated_otherwise.session)) []
      dated_otherwise)
  edited-dated (Define line) h = result-dated (deck_after_defining (trimmed_of_blanks line) state.session.table.deck) []
      []
  edited-dated (DropLast text) h = drop-dated (key_of_spelling text) text
  edited-dated (Set name value) h =
      let deck = state.session.table.deck in
      result-dated (Ok (deck_after_switching (settings_with_variable deck.settings name value) deck)) [] []
  edited-dated (Locale locale) h =
      let deck = state.session.table.deck in
      result-dated (Ok (deck_after_switching (settings_with_locale deck.settings locale) deck)) [] []
  edited-dated Undo h = absurd (true≢false h)
  edited-dated Redo h = absurd (true≢false h)

pub session-versions-law : SessionVersionsLaw
unfolding session_answer_to
session-versions-law state versions command.Blank h = blank-dated state versions state.session.pending_from
session-versions-law state versions command.Quit h =
    record { out = refl; err = refl; newly = refl; versions = versions; same_state = refl }
session-versions-law state versions command.Conformable h = conformable-dated state versions state.session.pending_from
session-versions-law state versions (command.Search text) h =
    record { out = refl; err = refl; newly = refl; versions = versions; same_state = refl }
session-versions-law state versions (Edit edit) h = edited-dated state versions edit h
session-versions-law state versions (command.Load name) h =
    let outcome = deck_after_appending state.files name state.session.table.deck in
    result-dated state versions outcome name (notice_lines outcome)
session-versions-law state versions (command.Save name) h =
    record { out = refl; err = refl; newly = refl; versions = versions; same_state = refl }
session-versions-law state versions (command.Watch from to) h =
    watching-dated state versions (is_session_watch_list_full state.session.watched_pairs) (watch_subject from to)
session-versions-law state versions command.Unwatch h =
    record { out = refl; err = refl; newly = refl; versions = versions; same_state = refl }
session-versions-law state versions command.Stats h =
    record { out = refl; err = refl; newly = refl; versions = versions; same_state = refl }
session-versions-law state versions (command.Unknown word) h =
    record { out = refl; err = refl; newly = refl; versions = versions; same_state = refl }
session-versions-law state versions (command.Bad word) h =
    record { out = refl; err = refl; newly = refl; versions = versions; same_state = refl }
session-versions-law state versions (command.Expression text) h =
    expression-dated state versions state.session.pending_from text

-- the prompt does not depend on the versions
session-prompt-ignores-versions : (state : SessionAndFiles) (versions : Versions)
    → prompt (session_with_versions versions state).session ≡ prompt state.session
unfolding prompt
session-prompt-ignores-versions state versions = refl

session-line-ignores-versions : (state : SessionAndFiles) (versions : Versions) (line : List ℕ)
    → is_session_undo_redo_command (session_command_of_line line) ≡ false
    → IsSameAnswerButVersions (session_line_answer state line)
    (session_line_answer (session_with_versions versions state) line)
unfolding readable_session_line
session-line-ignores-versions state versions line h = go (nat_le (length line) longest_session_line)
  where
    go : (short : Bool)
        → IsSameAnswerButVersions (session_answer_to_read_line state (if short then Some line else None))
        (session_answer_to_read_line (session_with_versions versions state) (if short then Some line else None))
    go true = session-versions-law state versions (session_command_of_line line) h
    go false = record { out = refl; err = refl; newly = refl; versions = versions; same_state = refl }

-- the talks stay the same with one more line
talk-line-ignores-versions : (a b : SessionTrace) (line : List ℕ)
    → is_session_undo_redo_command (session_command_of_line line) ≡ false → AreSameTalksButVersions a b
    → AreSameTalksButVersions (talk_with_answer a (session_line_answer a.state line) line)
    (talk_with_answer b (session_line_answer b.state line) line)
talk-line-ignores-versions a b line h d =
    let buffers : IsSameAnswerButVersions (session_line_answer a.state line) (session_line_answer b.state line) =
    subst (λ s. IsSameAnswerButVersions (session_line_answer a.state line) (session_line_answer s line)) (sym d.state)
    (session-line-ignores-versions a.state d.versions line h) in
    record {
      out = ap₂ (λ x y. x ++ y) d.out
          (ap₂ (λ x (s : SessionAndFiles). x ++ (if is_last_session_line line then [] else prompt s.session))
          buffers.out
          buffers.same_state
          ∙ ap (λ p. (session_line_answer a.state line).out ++ (if is_last_session_line line then [] else p))
          (session-prompt-ignores-versions (session_line_answer a.state line).state_after buffers.versions));
      err = ap₂ (λ x y. x ++ y) d.err buffers.err;
      steps = ap₂ (λ (x y : ℕ). x + y) d.steps buffers.newly;
      versions = buffers.versions;
      state = buffers.same_state;
    }

pub versions-talk-law : VersionsTalkLaw
versions-talk-law a b [] h d = d
versions-talk-law a b (line ∷ lines) h d =
    versions-talk-law (talk_with_answer a (session_line_answer a.state line) line)
    (talk_with_answer b (session_line_answer b.state line) line) lines
    (or_parts (is_session_undo_redo_command (session_command_of_line line))
    (list_any (λ line. is_session_undo_redo_command (session_command_of_line line)) lines) h).1
    (talk-line-ignores-versions a b line (or_parts (is_session_undo_redo_command (session_command_of_line line)) _ h).0
    d)
