-- The cache affects only the answer to `:stats`.
use Rattle.std.proofs.Common.{◌≡◌, ◌∙◌, ◌++◌, refl, sym, ap, ap₂, subst, ℕ, Bool, true, false, true≢false, List, []}
use Rattle.std.proofs.Common.{◌∷◌, Option, Some, None, Result, Ok, Err, if◌then◌else◌, length, nat_le}
use Rattle.std.specs.List.{list_any}
use Rattle.std.proofs.lemmas.Bool.{or_parts}
use Rattle.def_entry.specs.declared.key.Key.{Key}
use Rattle.def_entry.specs.Keys.{key_of_spelling}
use Rattle.def_lines.specs.Blanks.{trimmed_of_blanks}
use Rattle.deck.specs.Decks.{DeckContents}
use Rattle.deck.specs.Edits.{deck_after_defining, deck_after_dropping}
use Rattle.deck.specs.declared.fault.DeckFault.{DeckFault}
use Rattle.deck.specs.FileLoads.{deck_after_appending}
use Rattle.live_table.specs.States.{CachedOutcomes}
use Rattle.session.specs.Answers.{SessionAnswer, session_edit_answer, session_watch_answer}
use Rattle.session.specs.Commands as command
use Rattle.session.specs.Commands.{DeckEdit, Define, DropLast, Edit, Locale, Redo, Set, Undo, session_command_of_line}
use Rattle.session.specs.EditResults.{EditResult, Made, Refused, session_drop_result, session_edit_result}
use Rattle.session.specs.EditResults.{session_result_of_edit}
use Rattle.session.specs.DeckEdits.{notice_lines}
use Rattle.session.specs.HeardLines.{is_last_session_line, longest_session_line, readable_session_line}
use Rattle.session.specs.HistoryLaws.{AreSameTalksButCache, CacheTalkLaw, IsSameAnswerButCache, SessionCacheLaw}
use Rattle.session.specs.HistoryLaws.{is_session_stats_command, session_with_cache}
use Rattle.session.specs.Queries.{session_table_after_events}
use Rattle.session.specs.Sessions.{SessionAndFiles, prompt, session_table_and_versions}
use Rattle.session.specs.Steps.{session_answer_to, session_answer_to_read_line, session_blank_answer}
use Rattle.session.specs.Steps.{session_conformable_answer, session_expression_answer, session_line_answer}
use Rattle.session.specs.Talks.{SessionTrace, talk_with_answer}
use Rattle.session.specs.WatchQueries.{is_session_watch_list_full}
use Rattle.watch.specs.WatchViews.{WatchSubject, watch_subject}

module _ (state : SessionAndFiles) (cached : CachedOutcomes) (reductions : ℕ) where
  abbrev other : SessionAndFiles
  other = session_with_cache cached reductions state

  -- both answers have the same bytes
  abbrev Alike : (SessionAndFiles → SessionAnswer) → Type 0
  Alike of = IsSameAnswerButCache (of state) (of other)

  blank-cached : (pending : Option (List ℕ)) → Alike (session_blank_answer pending)
  unfolding session_table_after_events
  blank-cached None = record { out = refl; err = refl; cached_outcomes = _; reductions = _; same_state = refl }
  blank-cached (Some from) = record { out = refl; err = refl; cached_outcomes = _; reductions = _; same_state = refl }

  conformable-cached : (pending : Option (List ℕ)) → Alike (session_conformable_answer pending)
  unfolding session_table_after_events
  conformable-cached None = record { out = refl; err = refl; cached_outcomes = _; reductions = _; same_state = refl }
  conformable-cached (Some from) =
      record { out = refl; err = refl; cached_outcomes = _; reductions = _; same_state = refl }

  expression-cached : (pending : Option (List ℕ)) (text : List ℕ) → Alike (session_expression_answer pending text)
  unfolding session_table_after_events
  expression-cached None text =
      record { out = refl; err = refl; cached_outcomes = _; reductions = _; same_state = refl }
  expression-cached (Some from) text =
      record { out = refl; err = refl; cached_outcomes = _; reductions = _; same_state = refl }

  watching-cached : (full : Bool) (s : WatchSubject) → Alike (session_watch_answer full s)
  unfolding session_table_after_events
  watching-cached true s = record { out = refl; err = refl; cached_outcomes = _; reductions = _; same_state = refl }
  watching-cached false s = record { out = refl; err = refl; cached_outcomes = _; reductions = _; same_state = refl }

  made-cached : (result : EditResult) (notices : List ℕ) → Alike (session_edit_answer result notices)
  unfolding session_table_after_events
  made-cached (Refused line) notices =
      record { out = refl; err = refl; cached_outcomes = _; reductions = _; same_state = refl }
  made-cached (Made deck versions) notices =
      record { out = refl; err = refl; cached_outcomes = _; reductions = _; same_state = refl }

  -- an edit has the same result
  result-cached : (outcome : Result DeckContents DeckFault) (named : List ℕ)
      → session_edit_result outcome named (session_table_and_versions other.session) ≡ session_edit_result outcome named
      (session_table_and_versions state.session)
  result-cached (Ok deck) named = refl
  result-cached (Err fault) named = refl

  drop-cached : (key : Option Key) (text : List ℕ)
      → session_drop_result key text (session_table_and_versions other.session) ≡ session_drop_result key text
      (session_table_and_versions state.session)
  drop-cached None text = refl
  drop-cached (Some key) text = result-cached (deck_after_dropping key state.session.table.deck) text

  edited-cached : (edit : DeckEdit)
      → session_result_of_edit edit (session_table_and_versions other.session) ≡ session_result_of_edit edit
      (session_table_and_versions state.session)
  edited-cached (Define line) = result-cached (deck_after_defining (trimmed_of_blanks line) state.session.table.deck) []
  edited-cached (DropLast text) = drop-cached (key_of_spelling text) text
  edited-cached (Set name value) = refl
  edited-cached (Locale locale) = refl
  edited-cached Undo = refl
  edited-cached Redo = refl

  editing-cached : (a b : EditResult) (notices : List ℕ) → b ≡ a
      → IsSameAnswerButCache (session_edit_answer a notices state) (session_edit_answer b notices other)
  editing-cached a b notices e =
      subst (λ r. IsSameAnswerButCache (session_edit_answer a notices state) (session_edit_answer r notices other))
      (sym e)
      (made-cached a notices)

pub session-cache-law : SessionCacheLaw
unfolding session_answer_to
session-cache-law state cached reductions command.Blank h =
    blank-cached state cached reductions state.session.pending_from
session-cache-law state cached reductions command.Quit h =
    record { out = refl; err = refl; cached_outcomes = cached; reductions = reductions; same_state = refl }
session-cache-law state cached reductions command.Conformable h = conformable-cached state cached reductions
    state.session.pending_from
session-cache-law state cached reductions (command.Search text) h =
    record { out = refl; err = refl; cached_outcomes = cached; reductions = reductions; same_state = refl }
session-cache-law state cached reductions (Edit edit) h =
    editing-cached state cached reductions _ _ [] (edited-cached state cached reductions edit)
session-cache-law state cached reductions (command.Load name) h =
    let outcome = deck_after_appending state.files name state.session.table.deck in
    editing-cached state cached reductions _ _ (notice_lines outcome)
    (result-cached state cached reductions outcome name)
session-cache-law state cached reductions (command.Save name) h =
    record { out = refl; err = refl; cached_outcomes = cached; reductions = reductions; same_state = refl }
session-cache-law state cached reductions (command.Watch from to) h =
    watching-cached state cached reductions (is_session_watch_list_full state.session.watched_pairs)
    (watch_subject from to)
session-cache-law state cached reductions command.Unwatch h =
    record { out = refl; err = refl; cached_outcomes = cached; reductions = reductions; same_state = refl }
session-cache-law state cached reductions command.Stats h = absurd (true≢false h)
session-cache-law state cached reductions (command.Unknown word) h =
    record { out = refl; err = refl; cached_outcomes = cached; reductions = reductions; same_state = refl }
session-cache-law state cached reductions (command.Bad word) h =
    record { out = refl; err = refl; cached_outcomes = cached; reductions = reductions; same_state = refl }
session-cache-law state cached reductions (command.Expression text) h =
    expression-cached state cached reductions state.session.pending_from text

-- the prompt does not depend on the cache
session-prompt-ignores-cache : (state : SessionAndFiles) (cached : CachedOutcomes) (reductions : ℕ)
    → prompt (session_with_cache cached reductions state).session ≡ prompt state.session
unfolding prompt
session-prompt-ignores-cache state cached reductions = refl

session-line-ignores-cache : (state : SessionAndFiles) (cached : CachedOutcomes) (reductions : ℕ) (line : List ℕ)
    → is_session_stats_command (session_command_of_line line) ≡ false
    → IsSameAnswerButCache (session_line_answer state line)
    (session_line_answer (session_with_cache cached reductions state) line)
unfolding readable_session_line
session-line-ignores-cache state cached reductions line h = go (nat_le (length line) longest_session_line)
  where
    go : (short : Bool)
        → IsSameAnswerButCache (session_answer_to_read_line state (if short then Some line else None))
        (session_answer_to_read_line (session_with_cache cached reductions state) (if short then Some line else None))
    go true = session-cache-law state cached reductions (session_command_of_line line) h
    go false = record { out = refl; err = refl; cached_outcomes = cached; reductions = reductions; same_state = refl }

-- the talks stay the same with one more line
talk-line-ignores-cache : (a b : SessionTrace) (line : List ℕ)
    → is_session_stats_command (session_command_of_line line) ≡ false → AreSameTalksButCache a b
    → AreSameTalksButCache (talk_with_answer a (session_line_answer a.state line) line)
    (talk_with_answer b (session_line_answer b.state line) line)
talk-line-ignores-cache a b line h d =
    let buffers : IsSameAnswerButCache (session_line_answer a.state line) (session_line_answer b.state line) =
    subst (λ s. IsSameAnswerButCache (session_line_answer a.state line) (session_line_answer s line)) (sym d.state)
    (session-line-ignores-cache a.state d.cached_outcomes d.reductions line h) in
    record {
      out = ap₂ (λ x y. x ++ y) d.out
          (ap₂ (λ x (s : SessionAndFiles). x ++ (if is_last_session_line line then [] else prompt s.session))
          buffers.out
          buffers.same_state
          ∙ ap (λ p. (session_line_answer a.state line).out ++ (if is_last_session_line line then [] else p))
          (session-prompt-ignores-cache (session_line_answer a.state line).state_after buffers.cached_outcomes
          buffers.reductions));
      err = ap₂ (λ x y. x ++ y) d.err buffers.err;
      cached_outcomes = buffers.cached_outcomes;
      reductions = buffers.reductions;
      state = buffers.same_state;
    }

pub cache-talk-law : CacheTalkLaw
cache-talk-law a b [] h d = d
cache-talk-law a b (line ∷ lines) h d =
    cache-talk-law (talk_with_answer a (session_line_answer a.state line) line)
    (talk_with_answer b (session_line_answer b.state line) line)
    lines
    (or_parts (is_session_stats_command (session_command_of_line line))
    (list_any (λ line. is_session_stats_command (session_command_of_line line)) lines) h).1
    (talk-line-ignores-cache a b line (or_parts (is_session_stats_command (session_command_of_line line)) _ h).0 d)
