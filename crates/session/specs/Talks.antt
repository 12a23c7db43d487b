-- A session as a fold over lines.
use Rattle.std.specs.Prelude.{◌+◌, ◌++◌, ◌∷◌, [], ℕ, List, if◌then◌else◌}
use Rattle.deck.specs.Messages.{deck_messages}
use Rattle.session.specs.Answers.{SessionAnswer}
use Rattle.session.specs.TableCounts.{session_banner}
use Rattle.session.specs.HeardLines.{is_last_session_line, heard_lines}
use Rattle.session.specs.Input.{input_lines}
use Rattle.session.specs.Lines.{session_lines_of_texts}
use Rattle.session.specs.Sessions.{SessionAndFiles, SessionState, prompt}
use Rattle.session.specs.Steps.{session_line_answer}

-- the output so far for each sink, the number of newly settled names, and the state
pub record SessionTrace : Type 0 where
  pub out : List ℕ
  pub err : List ℕ
  pub steps : ℕ
  pub state : SessionAndFiles

-- the output before the first line: the messages, the banner and the prompt, unless the session is quiet
unfoldable pub session_opening_text : SessionState → List ℕ
session_opening_text session =
    if session.options.quiet then []
    else (session_lines_of_texts (deck_messages session.table.deck) ++ session_banner session.table.deck) ++ prompt
    session

-- the talk of a session that opens, with the notices of its definitions on `err`
abbrev pub opened_talk : SessionAndFiles → SessionTrace
opened_talk state = record {
  out = session_opening_text state.session;
  err = session_lines_of_texts state.session.table.deck.notices;
  steps = 0;
  state = state;
}

-- the output of an answer on `out`, and the prompt for the next line, unless this line was the last
abbrev pub talk_text_of_answer : SessionAnswer → (line : List ℕ) → List ℕ
talk_text_of_answer answer line =
    answer.out ++ (if is_last_session_line line then [] else prompt answer.state_after.session)

abbrev pub talk_with_answer : SessionTrace → SessionAnswer → (line : List ℕ) → SessionTrace
talk_with_answer talk answer line = record {
  out = talk.out ++ talk_text_of_answer answer line;
  err = talk.err ++ answer.err;
  steps = talk.steps + answer.newly;
  state = answer.state_after;
}

-- a talk after these lines are answered
abbrev pub talk_over_lines : SessionTrace → List (List ℕ) → SessionTrace
talk_over_lines talk [] = talk
talk_over_lines talk (line ∷ lines) = talk_over_lines (talk_with_answer talk (session_line_answer talk.state line) line)
    lines

-- a talk over a whole input, up to a line that ends it
abbrev pub talk_over_input : SessionTrace → (input : List ℕ) → SessionTrace
talk_over_input talk input = talk_over_lines talk (heard_lines (input_lines input))
