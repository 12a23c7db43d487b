-- Delivery of an answer to a buffer of the caller.
use Rattle.std.specs.Prelude.{◌≡◌, ◌++◌, ◌<◌, ◌≤◌, ℕ, List, length, drop}
use Rattle.edited_table.specs.Statuses.{status_code}
use Rattle.edited_table.specs.declared.answer.Answer.{Answer}
use Rattle.edited_table.specs.declared.status.Status.TheVariants as status

-- an answer was delivered to a buffer with these bytes: its text replaces the first of them, or, if the buffer is too
-- short, only the length of the text is reported
pub record IsAnswerHandedToC (answer : Answer) (before : List ℕ) (result written : ℕ) (out : List ℕ) : Type 0 where
  pub length_is_written : written ≡ length answer.text
  pub status_is_result : length answer.text ≤ length before → result ≡ status_code answer.status
  pub text_is_written : length answer.text ≤ length before → out ≡ answer.text ++ drop (length answer.text) before
  pub no_room : length before < length answer.text → result ≡ status_code status.NoRoom
  pub nothing_is_written : length before < length answer.text → out ≡ before

-- the call has this status, and there is no answer: the length is 0, and the buffer is as before
pub record IsNothingHandedToC (code result written : ℕ) (before out : List ℕ) : Type 0 where
  pub status_is_result : result ≡ code
  pub length_is_zero : written ≡ 0
  pub nothing_is_written : out ≡ before
