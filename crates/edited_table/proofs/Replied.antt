-- The text of a reply determines the outcome of the conversion.
use Rattle.std.proofs.Common.{◌≡◌, ◌∙◌, ℕ, List, Result, Ok, Err, refl, ap}
use Rattle.def_entry.specs.Tables.{EntryTable}
use Rattle.def_lines.specs.Blanks.{trimmed_of_blanks}
use Rattle.reply.specs.Options.{reply_form, reply_style}
use Rattle.quantity.specs.Amount.{Amount}
use Rattle.reply.specs.Faults.{fault_text}
use Rattle.reply.specs.Replies.{conversion_inquiry, conversion_reply, conversion_result_as_reply, reply_from_value}
use Rattle.reply.specs.declared.fault.ReplyFault.{ReplyFault}
use Rattle.reply.specs.declared.reply.FromValue.TheVariants.{Bad}
use Rattle.reply.specs.declared.options.Options.{Options}
use Rattle.edited_table.specs.Answers.{c_conversion_answer, c_reply_answer, c_value_answer, conversion_status}
use Rattle.edited_table.specs.Words.{TellStatuses, status_of_text}
use Rattle.edited_table.specs.declared.answer.Answer.{Answer}
use Rattle.edited_table.specs.declared.status.Status.{Status}

abbrev answer_of : Status → List ℕ → Answer
answer_of s words = record { status = s; text = words }

-- the answer for a reply has the status of the outcome of the conversion
c_reply_status_by_outcome : TellStatuses → (options : Options) (from to : List ℕ) (outcome : _)
    → c_reply_answer (conversion_result_as_reply (reply_form options) from to outcome) ≡ record {
      status = conversion_status outcome (conversion_result_as_reply (reply_form options) from to outcome);
      text = (conversion_result_as_reply (reply_form options) from to outcome).text;
    }
c_reply_status_by_outcome laws options from to (Ok c) = refl
c_reply_status_by_outcome laws options from to (Err fault) =
    ap (λ (s : Status). record
    { status = s; text = (conversion_result_as_reply (reply_form options) from to (Err fault)).text })
    (laws.line (reply_style options) fault)

pub c_reply_answers_conversion : TellStatuses → (table : EntryTable) (options : Options) (from to : List ℕ)
    → c_reply_answer (conversion_reply table options from to) ≡ c_conversion_answer table options from to
c_reply_answers_conversion laws table options from to =
    c_reply_status_by_outcome laws options (trimmed_of_blanks from) (trimmed_of_blanks to)
    (conversion_inquiry table options from to).answer

-- the answer for the text of a fault is the answer to the value
pub c_fault_text_answers_value : TellStatuses → (options : Options) (value_or_fault : Result Amount ReplyFault)
    (text : List ℕ)
    → reply_from_value options value_or_fault ≡ Bad text
    → answer_of (status_of_text text) text ≡ c_value_answer options value_or_fault
c_fault_text_answers_value laws options (Ok x) text is = absurd (cc)
c_fault_text_answers_value laws options (Err fault) text is =
    let same : text ≡ fault_text (reply_style options) fault = cc in
    ap (λ (words : List ℕ). answer_of (status_of_text words) words) same
    ∙ ap (λ (s : Status). answer_of s (fault_text (reply_style options) fault)) (laws.alone (reply_style options) fault)
