-- Replies: their texts, whether they are refusals, and the queries that are made for them.
use Rattle.std.specs.Prelude.{◌++◌, ℕ, true, false, not, List, codes, Option, Some, None, Result, Ok, Err}
use Rattle.def_entry.specs.declared.key.Kind.TheVariants as kind
use Rattle.def_entry.specs.Entries.{Entry, What, Body}
use Rattle.def_entry.specs.Keys.{key}
use Rattle.def_entry.specs.Tables.{EntryTable, entry_at}
use Rattle.def_lines.specs.Blanks.{trimmed_of_blanks}
use Rattle.quantity.specs.Amount.{Amount}
use Rattle.live_table.specs.States.{LiveEvent}
use Rattle.reply.specs.declared.fault.ReplyFault.{ReplyFault}
use Rattle.reply.specs.declared.form.Form.{Form}
use Rattle.reply.specs.declared.options.Options.{Options}
use Rattle.reply.specs.declared.reply.Reply.{Reply}
use Rattle.reply.specs.declared.reply.FromValue.{FromValue}
use Rattle.reply.specs.declared.reply.FromValue.TheVariants.{Good, Bad}
use Rattle.reply.specs.declared.conversion.Conversion.{Conversion}
use Rattle.reply.specs.Conversions.{conversion, conversion_between, is_conversion_granted}
use Rattle.reply.specs.Faults.{fault_text}
use Rattle.reply.specs.Inquiries.{Inquiry, value_of_text}
use Rattle.reply.specs.Lines.{conversion_text, definition_reply_text}
use Rattle.reply.specs.Options.{reply_form, reply_style}

-- the reply to a fault, which is the whole text
abbrev pub refusal_reply : Form → ReplyFault → Reply
refusal_reply form fault = record { text = fault_text form.style fault ++ codes "\n"; refused = true }

-- the reply to a conversion, which is a refusal exactly if it is a conformability error
abbrev pub conversion_as_reply : Form → (from to : List ℕ) → Conversion → Reply
conversion_as_reply form from to c =
    record { text = conversion_text form from to c; refused = not (is_conversion_granted c) }

abbrev pub conversion_result_as_reply : Form → (from to : List ℕ) → Result Conversion ReplyFault → Reply
conversion_result_as_reply form from to (Ok c) = conversion_as_reply form from to c
conversion_result_as_reply form from to (Err fault) = refusal_reply form fault

-- the reply to the conversion of two quantities with these texts
abbrev pub comparison_reply : Options → (from to : List ℕ) (x y : Amount) → Reply
comparison_reply options from to x y = conversion_result_as_reply (reply_form options) from to
    (conversion_between options.strict x y)

abbrev pub definition_as_reply : Form → (body : Option (List ℕ)) → Amount → Reply
definition_as_reply form body x = record { text = definition_reply_text form body x; refused = false }

abbrev pub definition_result_as_reply : Form → (body : Option (List ℕ)) → Result Amount ReplyFault → Reply
definition_result_as_reply form body (Ok x) = definition_as_reply form body x
definition_result_as_reply form body (Err fault) = refusal_reply form fault

abbrev pub reply_from_value : Options → Result Amount ReplyFault → FromValue
reply_from_value options (Ok x) = Good x
reply_from_value options (Err fault) = Bad (fault_text (reply_style options) fault)

-- the text of an entry that is an expression
abbrev pub reply_body_text : List ℕ → What → Option (List ℕ)
reply_body_text text (Body e) = Some text
reply_body_text text _ = None

abbrev pub reply_body_of_entry : Option Entry → Option (List ℕ)
reply_body_of_entry None = None
reply_body_of_entry (Some e) = reply_body_text e.text e.what

module _ (table : EntryTable) (options : Options) where
  -- the conversion of one text to another, with its queries
  abbrev pub conversion_inquiry : (from to : List ℕ) → Inquiry Conversion
  conversion_inquiry from to = conversion table options (trimmed_of_blanks from) (trimmed_of_blanks to)

  abbrev pub conversion_reply : (from to : List ℕ) → Reply
  conversion_reply from to =
      conversion_result_as_reply (reply_form options) (trimmed_of_blanks from) (trimmed_of_blanks to)
      (conversion_inquiry from to).answer

  abbrev pub conversion_queries : (from to : List ℕ) → List LiveEvent
  conversion_queries from to = (conversion_inquiry from to).events

  -- the reply to a single text: its value, after the text of its definition if it is the name of a unit that is defined
  -- by an expression
  abbrev pub definition_reply : (from : List ℕ) → Reply
  definition_reply from =
      definition_result_as_reply (reply_form options)
      (reply_body_of_entry (entry_at table (key kind.Unit (trimmed_of_blanks from))))
      (value_of_text table (trimmed_of_blanks from)).answer

  -- the value of a text, or the text of its first fault
  abbrev pub from_value : (from : List ℕ) → FromValue
  from_value from = reply_from_value options (value_of_text table (trimmed_of_blanks from)).answer

-- the queries of a definition or a value
abbrev pub inquiry_value_queries : EntryTable → (from : List ℕ) → List LiveEvent
inquiry_value_queries table from = (value_of_text table (trimmed_of_blanks from)).events
