-- The queries of the live table for a text as FROM.
use Rattle.std.specs.Prelude.{[], ℕ, List, Option, Some, None, false}
use Rattle.def_entry.specs.Tables.{EntryTable}
use Rattle.reply.specs.Replies.{from_value, inquiry_value_queries}
use Rattle.reply.specs.declared.options.Options.{Options}
use Rattle.reply.specs.declared.reply.Reply.{Reply}
use Rattle.reply.specs.declared.reply.FromValue.{FromValue}
use Rattle.reply.specs.declared.reply.FromValue.TheVariants.{Good, Bad}
use Rattle.survey.specs.ConversionReplies.{SurveyedReply, survey_fault_reply}

-- a text is FROM if it has a value
abbrev pub pending_from_of_text : FromValue → (text : List ℕ) → Option (List ℕ)
pending_from_of_text (Good x) text = Some text
pending_from_of_text (Bad fault) text = None

-- the reply to FROM alone before TO is given: nothing if it has a value, or else its fault
abbrev pub pending_from_reply : FromValue → Reply
pending_from_reply (Good x) = record { text = []; refused = false }
pending_from_reply (Bad fault) = survey_fault_reply fault

-- the reply and the queries for a text as FROM
abbrev pub pending_from_query : EntryTable → Options → (text : List ℕ) → SurveyedReply
pending_from_query table options text = record {
  reply = pending_from_reply (from_value table options text);
  queries = inquiry_value_queries table text;
}
