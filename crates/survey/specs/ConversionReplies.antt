-- The replies for FROM and TO, and the queries that they make.
use Rattle.std.specs.Prelude.{◌++◌, ℕ, List, [], false, true, codes}
use Rattle.def_entry.specs.Tables.{EntryTable}
use Rattle.live_table.specs.States.{LiveEvent}
use Rattle.reply.specs.declared.options.Options.{Options}
use Rattle.reply.specs.declared.reply.Reply.{Reply}
use Rattle.reply.specs.declared.reply.FromValue.{FromValue}
use Rattle.reply.specs.declared.reply.FromValue.TheVariants.{Good, Bad}
use Rattle.reply.specs.Replies as replies
use Rattle.survey.specs.Conformable.{conformable_report, conformable_queries}

-- a reply, and the queries that are made for it
pub record SurveyedReply : Type 0 where
  pub reply : Reply
  pub queries : List LiveEvent

-- the reply that consists of the text of a fault
abbrev pub survey_fault_reply : (fault : List ℕ) → Reply
survey_fault_reply fault = record { text = fault ++ codes "\n"; refused = true }

-- the units that conform to a FROM with this value, or the reason why FROM has none
abbrev pub conformable_to : EntryTable → FromValue → SurveyedReply
conformable_to table (Good x) = record {
  reply = record { text = conformable_report table x; refused = false };
  queries = conformable_queries table;
}
conformable_to table (Bad fault) = record { reply = survey_fault_reply fault; queries = [] }

module _ (table : EntryTable) (options : Options) where
  -- FROM alone
  abbrev pub asked_definition : (from : List ℕ) → SurveyedReply
  asked_definition from = record {
    reply = replies.definition_reply table options from;
    queries = replies.inquiry_value_queries table from;
  }

  -- FROM in terms of TO
  abbrev pub asked_conversion : (from to : List ℕ) → SurveyedReply
  asked_conversion from to = record {
    reply = replies.conversion_reply table options from to;
    queries = replies.conversion_queries table options from to;
  }

  -- the units that conform to FROM
  abbrev pub asked_conformable : (from : List ℕ) → SurveyedReply
  asked_conformable from =
      let units = conformable_to table (replies.from_value table options from) in
      record { reply = units.reply; queries = replies.inquiry_value_queries table from ++ units.queries }
