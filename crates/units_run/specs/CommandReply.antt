-- The reply to FROM and TO on a command line.
use Rattle.std.specs.Prelude.{ℕ, List, codes, if◌then◌else◌}
use Rattle.std.specs.Str.{bytes_eq}
use Rattle.def_entry.specs.Tables.{EntryTable}
use Rattle.def_lines.specs.Words.{is_empty}
use Rattle.reply.specs.declared.options.Options.{Options}
use Rattle.survey.specs.ConversionReplies.{SurveyedReply, asked_conformable, asked_conversion, asked_definition}

-- FROM with this TO, which may be blank or `?`
abbrev pub run_reply_for : EntryTable → Options → (from to : List ℕ) → SurveyedReply
run_reply_for table options from to =
    if is_empty to then asked_definition table options from
    else if bytes_eq to (codes "?") then asked_conformable table options from
    else asked_conversion table options from to
