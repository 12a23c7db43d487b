-- The conversions that a run grants.
use Rattle.std.specs.Prelude.{◌≡◌, ℕ, List, true, false, Option, Some, None, Result, Ok, codes, if◌then◌else◌}
use Rattle.std.specs.Prelude.{option_map}
use Rattle.std.specs.Str.{bytes_eq}
use Rattle.command_line.specs.Fields.{command_line_of}
use Rattle.command_line.specs.AcceptedWords.{are_command_words_accepted}
use Rattle.command_line.specs.declared.fields.CommandLine.{CommandLine}
use Rattle.deck.specs.Decks.{DeckContents}
use Rattle.deck.specs.FileLoads.{deck_after_loading}
use Rattle.deck.specs.Tables.{table_of_deck}
use Rattle.deck.specs.declared.fault.DeckFault.{DeckFault}
use Rattle.deck.specs.declared.settings.Settings.{Settings}
use Rattle.def_lines.specs.Lines.{line_content}
use Rattle.def_lines.specs.Words.{is_empty}
use Rattle.reply.specs.Grants.{IsConversionReply}
use Rattle.reply.specs.declared.reply.Reply.{Reply}
use Rattle.session.specs.KnownContents.{IsSessionValueIfKnown}
use Rattle.units_io.specs.Bytes.{sink_bytes_append}
use Rattle.units_io.specs.FileMap.{FileMap}
use Rattle.units_io.specs.NamedValues.{NamedTexts}
use Rattle.units_run.specs.Definitions.{run_built_in_deck}
use Rattle.units_run.specs.Endings.{IsStatedRunEnd}
use Rattle.units_run.specs.Needs.{run_needs_files}
use Rattle.units_run.specs.Options.{run_options}
use Rattle.units_run.specs.Settings.{run_settings}
use Rattle.units_run.specs.declared.status.Status.{Status}
use Rattle.units_run.specs.declared.status.Status.TheVariants.{Done, Refused}

-- the definitions in force: those of the file, or the built-in ones
abbrev pub run_definitions_in_force : (file : Option (List ℕ)) → Settings → FileMap → Result DeckContents DeckFault
run_definitions_in_force None settings files = Ok (run_built_in_deck settings)
run_definitions_in_force (Some name) settings files = deck_after_loading files name settings

abbrev pub run_definitions : CommandLine → NamedTexts → FileMap → Result DeckContents DeckFault
run_definitions line vars files = run_definitions_in_force line.file (run_settings line vars) files

-- the words give one conversion over these definitions, of FROM to a TO that is neither blank nor `?`
pub record RunAsksForConversion (words : List (List ℕ)) (vars : NamedTexts) (files : FileMap) (deck : DeckContents)
    (from to : List ℕ) : Type 0 where
  pub words_taken : are_command_words_accepted words ≡ true
  pub trial : (command_line_of words).trial ≡ None
  pub column : (command_line_of words).column ≡ None
  pub from_is : option_map line_content (command_line_of words).from ≡ Some from
  pub to_is : option_map line_content (command_line_of words).to ≡ Some to
  pub to_not_empty : is_empty to ≡ false
  pub to_no_question : bytes_eq to (codes "?") ≡ false
  pub definitions : run_definitions (command_line_of words) vars files ≡ Ok deck

-- the reply to FROM and TO is on `out`, and the status says whether it is a refusal
pub record IsRunReplyTo (words : List (List ℕ)) (deck : DeckContents) (from to : List ℕ) (ending : Status)
    (before after : Option (List ℕ)) : Type 0 where
  pub reply : Reply
  pub grants : IsConversionReply (table_of_deck deck) (run_options (command_line_of words)) from to reply
  pub out : after ≡ sink_bytes_append before reply.text
  pub ending_is : ending ≡ (if reply.refused then Refused else Done)

-- a conversion that the words give is granted exactly if full expansion is defined, conformable and within 127 bits,
-- and its number is that exact fraction
abbrev pub RunGrantsExactly : (words : List (List ℕ)) → NamedTexts → Status → (files_if_known : Option FileMap) →
    (before after : Option (List ℕ)) → Type 0
RunGrantsExactly words vars ending files_if_known before after =
    (files : FileMap) (deck : DeckContents) (from to : List ℕ)
    → IsSessionValueIfKnown (run_needs_files words) files_if_known
    files
    → RunAsksForConversion words vars files deck from to → IsStatedRunEnd ending
    → IsRunReplyTo words deck from to ending before after
