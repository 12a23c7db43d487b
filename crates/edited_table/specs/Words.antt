-- The status of a fault, determined by the first words of its text.
use Rattle.std.specs.Prelude.{◌≡◌, ◌++◌, ◌∷◌, [], ℕ, List, Option, Some, None, codes, nat_eq, if◌then◌else◌, unwrap_or}
use Rattle.std.specs.List.{starts_with}
use Rattle.digits_print.specs.declared.style.Style.{Style}
use Rattle.reply.specs.Faults.{fault_text}
use Rattle.reply.specs.Lines.{nonconforming_conversion_text}
use Rattle.reply.specs.declared.fault.ReplyFault.{ReplyFault}
use Rattle.reply.specs.Options.{reply_form}
use Rattle.reply.specs.declared.options.Options.{Options}
use Rattle.quantity.specs.Amount.{Amount}
use Rattle.edited_table.specs.Faults.{fault_status}
use Rattle.edited_table.specs.declared.status.Status.{Status}
use Rattle.edited_table.specs.declared.status.Status.TheVariants as status

-- the first words of texts, each with the status of the texts that begin with them
abbrev pub StatusRows : Type 0
StatusRows = List (List ℕ × Status)

-- the status of the first row whose words are a prefix of the text
abbrev pub status_in : StatusRows → List ℕ → Option Status
status_in [] text = None
status_in (row ∷ rows) text = if starts_with nat_eq text row.0 then Some row.1 else status_in rows text

-- a status, or else the status in `rows`
abbrev pub status_or_in : Option Status → StatusRows → List ℕ → Option Status
status_or_in (Some s) rows text = Some s
status_or_in None rows text = status_in rows text

abbrev pub question_status_rows : StatusRows
question_status_rows =
    (codes "conformability error", status.ConformabilityError)
    ∷ (codes "unknown unit: ", status.UnknownUnit)
    ∷ (codes "syntax error at ", status.SyntaxError)
    ∷ (codes "numeral too long", status.NumeralTooLong)
    ∷ (codes "nested too deep", status.NestedTooDeep)
    ∷ (codes "refused function: ", status.RefusedFunction)
    ∷ (codes "cycle: ", status.Cycle)
    ∷ (codes "list unit not positive: ", status.ListUnitNotPositive)
    ∷ []

abbrev pub number_status_rows : StatusRows
number_status_rows =
    (codes "overflow", status.Overflow)
    ∷ (codes "division by zero", status.DivisionByZero)
    ∷ (codes "no exact root", status.NoExactRoot)
    ∷ (codes "sum of unlike units: ", status.UnlikeSum)
    ∷ (codes "exponent is not a number", status.ExponentNotNumber)
    ∷ (codes "exponent out of range", status.ExponentRange)
    ∷ []

abbrev pub function_status_rows : StatusRows
function_status_rows =
    (codes "not in domain: ", status.NotInDomain)
    ∷ (codes "not in range: ", status.NotInRange)
    ∷ (codes "wrong argument: ", status.WrongArgument)
    ∷ (codes "wrong result: ", status.WrongResult)
    ∷ (codes "no inverse: ", status.NoInverse)
    ∷ (codes "outside table: ", status.OutsideTable)
    ∷ (codes "argument needed: ", status.ArgumentNeeded)
    ∷ (codes "calls too deep: ", status.CallsTooDeep)
    ∷ []

-- the status of the fault with this text; a text that begins with none of the words has the status of an out-of-memory
-- fault, which has no text
abbrev pub status_of_text : List ℕ → Status
status_of_text text =
    unwrap_or (status_or_in (status_or_in (status_in question_status_rows text) number_status_rows text)
    function_status_rows text) status.NoMemory

-- law: the text of each fault, alone or as a line, determines its status, and so does the text of a conformability
-- error
pub record TellStatuses : Type 0 where
  pub alone : (style : Style) (fault : ReplyFault) → status_of_text (fault_text style fault) ≡ fault_status fault
  pub line : (style : Style) (fault : ReplyFault)
      → status_of_text (fault_text style fault ++ codes "\n") ≡ fault_status fault
  pub unlike : (options : Options) (x y : Amount)
      → status_of_text (nonconforming_conversion_text (reply_form options) x y) ≡ status.ConformabilityError
