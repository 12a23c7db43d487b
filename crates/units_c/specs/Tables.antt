-- The tables that C holds, and the answers of calls on them.
use Rattle.std.specs.Prelude.{◌≡◌, ◌⊎◌, ℕ, List, Option, Some, None, option_map}
use Rattle.edited_table.specs.Statuses.{status_code}
use Rattle.edited_table.specs.TableValue.{EditedTableView, c_definitions_of}
use Rattle.edited_table.specs.declared.answer.Answer.{Answer}
use Rattle.edited_table.specs.declared.status.Status.TheVariants as status
use Rattle.units_c.specs.Delivery.{IsAnswerHandedToC, IsNothingHandedToC}

-- the state of an open table; a table in any other state is closed
abbrev pub c_table_open_mark : ℕ
c_table_open_mark = 1970170228

-- a call on an open table delivers this answer, or nothing if memory runs out; on a closed table it delivers nothing
abbrev pub IsCTableAnswered : Option EditedTableView → (EditedTableView → Answer) → (before : List ℕ)
    → (result written : ℕ) → (out : List ℕ) → Type 0
IsCTableAnswered None answer before result written out =
    IsNothingHandedToC (status_code status.Closed) result written before out
IsCTableAnswered (Some e) answer before result written out =
    IsAnswerHandedToC (answer e) before result written out
    ⊎ IsNothingHandedToC (status_code status.NoMemory) result written before out

-- the definitions and the history are unchanged, and a closed table stays closed
abbrev pub IsCTableUnedited : (before after : Option EditedTableView) → Type 0
IsCTableUnedited before after = option_map c_definitions_of after ≡ option_map c_definitions_of before
