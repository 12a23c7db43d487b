-- The plans of words before any input is read: a whole run, a session that is opened, or a column to be converted.
use Rattle.std.specs.Prelude.{ℕ, Bool, List, [], ⊤}
use Rattle.deck.specs.Decks.{DeckContents}
use Rattle.reply.specs.declared.options.Options.{Options}
use Rattle.session.specs.Talks.{SessionTrace}
use Rattle.units_run.specs.declared.status.Status.{Status}

-- the bytes on each sink, the number of newly settled names, and the status
pub record WholeRun : Type 0 where
  pub out : List ℕ
  pub err : List ℕ
  pub steps : ℕ
  pub status : Status

-- a deck in which no name is settled, the options, FROM and TO, the number of the column, counted from 1, whether there
-- is a header, and the bytes on `err` before the input is read
pub record PlannedColumnWork : Type 0 where
  pub deck : DeckContents
  pub options : Options
  pub from : List ℕ
  pub to : List ℕ
  pub column : ℕ
  pub header : Bool
  pub err : List ℕ

pub data Plan : Type 0 where
  Whole : WholeRun → Plan
  Opened : SessionTrace → Plan
  Columns : PlannedColumnWork → Plan

-- the whole run is known before any input is read
abbrev pub IsWholePlan : Plan → Type 0
IsWholePlan (Whole run) = ⊤
IsWholePlan (Opened talk) = ⊥
IsWholePlan (Columns work) = ⊥

-- a plan that writes a text to `err`, and nothing else
abbrev pub complaint_plan : (text : List ℕ) → Status → Plan
complaint_plan text status = Whole (record { out = []; err = text; steps = 0; status = status })
