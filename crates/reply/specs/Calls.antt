-- The results of calls, and their effects on the live table and its steps.
use Rattle.std.specs.Prelude.{◌≡◌, ⊤, ℕ, List, map, Result, Ok, Err}
use Rattle.expr_tree.specs.declared.tree.Tree.{Tree}
use Rattle.expr_tree.specs.Syntax.{Syntax}
use Rattle.expr_tree.specs.Trees.{syntax}
use Rattle.live_table.specs.declared.fault.QueryFault.{QueryFault}
use Rattle.live_table.specs.declared.fault.QueryFault.TheVariants as query
use Rattle.live_table.specs.TableView.{AreLiveEventsCutOff, IsAfterLiveEvents, LiveView}
use Rattle.reply.specs.declared.failure.Failure.{Failure}
use Rattle.reply.specs.declared.failure.Failure.TheVariants.{Fault, OutOfMemory}
use Rattle.reply.specs.declared.fault.ReplyFault.{ReplyFault}
use Rattle.reply.specs.declared.fault.ReplyFault.TheVariants.{Name, Value}
use Rattle.reply.specs.Inquiries.{Inquiry}

-- an inquiry has its result, as `seen` maps it, or its fault, or was cut off for lack of memory
abbrev pub IsInquiryAnswered : {A B : Type 0} → (A → B) → Inquiry B → Result A Failure → LiveView → LiveView → ℕ → ℕ
    → Type 0
IsInquiryAnswered seen inquiry (Ok x) before after old new =
    (inquiry.answer ≡ Ok (seen x)) × IsAfterLiveEvents inquiry.events before after old new
IsInquiryAnswered seen inquiry (Err (Fault fault)) before after old new =
    (inquiry.answer ≡ Err fault) × IsAfterLiveEvents inquiry.events before after old new
IsInquiryAnswered seen inquiry (Err OutOfMemory) before after old new = AreLiveEventsCutOff inquiry.events before after
    old new

-- a call without queries has its result, as `seen` maps it, or its fault, or memory ran out
abbrev pub IsInquiryWithoutQueriesAnswered : {A B : Type 0} → (A → B) → Result B ReplyFault → Result A Failure → Type 0
IsInquiryWithoutQueriesAnswered seen said (Ok x) = said ≡ Ok (seen x)
IsInquiryWithoutQueriesAnswered seen said (Err (Fault fault)) = said ≡ Err fault
IsInquiryWithoutQueriesAnswered seen said (Err OutOfMemory) = ⊤

-- the fault of a query as the failure of an inquiry
abbrev pub inquiry_failure : QueryFault → Failure
inquiry_failure (query.Name fault) = Fault (Name fault)
inquiry_failure (query.Value fault) = Fault (Value fault)
inquiry_failure query.OutOfMemory = OutOfMemory

-- the result of a query as the result of an inquiry
abbrev pub inquiry_result : {A : Type 0} → Result A QueryFault → Result A Failure
inquiry_result (Ok x) = Ok x
inquiry_result (Err fault) = Err (inquiry_failure fault)

-- the syntax of parsed trees
abbrev pub inquiry_syntaxes : List Tree → List Syntax
inquiry_syntaxes trees = map syntax trees

-- the identity function
abbrev pub inquiry_identity : {A : Type 0} → A → A
inquiry_identity x = x
