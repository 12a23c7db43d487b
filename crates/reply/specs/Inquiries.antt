-- The queries of a live table that lead to a result.
use Rattle.std.specs.Prelude.{ℕ, List, [], ◌∷◌, ◌++◌, Result, Ok, Err}
use Rattle.expr_tree.specs.declared.fault.ParseFault.TheVariants as parse
use Rattle.expr_tree.specs.Syntax.{Syntax}
use Rattle.expr_tree.specs.Words.{words_in}
use Rattle.quantity.specs.Amount.{Amount}
use Rattle.def_entry.specs.Tables.{EntryTable}
use Rattle.live_table.specs.declared.fault.QueryFault.{QueryFault}
use Rattle.live_table.specs.declared.fault.QueryFault.TheVariants as query
use Rattle.live_table.specs.Answers.{live_table_answer}
use Rattle.live_table.specs.States.{LiveEvent, AsksWords}
use Rattle.reply.specs.declared.fault.ReplyFault.{ReplyFault}
use Rattle.reply.specs.declared.fault.ReplyFault.TheVariants.{Parse, Name, Value}
use Rattle.reply.specs.Trees.{inquiry_tree}

-- the queries that are made, in order, up to the first fault, and the result or that fault
pub record Inquiry (A : Type 0) : Type 0 where
  pub events : List LiveEvent
  pub answer : Result A ReplyFault

-- a result or a fault that needs no query
abbrev pub inquiry_without_queries : {A : Type 0} → Result A ReplyFault → Inquiry A
inquiry_without_queries answer = record { events = []; answer = answer }

abbrev pub inquiry_after : {A B : Type 0} → List LiveEvent → Result A ReplyFault → (A → Inquiry B) → Inquiry B
inquiry_after events (Ok x) next = record { events = events ++ (next x).events; answer = (next x).answer }
inquiry_after events (Err fault) next = record { events = events; answer = Err fault }

-- one inquiry, and then another that depends on its result; a fault ends both
infixl 10 ◌>>=◌
abbrev pub ◌>>=◌ : {A B : Type 0} → Inquiry A → (A → Inquiry B) → Inquiry B
first >>= next = inquiry_after first.events first.answer next

-- lack of memory, which is never the result of a query
abbrev pub reply_fault_of_memory : ReplyFault
reply_fault_of_memory = Parse parse.OutOfMemory

-- the result of a query as that of an inquiry
abbrev pub inquiry_answer : {A : Type 0} → Result A QueryFault → Result A ReplyFault
inquiry_answer (Ok x) = Ok x
inquiry_answer (Err (query.Name fault)) = Err (Name fault)
inquiry_answer (Err (query.Value fault)) = Err (Value fault)
inquiry_answer (Err query.OutOfMemory) = Err reply_fault_of_memory

-- a single query
abbrev pub inquiry_of_single_query : {A : Type 0} → LiveEvent → Result A QueryFault → Inquiry A
inquiry_of_single_query event result = record { events = event ∷ []; answer = inquiry_answer result }

module _ (table : EntryTable) where
  -- the value of a tree
  abbrev pub tree_value : Syntax → Inquiry Amount
  tree_value tree = inquiry_of_single_query (AsksWords (words_in tree)) (live_table_answer table tree)

  -- the values of trees, in order
  abbrev pub values_of_trees : List Syntax → Inquiry (List Amount)
  values_of_trees [] = inquiry_without_queries (Ok [])
  values_of_trees (tree ∷ trees) = do
    x ← tree_value tree
    xs ← values_of_trees trees
    inquiry_without_queries (Ok (x ∷ xs))

  -- the value of a text: the first fault of its syntax, then that of its names, then that of its value
  abbrev pub value_of_text : List ℕ → Inquiry Amount
  value_of_text text = do
    tree ← inquiry_without_queries (inquiry_tree text)
    tree_value tree
