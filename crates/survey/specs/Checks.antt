-- The check report.
use Rattle.std.specs.Prelude.{◌++◌, ℕ, List, [], ◌∷◌, codes, Option, Some, None, Result, Ok, Err, position}
use Rattle.std.specs.Prelude.{if◌then◌else◌}
use Rattle.std.specs.List.{flat_map, list_any}
use Rattle.expr_tree.specs.Syntax.{Syntax, Word}
use Rattle.quantity.specs.Amount.{Amount}
use Rattle.digits_print.specs.declared.style.Style.{Style}
use Rattle.unit_list.specs.Amounts.{is_unit_not_positive, is_unlike_unit}
use Rattle.def_entry.specs.declared.key.Key.{Key}
use Rattle.def_entry.specs.declared.key.Kind.{Kind}
use Rattle.def_entry.specs.declared.key.Kind.TheVariants as kind
use Rattle.def_entry.specs.Entries as entry
use Rattle.def_entry.specs.Entries.{Entry, What}
use Rattle.def_entry.specs.Keys.{key_text}
use Rattle.def_entry.specs.Tables.{EntryTable, entry_at}
use Rattle.deck.specs.KeyLists.{deck_table_keys}
use Rattle.tree_eval.specs.Expansion.{called_eval_word}
use Rattle.table_names.specs.declared.fault.NameFault.{NameFault}
use Rattle.table_names.specs.Faults.{name_fault}
use Rattle.live_table.specs.Calls.{settle_all_queries}
use Rattle.live_table.specs.States.{LiveEvent, AsksWords}
use Rattle.reply.specs.declared.fault.ReplyFault.{ReplyFault}
use Rattle.reply.specs.declared.fault.ReplyFault.TheVariants.{Name, List as ListUnit}
use Rattle.reply.specs.Faults.{fault_text}
use Rattle.reply.specs.Inquiries.{◌>>=◌, Inquiry, inquiry_without_queries, values_of_trees}
use Rattle.survey.specs.declared.check_result.Finding.{Finding}
use Rattle.survey.specs.declared.check_result.Finding.TheVariants.{Sound, NonConforming, NotPositive}
use Rattle.survey.specs.PrefixFaults.{checked_prefix_fault}

abbrev pub checked_tree_if_any : Option Syntax → List Syntax
checked_tree_if_any None = []
checked_tree_if_any (Some tree) = tree ∷ []

-- the expressions of an entry that must have values: the body; the in unit and the out unit of a function; the unit of
-- a table; the parts of a list
abbrev pub checked_key_trees : What → List Syntax
checked_key_trees (entry.Body tree) = tree ∷ []
checked_key_trees (entry.Function d) = checked_tree_if_any d.in_unit ++ checked_tree_if_any d.out_unit
checked_key_trees (entry.Table d) = d.unit ∷ []
checked_key_trees (entry.ListOf trees) = trees
checked_key_trees _ = []

abbrev pub checked_entry_trees : Option Entry → List Syntax
checked_entry_trees None = []
checked_entry_trees (Some e) = checked_key_trees e.what

-- the expressions of a key that must have values: a unit is queried by its word
abbrev pub checked_value_expressions : Key → Kind → Option Entry → List Syntax
checked_value_expressions k kind.Unit e = Word k.name ∷ []
checked_value_expressions k _ e = checked_entry_trees e

abbrev pub place_finding : Option ℕ → Finding
place_finding None = Sound
place_finding (Some place) = NotPositive place

-- the finding for the values of the parts of a list: a part does not conform to the first one, or else the first part
-- that is not above 0
abbrev pub parts_finding : List Amount → Finding
parts_finding [] = Sound
parts_finding (part ∷ parts) =
    if list_any (is_unlike_unit part) parts then NonConforming else place_finding
    (position is_unit_not_positive (part ∷ parts))

abbrev pub check_names_answer : Option NameFault → Result (Unit {0}) ReplyFault
check_names_answer None = Ok tt
check_names_answer (Some fault) = Err (Name fault)

-- the finding if the values alone decide: sound if all of them exist
abbrev pub sound_finding : Inquiry (List Amount) → Inquiry Finding
sound_finding values = do
  _ ← values
  inquiry_without_queries (Ok Sound)

-- the finding of a list: all values exist, and the parts agree with each other
abbrev pub list_finding : Inquiry (List Amount) → Inquiry Finding
list_finding values = do
  parts ← values
  inquiry_without_queries (Ok (parts_finding parts))

abbrev pub check_prefix_answer : {A : Type 0} → Key → Result A ReplyFault → Result A ReplyFault
check_prefix_answer k (Err (Name fault)) = Err (Name (checked_prefix_fault k fault))
check_prefix_answer k answer = answer

-- the values of the body of a prefix, with a name fault reported as one of the prefix
abbrev pub checked_prefix_values : Key → Inquiry (List Amount) → Inquiry (List Amount)
checked_prefix_values k values = record { events = values.events; answer = check_prefix_answer k values.answer }

module _ (table : EntryTable) where
  -- a function is queried by a call of it, and only for faults of its names
  abbrev pub names_finding : Key → Inquiry (Unit {0})
  names_finding k = record {
    events = AsksWords (called_eval_word k.name ∷ []) ∷ [];
    answer = check_names_answer (name_fault table (called_eval_word k.name ∷ []));
  }

  -- a unit and a prefix are checked by value; a function, an alias and a table by the faults of their names, and then
  -- by the values of their units; a list by the values of its parts, and then by whether the parts agree
  abbrev pub checked_by : Kind → Key → Inquiry (List Amount) → Inquiry Finding
  checked_by kind.Unit k values = sound_finding values
  checked_by kind.Prefix k values = sound_finding (checked_prefix_values k values)
  checked_by kind.Func k values = do
    _ ← names_finding k
    sound_finding values
  checked_by kind.List k values = list_finding values

  abbrev pub key_finding : Key → Inquiry Finding
  key_finding k = checked_by k.kind k (values_of_trees table (checked_value_expressions k k.kind (entry_at table k)))

-- a line that reports a text about a key
abbrev pub check_report_line : Key → (text : List ℕ) → List ℕ
check_report_line k text = ((key_text k ++ codes ": ") ++ text) ++ codes "\n"

-- the line for a finding; there is none if the key is sound
abbrev pub finding_line : Style → Key → Result Finding ReplyFault → List ℕ
finding_line style k (Ok Sound) = []
finding_line style k (Ok NonConforming) = check_report_line k (codes "conformability error")
finding_line style k (Ok (NotPositive place)) = check_report_line k (fault_text style (ListUnit place))
finding_line style k (Err fault) = check_report_line k (fault_text style fault)

module _ (table : EntryTable) where
  abbrev pub check_line : Style → Key → List ℕ
  check_line style k = finding_line style k (key_finding table k).answer

  -- the lines of some keys, and the queries that are made for them
  abbrev pub check_among : Style → List Key → List ℕ
  check_among style keys = flat_map (check_line style) keys

  abbrev pub queries_among : List Key → List LiveEvent
  queries_among keys = flat_map (λ k. (key_finding table k).events) keys

  -- the lines of all keys; all names are queried first
  abbrev pub check_report : Style → List ℕ
  check_report style = check_among style (deck_table_keys table)

  abbrev pub check_queries : List LiveEvent
  check_queries = settle_all_queries table ++ queries_among (deck_table_keys table)
