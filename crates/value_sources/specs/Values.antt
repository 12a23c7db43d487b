-- The values of the keys of a tree.
use Rattle.std.specs.Prelude.{◌≡◌, ℕ, List, Option, Some, None}
use Rattle.expr_tree.specs.Syntax.{Syntax, Word}
use Rattle.expr_tree.specs.Words.{words_in}
use Rattle.def_entry.specs.declared.key.Key.{Key}
use Rattle.def_entry.specs.declared.key.Kind.{Kind}
use Rattle.def_entry.specs.declared.key.Kind.TheVariants as kind
use Rattle.def_entry.specs.Entries as what
use Rattle.def_entry.specs.Entries.{Entry, What}
use Rattle.def_entry.specs.Tables.{EntryTable, entry_at}
use Rattle.tree_eval.specs.Outcomes.{value_in_outcome}
use Rattle.table_names.specs.ClosedKeys.{AreClosedWords}
use Rattle.table_names.specs.Meanings.{outcome}
use Rattle.live_table.specs.Answers.{live_answer_of_value, live_table_answer}

-- the name of a unit as an expression
abbrev pub named_source_unit : Kind → List ℕ → Option Syntax
named_source_unit kind.Unit name = Some (Word name)
named_source_unit kind.Prefix name = None
named_source_unit kind.Func name = None
named_source_unit kind.List name = None

abbrev pub source_syntax_in : Kind → List ℕ → What → Option Syntax
source_syntax_in kind name what.Primitive = named_source_unit kind name
source_syntax_in kind name what.Dimensionless = named_source_unit kind name
source_syntax_in kind name (what.Body e) = Some e
source_syntax_in kind name (what.Function d) = None
source_syntax_in kind name (what.Alias target) = None
source_syntax_in kind name (what.Table d) = None
source_syntax_in kind name (what.ListOf parts) = None

abbrev pub source_syntax_by : Kind → List ℕ → Option Entry → Option Syntax
source_syntax_by kind name None = None
source_syntax_by kind name (Some e) = source_syntax_in kind name e.what

-- the expression whose value is that of a key: the expression of its definition, or its name if it is a primitive or
-- dimensionless unit. The value of the prefix `k- 1000` is that of `1000`, because the word `k` may be a unit.
-- Functions and lists have no such expression
abbrev pub source_value_syntax : EntryTable → Key → Option Syntax
source_value_syntax table n = source_syntax_by n.kind n.name (entry_at table n)

-- law: if the expression of a key has no name fault, the result of a query of it is the outcome of the key
abbrev pub SourceValueLaw : Type 0
SourceValueLaw = (table : EntryTable) (n : Key) (e : Syntax) → source_value_syntax table n ≡ Some e
    → AreClosedWords table (words_in e)
    → live_table_answer table e ≡ live_answer_of_value None (value_in_outcome (outcome table n))
