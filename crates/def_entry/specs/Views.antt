-- The view of an entry in contracts.
use Rattle.std.specs.Prelude.{ℕ, List, option_map}
use Rattle.expr_tree.specs.Trees.{syntax, syntax_of_trees}
use Rattle.def_entry.specs.declared.entry.Entry.{Entry as MadeEntry}
use Rattle.def_entry.specs.declared.entry.FunctionDef.{FunctionDef as MadeFunction}
use Rattle.def_entry.specs.declared.entry.TableDef.{TableDef as MadeTable}
use Rattle.def_entry.specs.declared.entry.What.{What as MadeWhat}
use Rattle.def_entry.specs.declared.entry.What.TheVariants as made
use Rattle.def_entry.specs.Entries.{Entry, FunctionDef, TableDef, What}
use Rattle.def_entry.specs.Headings.{entry_text}
use Rattle.def_entry.specs.Entries.{Primitive, Dimensionless, Body, Function, Alias, Table, ListOf}

abbrev pub function_entry_view : MadeFunction → FunctionDef
function_entry_view f = record {
  in_unit = option_map syntax f.in_unit;
  out_unit = option_map syntax f.out_unit;
  domain = f.domain;
  range = f.range;
  forward = syntax f.forward;
  inverse = option_map syntax f.inverse;
}

abbrev pub table_entry_view : MadeTable → TableDef
table_entry_view t = record { unit = syntax t.unit; points = t.points }

abbrev pub entry_definition_view : MadeWhat → What
entry_definition_view made.Primitive = Primitive
entry_definition_view made.Dimensionless = Dimensionless
entry_definition_view (made.Body tree) = Body (syntax tree)
entry_definition_view (made.Function f) = Function (function_entry_view f.value)
entry_definition_view (made.Alias target) = Alias target
entry_definition_view (made.Table t) = Table (table_entry_view t.value)
entry_definition_view (made.ListOf parts) = ListOf (syntax_of_trees parts)

-- the entry that a line gives, given the definition read from it
abbrev pub entry_with_definition : List ℕ → MadeWhat → Entry
entry_with_definition line what = record { text = entry_text line; what = entry_definition_view what }

abbrev pub entry_view : MadeEntry → Entry
entry_view e = entry_with_definition e.line.now e.what.now
