-- The key and the entry of a line, as they are computed. EntryGrammar defines how such a line is written.
use Rattle.std.specs.Prelude.{◌≡◌, ◌↔◌, ◌==◌, ◌-◌, ℕ, List, [], ◌∷◌, Bool, true, false, length, take, codes, nat_eq}
use Rattle.std.specs.Prelude.{if◌then◌else◌, Option, Some, None, Result, Ok, Err}
use Rattle.std.specs.List.{ends_with, slice_split}
use Rattle.units_io.specs.Outcomes.{◌>>=◌}
use Rattle.def_lines.specs.Blanks.{trimmed_of_blanks}
use Rattle.def_lines.specs.Kinds.{LineKindWithArguments as LineKind, Definition, UnitList}
use Rattle.std.specs.Str.{bytes_eq}
use Rattle.expr_tree.specs.Syntax.{Syntax}
use Rattle.piecewise.specs.Lines.{Point}
use Rattle.def_entry.specs.declared.key.Key.{Key}
use Rattle.def_entry.specs.declared.key.Kind.{Kind}
use Rattle.def_entry.specs.declared.key.Kind.TheVariants as kind
use Rattle.def_entry.specs.declared.fault.EntryFault.{EntryFault}
use Rattle.def_entry.specs.declared.fault.EntryFault.TheVariants.{BadForm, BadTable}
use Rattle.def_entry.specs.Cuts.{cut_at}
use Rattle.def_entry.specs.Entries.{Entry, What, Primitive, Dimensionless, Body, Function, Alias, Table, ListOf}
use Rattle.def_entry.specs.Marks.{entry_close_bracket, entry_close_paren, entry_open_paren, entry_semicolon}
use Rattle.def_entry.specs.Outcomes.{entry_tree, name_or_entry_fault, or_entry_fault}
use Rattle.def_entry.specs.Forms.{Form, form_of, some_text}
use Rattle.def_entry.specs.Headings.{Heading, entry_text, heading_of_line}
use Rattle.def_entry.specs.Keys.{key}
use Rattle.def_entry.specs.Options.{Units}
use Rattle.def_entry.specs.PointLists.{points_of, table_points}

-- a text, or the fault of a bad form if it is empty
abbrev pub nonempty_entry_text : List ℕ → Result (List ℕ) EntryFault
nonempty_entry_text text = or_entry_fault BadForm (some_text text)

-- the definition of a unit or a prefix by an expression
abbrev pub body_in : List ℕ → Result What EntryFault
body_in text = do
  body ← nonempty_entry_text text
  tree ← entry_tree None body
  Ok (Body tree)

-- the definition of a unit
abbrev pub unit_body_in : List ℕ → Result What EntryFault
unit_body_in text =
    if bytes_eq text (codes "!")
    then Ok Primitive
    else (if bytes_eq text (codes "!dimensionless") then Ok Dimensionless else body_in text)

-- a text without a final `()`
abbrev pub without_call : List ℕ → List ℕ
without_call text =
    if ends_with nat_eq text (codes "()") then take (length text - 2) text else text

-- an alias of the function with another name
abbrev pub alias_in : List ℕ → Result What EntryFault
alias_in text = do
  target ← nonempty_entry_text (without_call (trimmed_of_blanks text))
  name ← name_or_entry_fault target
  Ok (Alias name)

-- a unit of a function, or `None` if its text is empty
abbrev pub unit_tree : List ℕ → Result (Option Syntax) EntryFault
unit_tree [] = Ok None
unit_tree (b ∷ text) = do
  tree ← entry_tree None (b ∷ text)
  Ok (Some tree)

-- the in unit and the out unit, if the line has that option
abbrev pub option_units_in : Option Units → Result (Option Syntax × Option Syntax) EntryFault
option_units_in None = Ok (None, None)
option_units_in (Some units) = do
  in_unit ← unit_tree units.in_unit
  out_unit ← unit_tree units.out_unit
  Ok (in_unit, out_unit)

-- the inverse, in which the name of the function denotes its argument
abbrev pub inverse_body_in : List ℕ → Option (List ℕ) → Result (Option Syntax) EntryFault
inverse_body_in name None = Ok None
inverse_body_in name (Some text) = do
  tree ← entry_tree (Some name) text
  Ok (Some tree)

-- the function with these parts
abbrev pub function_entry_definition : Form → Option Syntax × Option Syntax → Syntax → Option Syntax → What
function_entry_definition form units forward inverse = Function (record {
  in_unit = units.0;
  out_unit = units.1;
  domain = form.options.domain;
  range = form.options.range;
  forward = forward;
  inverse = inverse;
})

-- the function of a form
abbrev pub function_of : List ℕ → List ℕ → Form → Result What EntryFault
function_of name parameter form = do
  units ← option_units_in form.options.units
  forward ← entry_tree (Some parameter) form.forward
  inverse ← inverse_body_in name form.inverse
  Ok (function_entry_definition form units forward inverse)

-- a function, given its parameter, which is empty for an alias, and the text after it
abbrev pub function_or_alias_in : List ℕ → List ℕ → List ℕ → Result What EntryFault
function_or_alias_in name [] behind = alias_in behind
function_or_alias_in name (b ∷ bytes) behind = do
  parameter ← name_or_entry_fault (b ∷ bytes)
  form ← or_entry_fault BadForm (form_of behind)
  function_of name parameter form

-- the points of a table
abbrev pub point_pairs_in : List ℕ → Result (List Point) EntryFault
point_pairs_in text = do
  points ← or_entry_fault BadTable (points_of text)
  or_entry_fault BadTable (table_points points)

-- a table, given its unit and the text after it
abbrev pub table_entry_in : List ℕ → List ℕ → Result What EntryFault
table_entry_in text behind = do
  unit ← nonempty_entry_text text
  points ← point_pairs_in behind
  tree ← entry_tree None unit
  Ok (Table (record { unit = tree; points = points }))

-- a function, given the parts before and after `)` of the text after its `(`
abbrev pub parted_function_or_alias : List ℕ → Option (List ℕ × List ℕ) → Result What EntryFault
parted_function_or_alias name found = do
  parts ← or_entry_fault BadForm found
  function_or_alias_in name (trimmed_of_blanks parts.0) parts.1

-- a table, given the parts before and after `]` of the text after its `[`
abbrev pub parted_table_entry : Option (List ℕ × List ℕ) → Result What EntryFault
parted_table_entry found = do
  parts ← or_entry_fault BadForm found
  table_entry_in (trimmed_of_blanks parts.0) parts.1

-- a function, whose text starts with `(`, or a table, whose text starts with `[`
abbrev pub function_or_table_entry_in : List ℕ → List ℕ → Result What EntryFault
function_or_table_entry_in name [] = Err BadForm
function_or_table_entry_in name (b ∷ text) =
    if b == entry_open_paren then parted_function_or_alias name (cut_at entry_close_paren text) else parted_table_entry
    (cut_at entry_close_bracket text)

-- the byte is `;`
abbrev pub is_entry_semicolon : ℕ → Bool
is_entry_semicolon b = b == entry_semicolon

-- the trees of some parts, from left to right
abbrev pub entry_trees : List (List ℕ) → Result (List Syntax) EntryFault
entry_trees [] = Ok []
entry_trees (part ∷ parts) = do
  tree ← entry_tree None (trimmed_of_blanks part)
  trees ← entry_trees parts
  Ok (tree ∷ trees)

-- a list, whose parts are separated by `;`
abbrev pub list_entry_in : List ℕ → Result What EntryFault
list_entry_in text = do
  parts ← nonempty_entry_text text
  trees ← entry_trees (slice_split is_entry_semicolon parts)
  Ok (ListOf trees)

-- the definition that a text gives to a name of this kind
abbrev pub entry_definition_in : Kind → List ℕ → List ℕ → Result What EntryFault
entry_definition_in kind.Unit name text = unit_body_in text
entry_definition_in kind.Prefix name text = body_in text
entry_definition_in kind.Func name text = function_or_table_entry_in name text
entry_definition_in kind.List name text = list_entry_in text

-- a bad name is the first fault, except that a list without a name is a bad form
abbrev pub heading_name_in : Kind → List ℕ → Result (List ℕ) EntryFault
heading_name_in kind.List [] = Err BadForm
heading_name_in _ name = name_or_entry_fault name

-- the definition in a line, given its heading
unfoldable pub what_of : Heading → Result What EntryFault
what_of h = do
  name ← heading_name_in h.kind h.name
  entry_definition_in h.kind name h.text

-- the key and the entry in a line, given its heading
abbrev pub entry_by_heading : Heading → Result (Key × Entry) EntryFault
entry_by_heading h = do
  what ← what_of h
  Ok (key h.kind h.name, record { text = h.text; what = what })

-- the key and the entry of a line, or its first fault
abbrev pub entry_of : List ℕ → Result (Key × Entry) EntryFault
entry_of line = entry_by_heading (heading_of_line line)

-- lines of this kind have an entry or the fault of an entry
abbrev pub has_entry : LineKind → Bool
has_entry Definition = true
has_entry UnitList = true
has_entry _ = false

-- law: the text of an entry is the text after the name in the heading of its line
abbrev pub EntryTextLaw : Type 0
EntryTextLaw = (line : List ℕ) (k : Key) (e : Entry) → entry_of line ≡ Ok (k, e) → e.text ≡ entry_text line

-- law: two entries for one key that lines give are equal if and only if their texts are equal
abbrev pub SameEntryTextLaw : Type 0
SameEntryTextLaw = (k : Key) (line other : List ℕ) (e f : Entry)
    → entry_of line ≡ Ok (k, e) → entry_of other ≡ Ok (k, f) → (e ≡ f) ↔ (e.text ≡ f.text)
