-- Views of the parts of a line as bytes, independent of where they are stored.
use Rattle.std.specs.Prelude.{ℕ, List, Bool, Option, option_map}
use Rattle.std.specs.Borrow.{Bor}
use Rattle.std.specs.Option.{option_copied}
use Rattle.expr_tree.specs.declared.tree.Tree.{Tree}
use Rattle.expr_tree.specs.Syntax.{Syntax}
use Rattle.expr_tree.specs.Trees.{syntax}
use Rattle.def_entry.specs.declared.entry.What.{What as MadeWhat}
use Rattle.def_entry.specs.declared.form.Form.{Form as CutForm}
use Rattle.def_entry.specs.declared.line_head.Heading.{Heading as CutHeading}
use Rattle.def_entry.specs.declared.interval.Closing.{Closing}
use Rattle.def_entry.specs.declared.key.Key.{Key}
use Rattle.def_entry.specs.declared.options.Options.{Options as CutOptions}
use Rattle.def_entry.specs.declared.options.Units.{Units as CutUnits}
use Rattle.def_entry.specs.Entries.{Entry}
use Rattle.def_entry.specs.Forms.{Form}
use Rattle.def_entry.specs.Headings.{Heading}
use Rattle.def_entry.specs.Options.{Options, Units}
use Rattle.def_entry.specs.Views.{entry_with_definition}

-- the view of a part
abbrev pub seen_entry_text : Bor (List ℕ) → List ℕ
seen_entry_text part = part.now

-- the view of two parts
abbrev pub seen_entry_text_pair : Bor (List ℕ) × Bor (List ℕ) → List ℕ × List ℕ
seen_entry_text_pair parts = (parts.0.now, parts.1.now)

-- the view of a value and the text after it
abbrev pub seen_entry_part_and_rest : {A : Type 0} → A × Bor (List ℕ) → A × List ℕ
seen_entry_part_and_rest found = (found.0, found.1.now)

-- the view of the text before a bracket, the kind of the bracket, and the text after it
abbrev pub seen_option_closing : Closing → List ℕ × Bool × List ℕ
seen_option_closing parts = (parts.before.now, parts.is_square, parts.behind.now)

-- the view of the head of a line
abbrev pub seen_heading : CutHeading → Heading
seen_heading h = record { kind = h.kind; name = h.name.now; text = h.text.now }

-- the view of the units of a function
abbrev pub seen_option_units : CutUnits → Units
seen_option_units units = record { in_unit = units.in_unit.now; out_unit = units.out_unit.now }

-- the view of the units of a function and the text after them
abbrev pub seen_option_units_and_rest : CutUnits × Bor (List ℕ) → Units × List ℕ
seen_option_units_and_rest found = (seen_option_units found.0, found.1.now)

-- the view of options
abbrev pub seen_options : CutOptions → Options
seen_options options = record {
  units = option_map seen_option_units options.units;
  domain = options.domain;
  range = options.range;
  no_error = options.no_error;
}

-- the view of options and the text after them
abbrev pub seen_options_and_rest : CutOptions × Bor (List ℕ) → Options × List ℕ
seen_options_and_rest found = (seen_options found.0, found.1.now)

-- the view of the form of a function
abbrev pub seen_entry_form : CutForm → Form
seen_entry_form form = record {
  options = seen_options form.options;
  forward = form.forward.now;
  inverse = option_copied form.inverse;
}

-- the view of an optional tree
abbrev pub seen_entry_tree : Option Tree → Option Syntax
seen_entry_tree tree = option_map syntax tree

-- the view of two optional trees
abbrev pub seen_entry_trees : Option Tree × Option Tree → Option Syntax × Option Syntax
seen_entry_trees trees = (seen_entry_tree trees.0, seen_entry_tree trees.1)

-- the view of a key and its entry, given the line and the definition read from it
abbrev pub seen_entry : List ℕ → Key × MadeWhat → Key × Entry
seen_entry line p = (p.0, entry_with_definition line p.1)
