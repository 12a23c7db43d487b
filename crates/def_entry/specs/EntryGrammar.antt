-- The key and the entry of a line in terms of how it is written, or the fault of a line without an entry.
use Rattle.std.specs.Prelude.{◌≡◌, ◌↔◌, ◌⊎◌, ◌++◌, ℕ, List, [], ◌∷◌, true, false, map, Option, Some, None, Ok, Err}
use Rattle.def_lines.specs.Kinds.{kind_of_line}
use Rattle.expr_tree.specs.declared.fault.ParseFault.{ParseFault}
use Rattle.expr_tree.specs.Names.{is_name}
use Rattle.expr_tree.specs.ParseResult.{parse_of}
use Rattle.expr_tree.specs.Syntax.{Syntax}
use Rattle.piecewise.specs.Lines.{Point}
use Rattle.piecewise.specs.Points.{is_table_of_points}
use Rattle.def_entry.specs.declared.fault.EntryFault.{EntryFault}
use Rattle.def_entry.specs.declared.fault.EntryFault.TheVariants as fault
use Rattle.def_entry.specs.declared.key.Key.{Key}
use Rattle.def_entry.specs.declared.key.Kind.{Kind}
use Rattle.def_entry.specs.declared.key.Kind.TheVariants as kind
use Rattle.def_entry.specs.Entries.{Entry, FunctionDef, What, Primitive, Dimensionless, Body, Function, Alias, Table}
use Rattle.def_entry.specs.Entries.{ListOf}
use Rattle.def_entry.specs.FormGrammar.{IsAlias, IsBracketedEntryText, IsEntrySpelledAs, IsTrimmedEntryText}
use Rattle.def_entry.specs.FormGrammar.{WrittenEntryForm, PrimitiveForm, DimensionlessForm, BodyForm, FunctionForm}
use Rattle.def_entry.specs.FormGrammar.{AliasForm, TableForm, ListForm}
use Rattle.def_entry.specs.Forms.{Form, some_text}
use Rattle.def_entry.specs.HeadingGrammar.{HasWrittenHeading}
use Rattle.def_entry.specs.Headings.{Heading}
use Rattle.def_entry.specs.Keys.{key}
use Rattle.def_entry.specs.Marks.{entry_close_paren, entry_open_paren}
use Rattle.def_entry.specs.Options.{Units}
use Rattle.def_entry.specs.PointGrammar.{AreWrittenPointPairs}
use Rattle.def_entry.specs.EntryReading.{entry_of, has_entry}

-- names

-- the text of a function contains this name, as its parameter or as the target of an alias
pub data HasInnerEntryName (text w : List ℕ) : Type 0 where
  Parameter : (inside behind : List ℕ) → IsBracketedEntryText entry_open_paren entry_close_paren text inside behind
      → IsTrimmedEntryText inside w
      → HasInnerEntryName text w
  Target : IsAlias text w → HasInnerEntryName text w

-- a line has this name besides the name of its key
abbrev pub HasFurtherEntryName : Kind → List ℕ → List ℕ → Type 0
HasFurtherEntryName kind.Func text w = HasInnerEntryName text w
HasFurtherEntryName _ text w = ⊥

-- all names of the line are valid
pub record HasHeadingNames (h : Heading) : Type 0 where
  pub own_name : is_name h.name ≡ true
  pub further_names : (w : List ℕ) → HasFurtherEntryName h.kind h.text w → is_name w ≡ true

-- a list without a name
abbrev pub IsHeadingWithoutName : Heading → Type 0
IsHeadingWithoutName h = (h.kind ≡ kind.List) × (h.name ≡ [])

-- w is the first name of the line that is not valid
pub data HasBadHeadingName (h : Heading) (w : List ℕ) : Type 0 where
  OwnName : (IsHeadingWithoutName h → ⊥) → h.name ≡ w → is_name w ≡ false → HasBadHeadingName h w
  FurtherName : is_name h.name ≡ true → HasFurtherEntryName h.kind h.text w → is_name w ≡ false → HasBadHeadingName h w

-- points

-- the points of a table
abbrev pub ArePointPairsOfText : List ℕ → List Point → Type 0
ArePointPairsOfText text points = AreWrittenPointPairs text points × (is_table_of_points points ≡ true)

-- if the form is a table, it has points
abbrev pub HasPointPairs : WrittenEntryForm → Type 0
HasPointPairs (TableForm unit text) = (points : List Point) × ArePointPairsOfText text points
HasPointPairs _ = Unit {0}

-- expressions

-- the texts of the units of a function, if they are given and not empty

abbrev pub in_unit_option_text : Option Units → Option (List ℕ)
in_unit_option_text None = None
in_unit_option_text (Some units) = some_text units.in_unit

abbrev pub out_unit_option_text : Option Units → Option (List ℕ)
out_unit_option_text None = None
out_unit_option_text (Some units) = some_text units.out_unit

-- the expression with this binder and this text, if there is one
abbrev pub optional_entry_expression : Option (List ℕ) → Option (List ℕ) → List (Option (List ℕ) × List ℕ)
optional_entry_expression binder None = []
optional_entry_expression binder (Some text) = (binder, text) ∷ []

-- the expressions of a form, in the order of their faults; in the forward one the parameter denotes the argument, and
-- in the inverse one the name of the function does
abbrev pub entry_expressions : List ℕ → WrittenEntryForm → List (Option (List ℕ) × List ℕ)
entry_expressions name (BodyForm body) = (None, body) ∷ []
entry_expressions name (FunctionForm parameter form) =
    optional_entry_expression None (in_unit_option_text form.options.units)
    ++ optional_entry_expression None (out_unit_option_text form.options.units)
    ++ ((Some parameter, form.forward) ∷ optional_entry_expression (Some name) form.inverse)
entry_expressions name (TableForm unit points) = (None, unit) ∷ []
entry_expressions name (ListForm parts) = map (λ part. (None, part)) parts
entry_expressions name _ = []

-- the first fault of some expressions
abbrev pub IsEntryExpressionFault : List (Option (List ℕ) × List ℕ) → ParseFault → Type 0
IsEntryExpressionFault [] x = ⊥
IsEntryExpressionFault (e ∷ es) x =
    (parse_of e.0 e.1 ≡ Err x) ⊎ (((tree : Syntax) × (parse_of e.0 e.1 ≡ Ok tree)) × IsEntryExpressionFault es x)

-- the tree of an expression, if there is one
abbrev pub IsEntryTreeOf : Option (List ℕ) → Option (List ℕ) → Option Syntax → Type 0
IsEntryTreeOf binder None tree = tree ≡ None
IsEntryTreeOf binder (Some text) tree = (e : Syntax) × (parse_of binder text ≡ Ok e) × (tree ≡ Some e)

-- the trees of some parts
abbrev pub AreEntryTreesOf : List (List ℕ) → List Syntax → Type 0
AreEntryTreesOf [] [] = Unit {0}
AreEntryTreesOf (part ∷ parts) (e ∷ es) = (parse_of None part ≡ Ok e) × AreEntryTreesOf parts es
AreEntryTreesOf _ _ = ⊥

-- definitions

pub record IsFunctionEntryOf (name parameter : List ℕ) (form : Form) (f : FunctionDef) : Type 0 where
  pub in_unit : IsEntryTreeOf None (in_unit_option_text form.options.units) f.in_unit
  pub out_unit : IsEntryTreeOf None (out_unit_option_text form.options.units) f.out_unit
  pub domain : f.domain ≡ form.options.domain
  pub range : f.range ≡ form.options.range
  pub forward : parse_of (Some parameter) form.forward ≡ Ok f.forward
  pub inverse : IsEntryTreeOf (Some name) form.inverse f.inverse

-- the definition that a form gives to a key with this name
abbrev pub IsEntryDefinitionOf : List ℕ → WrittenEntryForm → What → Type 0
IsEntryDefinitionOf name PrimitiveForm Primitive = Unit {0}
IsEntryDefinitionOf name DimensionlessForm Dimensionless = Unit {0}
IsEntryDefinitionOf name (BodyForm body) (Body e) = parse_of None body ≡ Ok e
IsEntryDefinitionOf name (FunctionForm parameter form) (Function f) = IsFunctionEntryOf name parameter form f
IsEntryDefinitionOf name (AliasForm target) (Alias other) = target ≡ other
IsEntryDefinitionOf name (TableForm unit points) (Table t) =
    (parse_of None unit ≡ Ok t.unit) × ArePointPairsOfText points t.points
IsEntryDefinitionOf name (ListForm parts) (ListOf es) = AreEntryTreesOf parts es
IsEntryDefinitionOf _ _ _ = ⊥

-- the line is written such that it gives this key and this entry
pub record IsEntry (line : List ℕ) (k : Key) (e : Entry) : Type 0 where
  pub heading : Heading
  pub line_has_heading : HasWrittenHeading line heading
  pub key_is : k ≡ key heading.kind heading.name
  pub text_of_heading : e.text ≡ heading.text
  pub names : HasHeadingNames heading
  pub form : WrittenEntryForm
  pub spelled_form : IsEntrySpelledAs heading.kind heading.text form
  pub form_defines : IsEntryDefinitionOf heading.name form e.what

-- the first fault of a line: a bad name precedes a bad form, which precedes points that do not form a table, which
-- precede an expression
abbrev pub IsHeadingFault : Heading → EntryFault → Type 0
IsHeadingFault h (fault.BadName w) = HasBadHeadingName h w
IsHeadingFault h fault.BadForm =
    IsHeadingWithoutName h ⊎ (HasHeadingNames h × ((form : WrittenEntryForm) → IsEntrySpelledAs h.kind h.text form → ⊥))
IsHeadingFault h fault.BadTable =
    HasHeadingNames h × ((form : WrittenEntryForm) × IsEntrySpelledAs h.kind h.text form × (HasPointPairs form → ⊥))
IsHeadingFault h (fault.Parse x) =
    HasHeadingNames h
    × ((form : WrittenEntryForm) × IsEntrySpelledAs h.kind h.text form × HasPointPairs form
    × IsEntryExpressionFault (entry_expressions h.name form) x)
IsHeadingFault h fault.OutOfMemory = ⊥

pub record HasEntryFault (line : List ℕ) (x : EntryFault) : Type 0 where
  pub heading : Heading
  pub line_has_heading : HasWrittenHeading line heading
  pub fault_of_heading : IsHeadingFault heading x

-- law: a line gives a key and an entry if and only if it is written that way, and a fault if and only if that is its
-- first one
abbrev pub EntryLaw : Type 0
EntryLaw = (line : List ℕ) → has_entry (kind_of_line line) ≡ true
    → ((k : Key) (e : Entry) → (entry_of line ≡ Ok (k, e)) ↔ IsEntry line k e)
    × ((x : EntryFault) → (entry_of line ≡ Err x) ↔ HasEntryFault line x)

-- law: a line that can be written in two ways has one key and one entry, or one fault, and never both
pub record OneEntryLaw : Type 0 where
  pub entries : (line : List ℕ) (k l : Key) (e f : Entry) → IsEntry line k e → IsEntry line l f → (k ≡ l) × (e ≡ f)
  pub faults : (line : List ℕ) (x y : EntryFault) → HasEntryFault line x → HasEntryFault line y → x ≡ y
  pub entry_or_fault : (line : List ℕ) (k : Key) (e : Entry) (x : EntryFault) → IsEntry line k e → HasEntryFault line x
      → ⊥
