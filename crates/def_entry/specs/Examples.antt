-- The keys and entries of a few lines, the faults of others, and the texts of keys and faults, worked out by hand.
use Rattle.std.specs.Prelude.{◌≡◌, ℕ, pos, negsuc, true, List, [], ◌∷◌, Some, None, Result, Ok, Err, codes, map}
use Rattle.expr_tree.specs.declared.fault.ParseFault.TheVariants.{Syntax as SyntaxFault, NumeralTooLong, NestedTooDeep}
use Rattle.expr_tree.specs.Syntax.{Syntax, Number, Word, Argument, Juxtaposed, NoMember, Member}
use Rattle.frac128.specs.Fraction.{whole_fraction}
use Rattle.def_entry.specs.declared.fault.EntryFault.{EntryFault}
use Rattle.def_entry.specs.declared.fault.EntryFault.TheVariants.{BadName, BadForm, BadTable, Parse}
use Rattle.def_entry.specs.declared.key.Key.{Key}
use Rattle.def_entry.specs.declared.key.Kind.{Kind}
use Rattle.def_entry.specs.declared.key.Kind.TheVariants as kind
use Rattle.def_entry.specs.Entries.{Entry, What, Primitive, Dimensionless, Body, Function, Alias, Table, ListOf}
use Rattle.def_entry.specs.Faults.{entry_fault_text}
use Rattle.def_entry.specs.Intervals.{option_bound}
use Rattle.def_entry.specs.Keys.{key, key_of_spelling, key_text}
use Rattle.def_entry.specs.EntryReading.{entry_of}

-- the key of this kind and this name, whose entry has this text and this meaning
abbrev pub example_line_entry : Kind → List ℕ → List ℕ → What → Result (Key × Entry) EntryFault
example_line_entry k name text what = Ok (key k name, record { text = text; what = what })

-- a whole number
abbrev pub entry_number_tree : ℕ → Syntax
entry_number_tree n = Number (record { coefficient = n; scale = pos 0 })

-- a function of x with an inverse by its own name, whose argument is a nonnegative number of meters
abbrev pub from_meters_entry : What
from_meters_entry = Function (record {
  in_unit = Some (Word (codes "m"));
  out_unit = None;
  domain = Some (record { low = Some (option_bound true (whole_fraction (pos 0))); high = None });
  range = None;
  forward = Argument;
  inverse = Some Argument;
})

-- a function without options
abbrev pub constant_entry : Syntax → What
constant_entry tree = Function (record {
  in_unit = None;
  out_unit = None;
  domain = None;
  range = None;
  forward = tree;
  inverse = None;
})

-- a table from 1 to 3, in feet
abbrev pub short_table_entry : What
short_table_entry = Table (record {
  unit = Word (codes "ft");
  points = (whole_fraction (pos 1), whole_fraction (pos 2)) ∷
      (whole_fraction (pos 3), record { num = negsuc 0; den = 2 }) ∷ [];
})

-- law: lines with a key and an entry, one for each form
abbrev pub EntriesLaw : Type 0
EntriesLaw =
    (entry_of (codes "m !") ≡ example_line_entry kind.Unit (codes "m") (codes "!") Primitive)
    × (entry_of (codes "+ one !dimensionless") ≡ example_line_entry kind.Unit (codes "one") (codes "!dimensionless")
    Dimensionless)
    × (entry_of (codes "ft 12 in")
    ≡ example_line_entry kind.Unit (codes "ft") (codes "12 in")
    (Body (Juxtaposed (Member (entry_number_tree 12) (Member (Word (codes "in")) NoMember)))))
    × (entry_of (codes "k-  kilo") ≡ example_line_entry kind.Prefix (codes "k") (codes "kilo")
    (Body (Word (codes "kilo"))))
    × (entry_of (codes "f(x) units=[m;] domain=[0,) x ; f")
    ≡ example_line_entry kind.Func (codes "f") (codes "(x) units=[m;] domain=[0,) x ; f") from_meters_entry)
    × (entry_of (codes "f( x ) noerror 2")
    ≡ example_line_entry kind.Func (codes "f") (codes "( x ) noerror 2") (constant_entry (entry_number_tree 2)))
    × (entry_of (codes "g() f()") ≡ example_line_entry kind.Func (codes "g") (codes "() f()") (Alias (codes "f")))
    × (entry_of (codes "t[ft] 1 2, 3 -1|2") ≡ example_line_entry kind.Func (codes "t") (codes "[ft] 1 2, 3 -1|2")
    short_table_entry)
    × (entry_of (codes "!unitlist l ft;m")
    ≡ example_line_entry kind.List (codes "l") (codes "ft;m") (ListOf (Word (codes "ft") ∷ Word (codes "m") ∷ [])))

-- law: the faults of lines, each the first fault of its line
abbrev pub EntryFaultsLaw : Type 0
EntryFaultsLaw =
    (entry_of (codes "foo2 m") ≡ Err (BadName (codes "foo2")))
    × (entry_of (codes "- 3") ≡ Err (BadName []))
    × (entry_of (codes " m !") ≡ Err (BadName []))
    × (entry_of (codes "f(2 x) units=[") ≡ Err (BadName (codes "2 x")))
    × (entry_of (codes "g() f ()") ≡ Err (BadName (codes "f ")))
    × (entry_of (codes "f(x) ; x") ≡ Err BadForm)
    × (entry_of (codes "f(x) domain= [0,1] x") ≡ Err BadForm)
    × (entry_of (codes "t[] 1") ≡ Err BadForm)
    × (entry_of (codes "!unitlist") ≡ Err BadForm)
    × (entry_of (codes "t[(] 1 2, 1 3") ≡ Err BadTable)
    × (entry_of (codes "!unitlist l m;;s") ≡ Err (Parse (SyntaxFault 0)))
    × (entry_of (codes "a 1e10000 m") ≡ Err (Parse NumeralTooLong))

-- keys and their texts
abbrev pub example_key_spellings : List (Key × List ℕ)
example_key_spellings =
    (key kind.Unit (codes "m"), codes "m")
    ∷ (key kind.Prefix (codes "milli"), codes "milli-")
    ∷ (key kind.Func (codes "tempC"), codes "tempC()")
    ∷ (key kind.List (codes "hms"), codes "!unitlist hms")
    ∷ (key kind.Unit (codes "%"), codes "%")
    ∷ (key kind.List (codes "unitlist"), codes "!unitlist unitlist")
    ∷ (key kind.Func (codes "x_2"), codes "x_2()")
    ∷ []

-- texts of no key
abbrev pub spellings_of_no_key : List (List ℕ)
spellings_of_no_key =
    codes "" ∷ codes "-" ∷ codes "()" ∷ codes ")" ∷ codes "!"
    ∷ codes "!unitlist" ∷ codes "!unitlist " ∷ codes "!unitlist  z" ∷ codes "!unitlist z "
    ∷ codes "a b" ∷ codes "a--" ∷ codes "a-()" ∷ codes "a()-" ∷ codes "a(x)" ∷ codes "a)"
    ∷ codes "2m" ∷ codes "foo2" ∷ codes "sin" ∷ codes "sin()" ∷ codes "per-"
    ∷ codes "!unitlist z-" ∷ codes "!Unitlist z" ∷ codes "!unitlist !z"
    ∷ codes " m" ∷ codes "m " ∷ codes "a()()" ∷ []

-- law: each key has its text and is read from it, and no key is read from the other texts
pub record KeySpellingsLaw : Type 0 where
  pub key_texts : map (λ row. key_text row.0) example_key_spellings ≡ map (λ row. row.1) example_key_spellings
  pub keys_of_texts : map (λ row. key_of_spelling row.1) example_key_spellings ≡ map (λ row. Some row.0)
      example_key_spellings
  pub rejected_texts : map key_of_spelling spellings_of_no_key ≡ map (λ bytes. None) spellings_of_no_key

-- faults and their texts
abbrev pub example_entry_fault_texts : List (EntryFault × List ℕ)
example_entry_fault_texts =
    (BadName (codes "foo2"), codes "bad name: foo2")
    ∷ (BadForm, codes "bad definition")
    ∷ (BadTable, codes "bad table")
    ∷ (Parse NumeralTooLong, codes "numeral too long")
    ∷ (Parse NestedTooDeep, codes "nested too deep")
    ∷ []

-- law: each fault has the text that `example_entry_fault_texts` gives it
abbrev pub EntryFaultTextsLaw : Type 0
EntryFaultTextsLaw = map (λ row. entry_fault_text row.0) example_entry_fault_texts ≡ map
    (λ row. row.1) example_entry_fault_texts

-- law: all of these examples hold
pub record EntryExamplesLaw : Type 0 where
  pub entries : EntriesLaw
  pub faults : EntryFaultsLaw
  pub keys_read : KeySpellingsLaw
  pub entry_texts : EntryFaultTextsLaw
