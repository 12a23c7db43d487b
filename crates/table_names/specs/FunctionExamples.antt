-- Ranks and name faults of some functions, worked out by hand.
use Rattle.std.specs.Prelude.{◌≡◌, ℕ, List, [], ◌∷◌, Option, Some, None, codes}
use Rattle.expr_tree.specs.Syntax.{Argument, Call, Inverse, Number, Syntax, Word}
use Rattle.def_entry.specs.declared.key.Key.{Key}
use Rattle.def_entry.specs.declared.key.Kind.TheVariants as kind
use Rattle.def_entry.specs.Entries.{Alias, Body, Entry, Function, Primitive, Table as PointTable}
use Rattle.def_entry.specs.Keys.{key}
use Rattle.def_entry.specs.Tables.{EntryTable}
use Rattle.tree_eval.specs.Entries.{rank_of_meaning}
use Rattle.table_names.specs.declared.fault.NameFault.{NameFault}
use Rattle.table_names.specs.declared.fault.NameFault.TheVariants.{Unknown}
use Rattle.table_names.specs.Examples.{name_fault_decimal_one, name_fault_entry, name_fault_unit}
use Rattle.table_names.specs.Faults.{key_fault}
use Rattle.table_names.specs.Meanings.{key_meaning}

abbrev pub function_meaning_example_key : List ℕ → Key
function_meaning_example_key name = key kind.Func name

-- the entry of a function that has only a forward expression
abbrev pub function_meaning_example_entry : Syntax → Entry
function_meaning_example_entry e = name_fault_entry (Function (record {
  in_unit = None;
  out_unit = None;
  domain = None;
  range = None;
  forward = e;
  inverse = None;
}))

-- the lines `m !`, `g(x) x`, `f(x) g(x)`, `back(x) ~g(x)`, `h() f`, `word(x) f`, `u f(1)`, `over(x) u` and `t[m]`
abbrev pub ranked_meaning_table : EntryTable
ranked_meaning_table = (
  function_meaning_example_key (codes "t"),
  name_fault_entry
      (PointTable (record { unit = Word (codes "m"); points = [] })),
)
    ∷ (function_meaning_example_key (codes "over"), function_meaning_example_entry (Word (codes "u")))
    ∷ (name_fault_unit (codes "u"), name_fault_entry (Body (Call (codes "f") (Number name_fault_decimal_one))))
    ∷ (function_meaning_example_key (codes "word"), function_meaning_example_entry (Word (codes "f")))
    ∷ (function_meaning_example_key (codes "h"), name_fault_entry (Alias (codes "f")))
    ∷ (function_meaning_example_key (codes "back"), function_meaning_example_entry (Inverse (codes "g") Argument))
    ∷ (function_meaning_example_key (codes "f"), function_meaning_example_entry (Call (codes "g") Argument))
    ∷ (function_meaning_example_key (codes "g"), function_meaning_example_entry Argument)
    ∷ (name_fault_unit (codes "m"), name_fault_entry Primitive) ∷ []

abbrev pub example_meaning_rank : List ℕ → ℕ
example_meaning_rank name = rank_of_meaning (key_meaning ranked_meaning_table (function_meaning_example_key name))

-- a function with four expressions, each of which is one word
abbrev pub function_fault_example_entry : Entry
function_fault_example_entry = name_fault_entry (Function (record {
  in_unit = Some (Word (codes "a"));
  out_unit = Some (Word (codes "b"));
  domain = None;
  range = None;
  forward = Word (codes "c");
  inverse = Some (Word (codes "d"));
}))

-- the table of that function and these units
abbrev pub function_fault_example_table : List (List ℕ) → EntryTable
function_fault_example_table [] = (function_meaning_example_key (codes "f"), function_fault_example_entry) ∷ []
function_fault_example_table (w ∷ ws) = (name_fault_unit w, name_fault_entry Primitive) ∷ function_fault_example_table
    ws

-- the fault of the function if these units are present
abbrev pub function_name_fault_with : List (List ℕ) → Option NameFault
function_name_fault_with units = key_fault (function_fault_example_table units)
    (function_meaning_example_key (codes "f"))

-- the fault of a word that is unknown in the entry of the function
abbrev pub function_name_fault_of_unknown : List ℕ → Option NameFault
function_name_fault_of_unknown word = Some (Unknown word (Some (function_meaning_example_key (codes "f"))))

-- law: The rank of a function is one above the greatest rank of its words, whether they are called, inverted or plain;
-- that of an alias is one above its target's; and a rank does not pass through a unit. The expressions of a function
-- are read in the order in unit, out unit, forward expression, inverse. The target of an alias is a function, never a
-- unit of its name.
pub record FunctionMeaningExamplesLaw : Type 0 where
  pub rank_without_words : example_meaning_rank (codes "g") ≡ 1
  pub rank_of_a_call : example_meaning_rank (codes "f") ≡ 2
  pub rank_of_an_inverse : example_meaning_rank (codes "back") ≡ 2
  pub rank_of_an_alias : example_meaning_rank (codes "h") ≡ 3
  pub rank_of_a_plain_word : example_meaning_rank (codes "word") ≡ 3
  pub rank_through_a_unit : example_meaning_rank (codes "over") ≡ 1
  pub rank_of_a_table : example_meaning_rank (codes "t") ≡ 1
  pub in_unit_first : function_name_fault_with [] ≡ function_name_fault_of_unknown (codes "a")
  pub out_unit_second : function_name_fault_with (codes "a" ∷ []) ≡ function_name_fault_of_unknown (codes "b")
  pub forward_third : function_name_fault_with (codes "a" ∷ codes "b" ∷ []) ≡ function_name_fault_of_unknown (codes "c")
  pub inverse_last : function_name_fault_with (codes "a" ∷ codes "b" ∷ codes "c" ∷ []) ≡ function_name_fault_of_unknown
      (codes "d")
  pub no_fault : function_name_fault_with (codes "a" ∷ codes "b" ∷ codes "c" ∷ codes "d" ∷ []) ≡ None
  pub alias_of_a_unit :
      key_fault ((function_meaning_example_key (codes "h"), name_fault_entry (Alias (codes "a"))) ∷
      (name_fault_unit (codes "a"), name_fault_entry Primitive) ∷ [])
      (function_meaning_example_key (codes "h")) ≡ Some
      (Unknown (codes "a") (Some (function_meaning_example_key (codes "h"))))
