-- A small table, worked out by hand.
use Rattle.std.specs.Prelude.{◌≡◌, ℕ, true, false, List, [], ◌∷◌, ◌++◌, Some, None, codes, pos}
use Rattle.expr_tree.specs.declared.word_list.WordUse.{WordUse}
use Rattle.expr_tree.specs.Syntax.{Number, Word}
use Rattle.expr_tree.specs.Words.{words_in}
use Rattle.frac128.specs.Decimals.{NumeralDecimal}
use Rattle.def_entry.specs.declared.key.Key.{Key}
use Rattle.def_entry.specs.declared.key.Kind.TheVariants as kind
use Rattle.def_entry.specs.Entries.{Entry, What, Body, Primitive}
use Rattle.def_entry.specs.Keys.{key}
use Rattle.def_entry.specs.Tables.{EntryTable}
use Rattle.tree_eval.specs.Expansions as expanded
use Rattle.table_names.specs.declared.fault.NameFault.TheVariants.{Unknown, Refused, Cycle}
use Rattle.table_names.specs.AffectedKeys.{is_affected_table_name}
use Rattle.table_names.specs.Faults.{key_fault, name_fault}
use Rattle.table_names.specs.Meanings.{key_meaning}
use Rattle.table_names.specs.Reach.{key_looked_keys, reach}

abbrev pub name_fault_unit : List ℕ → Key
name_fault_unit w = key kind.Unit w

abbrev pub name_fault_prefix : List ℕ → Key
name_fault_prefix w = key kind.Prefix w

abbrev pub name_fault_entry : What → Entry
name_fault_entry what = record { text = []; what = what }

abbrev pub name_fault_word_entry : List ℕ → Entry
name_fault_word_entry w = name_fault_entry (Body (Word w))

abbrev pub name_fault_decimal_one : NumeralDecimal
name_fault_decimal_one = record { coefficient = 1; scale = pos 0 }

abbrev pub name_fault_a : Key
name_fault_a = name_fault_unit (codes "a")

abbrev pub name_fault_b : Key
name_fault_b = name_fault_unit (codes "b")

abbrev pub name_fault_c : Key
name_fault_c = name_fault_unit (codes "c")

abbrev pub name_fault_d : Key
name_fault_d = name_fault_unit (codes "d")

abbrev pub name_fault_e : Key
name_fault_e = name_fault_unit (codes "e")

abbrev pub name_fault_k : Key
name_fault_k = name_fault_prefix (codes "k")

abbrev pub name_fault_m : Key
name_fault_m = name_fault_unit (codes "m")

abbrev pub name_fault_km : Key
name_fault_km = name_fault_unit (codes "km")

-- the lines `m !`, `k- 1`, `a b`, `b ka`, `c km` and `d xm`
abbrev pub name_fault_lines : EntryTable
name_fault_lines =
    (name_fault_d, name_fault_word_entry (codes "xm")) ∷ (name_fault_c, name_fault_word_entry (codes "km"))
    ∷ (name_fault_b, name_fault_word_entry (codes "ka")) ∷ (name_fault_a, name_fault_word_entry (codes "b"))
    ∷ (name_fault_k, name_fault_entry (Body (Number name_fault_decimal_one))) ∷
    (name_fault_m, name_fault_entry Primitive) ∷ []

-- the words of an expression that consists of one word
abbrev pub name_fault_one_word : List ℕ → List WordUse
name_fault_one_word w = words_in (Word w)

-- the words of two words, one after the other
abbrev pub name_fault_two_words : List ℕ → List ℕ → List WordUse
name_fault_two_words v w = name_fault_one_word v ++ name_fault_one_word w

-- `name_fault_lines`, and a unit `sin`
abbrev pub name_fault_lines_with_sin : EntryTable
name_fault_lines_with_sin = (name_fault_unit (codes "sin"), name_fault_entry Primitive) ∷ name_fault_lines

-- `name_fault_lines`, and a prefix `p` that stands for the unknown word `xm`
abbrev pub name_fault_lines_with_bad_prefix : EntryTable
name_fault_lines_with_bad_prefix = (name_fault_prefix (codes "p"), name_fault_word_entry (codes "xm")) ∷
    name_fault_lines

-- law: The chain of a cycle begins at the name of the query. An unknown word is reported with the key of the entry that
-- has it. A refused name is refused, whether it is present or not. Faults are met from left to right, in a prefix
-- before its unit. The other fields give the keys that a name reaches and looks at, and its meaning; `c` depends on an
-- absent key that would be preferred to `k` and `m`.
pub record NameFaultExamplesLaw : Type 0 where
  pub from_a : name_fault name_fault_lines (name_fault_one_word (codes "a")) ≡ Some
      (Cycle (name_fault_a ∷ name_fault_b ∷ name_fault_a ∷ []))
  pub from_b : name_fault name_fault_lines (name_fault_one_word (codes "kb")) ≡ Some
      (Cycle (name_fault_b ∷ name_fault_a ∷ name_fault_b ∷ []))
  pub by_key : key_fault name_fault_lines name_fault_b ≡ Some (Cycle (name_fault_b ∷ name_fault_a ∷ name_fault_b ∷ []))
  pub inner_fault : name_fault name_fault_lines (name_fault_one_word (codes "d")) ≡ Some
      (Unknown (codes "xm") (Some name_fault_d))
  pub outer_fault : name_fault name_fault_lines (name_fault_one_word (codes "xm")) ≡ Some (Unknown (codes "xm") None)
  pub refused_function : name_fault name_fault_lines (name_fault_one_word (codes "sin")) ≡ Some
      (Refused (codes "sin") None)
  pub refused_before_targets : name_fault name_fault_lines_with_sin (name_fault_one_word (codes "sin")) ≡ Some
      (Refused (codes "sin") None)
  pub refused_inside : key_fault ((name_fault_e, name_fault_word_entry (codes "sin")) ∷ name_fault_lines)
      name_fault_e ≡ Some (Refused (codes "sin") (Some name_fault_e))
  pub unknown_then_cycle : name_fault name_fault_lines (name_fault_two_words (codes "xm") (codes "a")) ≡ Some
      (Unknown (codes "xm") None)
  pub cycle_then_unknown : name_fault name_fault_lines (name_fault_two_words (codes "a") (codes "xm")) ≡ Some
      (Cycle (name_fault_a ∷ name_fault_b ∷ name_fault_a ∷ []))
  pub clean_then_unknown : name_fault name_fault_lines (name_fault_two_words (codes "c") (codes "xm")) ≡ Some
      (Unknown (codes "xm") None)
  pub prefix_before_unit : name_fault name_fault_lines_with_bad_prefix (name_fault_one_word (codes "pa"))
      ≡ Some (Unknown (codes "xm") (Some (name_fault_prefix (codes "p"))))
  pub no_fault : name_fault name_fault_lines (name_fault_one_word (codes "c")) ≡ None
  pub reach_of_c : reach name_fault_lines (name_fault_one_word (codes "c")) ≡ name_fault_c ∷ name_fault_k ∷ name_fault_m
      ∷ []
  pub looked_at : key_looked_keys name_fault_lines name_fault_c ≡ name_fault_km ∷ key kind.Func
      (codes "km") ∷ name_fault_prefix (codes "km") ∷ name_fault_k ∷ name_fault_m ∷
      []
  pub stands_for : key_meaning name_fault_lines name_fault_c
      ≡ expanded.One (expanded.Prefixed (expanded.Number name_fault_decimal_one) (expanded.Primitive (codes "m")))
  pub depends : is_affected_table_name name_fault_lines (name_fault_km ∷ []) name_fault_c ≡ true
  pub not_affected : is_affected_table_name name_fault_lines (name_fault_a ∷ name_fault_b ∷ name_fault_d ∷ [])
      name_fault_c ≡ false
