-- FROM and TO as plain trees.
use Rattle.std.proofs.Common.{◌≡◌, ℕ, Bool, true, false, not, if◌then◌else◌, List, refl, subst}
use Rattle.std.specs.Prelude.{codes, pos, None, Option, Some, Ok, is_some}
use Rattle.std.specs.List.{list_any}
use Rattle.def_entry.specs.declared.key.Kind.TheVariants as kind
use Rattle.def_entry.specs.Entries.{Entry}
use Rattle.def_entry.specs.Keys.{key}
use Rattle.def_entry.specs.EntryReading.{is_entry_semicolon}
use Rattle.def_entry.specs.Tables.{EntryTable, entry_at, is_entry_present}
use Rattle.def_lines.specs.Blanks.{trimmed_of_blanks}
use Rattle.expr_tree.specs.ParseResult.{parse_of}
use Rattle.expr_tree.specs.Syntax.{Syntax}
use Rattle.column_convert.specs.CachedValues.{AreColumnTextsPlain, HasCellProducts, IsColumnTextParsedAs}
use Rattle.column_convert.specs.CachedValues.{are_column_texts_plain}
use Rattle.column_convert.specs.Products.{IsCellFactor}

-- neither is a function, and TO is not a list
pub record AreNoCalls (table : EntryTable) (from to : List ℕ) : Type 0 where
  pub plain : is_entry_present table (key kind.Func from) ≡ false
  pub to_plain : is_entry_present table (key kind.Func to) ≡ false
  pub to_single : entry_at table (key kind.List to) ≡ None
  pub to_uncut : list_any is_entry_semicolon to ≡ false

absent_column_entry_is_none : (o : Option Entry) → is_some o ≡ false → o ≡ None
absent_column_entry_is_none None e = refl
absent_column_entry_is_none (Some x) e = cc

pub plain_column_texts_are_no_calls : (table : EntryTable) (from to : List ℕ)
    → are_column_texts_plain table from to ≡ true → AreNoCalls table from to
plain_column_texts_are_no_calls table from to e =
    let all = go (is_entry_present table (key kind.Func from)) (is_entry_present table (key kind.Func to))
    (is_entry_present table (key kind.List to)) (list_any is_entry_semicolon to) e in
    record {
      plain = all.0;
      to_plain = all.1;
      to_single = absent_column_entry_is_none (entry_at table (key kind.List to)) all.2;
      to_uncut = all.3;
    }
  where
    go : (a b c d : Bool) → (if a then false else (if b then false else (if c then false else not d))) ≡ true
        → (a ≡ false) × (b ≡ false) × (c ≡ false) × (d ≡ false)
    go true b c d e = cc
    go false true c d e = cc
    go false false true d e = cc
    go false false false true e = cc
    go false false false false e = (refl, refl, refl, refl)

column_text_is_cell_factor : (from : List ℕ) (f : Syntax) → parse_of None from ≡ Ok f → HasCellProducts from
    → (negative : Bool)
    → IsCellFactor negative from f
column_text_is_cell_factor from f tree has negative = record {
  tree = tree;
  number = codes "1";
  decimal = record { coefficient = 1; scale = pos 0 };
  number_is_numeral = record { spelt = refl; reading_is = refl };
  no_product_fault = has negative;
}

pub column_texts_are_plain : (table : EntryTable) (from to name : List ℕ) (f g : Syntax) → name ≡ trimmed_of_blanks to
    → are_column_texts_plain table from name ≡ true → HasCellProducts from → IsColumnTextParsedAs from f
    → IsColumnTextParsedAs name g
    → AreColumnTextsPlain table from to f g
column_texts_are_plain table from to name f g is plain has tree to_tree = record {
  are_so = subst (λ (n : List ℕ). are_column_texts_plain table from n ≡ true) is plain;
  factor = column_text_is_cell_factor from f tree.tree has;
  to_tree = subst (λ (n : List ℕ). parse_of None n ≡ Ok g) is to_tree.tree;
}
