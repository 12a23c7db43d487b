-- The values of texts.
use Rattle.std.specs.Prelude.{◌≡◌, ⊤, ℕ, List, [], ◌∷◌, None, Ok}
use Rattle.expr_tree.specs.ParseResult.{parse_of}
use Rattle.expr_tree.specs.Syntax.{Syntax}
use Rattle.expr_tree.specs.Words.{words_in}
use Rattle.quantity.specs.Amount.{Amount}
use Rattle.unit_list.specs.Amounts.{HasUnitDenominator}
use Rattle.def_entry.specs.Tables.{EntryTable}
use Rattle.deck.specs.Decks.{DeckContents}
use Rattle.deck.specs.Tables as deck
use Rattle.tree_eval.specs.Value.{value}
use Rattle.table_names.specs.Faults.{name_fault}
use Rattle.table_names.specs.Meanings.{expansion}

-- x is the value of a text: the text is an expression, its names have no fault, and its full expansion evaluates to x
pub record IsInquiredValueOf (table : EntryTable) (text : List ℕ) (x : Amount) : Type 0 where
  pub tree : Syntax
  pub parses : parse_of None text ≡ Ok tree
  pub names : name_fault table (words_in tree) ≡ None
  pub evaluates : value (expansion table tree) None ≡ Ok x

-- the values of texts, in order
abbrev pub AreInquiredValuesOf : EntryTable → List (List ℕ) → List Amount → Type 0
AreInquiredValuesOf table [] [] = ⊤
AreInquiredValuesOf table (text ∷ texts) (x ∷ xs) = IsInquiredValueOf table text x × AreInquiredValuesOf table texts xs
AreInquiredValuesOf table _ _ = ⊥

-- law: over the definitions of a deck each value is a fraction with a denominator above 0
abbrev pub ReplyDenominatorLaw : Type 0
ReplyDenominatorLaw = (d : DeckContents) (text : List ℕ) (x : Amount) → IsInquiredValueOf (deck.table_of_deck d) text x
    → HasUnitDenominator x
