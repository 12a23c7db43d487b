-- The result of parsing a text.
use Rattle.std.specs.Prelude.{◌≡◌, ◌↔◌, ℕ, List, length, Option, Some, None, Result, Ok, Err}
use Rattle.expr_tree.specs.declared.fault.ParseFault.{ParseFault}
use Rattle.expr_tree.specs.declared.fault.ParseFault.TheVariants as fault
use Rattle.expr_tree.specs.Faults.{first_parse_fault}
use Rattle.expr_tree.specs.Grammar.{TokensGiveTree}
use Rattle.expr_tree.specs.Lexemes.{tokens}
use Rattle.expr_tree.specs.TokenReading.{tree_of_token_list}
use Rattle.expr_tree.specs.Syntax.{Syntax}

-- the fault if there is one, or else the tree, which a text without a fault always has
abbrev pub parse_fault_or_tree : ℕ → Option ParseFault → Option Syntax → Result Syntax ParseFault
parse_fault_or_tree len (Some x) e = Err x
parse_fault_or_tree len None (Some e) = Ok e
parse_fault_or_tree len None None = Err (fault.Syntax len)

-- the first fault of the text, or else the tree of its tokens
unfoldable pub parse_of : Option (List ℕ) → List ℕ → Result Syntax ParseFault
parse_of binder text = parse_fault_or_tree (length text) (first_parse_fault text)
    (tree_of_token_list binder (tokens text))

-- law: a text is parsed to a tree exactly if it has no fault and its tokens give that tree, and to a fault exactly if
-- that is its first one
abbrev pub ParsedLaw : Type 0
ParsedLaw = (binder : Option (List ℕ)) (text : List ℕ)
    → ((e : Syntax) → (parse_of binder text ≡ Ok e) ↔
    ((first_parse_fault text ≡ None) × TokensGiveTree binder (tokens text) e))
    × ((x : ParseFault) → (parse_of binder text ≡ Err x) ↔ (first_parse_fault text ≡ Some x))
