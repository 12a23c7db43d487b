-- Laws that relate the grammar to the plain rules, and a law of all faults.
use Rattle.std.specs.Prelude.{◌≢◌, ◌↔◌, ℕ, List, Option, Err}
use Rattle.expr_tree.specs.declared.fault.ParseFault.TheVariants.{OutOfMemory}
use Rattle.expr_tree.specs.Grammar.{TokensGiveTree}
use Rattle.expr_tree.specs.ParseResult.{parse_of}
use Rattle.expr_tree.specs.Rules.{TokenMayFollow, TokensMayEnd}
use Rattle.expr_tree.specs.Syntax.{Syntax}
use Rattle.expr_tree.specs.Tokens.{Token}

-- law: tokens give a tree exactly if each of them is allowed at its place and they may end
abbrev pub TokensWithTreeLaw : Type 0
TokensWithTreeLaw = (binder : Option (List ℕ)) (ts : List Token)
    → ((e : Syntax) × TokensGiveTree binder ts e) ↔ (((i : ℕ) → TokenMayFollow ts i) × TokensMayEnd ts)

-- law: the specified result for a text is never a lack of memory
abbrev pub ParseMemoryLaw : Type 0
ParseMemoryLaw = (binder : Option (List ℕ)) (text : List ℕ) → parse_of binder text ≢ Err OutOfMemory
