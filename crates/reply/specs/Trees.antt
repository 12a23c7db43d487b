-- The trees of texts.
use Rattle.std.specs.Prelude.{ℕ, List, [], ◌∷◌, None, Result, Ok, Err}
use Rattle.units_io.specs.Outcomes.{◌>>=◌}
use Rattle.expr_tree.specs.declared.fault.ParseFault.{ParseFault}
use Rattle.expr_tree.specs.ParseResult.{parse_of}
use Rattle.expr_tree.specs.Syntax.{Syntax}
use Rattle.reply.specs.declared.fault.ReplyFault.{ReplyFault}
use Rattle.reply.specs.declared.fault.ReplyFault.TheVariants.{Parse}

abbrev pub inquiry_parse_result : Result Syntax ParseFault → Result Syntax ReplyFault
inquiry_parse_result (Ok tree) = Ok tree
inquiry_parse_result (Err fault) = Err (Parse fault)

-- the tree of a text, which contains no argument
abbrev pub inquiry_tree : List ℕ → Result Syntax ReplyFault
inquiry_tree text = inquiry_parse_result (parse_of None text)

-- the trees of texts, in order, or the first fault
abbrev pub inquiry_trees : List (List ℕ) → Result (List Syntax) ReplyFault
inquiry_trees [] = Ok []
inquiry_trees (text ∷ texts) = do
  tree ← inquiry_tree text
  trees ← inquiry_trees texts
  Ok (tree ∷ trees)
