use Rattle.std.proofs.Common.{drop}
use Rattle.deck.specs.Tables.{table_of_deck}
use Rattle.reply.specs.Calls.{inquiry_syntaxes}
use Rattle.reply.proofs.TreeValues.{IsUnderway}
use Rattle.reply.proofs.text_evaluation.evaluate_texts.Given as goal

abbrev pub invariant-loop-tree : goal.invariant-loop-tree
invariant-loop-tree g l =
    IsUnderway (table_of_deck l.fn.table.deck) (inquiry_syntaxes l.trees) (inquiry_syntaxes (drop l.tree-index l.trees))
    l.values.items
    l.fn.table l.table l.fn.steps l.steps
