use Rattle.std.proofs.Common.{◌≡◌, ◌∙◌, List, ap, length}
use Rattle.std.proofs.lemmas.List.{length-map}
use Rattle.deck_lines.specs.StoreEdits.{StoreEdit, store_unedited}
use Rattle.deck_lines.specs.Marks.{store_line_without_mark}
use Rattle.deck_lines.specs.declared.line.DeckLine.{DeckLine}
use Rattle.deck_lines.proofs.ExchangedItems.{store_exchange_of_nothing}
use Rattle.deck_lines.proofs.store.edited_lines.EditedLines.without_change.Goals as goal

pub returns-clause-is : goal.returns-clause-is
returns-clause-is c =
    let e : StoreEdit = store_unedited c.args.store.now in
    let count : c.len.result ≡ length e.old_lines = c.len.ensures ∙ ap length c.lines.ensures.lines
    ∙ length-map e.old_lines store_line_without_mark in
    ap (λ (ls : List DeckLine). record e { new_lines = ls }) (store_exchange_of_nothing e.old_lines c.len.result count)
