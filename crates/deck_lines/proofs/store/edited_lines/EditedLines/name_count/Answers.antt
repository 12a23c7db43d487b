use Rattle.std.proofs.Common.{subst}
use Rattle.deck_lines.specs.StoreEdits.{StoreEdit, store_after, store_before}
use Rattle.deck_lines.specs.KeyNumbering.{IsKeyNumbering}
use Rattle.deck_lines.proofs.StoredLines.{key_numbering_edited}
use Rattle.deck_lines.proofs.store.edited_lines.EditedLines.name_count.Goals as goal

pub returns-clause-before : goal.returns-clause-before
returns-clause-before c =
    subst (λ (v : StoreEdit). IsKeyNumbering (store_before v)) c.self.view_is c.name_count.ensures.numbering

pub returns-clause-after : goal.returns-clause-after
returns-clause-after c =
    let e = c.self.inside in
    subst (λ (v : StoreEdit). IsKeyNumbering (store_after v)) c.self.view_is
    (key_numbering_edited e.store.now e.put.now e.definitions.now e.at e.cut c.name_count.ensures.numbering
    c.self.invariant.definitions_put)
