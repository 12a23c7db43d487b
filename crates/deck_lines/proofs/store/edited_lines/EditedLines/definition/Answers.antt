use Rattle.std.proofs.Common.{sym, refl, subst}
use Rattle.deck_lines.specs.StoreEdits.{StoreEdit, store_after}
use Rattle.deck_lines.specs.KeyNumbering.{IsKeyNumbering}
use Rattle.deck_lines.proofs.StoredLines.{key_numbering_edited, store_definition_seen_edited}
use Rattle.deck_lines.proofs.StoredLines.{store_definition_unseen_edited}
use Rattle.deck_lines.proofs.store.edited_lines.EditedLines.definition.Goals as goal

pub returns-in-Stored-clause-is : goal.returns-in-Stored-clause-is
returns-in-Stored-clause-is c =
    let e = c.self.inside in
    store_definition_seen_edited _ e.store.now.lines c.in-Stored.place c.args.place _ _ c.self.view_is
    (c.in-Stored.ensures e.store.now.lines e.put.now (sym c.len.ensures.count) refl)
    c.definition.ensures

pub returns-in-Put-clause-is : goal.returns-in-Put-clause-is
returns-in-Put-clause-is c =
    let e = c.self.inside in
    store_definition_seen_edited _ e.put.now c.in-Put.place c.args.place _ _ c.self.view_is
    (c.in-Put.ensures e.store.now.lines e.put.now (sym c.len.ensures.count) refl)
    (c.definition_in.ensures e.store.now.names e.put.now c.self.invariant.definitions_put)

pub returns-in-Past-clause-is : goal.returns-in-Past-clause-is
returns-in-Past-clause-is c =
    let e = c.self.inside in
    store_definition_unseen_edited c.args.place _ _ c.self.view_is
    (c.in-Past.ensures e.store.now.lines e.put.now (sym c.len.ensures.count) refl)

pub returns-in-Stored-clause-numbering : goal.returns-in-Stored-clause-numbering
returns-in-Stored-clause-numbering c =
    let e = c.self.inside in
    subst (λ (v : StoreEdit). IsKeyNumbering (store_after v)) c.self.view_is
    (key_numbering_edited e.store.now e.put.now e.definitions.now e.at e.cut c.len.ensures.numbering
    c.self.invariant.definitions_put)

pub returns-in-Put-clause-numbering : goal.returns-in-Put-clause-numbering
returns-in-Put-clause-numbering c =
    let e = c.self.inside in
    subst (λ (v : StoreEdit). IsKeyNumbering (store_after v)) c.self.view_is
    (key_numbering_edited e.store.now e.put.now e.definitions.now e.at e.cut c.len.ensures.numbering
    c.self.invariant.definitions_put)

pub returns-in-Past-clause-numbering : goal.returns-in-Past-clause-numbering
returns-in-Past-clause-numbering c =
    let e = c.self.inside in
    subst (λ (v : StoreEdit). IsKeyNumbering (store_after v)) c.self.view_is
    (key_numbering_edited e.store.now e.put.now e.definitions.now e.at e.cut c.len.ensures.numbering
    c.self.invariant.definitions_put)
