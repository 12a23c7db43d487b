use Rattle.std.proofs.Common.{◌≡◌, ◌≢◌, ℕ, List, true≢false, sym, ap, subst, ◌∙◌, Some, None, Option}
use Rattle.std.proofs.lemmas.Option.{same_Some}
use Rattle.std.proofs.lemmas.Slice.Eq.{bytes_eq-Decides}
use Rattle.def_entry.specs.declared.key.Key.{Key}
use Rattle.def_entry.specs.Entries.{Entry}
use Rattle.def_entry.specs.Keys.{key}
use Rattle.def_entry.specs.Views.{entry_view}
use Rattle.deck_lines.specs.Marks.{plain_store_line}
use Rattle.deck_lines.proofs.Entries.{entry_of_store_line_text}
use Rattle.deck.specs.Changes.{IsEditChange}
use Rattle.deck.specs.Edits.{deck_with_line}
use Rattle.deck.specs.Tables.{active_definitions, entry_at, last_definition_place, table_of_deck}
use Rattle.deck.proofs.ChangedKeys.{deck_entry_is_read_from_text}
use Rattle.deck.proofs.LastDefinition.{changed_none, changed_one}
use Rattle.deck.proofs.EntryTexts.{deck_entries_of_same_text}
use Rattle.deck.proofs.PlacedDefinitions.{active_definitions_in_place, no_definition_place_if_absent}
use Rattle.deck.proofs.deck.Deck.changed_over.Goals as goal

none_some : {A : Type 0} (o : Option A) (x : A) → o ≡ None → o ≡ Some x → ⊥
none_some o x e h = cc

pub returns-in_default-clause-changed : goal.returns-in_default-clause-changed
returns-in_default-clause-changed c = λ closed defines.
    let d = c.args.self.now in
    let k : Key = c.args.key.now in
    let e : Entry = entry_view c.args.entry in
    let none : entry_at (table_of_deck d) k ≡ None =
    sym (ap (λ n. entry_at (table_of_deck d) (key k.kind n)) c.as_bytes.ensures)
    ∙ sym c.in_default.ensures.entry in
    subst (IsEditChange d (deck_with_line c.args.entry.line.now d)) (sym c.in_ok-keys.ensures)
    (changed_one d closed c.args.entry.line.now k e defines (λ is. none_some (entry_at (table_of_deck d) k) e none is))

pub returns-in_default-clause-place : goal.returns-in_default-clause-place
returns-in_default-clause-place c =
    let d = c.args.self.now in
    let k : Key = c.args.key.now in
    sym (no_definition_place_if_absent (active_definitions d.settings d.lines) k
    (sym (ap (λ n. entry_at (table_of_deck d) (key k.kind n)) c.as_bytes.ensures) ∙ sym c.in_default.ensures.entry))

pub returns-then-eq-clause-changed : goal.returns-then-eq-clause-changed
returns-then-eq-clause-changed c = λ closed defines.
    let d = c.args.self.now in
    let k : Key = c.args.key.now in
    let text : List ℕ = c.args.entry.line.now in
    let e : Entry = entry_view c.args.entry in
    let f : Entry = entry_view c.in-Some.old.entry in
    let had : entry_at (table_of_deck d) k ≡ Some f =
    sym (ap (λ n. entry_at (table_of_deck d) (key k.kind n)) c.as_bytes.ensures)
    ∙ sym c.in-Some.ensures.entry in
    let texts : f.text ≡ e.text = sym c.text.ensures
    ∙ (bytes_eq-Decides c.text.result.now c.text-2.result.now).0 (sym c.eq.ensures ∙ c.if-eq.true)
    ∙ c.text-2.ensures in
    let line = deck_entry_is_read_from_text d.lines (active_definitions d.settings d.lines)
    (active_definitions_in_place d.settings d.lines) k f had in
    let same : f ≡ e =
    deck_entries_of_same_text c.same_text_law.ensures k f e line.0 text line.1
    (entry_of_store_line_text (plain_store_line 0 text) (k, e) defines) texts
    in
    subst (IsEditChange d (deck_with_line text d)) (sym c.new.ensures)
    (changed_none d closed text k e defines (had ∙ ap Some same))

pub returns-then-eq-clause-place : goal.returns-then-eq-clause-place
returns-then-eq-clause-place c =
    let d = c.args.self.now in
    let k : Key = c.args.key.now in
    sym (sym (ap (λ n. last_definition_place d.settings d.lines (key k.kind n)) c.as_bytes.ensures)
    ∙ c.in-Some.ensures.place)

pub returns-clause-changed : goal.returns-clause-changed
returns-clause-changed c = λ closed defines.
    let d = c.args.self.now in
    let k : Key = c.args.key.now in
    let e : Entry = entry_view c.args.entry in
    let f : Entry = entry_view c.in-Some.old.entry in
    let had : entry_at (table_of_deck d) k ≡ Some f =
    sym (ap (λ n. entry_at (table_of_deck d) (key k.kind n)) c.as_bytes.ensures)
    ∙ sym c.in-Some.ensures.entry in
    let differs : entry_at (table_of_deck d) k ≢ Some e = λ is.
    let texts : c.text.result.now ≡ c.text-2.result.now =
    c.text.ensures ∙ ap (λ (x : Entry). x.text) (same_Some f e (sym had ∙ is)) ∙ sym c.text-2.ensures in
    true≢false (sym ((bytes_eq-Decides c.text.result.now c.text-2.result.now).1 texts) ∙ sym c.eq.ensures
    ∙ c.if-eq.false) in
    subst (IsEditChange d (deck_with_line c.args.entry.line.now d)) (sym c.in_ok-keys-2.ensures)
    (changed_one d closed c.args.entry.line.now k e defines differs)

pub returns-clause-place : goal.returns-clause-place
returns-clause-place c =
    let d = c.args.self.now in
    let k : Key = c.args.key.now in
    sym (sym (ap (λ n. last_definition_place d.settings d.lines (key k.kind n)) c.as_bytes.ensures)
    ∙ c.in-Some.ensures.place)
