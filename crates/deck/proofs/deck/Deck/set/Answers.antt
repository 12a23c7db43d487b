use Rattle.std.proofs.Common.{◌≡◌, List, ℕ, Some, Ok, sym, ap, subst, ◌∙◌}
use Rattle.std.specs.Bool.{OnTrue}
use Rattle.units_io.specs.NamedValues.{NamedTexts, named_text, with_named_text}
use Rattle.deck_lines.specs.declared.line.DeckLine.{DeckLine}
use Rattle.deck.specs.Changes.{IsDeckTableChange}
use Rattle.deck.specs.Decks.{DeckContents}
use Rattle.deck.specs.Edits.{deck_after_switching}
use Rattle.deck.specs.LastPlaces.{IsDeckIndexed}
use Rattle.deck.specs.SettingChanges.{settings_with_variable}
use Rattle.deck.specs.Tables.{active_definitions, table_of_deck, table_of_deck_definitions}
use Rattle.deck.specs.declared.settings.Settings.{Settings}
use Rattle.deck.proofs.PlacedDefinitions.{active_definitions_in_place}
use Rattle.deck.proofs.SettingChanges.{deck_of, edit_changes_no_key, settings_of, settings_with_same_variable}
use Rattle.deck.proofs.deck.Deck.set.Goals as goal

pub returns-then-has_value : goal.returns-then-has_value
returns-then-has_value c =
    let d : DeckContents = c.args.self.now in
    let name = c.args.name.now in
    let value = c.args.value.now in
    let known : named_text c.self.inside.settings.vars name ≡ Some value =
    subst (λ b. OnTrue b (named_text c.self.inside.settings.vars name ≡ Some value)) c.if-has_value.true
    c.has_value.ensures in
    let has : named_text d.settings.vars name ≡ Some value =
    subst (λ (e : DeckContents). named_text e.settings.vars name ≡ Some value) c.self.view_is known in (
      ap (λ (s : Settings). Ok (deck_after_switching s d)) (settings_with_same_variable d.settings name value has),
      edit_changes_no_key (table_of_deck d) c.new.result c.new.ensures,
    )

pub invariant_of-self : goal.invariant_of-self
invariant_of-self c =
    let s = c.self.inside in record {
      indexed = subst (λ (ps : NamedTexts). IsDeckIndexed s.store (settings_of s.settings.locale ps) s.last)
          (sym c.in_err-set.ensures.err) c.self.invariant.indexed;
      covers = tt;
    }

pub returns : goal.returns
returns c =
    let s = c.self.inside in
    let name = c.args.name.now in
    let value = c.args.value.now in
    let lines : List DeckLine = s.store.lines in
    let vars : c.set.new.self ≡ with_named_text s.settings.vars name value =
    c.in_ok-set.ensures.ok ∙ ap (λ (n : List ℕ). with_named_text s.settings.vars n c.in_ok-value.value)
    c.in_ok-name.ensures
    ∙ ap (with_named_text s.settings.vars name) c.in_ok-value.ensures in
    let now : Settings = settings_of s.settings.locale c.set.new.self in
    let are : c.with_variable-settings.result ≡ now =
    c.with_variable-settings.ensures
    ∙ ap (λ (v : List ℕ). settings_with_variable s.settings name v) c.in_ok-value.ensures
    ∙ ap (settings_of s.settings.locale) (sym vars) in (
      ap (λ (d : DeckContents). Ok (deck_after_switching (settings_with_variable d.settings name value) d))
          (sym c.self.view_is)
          ∙ ap (λ (ps : NamedTexts). Ok (deck_of lines s.notices (settings_of s.settings.locale ps))) (sym vars),
      subst (λ (d : DeckContents). IsDeckTableChange (table_of_deck d)
          (table_of_deck_definitions (active_definitions now lines)) c.in_ok-changes.changes.keys)
          c.self.view_is
          (subst (λ (t : Settings). IsDeckTableChange (table_of_deck_definitions (active_definitions s.settings lines))
          (table_of_deck_definitions (active_definitions t lines)) c.in_ok-changes.changes.keys) are
          (c.in_ok-changes.ensures.keys (active_definitions s.settings lines)
          (active_definitions_in_place s.settings lines) c.self.invariant.indexed.places)),
    )
