use Rattle.std.proofs.Common.{◌≡◌, List, ℕ, Ok, sym, ap, subst, ◌∙◌}
use Rattle.deck_lines.specs.declared.line.DeckLine.{DeckLine}
use Rattle.deck.specs.Changes.{IsDeckTableChange}
use Rattle.deck.specs.Decks.{DeckContents}
use Rattle.deck.specs.Edits.{deck_after_switching}
use Rattle.deck.specs.SettingChanges.{settings_with_locale}
use Rattle.deck.specs.Tables.{active_definitions, table_of_deck, table_of_deck_definitions}
use Rattle.deck.specs.declared.settings.Settings.{Settings}
use Rattle.deck.proofs.PlacedDefinitions.{active_definitions_in_place}
use Rattle.deck.proofs.SettingChanges.{deck_of, settings_of}
use Rattle.deck.proofs.deck.Deck.set_locale.Goals as goal

pub returns : goal.returns
returns c =
    let s = c.self.inside in
    let locale = c.args.locale.now in
    let lines : List DeckLine = s.store.lines in
    let now : Settings = settings_of c.in_ok-self-inside.field-0 s.settings.vars in
    let are : c.with_locale-settings.result ≡ now =
    c.with_locale-settings.ensures
    ∙ ap (λ (l : List ℕ). settings_of l s.settings.vars) (sym c.in_ok-self-inside.ensures) in (
      ap (λ (d : DeckContents). Ok (deck_after_switching (settings_with_locale d.settings locale) d))
          (sym c.self.view_is)
          ∙ ap (λ (l : List ℕ). Ok (deck_of lines s.notices (settings_of l s.settings.vars)))
          (sym c.in_ok-self-inside.ensures),
      subst (λ (d : DeckContents). IsDeckTableChange (table_of_deck d)
          (table_of_deck_definitions (active_definitions now lines)) c.in_ok-changes.changes.keys)
          c.self.view_is
          (subst (λ (t : Settings). IsDeckTableChange (table_of_deck_definitions (active_definitions s.settings lines))
          (table_of_deck_definitions (active_definitions t lines)) c.in_ok-changes.changes.keys) are
          (c.in_ok-changes.ensures.keys (active_definitions s.settings lines)
          (active_definitions_in_place s.settings lines) c.self.invariant.indexed.places)),
    )
