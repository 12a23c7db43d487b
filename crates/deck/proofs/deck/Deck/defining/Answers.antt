use Rattle.std.proofs.Common.{◌≡◌, ℕ, List, length, ap, subst, ◌∙◌}
use Rattle.std.specs.Prelude.{IfOk}
use Rattle.deck.specs.Active.{active_lines}
use Rattle.deck.specs.Decks.{DeckContents}
use Rattle.deck.specs.Messages.{active_lines_by_flags, deck_definition_text, texts_of_deck_lines}
use Rattle.deck.proofs.ActiveLineFlags.{length-active_line_flags}
use Rattle.deck.proofs.deck.Deck.defining.Goals as goal

pub defining_texts-requires : goal.defining_texts-requires
defining_texts-requires c =
    ap length (c.as_slice.ensures.value ∙ c.in_ok-flags.ensures)
    ∙ length-active_line_flags _ _ c.self.inside.store.lines

pub returns : goal.returns
returns c =
    subst (λ (ts : List (List ℕ)). IfOk c.defining_texts.result (λ texts. texts ≡ ts))
    (ap (λ fs. texts_of_deck_lines deck_definition_text (active_lines_by_flags fs c.self.inside.store.lines))
    (c.as_slice.ensures.value ∙ c.in_ok-flags.ensures)
    ∙ ap (λ (d : DeckContents). texts_of_deck_lines deck_definition_text
    (active_lines_by_flags (active_lines d.settings d.lines) d.lines))
    c.self.view_is)
    c.defining_texts.ensures
