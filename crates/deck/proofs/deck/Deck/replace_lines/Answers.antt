use Rattle.std.proofs.Common.{◌≡◌, ◌≤◌, ◌+◌, List, false, length, sym, ap, subst, ◌∙◌}
use Rattle.deck_lines.specs.Limits.{pass_store_limit}
use Rattle.deck_lines.specs.Origins.{exchanged_store_lines}
use Rattle.deck_lines.specs.declared.line.DeckLine.{DeckLine}
use Rattle.deck.specs.Decks.{DeckContents}
use Rattle.deck.proofs.deck.Deck.replace_lines.Goals as goal

pub find_changes-requires-clause-places : goal.find_changes-requires-clause-places
find_changes-requires-clause-places c =
    subst (λ (d : DeckContents). c.args.change.at + c.args.change.cut ≤ length d.lines)
    (sym c.self.view_is) c.requires.range_within

pub exchange-requires-clause-places : goal.exchange-requires-clause-places
exchange-requires-clause-places c =
    let lines : c.find_changes.new.store.lines ≡ c.args.self.now.lines = c.find_changes.ensures.lines
    ∙ ap (λ (d : DeckContents). d.lines) c.self.view_is in
    subst (λ (ls : List DeckLine). c.args.change.at + c.args.change.cut ≤ length ls) (sym lines) c.requires.range_within

pub exchange-requires-clause-within : goal.exchange-requires-clause-within
exchange-requires-clause-within c =
    let lines : c.find_changes.new.store.lines ≡ c.args.self.now.lines = c.find_changes.ensures.lines
    ∙ ap (λ (d : DeckContents). d.lines) c.self.view_is in
    subst (λ (ls : List DeckLine).
    pass_store_limit (exchanged_store_lines c.args.change.at c.args.change.cut c.args.change.put ls)
    ≡ false) (sym lines) c.requires.within_limit
