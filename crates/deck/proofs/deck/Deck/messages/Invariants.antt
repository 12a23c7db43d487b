use Rattle.std.proofs.Common.{◌≡◌, ◌++◌, drop}
use Rattle.deck.specs.Messages.{active_lines_by_flags, deck_message_of_line, texts_of_deck_lines}
use Rattle.deck.proofs.deck.Deck.messages.Given as goal

abbrev pub invariant-loop-i : goal.invariant-loop-i
invariant-loop-i l =
    l.texts ++ texts_of_deck_lines deck_message_of_line
    (active_lines_by_flags (drop l.i l.flags.items) (drop l.i l.self.lines))
    ≡ texts_of_deck_lines deck_message_of_line (active_lines_by_flags l.flags.items l.self.lines)
