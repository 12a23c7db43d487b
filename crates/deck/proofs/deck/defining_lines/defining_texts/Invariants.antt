use Rattle.std.proofs.Common.{◌≡◌, ◌++◌, drop}
use Rattle.deck.specs.Messages.{active_lines_by_flags, deck_definition_text, texts_of_deck_lines}
use Rattle.deck.proofs.deck.defining_lines.defining_texts.Given as goal

abbrev pub invariant-loop-place : goal.invariant-loop-place
invariant-loop-place l =
    l.texts ++ texts_of_deck_lines deck_definition_text
    (active_lines_by_flags (drop l.place l.flags) (drop l.place l.store.lines))
    ≡ texts_of_deck_lines deck_definition_text (active_lines_by_flags l.flags l.store.lines)
