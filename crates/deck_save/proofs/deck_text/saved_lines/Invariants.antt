use Rattle.std.proofs.Common.{◌≡◌, ◌++◌, drop}
use Rattle.deck_save.specs.LineTexts.{saved_texts_of_lines}
use Rattle.deck_save.specs.SavedLines.{saved_lines}
use Rattle.deck_save.proofs.deck_text.saved_lines.Given as goal

-- the lines that are saved so far, followed by the remaining ones, are all lines
abbrev pub invariant-loop-place : goal.invariant-loop-place
invariant-loop-place l =
    l.lines.items ++ saved_lines (saved_texts_of_lines (drop l.place l.active) (drop l.place l.deck.lines))
    ≡ saved_lines
    (saved_texts_of_lines l.active l.deck.lines)
