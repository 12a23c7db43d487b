use Rattle.std.proofs.Common.{◌≡◌, ◌≤◌, ◌+◌, drop, length}
use Rattle.units_io.specs.FileMap.{longest_file}
use Rattle.deck_save.specs.LineTexts.{saved_texts_of_lines}
use Rattle.deck_save.specs.SavedLines.{saved_lines}
use Rattle.deck_save.proofs.deck_text.saved_len.Given as goal

-- the bytes that are counted so far and those of the remaining lines are together all bytes
abbrev pub invariant-loop-place : goal.invariant-loop-place
invariant-loop-place l = record {
  within : l.len ≤ longest_file;
  sum : l.len + length (saved_lines (saved_texts_of_lines (drop l.place l.active) (drop l.place l.deck.lines))) ≡ length
      (saved_lines (saved_texts_of_lines l.active l.deck.lines));
}
