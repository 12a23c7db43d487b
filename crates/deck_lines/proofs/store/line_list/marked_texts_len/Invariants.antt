use Rattle.std.proofs.Common.{◌≡◌, take}
use Rattle.deck_lines.specs.Limits.{stored_text_len}
use Rattle.deck_lines.proofs.store.line_list.marked_texts_len.Given as goal

abbrev pub invariant-loop-line : goal.invariant-loop-line
invariant-loop-line l = l.len ≡ stored_text_len (take l.line-index l.lines)
