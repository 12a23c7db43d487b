use Rattle.std.proofs.Common.{◌≡◌, ◌+◌, drop}
use Rattle.deck_lines.specs.Limits.{stored_bytes_in}
use Rattle.deck_lines.proofs.store.line_list.texts_len.Given as goal

-- the bytes counted so far and those from the next line on
abbrev pub invariant-loop-place : goal.invariant-loop-place
invariant-loop-place l = l.len + stored_bytes_in (drop l.place l.lines) ≡ stored_bytes_in (drop l.start l.lines)
