use Rattle.std.proofs.Common.{◌≡◌, ◌++◌, drop}
use Rattle.session.specs.Lines.{session_lines_of_texts}
use Rattle.session.proofs.lines.put_lines.Given as goal

-- the lines and those of the texts left are the lines of all texts
abbrev pub invariant-loop-text : goal.invariant-loop-text
invariant-loop-text l =
    l.lines.items ++ session_lines_of_texts (drop l.text-index l.texts) ≡ l.initial.lines.items
    ++ session_lines_of_texts l.texts
