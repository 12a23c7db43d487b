use Rattle.std.proofs.Common.{◌≡◌, drop, map}
use Rattle.def_lines.specs.Kinds.{directive_of_word}
use Rattle.def_lines.proofs.directive.directive_in.Given as goal

-- the directive in the rest of the table
abbrev pub invariant-loop-name : goal.invariant-loop-name
invariant-loop-name l =
    directive_of_word l.word (map (λ entry. (entry.0.now, entry.1)) (drop l.name-index l.table))
    ≡ directive_of_word l.fn.word (map (λ entry. (entry.0.now, entry.1)) l.table)
