use Rattle.std.proofs.Common.{◌≡◌, ◌++◌, drop}
use Rattle.deck.specs.Active.{active_line_flags, active_lines}
use Rattle.deck.proofs.force.flags.flags_in_force.Given as goal

abbrev pub invariant-loop-place : goal.invariant-loop-place
invariant-loop-place l =
    l.flags.items ++ active_line_flags l.locale l.around (drop l.place l.edited.new_lines) ≡ active_lines l.fn.settings
    l.edited.new_lines
