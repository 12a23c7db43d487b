use Rattle.std.proofs.Common.{◌≡◌, ◌++◌, reverse, vec_len}
use Rattle.value_sources.proofs.mentions.push_reversed.Given as goal

-- the pushed mentions with those that are left are all mentions
abbrev pub invariant-loop-mention : goal.invariant-loop-mention
invariant-loop-mention l =
    l.pending.items ++ reverse l.mentions.items ≡ l.initial.pending.items ++ reverse l.initial.mentions.items

abbrev pub decreases-loop-mention : goal.decreases-loop-mention
decreases-loop-mention l = vec_len l.mentions
