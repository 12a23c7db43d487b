use Rattle.std.proofs.Common.{◌≡◌, ◌++◌, ◌≤◌, length}
use Rattle.deck.specs.Tables.{table_of_deck}
use Rattle.name_lookup.specs.Candidates.{prefix_candidates, prefix_candidates_within}
use Rattle.value_sources.specs.Readings.{readings_keys, readings_present}
use Rattle.value_sources.proofs.readings.put_with_prefixes.Given as goal

-- the readings so far, followed by those of the prefixes that are left, are the readings of all prefixes
abbrev pub invariant-loop-len : goal.invariant-loop-len
invariant-loop-len l = record {
  within : l.len ≤ length l.word;
  readings : readings_keys l.readings.items
      ++ readings_present (table_of_deck l.deck) (prefix_candidates_within l.len l.word)
      ≡ readings_keys l.initial.readings.items ++ readings_present (table_of_deck l.deck) (prefix_candidates l.word);
}

abbrev pub decreases-loop-len : goal.decreases-loop-len
decreases-loop-len l = l.len
