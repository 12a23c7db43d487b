use Rattle.std.proofs.Common.{◌≡◌, ◌++◌, drop}
use Rattle.value_sources.specs.PlacedMentions.{placed_mentions}
use Rattle.value_sources.specs.StoredMentions.{placed_mention_list}
use Rattle.value_sources.specs.Uses.{source_uses_at}
use Rattle.value_sources.proofs.lookup.Lookup.put_mentions.Given as goal

-- the mentions so far with those of the words that are left are those of all words
abbrev pub invariant-loop-word : goal.invariant-loop-word
invariant-loop-word l =
    placed_mention_list l.self.deck.now l.mentions.items
    ++ placed_mentions l.self.deck.now l.location.depth (source_uses_at l.location.site (drop l.word-index l.words))
    ≡ placed_mention_list l.self.deck.now l.initial.mentions.items
    ++ placed_mentions l.self.deck.now l.location.depth (source_uses_at l.location.site l.words)
