-- Mentions with the places of their keys.
use Rattle.std.specs.Prelude.{◌≡◌, ℕ, true, List, map, flat_map, Option, Some, None}
use Rattle.def_entry.specs.declared.key.Key.{Key}
use Rattle.def_entry.specs.Tables.{EntryTable, is_entry_present}
use Rattle.deck.specs.Decks.{DeckContents}
use Rattle.deck.specs.Tables.{last_definition_place, table_of_deck}
use Rattle.table_names.specs.Leads.{table_word_targets}
use Rattle.value_sources.specs.Mentions.{Mention, mentions_to}
use Rattle.value_sources.specs.Uses.{SourceUse}

-- a mention with a place
pub record PlacedMention : Type 0 where
  pub mention : Mention
  pub place : Option ℕ

-- the place of the line in force for the key of a mention, if it has a key
abbrev pub mention_target_place : DeckContents → Option Key → Option ℕ
mention_target_place d None = None
mention_target_place d (Some n) = last_definition_place d.settings d.lines n

-- a mention with that place
abbrev pub mention_with_place : DeckContents → Mention → PlacedMention
mention_with_place d m = record { mention = m; place = mention_target_place d m.target }

-- the mentions of a word that leads to these keys
abbrev pub placed_mentions_to : DeckContents → (depth : ℕ) → SourceUse → List Key → List PlacedMention
placed_mentions_to d depth u ns = map (mention_with_place d) (mentions_to depth u ns)

-- the mentions of words at this depth
abbrev pub placed_mentions : DeckContents → (depth : ℕ) → List SourceUse → List PlacedMention
placed_mentions d depth uses =
    flat_map (λ u. placed_mentions_to d depth u (table_word_targets (table_of_deck d) u.word)) uses

-- the key of a mention, if it has one, has an entry
abbrev pub IsMentionFound : EntryTable → Mention → Type 0
IsMentionFound table m = (n : Key) → m.target ≡ Some n → is_entry_present table n ≡ true

-- the same, and the place is that of the line in force for the key
abbrev pub IsMentionPlacedRight : DeckContents → PlacedMention → Type 0
IsMentionPlacedRight d p = IsMentionFound (table_of_deck d) p.mention
    × (p.place ≡ mention_target_place d p.mention.target)
