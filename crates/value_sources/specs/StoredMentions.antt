-- Mentions and rows as the code stores them, and what they say about a deck.
use Rattle.std.specs.Prelude.{ℕ, List, map, Option}
use Rattle.std.specs.Option.{option_and_then}
use Rattle.def_entry.specs.declared.key.Key.{Key}
use Rattle.deck.specs.Decks.{DeckContents}
use Rattle.deck.specs.PlacedKeys.{deck_key_at_place}
use Rattle.value_sources.specs.declared.mention.StoredMention.{StoredMention}
use Rattle.value_sources.specs.declared.row.Row.{Row as StoredRow}
use Rattle.value_sources.specs.Mentions.{Mention, mention_text}
use Rattle.value_sources.specs.PlacedMentions.{PlacedMention}
use Rattle.value_sources.specs.Rows.{SourceRow}

-- the key that the line at a place defines, if there is a place
abbrev pub mention_key_of_place : DeckContents → (place : Option ℕ) → Option Key
mention_key_of_place d place = option_and_then (deck_key_at_place d.lines) place

-- a stored mention has the key of its place, and the name of this key as its word unless it has another word
abbrev pub mention_in : DeckContents → StoredMention → Mention
mention_in d m = record {
  depth = m.location.depth;
  site = m.location.site;
  word = record { text = mention_text m.word (mention_key_of_place d m.place); kind = m.word_kind };
  resolution = m.resolution;
  target = mention_key_of_place d m.place;
}

-- the same with the place
abbrev pub placed_mention_in : DeckContents → StoredMention → PlacedMention
placed_mention_in d m = record { mention = mention_in d m; place = m.place }

abbrev pub placed_mention_list : DeckContents → List StoredMention → List PlacedMention
placed_mention_list d ms = map (placed_mention_in d) ms

abbrev pub source_row_in : DeckContents → StoredRow → SourceRow
source_row_in d r = record { mention = mention_in d r.mention; is_visit = r.is_visit }

abbrev pub source_rows_in : DeckContents → List StoredRow → List SourceRow
source_rows_in d rows = map (source_row_in d) rows
