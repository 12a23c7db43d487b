-- The counts of a live table.
use Rattle.std.specs.Prelude.{◌++◌, ℕ, List, length, codes}
use Rattle.std.specs.FinMap as map_of
use Rattle.std.specs.Fmt.{decimal}
use Rattle.def_entry.specs.declared.key.Kind.TheVariants as kind
use Rattle.deck.specs.Decks.{DeckContents}
use Rattle.deck.specs.KeyLists.{deck_key_count}
use Rattle.deck.specs.Tables.{table_of_deck as table_in}
use Rattle.live_table.specs.Calls.{all_settleable_names}
use Rattle.live_table.specs.TableView.{LiveView}

-- a count, followed by words
abbrev pub session_count_text : ℕ → (words : List ℕ) → List ℕ
session_count_text n words = decimal n ++ words

-- the line with the number of settled names, the number of all names, and the number of reductions so far
unfoldable pub session_statistics : LiveView → List ℕ
session_statistics table =
    ((codes "settled " ++ session_count_text (map_of.len table.kept_outcomes) (codes " of "))
    ++ session_count_text (length (all_settleable_names (table_in table.deck))) (codes ", reductions "))
    ++ session_count_text table.reductions (codes "\n")

-- the line with the numbers of definitions
unfoldable pub session_banner : DeckContents → List ℕ
session_banner deck =
    (session_count_text (deck_key_count (table_in deck) kind.Unit) (codes " units, ")
    ++ session_count_text (deck_key_count (table_in deck) kind.Prefix) (codes " prefixes, "))
    ++ session_count_text (deck_key_count (table_in deck) kind.Func) (codes " nonlinear units\n")
