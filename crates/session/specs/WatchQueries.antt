-- The queries of a live table for the watched conversions.
use Rattle.std.specs.Prelude.{◌==◌, ◌∷◌, List, Bool, flat_map, length}
use Rattle.def_entry.specs.Tables.{EntryTable}
use Rattle.deck.specs.Decks.{DeckContents}
use Rattle.deck.specs.Tables.{table_of_deck as table_in}
use Rattle.live_table.specs.States.{Becomes, LiveEvent}
use Rattle.reply.specs.declared.options.Options.{Options}
use Rattle.watch.specs.WatchViews.{WatchSubject, most_watches, queries_of}

-- whether the largest number of conversions is watched
abbrev pub is_session_watch_list_full : List WatchSubject → Bool
is_session_watch_list_full watched = length watched == most_watches

-- the queries of all watched conversions, in order
abbrev pub session_watch_queries : EntryTable → Options → List WatchSubject → List LiveEvent
session_watch_queries table options watched = flat_map (queries_of table options) watched

-- the events of an edit: it gives this deck, and then all watched conversions are queried again
abbrev pub session_edit_events : DeckContents → Options → List WatchSubject → List LiveEvent
session_edit_events deck options watched = Becomes (table_in deck) ∷ session_watch_queries (table_in deck) options
    watched
