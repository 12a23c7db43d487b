-- Watches, and the replies that they store.
use Rattle.std.specs.Prelude.{◌≡◌, ℕ, List, All, flat_map}
use Rattle.def_entry.specs.Tables.{EntryTable}
use Rattle.live_table.specs.States.{LiveEvent}
use Rattle.reply.specs.Replies.{conversion_queries, conversion_reply}
use Rattle.reply.specs.declared.options.Options.{Options}
use Rattle.watch.specs.Changes.{WatchedChange}
use Rattle.watch.specs.declared.watch.Watch.{Watch}

-- the largest number of conversions that can be watched
abbrev pub most_watches : ℕ
most_watches = 1000

-- a conversion to watch
pub record WatchSubject : Type 0 where
  pub from : List ℕ
  pub to : List ℕ

abbrev pub watch_subject : (from to : List ℕ) → WatchSubject
watch_subject from to = record { from = from; to = to }

-- the conversion of a watch
abbrev pub subject_of_watch : Watch → WatchSubject
subject_of_watch w = watch_subject w.from w.to

module _ (table : EntryTable) (options : Options) where
  -- the bytes of the reply to a conversion
  unfoldable pub reply_to : WatchSubject → List ℕ
  reply_to s = (conversion_reply table options s.from s.to).text

  -- the queries that the reply to a conversion makes
  unfoldable pub queries_of : WatchSubject → List LiveEvent
  queries_of s = conversion_queries table options s.from s.to

  -- a watch of a conversion, with its reply in this table
  abbrev pub watch_on : WatchSubject → Watch
  watch_on s = record { from = s.from; to = s.to; reply = reply_to s }

  -- the same watch with its reply in this table
  abbrev pub with_current_reply : Watch → Watch
  with_current_reply w = watch_on (subject_of_watch w)

  -- each stored reply is the one in this table
  abbrev pub AreCurrent : List Watch → Type 0
  AreCurrent watches = All (λ w. w.reply ≡ reply_to (subject_of_watch w)) watches

  -- the stored reply, and the one in this table
  abbrev pub change_of : Watch → WatchedChange
  change_of w = record { old_reply = w.reply; new_reply = reply_to (subject_of_watch w) }

  -- the queries of all watches, in order
  abbrev pub all_queries : List Watch → List LiveEvent
  all_queries watches = flat_map (λ w. queries_of (subject_of_watch w)) watches
