-- The report on watches after an edit.
use Rattle.std.specs.Prelude.{◌≡◌, ℕ, List, flat_map, map}
use Rattle.def_entry.specs.Tables.{EntryTable}
use Rattle.reply.specs.declared.options.Options.{Options}
use Rattle.watch.specs.Changes.{WatchedChange, watch_report}
use Rattle.watch.specs.WatchViews.{AreCurrent, WatchSubject, all_queries, change_of, queries_of, reply_to}
use Rattle.watch.specs.WatchViews.{subject_of_watch}
use Rattle.watch.specs.declared.watch.Watch.{Watch}

module _ (before behind : EntryTable) (options : Options) where
  -- the replies in the tables before and after an edit
  abbrev pub change_by_edit : WatchSubject → WatchedChange
  change_by_edit s = record { old_reply = reply_to before options s; new_reply = reply_to behind options s }

  -- the report on the watches whose replies in the two tables differ in bytes, each after its line
  abbrev pub report_by_edit : List WatchSubject → List ℕ
  report_by_edit subjects = watch_report (map change_by_edit subjects)

-- law: if each stored reply is that of the table before the edit, the stored replies give the same report; the queries
-- for watches are the queries for their conversions, in order
pub record WatchEditLaw : Type 0 where
  pub report : (before behind : EntryTable) (options : Options) (watches : List Watch)
      → AreCurrent before options watches
      → watch_report (map (change_of behind options) watches) ≡ report_by_edit before behind options
      (map subject_of_watch watches)
  pub queries : (table : EntryTable) (options : Options) (watches : List Watch)
      → all_queries table options watches ≡ flat_map (queries_of table options) (map subject_of_watch watches)
