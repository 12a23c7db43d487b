-- The report of an edit, from stored replies that are those of the table before it.
use Rattle.std.proofs.Common.{◌≡◌, ◌++◌, List, [], ◌∷◌, flat_map, map, refl, ap}
use Rattle.std.proofs.lemmas.List.Elements.{All-head, All-tail, All-map}
use Rattle.def_entry.specs.Tables.{EntryTable}
use Rattle.live_table.specs.States.{LiveEvent}
use Rattle.reply.specs.declared.options.Options.{Options}
use Rattle.watch.specs.Changes.{watch_report}
use Rattle.watch.specs.Edits.{WatchEditLaw, change_by_edit}
use Rattle.watch.specs.WatchViews.{AreCurrent, all_queries, change_of, queries_of, reply_to, subject_of_watch}
use Rattle.watch.specs.WatchViews.{with_current_reply}
use Rattle.watch.specs.declared.watch.Watch.{Watch}

module _ (before behind : EntryTable) (options : Options) where
  abbrev IsCurrent : Watch → Type 0
  IsCurrent w = w.reply ≡ reply_to before options (subject_of_watch w)

  same : (watches : List Watch) → AreCurrent before options watches
      → map (change_of behind options) watches ≡ map (change_by_edit before behind options)
      (map subject_of_watch watches)
  same [] h = refl
  same (w ∷ watches) h =
      λ i. record {
        old_reply = All-head IsCurrent w watches h i;
        new_reply =
            reply_to behind options (subject_of_watch w);
      }
      ∷ same watches (All-tail IsCurrent w watches h) i

watch_queries_of_subjects : (table : EntryTable) (options : Options) (watches : List Watch)
    → all_queries table options watches ≡ flat_map (queries_of table options) (map subject_of_watch watches)
watch_queries_of_subjects table options [] = refl
watch_queries_of_subjects table options (w ∷ watches) =
    ap (λ (es : List LiveEvent). queries_of table options (subject_of_watch w) ++ es)
    (watch_queries_of_subjects table options watches)

pub edit_law : WatchEditLaw
edit_law = record {
  report = λ before behind options watches h. ap watch_report (same before behind options watches h);
  queries = watch_queries_of_subjects;
}

-- renewed watches are current
pub renewed_watches_are_current : (table : EntryTable) (options : Options) (watches : List Watch)
    → AreCurrent table options (map (with_current_reply table options) watches)
renewed_watches_are_current table options watches =
    All-map (λ (w : Watch). w.reply ≡ reply_to table options (subject_of_watch w)) (with_current_reply table options)
    watches
    (λ k d h. refl)
