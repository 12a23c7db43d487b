-- Watched conversions, and the queries that are made for them.
use Rattle.std.proofs.Common.{◌≡◌, ◌==◌, ◌+◌, ◌++◌, ◌∷◌, [], ℕ, List, Option, Bool, false, map, refl, sym, ap}
use Rattle.std.proofs.Common.{subst, ◌∙◌, arith, length}
use Rattle.std.specs.Prelude.{Result}
use Rattle.std.specs.declared.alloc.AllocError.{AllocError}
use Rattle.std.proofs.lemmas.Bool.Decides.{nat_tests}
use Rattle.std.proofs.lemmas.List.{length-map, map-append}
use Rattle.units_io.specs.FileMap.{FileMap}
use Rattle.def_entry.specs.Tables.{EntryTable}
use Rattle.deck.specs.Decks.{DeckContents}
use Rattle.deck.specs.Tables.{table_of_deck as table_in}
use Rattle.live_table.specs.Calls.{AreLiveQueries}
use Rattle.live_table.specs.TableView.{IsAfterLiveEvents, LiveView}
use Rattle.live_table.specs.States.{LiveEvent}
use Rattle.reply.specs.declared.options.Options.{Options}
use Rattle.session.specs.Answers.{session_watch_answer}
use Rattle.session.specs.Parts.{OutputBuffers}
use Rattle.session.specs.Queries.{LeavesSessionTable, session_table_after_events}
use Rattle.session.specs.Sessions.{session_and_files, session_of}
use Rattle.session.specs.Versions.{Versions}
use Rattle.session.specs.WatchQueries.{is_session_watch_list_full, session_watch_queries}
use Rattle.session.specs.declared.answer.LineReply.{LineReply}
use Rattle.session.proofs.StepIndependence.{leaves}
use Rattle.watch.specs.Changes.{watch_notice}
use Rattle.watch.specs.WatchViews.{WatchSubject, all_queries, queries_of, reply_to, subject_of_watch, watch_on}
use Rattle.watch.specs.WatchViews.{with_current_reply}
use Rattle.watch.specs.declared.watch.Watch.{Watch}

module _ (table : EntryTable) (options : Options) where
  -- renewed watches are of the same conversions
  pub same_subjects : (watches : List Watch) → map subject_of_watch (map (with_current_reply table options) watches)
      ≡ map subject_of_watch watches
  same_subjects [] = refl
  same_subjects (w ∷ watches) = ap (λ (rest : List WatchSubject). subject_of_watch w ∷ rest) (same_subjects watches)

  same_queries : (watches : List Watch)
      → all_queries table options watches ≡ session_watch_queries table options (map subject_of_watch watches)
  same_queries [] = refl
  same_queries (w ∷ watches) =
      ap (λ (rest : List LiveEvent). queries_of table options (subject_of_watch w) ++ rest) (same_queries watches)

  pub asked_again : (watches : List Watch) (result : Result (Unit {0}) AllocError) (old new : LiveView) (n k : ℕ)
      → AreLiveQueries (all_queries table options watches) result old new n k
      → AreLiveQueries (session_watch_queries table options (map subject_of_watch watches)) result old new n k
  asked_again watches result old new n k made =
      subst (λ (events : List LiveEvent). AreLiveQueries events result old new n k) (same_queries watches) made

session_watch_list_is_not_full : (watches : List Watch) → (length watches ≡ 1000 → ⊥)
    → is_session_watch_list_full (map subject_of_watch watches) ≡ false
session_watch_list_is_not_full watches room = by (length (map subject_of_watch watches))
    (length-map watches subject_of_watch)
  where
    by : (n : ℕ) → n ≡ length watches → (n == 1000) ≡ false
    by n e = grind (arith, nat_tests, room, e)

module _ (options : Options) (pending : Option (List ℕ)) (versions : Versions) (m : FileMap) (old new : LiveView)
    (watches now : List Watch) (s : WatchSubject) (reply : LineReply) (n k : ℕ) where
  abbrev events : List LiveEvent
  events = queries_of (table_in old.deck) options s

  -- a conversion is watched, and its reply is returned
  pub watch_answered : (length watches ≡ 1000 → ⊥)
      → reply.out ≡ watch_notice (length watches + 1) (reply_to (table_in old.deck) options s) → reply.err ≡ []
      → now ≡ watches ++ watch_on (table_in old.deck) options s ∷ [] → IsAfterLiveEvents events old new n k
      → new.deck ≡ old.deck
      → OutputBuffers (session_watch_answer (is_session_watch_list_full (map subject_of_watch watches)) s
      (session_and_files (session_of options old pending versions (map subject_of_watch watches)) m)) reply
      (session_of options new pending versions (map subject_of_watch now)) n k
  watch_answered room report_text quiet added asked deck =
      let left : LeavesSessionTable events old new n k = leaves events old new n k asked in
      subst (λ (full : Bool). OutputBuffers (session_watch_answer full s
      (session_and_files (session_of options old pending versions (map subject_of_watch watches)) m)) reply
      (session_of options new pending versions (map subject_of_watch now)) n k)
      (sym (session_watch_list_is_not_full watches room))
      (record {
        out = report_text ∙ ap (λ (count : ℕ). watch_notice (count + 1) (reply_to (table_in old.deck) options s))
            (sym (length-map watches subject_of_watch));
        err = quiet;
        session =
            ap (λ (w : List WatchSubject). session_of options new pending versions w)
            (ap (map subject_of_watch) added ∙ map-append subject_of_watch watches
            (watch_on (table_in old.deck) options s ∷ []))
            ∙ ap (λ (t : LiveView). session_of options t pending versions (map subject_of_watch watches ++ s ∷ []))
            (left.table ∙ ap (λ (d : DeckContents). session_table_after_events events d old) deck);
        steps = left.steps;
      })
