use Rattle.std.proofs.Common.{◌≡◌, ◌∙◌, ◌+◌, ◌++◌, [], arith, if◌then◌else◌, set, sym, subst}
use Rattle.std.specs.Prelude.{OnErr, Result}
use Rattle.std.specs.declared.alloc.AllocError.{AllocError}
use Rattle.std.proofs.lemmas.Result.{err_from_is_err_and}
use Rattle.deck.specs.Decks.{DeckContents}
use Rattle.deck.specs.Tables.{table_of_deck}
use Rattle.live_table.specs.Calls.{AreLiveQueries}
use Rattle.live_table.specs.TableView.{AreLiveEventsCutOff, IsAfterLiveEvents}
use Rattle.reply.proofs.Runs.{inquiry_queries_cut_after_last}
use Rattle.watch.specs.Calls.{AreWatchesPartlyRenewed}
use Rattle.watch.specs.Changes.{is_news, watch_notice}
use Rattle.watch.specs.WatchViews.{all_queries, change_of, queries_of, subject_of_watch, with_current_reply}
use Rattle.watch.specs.declared.watch.Watch.{Watch}
use Rattle.watch.proofs.QuerySequences.{asked-cut, asked-next}
use Rattle.watch.proofs.Underway.{underway-next, underway-renewed, underway-same, underway-was}
use Rattle.watch.proofs.reply_renewal.renew_all.Goals as goal

pub loop-place-preserved : goal.loop-place-preserved
loop-place-preserved g c =
    let w = c.index_mut-watch.result.now in
    let options = c.args.options.now in
    let start = c.args.table.now.deck in
    let watches = c.args.watches.now.items in
    let place = c.loop-place.place in
    let bytes = c.loop-place.report.items in
    let underway = c.loop-place.invariant.2 in
    let asked = c.loop-place.invariant.3 in
    let renewed : c.renew.new.self ≡ with_current_reply (table_of_deck start) options w =
    subst (λ (d : DeckContents). c.renew.new.self ≡ with_current_reply (table_of_deck d) options w) asked.deck
    c.in_ok-news.ensures.renewed in
    let news : c.in_ok-news.news ≡ is_news (change_of (table_of_deck start) options w) =
    subst (λ (d : DeckContents). c.in_ok-news.news ≡ is_news (change_of (table_of_deck d) options w)) asked.deck
    c.in_ok-news.ensures.news in (
      c.loop-place.invariant.0,
      omega arith,
      underway-next (table_of_deck start) options watches place c.loop-place.watches.items bytes underway w w
          (omega arith)
          c.index_mut-watch.ensures.value c.renew.new.self c.put_if_news.new.report.items renewed
          (c.in_ok-put_if_news.ensures
          ∙ (λ j. bytes ++ (if news j then watch_notice (place + 1) (renewed j).reply else []))),
      asked-next (λ (v : Watch). queries_of (table_of_deck start) options (subject_of_watch v)) watches place
          c.args.table.now
          c.loop-place.table c.args.steps.now c.loop-place.steps asked w w (omega arith)
          (underway-was (table_of_deck start) options watches place c.loop-place.watches.items bytes underway w w
          (omega arith)
          c.index_mut-watch.ensures.value)
          c.renew.new.table c.renew.new.steps c.renew.ensures.deck
          (subst (λ (d : DeckContents). IsAfterLiveEvents (queries_of (table_of_deck d) options (subject_of_watch w))
          c.loop-place.table
          c.renew.new.table c.loop-place.steps c.renew.new.steps) asked.deck c.in_ok-news.ensures.queries),
    )

pub returns-in_err-news-clause-queries : goal.returns-in_err-news-clause-queries
returns-in_err-news-clause-queries g c =
    let w = c.index_mut-watch.result.now in
    let options = c.args.options.now in
    let start = c.args.table.now.deck in
    let watches = c.args.watches.now.items in
    let place = c.loop-place.place in
    let underway = c.loop-place.invariant.2 in
    let asked = c.loop-place.invariant.3 in
    let p = err_from_is_err_and c.from_residual.result c.from_residual.ensures.1 in
    subst (λ (r : Result _ AllocError). AreLiveQueries (all_queries (table_of_deck start) options watches) r
    c.args.table.now c.renew.new.table c.args.steps.now c.renew.new.steps) (sym p.1)
    (asked-cut (λ (v : Watch). queries_of (table_of_deck start) options (subject_of_watch v)) watches place
    c.args.table.now
    c.loop-place.table c.args.steps.now c.loop-place.steps asked w w (omega arith)
    (underway-was (table_of_deck start) options watches place c.loop-place.watches.items c.loop-place.report.items
    underway w w
    (omega arith) c.index_mut-watch.ensures.value)
    c.renew.new.table c.renew.new.steps
    (subst (λ (d : DeckContents). AreLiveEventsCutOff (queries_of (table_of_deck d) options (subject_of_watch w))
    c.loop-place.table
    c.renew.new.table c.loop-place.steps c.renew.new.steps) asked.deck c.in_err-news.ensures.queries))

pub returns-in_err-news-clause-partly : goal.returns-in_err-news-clause-partly
returns-in_err-news-clause-partly g c =
    let w = c.index_mut-watch.result.now in
    let options = c.args.options.now in
    let start = c.args.table.now.deck in
    let watches = c.args.watches.now.items in
    let place = c.loop-place.place in
    let now = set c.loop-place.watches.items place c.renew.new.self in
    let p = err_from_is_err_and c.from_residual.result c.from_residual.ensures.1 in
    subst (λ (r : Result _ AllocError). OnErr r (AreWatchesPartlyRenewed (table_of_deck start) options watches now))
    (sym p.1)
    (record {
      count = place;
      parts = underway-same (table_of_deck start) options watches place c.loop-place.watches.items
          c.loop-place.report.items
          c.loop-place.invariant.2 w w (omega arith) c.index_mut-watch.ensures.value
          c.renew.new.self c.in_err-news.ensures.same;
    })

pub returns-in_err-put_if_news-clause-queries : goal.returns-in_err-put_if_news-clause-queries
returns-in_err-put_if_news-clause-queries g c =
    let w = c.index_mut-watch.result.now in
    let options = c.args.options.now in
    let start = c.args.table.now.deck in
    let watches = c.args.watches.now.items in
    let place = c.loop-place.place in
    let underway = c.loop-place.invariant.2 in
    let asked = c.loop-place.invariant.3 in
    let failed = c.from_residual-in_err-put_if_news in
    let p = err_from_is_err_and failed.result failed.ensures.1 in
    subst (λ (r : Result _ AllocError). AreLiveQueries (all_queries (table_of_deck start) options watches) r
    c.args.table.now c.renew.new.table c.args.steps.now c.renew.new.steps) (sym p.1)
    (asked-cut (λ (v : Watch). queries_of (table_of_deck start) options (subject_of_watch v)) watches place
    c.args.table.now
    c.loop-place.table c.args.steps.now c.loop-place.steps asked w w (omega arith)
    (underway-was (table_of_deck start) options watches place c.loop-place.watches.items c.loop-place.report.items
    underway w w
    (omega arith) c.index_mut-watch.ensures.value)
    c.renew.new.table c.renew.new.steps
    (inquiry_queries_cut_after_last (queries_of (table_of_deck start) options (subject_of_watch w)) c.loop-place.table
    c.renew.new.table
    c.loop-place.steps c.renew.new.steps c.renew.ensures.deck
    (subst (λ (d : DeckContents). IsAfterLiveEvents (queries_of (table_of_deck d) options (subject_of_watch w))
    c.loop-place.table
    c.renew.new.table c.loop-place.steps c.renew.new.steps) asked.deck c.in_ok-news.ensures.queries)))

pub returns-in_err-put_if_news-clause-partly : goal.returns-in_err-put_if_news-clause-partly
returns-in_err-put_if_news-clause-partly g c =
    let w = c.index_mut-watch.result.now in
    let options = c.args.options.now in
    let start = c.args.table.now.deck in
    let watches = c.args.watches.now.items in
    let place = c.loop-place.place in
    let asked = c.loop-place.invariant.3 in
    let now = set c.loop-place.watches.items place c.renew.new.self in
    let failed = c.from_residual-in_err-put_if_news in
    let p = err_from_is_err_and failed.result failed.ensures.1 in
    subst (λ (r : Result _ AllocError). OnErr r (AreWatchesPartlyRenewed (table_of_deck start) options watches now))
    (sym p.1)
    (record {
      count = place + 1;
      parts = underway-renewed (table_of_deck start) options watches place c.loop-place.watches.items
          c.loop-place.report.items c.loop-place.invariant.2 w w (omega arith) c.index_mut-watch.ensures.value
          c.renew.new.self
          (subst (λ (d : DeckContents). c.renew.new.self ≡ with_current_reply (table_of_deck d) options w) asked.deck
          c.in_ok-news.ensures.renewed);
    })
