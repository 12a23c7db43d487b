use Rattle.std.proofs.Common.{◌∙◌, not}
use Rattle.std.specs.Str.{bytes_eq}
use Rattle.deck.specs.Tables.{table_of_deck}
use Rattle.watch.specs.WatchViews.{reply_to, watch_subject}
use Rattle.watch.proofs.watch.Watch.renew.Goals as goal

pub returns-clause-news : goal.returns-clause-news
returns-clause-news g c =
    let t = table_of_deck c.args.table.now.deck in
    let options = c.args.options.now in
    c.ne-news.ensures
    ∙ (λ i. not (bytes_eq (c.as_bytes.ensures i)
    ((c.as_bytes-2.ensures ∙ c.in_ok-reply.ensures.bytes
    ∙ (λ j. reply_to t options (watch_subject (c.as_bytes-from.ensures j) (c.as_bytes-to.ensures j)))) i)))
