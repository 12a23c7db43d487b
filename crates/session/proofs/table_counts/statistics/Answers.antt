use Rattle.std.proofs.Common.{◌∙◌}
use Rattle.session.proofs.CountWords.{session_statistics_text}
use Rattle.session.proofs.table_counts.statistics.Goals as goal

pub returns : goal.returns
returns c =
    c.from.ensures
    ∙ session_statistics_text c.args.table.now c.counts-counts.result.settled c.counts-counts.result.names
    c.counts-counts.result.reductions c.in_ok-text.text.items c.put_count.new.text.items c.put_count-2.new.text.items
    c.put_count-3.new.text.items c.counts-counts.ensures.settled c.counts-counts.ensures.names
    c.counts-counts.ensures.reductions c.in_ok-text.ensures.items c.in_ok-put_count.ensures c.in_ok-put_count-2.ensures
    c.in_ok-put_count-3.ensures
