use Rattle.std.proofs.Common.{◌∙◌, ◌+◌, ◌++◌, List, ap, arith, drop, sym, ℕ}
use Rattle.std.proofs.lemmas.List.{append-nil}
use Rattle.std.specs.Option.{option_copied}
use Rattle.reply.specs.Lines.{conversion_count_text, conversion_further_counts_text}
use Rattle.reply.specs.Targets.{conversion_target_parts_after_cut}
use Rattle.reply.proofs.FurtherCounts.{further-done, further-more}
use Rattle.reply.proofs.split_lines.put_further.Goals as goal

pub loop-count-preserved : goal.loop-count-preserved
loop-count-preserved c =
    ap (λ (w : List ℕ). w ++ conversion_further_counts_text c.args.form
    (conversion_target_parts_after_cut (option_copied c.cut_part.result.1))
    (drop (c.loop-count.count-index + 1) c.args.counts.now))
    (c.in_ok-put_count.ensures
    ∙ ap (λ (w : List ℕ). w ++ conversion_count_text c.args.form c.cut_part.result.0.now c.count-item.result)
    c.in_ok-put_between.ensures)
    ∙ (further-more c.args.form c.loop-count.text.items
    (conversion_target_parts_after_cut (option_copied c.loop-count.rest))
    c.args.counts.now
    c.loop-count.count-index c.cut_part.result.0.now
    (conversion_target_parts_after_cut (option_copied c.cut_part.result.1))
    c.count-item.result
    (ap (λ o. conversion_target_parts_after_cut (option_copied o)) c.in-Some.is ∙ c.cut_part.ensures.parts)
    (omega arith) c.count-item.is
    ∙ c.loop-count.invariant)

pub returns-in_default : goal.returns-in_default
returns-in_default c =
    sym (append-nil c.loop-count.text.items)
    ∙ (ap (λ o. c.loop-count.text.items
    ++ conversion_further_counts_text c.args.form (conversion_target_parts_after_cut (option_copied o))
    (drop c.loop-count.count-index c.args.counts.now))
    (sym c.in_default.is)
    ∙ c.loop-count.invariant)

pub returns : goal.returns
returns c =
    further-done c.args.form c.loop-count.text.items
    (conversion_target_parts_after_cut (option_copied c.loop-count.rest)) c.args.counts.now
    c.loop-count.count-index (omega arith)
    ∙ c.loop-count.invariant
