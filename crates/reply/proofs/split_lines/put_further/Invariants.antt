use Rattle.std.proofs.Common.{◌≡◌, ◌++◌, drop}
use Rattle.std.specs.Option.{option_copied}
use Rattle.reply.specs.Lines.{conversion_further_counts_text}
use Rattle.reply.specs.Targets.{conversion_target_parts_after_cut}
use Rattle.reply.proofs.split_lines.put_further.Given as goal

-- the text so far with the counts that are left is the text with all counts
abbrev pub invariant-loop-count : goal.invariant-loop-count
invariant-loop-count l =
    l.text.items ++ conversion_further_counts_text l.form (conversion_target_parts_after_cut (option_copied l.rest))
    (drop l.count-index l.counts)
    ≡ l.initial.text.items ++ conversion_further_counts_text l.form
    (conversion_target_parts_after_cut (option_copied l.fn.list)) l.counts
