use Rattle.std.proofs.Common.{◌+◌, ℕ, List, length, sym, ap, ◌∙◌, arith}
use Rattle.std.proofs.lemmas.List.{take_all}
use Rattle.gap_list.specs.Gaps.{gaps_before}
use Rattle.gap_list.proofs.GapSearch.{take_gaps_before}
use Rattle.gap_list.proofs.Layers.{gaps_before_all}
use Rattle.gap_list.proofs.searches.count_before_sum.Goals as goal

pub returns-in_default : goal.returns-in_default
returns-in_default c =
    let gaps : List ℕ = c.args.gaps.now in
    take_all (length gaps) gaps (omega arith)
    ∙ sym (gaps_before_all gaps (c.args.place + c.args.more) 18446744073709551615
    (λ k. omega (arith, c.type_inv.gaps k)) (omega (arith, c.in_default.ensures)))

pub returns : goal.returns
returns c =
    let gaps : List ℕ = c.args.gaps.now in
    let sum : ℕ = c.in-Some.sum in
    let count : ℕ = c.count_before.result in
    take_gaps_before sum count (sum + count + 1) gaps c.count_before.ensures.before c.count_before.ensures.after
    (omega arith) ∙ ap (λ n. gaps_before n gaps) c.in-Some.ensures.1
