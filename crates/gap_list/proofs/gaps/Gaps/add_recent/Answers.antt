use Rattle.std.proofs.Common.{◌≡◌, ◌+◌, ℕ, List, subst, sym, ap, ◌∙◌, arith}
use Rattle.std.specs.List.{insert}
use Rattle.gap_list.specs.Gaps.{AreGapsIncreasing, gaps_with_more, with_gap}
use Rattle.gap_list.proofs.GapSearch.{increasing_gaps_with_one, insert_gap}
use Rattle.gap_list.proofs.Layers.{with_gap_in_layers}
use Rattle.gap_list.proofs.gaps.Gaps.add_recent.Goals as goal

pub invariant_of-self-2 : goal.invariant_of-self-2
invariant_of-self-2 c =
    let recent : List ℕ = c.as_slice.result.now in
    let count : ℕ = c.count_before-count.result in
    let now : c.insert.new.self.items ≡ with_gap c.args.place recent =
    c.in_ok-insert.ensures.items ∙ ap (λ (l : List ℕ). insert l count c.in-Some.gap) (sym c.as_slice.ensures.value)
    ∙ insert_gap c.args.place count (c.args.place + count + 1) c.in-Some.gap recent c.count_before-count.ensures.before
    c.count_before-count.ensures.after (omega arith) c.in-Some.ensures.1 in (
      c.self.invariant.0,
      subst (AreGapsIncreasing 0) (sym now)
          (increasing_gaps_with_one 0 c.args.place recent
          (subst (AreGapsIncreasing 0) (sym c.as_slice.ensures.value) c.self.invariant.1) (omega arith)),
    )

pub returns-clause-ok : goal.returns-clause-ok
returns-clause-ok c =
    let merged : List ℕ = c.self.inside.merged.items in
    let recent : List ℕ = c.as_slice.result.now in
    let count : ℕ = c.count_before-count.result in
    let now : c.insert.new.self.items ≡ with_gap c.args.place recent =
    c.in_ok-insert.ensures.items ∙ ap (λ (l : List ℕ). insert l count c.in-Some.gap) (sym c.as_slice.ensures.value)
    ∙ insert_gap c.args.place count (c.args.place + count + 1) c.in-Some.gap recent c.count_before-count.ensures.before
    c.count_before-count.ensures.after (omega arith) c.in-Some.ensures.1 in
    ap (gaps_with_more merged) now ∙ sym (with_gap_in_layers merged recent c.args.place)
    ∙ ap (with_gap c.args.place) (ap (gaps_with_more merged) c.as_slice.ensures.value ∙ c.self.view_is)
