use Rattle.std.proofs.Common.{◌≡◌, ◌+◌, ℕ, List, take, subst, sym, ap, ◌∙◌, arith}
use Rattle.gap_list.specs.Gaps.{AreGapsIncreasing, gaps_before, gaps_with_more, slot_at}
use Rattle.gap_list.proofs.GapSearch.{increasing_gaps_before, slot_past_gaps, take_gaps_before}
use Rattle.gap_list.proofs.Layers.{gaps_before_in_layers}
use Rattle.gap_list.proofs.gaps.Gaps.truncate.Goals as goal

pub invariant_of-self : goal.invariant_of-self
invariant_of-self c =
    let merged : List ℕ = c.as_slice-2.result.now in
    let recent : List ℕ = c.as_slice.result.now in
    let place : ℕ = c.args.place in
    let in_recent : ℕ = c.count_before-in_recent.result in
    let in_merged : ℕ = c.count_before_sum-in_merged.result in
    let first : c.truncate-2.new.self.items ≡ gaps_before (place + in_recent) merged =
    c.truncate-2.ensures.items ∙ ap (take in_merged) (sym c.as_slice-2.ensures.value)
    ∙ c.count_before_sum-in_merged.ensures in
    let second : c.truncate.new.self.items ≡ gaps_before place recent =
    c.truncate.ensures.items ∙ ap (take in_recent) (sym c.as_slice.ensures.value)
    ∙ take_gaps_before place in_recent (place + in_recent + 1) recent c.count_before-in_recent.ensures.before
    c.count_before-in_recent.ensures.after (omega arith) in (
      subst (AreGapsIncreasing 0) (sym first)
          (increasing_gaps_before 0 (place + in_recent) merged
          (subst (AreGapsIncreasing 0) (sym c.as_slice-2.ensures.value) c.self.invariant.0)),
      subst (AreGapsIncreasing 0) (sym second)
          (increasing_gaps_before 0 place recent
          (subst (AreGapsIncreasing 0) (sym c.as_slice.ensures.value) c.self.invariant.1)),
    )

pub returns : goal.returns
returns c =
    let merged : List ℕ = c.as_slice-2.result.now in
    let recent : List ℕ = c.as_slice.result.now in
    let place : ℕ = c.args.place in
    let in_recent : ℕ = c.count_before-in_recent.result in
    let in_merged : ℕ = c.count_before_sum-in_merged.result in
    let slot : slot_at recent place ≡ place + in_recent =
    slot_past_gaps place in_recent (place + in_recent + 1) recent c.count_before-in_recent.ensures.before
    c.count_before-in_recent.ensures.after (omega arith) in
    let first : c.truncate-2.new.self.items ≡ gaps_before (slot_at recent place) merged =
    c.truncate-2.ensures.items ∙ ap (take in_merged) (sym c.as_slice-2.ensures.value)
    ∙ c.count_before_sum-in_merged.ensures ∙ ap (λ n. gaps_before n merged) (sym slot) in
    let second : c.truncate.new.self.items ≡ gaps_before place recent =
    c.truncate.ensures.items ∙ ap (take in_recent) (sym c.as_slice.ensures.value)
    ∙ take_gaps_before place in_recent (place + in_recent + 1) recent c.count_before-in_recent.ensures.before
    c.count_before-in_recent.ensures.after (omega arith) in
    ap (λ (l : List ℕ). gaps_with_more l c.truncate.new.self.items) first
    ∙ ap (gaps_with_more (gaps_before (slot_at recent place) merged)) second
    ∙ sym (gaps_before_in_layers 0 merged recent place
    (subst (AreGapsIncreasing 0) (sym c.as_slice.ensures.value) c.self.invariant.1))
    ∙ ap (λ (l : List ℕ). gaps_before place (gaps_with_more l recent)) c.as_slice-2.ensures.value
    ∙ ap (λ (l : List ℕ). gaps_before place (gaps_with_more c.self.inside.merged.items l)) c.as_slice.ensures.value
    ∙ ap (gaps_before place) c.self.view_is
