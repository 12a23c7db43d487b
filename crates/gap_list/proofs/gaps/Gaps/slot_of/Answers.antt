use Rattle.std.proofs.Common.{◌+◌, ℕ, List, length, sym, ap, ◌∙◌, arith}
use Rattle.gap_list.specs.Gaps.{slot_at}
use Rattle.gap_list.proofs.GapSearch.{slot_past_gaps}
use Rattle.gap_list.proofs.Layers.{length-layers, slot_in_layers}
use Rattle.gap_list.proofs.gaps.Gaps.slot_of.Goals as goal

pub returns-in_default-clause-none : goal.returns-in_default-clause-none
returns-in_default-clause-none c =
    omega (
      arith,
      c.in_default.ensures,
      c.count_before-in_recent.ensures.within,
      ap length c.as_slice.ensures.value,
      length-layers c.self.inside.merged.items c.self.inside.recent.items,
      ap length c.self.view_is,
    )

pub returns-in_default-checked_add-clause-none : goal.returns-in_default-checked_add-clause-none
returns-in_default-checked_add-clause-none c =
    omega (
      arith,
      c.in-Some.ensures.1,
      c.in_default-checked_add.ensures,
      c.count_before-in_recent.ensures.within,
      c.count_before-in_merged.ensures.within,
      ap length c.as_slice.ensures.value,
      ap length c.as_slice-2.ensures.value,
      length-layers c.self.inside.merged.items c.self.inside.recent.items,
      ap length c.self.view_is,
    )

pub returns-clause-slot : goal.returns-clause-slot
returns-clause-slot c =
    let merged : List ℕ = c.as_slice-2.result.now in
    let recent : List ℕ = c.as_slice.result.now in
    let place : ℕ = c.args.place in
    let left : ℕ = c.in-Some.left in
    let in_recent : ℕ = c.count_before-in_recent.result in
    let in_merged : ℕ = c.count_before-in_merged.result in
    c.in-Some-checked_add.ensures.1
    ∙ sym (slot_past_gaps left in_merged (left + in_merged + 1) merged c.count_before-in_merged.ensures.before
    c.count_before-in_merged.ensures.after (omega arith))
    ∙ ap (slot_at merged) (c.in-Some.ensures.1 ∙ sym (slot_past_gaps place in_recent (place + in_recent + 1) recent
    c.count_before-in_recent.ensures.before c.count_before-in_recent.ensures.after (omega arith)))
    ∙ ap (λ (l : List ℕ). slot_at l (slot_at recent place)) c.as_slice-2.ensures.value
    ∙ ap (λ (l : List ℕ). slot_at c.self.inside.merged.items (slot_at l place)) c.as_slice.ensures.value
    ∙ sym (slot_in_layers c.self.inside.merged.items c.self.inside.recent.items place)
    ∙ ap (λ (l : List ℕ). slot_at l place) c.self.view_is
