use Rattle.std.proofs.Common.{◌≡◌, ◌+◌, ◌-◌, ℕ, List, sym, ap, ◌∙◌, arith}
use Rattle.gap_list.specs.Gaps.{place_without_gaps}
use Rattle.gap_list.proofs.Layers.{place_in_layers}
use Rattle.gap_list.proofs.gaps.Gaps.place_of.Goals as goal

pub returns : goal.returns
returns c =
    let merged : List ℕ = c.self.inside.merged.items in
    let recent : List ℕ = c.self.inside.recent.items in
    let slot : ℕ = c.args.slot in
    let in_merged : ℕ = c.count_below.result in
    let in_recent : ℕ = c.count_below-2.result in
    let first : place_without_gaps merged slot + in_merged ≡ slot =
    ap (λ (l : List ℕ). place_without_gaps l slot + in_merged) (sym c.as_slice.ensures.value) ∙ c.count_below.ensures in
    let second : place_without_gaps recent (slot - in_merged) + in_recent ≡ slot - in_merged =
    ap (λ (l : List ℕ). place_without_gaps l (slot - in_merged) + in_recent) (sym c.as_slice-2.ensures.value)
    ∙ c.count_below-2.ensures in
    let left : slot - in_merged ≡ place_without_gaps merged slot = omega (arith, first) in
    let place : slot - in_merged - in_recent ≡ place_without_gaps recent (slot - in_merged) = omega (arith, second) in
    place ∙ ap (place_without_gaps recent) left ∙ sym (place_in_layers merged recent slot)
    ∙ ap (λ (l : List ℕ). place_without_gaps l slot) c.self.view_is
