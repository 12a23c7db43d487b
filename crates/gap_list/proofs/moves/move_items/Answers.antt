use Rattle.std.proofs.Common.{rules, ◌≡◌, ◌+◌, ℕ, List, sym, ap, ◌∙◌, arith}
use Rattle.gap_list.specs.Gaps.{gaps_with_more, slot_at}
use Rattle.gap_list.proofs.FilledGaps.{fill_one}
use Rattle.gap_list.proofs.GapSearch.{gaps_before_later, slot_past_gaps}
use Rattle.gap_list.proofs.Layers.{slot_in_layers}
use Rattle.gap_list.proofs.moves.move_items.Goals as goal

pub count_from-in_merged-requires-clause-before : goal.count_from-in_merged-requires-clause-before
count_from-in_merged-requires-clause-before g c =
    gaps_before_later (c.loop-place.place + c.loop-place.in_recent)
    (c.loop-place.place + c.count_from-in_recent.result) c.loop-place.in_merged c.args.merged.now
    (omega (arith, c.count_from-in_recent.ensures.more)) c.loop-place.invariant.before_merged

pub loop-place-preserved : goal.loop-place-preserved
loop-place-preserved g c =
    let place : ℕ = c.loop-place.place in
    let merged : List ℕ = c.args.merged.now in
    let recent : List ℕ = c.args.recent.now in
    let in_recent : ℕ = c.count_from-in_recent.result in
    let in_merged : ℕ = c.count_from-in_merged.result in
    let slot : place + in_recent + in_merged ≡ slot_at (gaps_with_more merged recent) place =
    sym (slot_in_layers merged recent place
    ∙ ap (slot_at merged) (slot_past_gaps place in_recent (place + in_recent + 1) recent
    c.count_from-in_recent.ensures.before c.count_from-in_recent.ensures.after (omega arith))
    ∙ slot_past_gaps (place + in_recent) in_merged (place + in_recent + in_merged + 1) merged
    c.count_from-in_merged.ensures.before c.count_from-in_merged.ensures.after (omega arith)) in
    record {
      in_recent = c.count_from-in_recent.ensures.within;
      before_recent = gaps_before_later place (place + 1) in_recent recent (omega arith)
          c.count_from-in_recent.ensures.before;
      in_merged = c.count_from-in_merged.ensures.within;
      before_merged = gaps_before_later (place + in_recent) (place + 1 + in_recent) in_merged merged (omega arith)
          c.count_from-in_merged.ensures.before;
      slots = search rules;
      capacity = search rules;
      moved = λ items inside filled.
          fill_one (gaps_with_more merged recent) c.loop-place.slots.items c.swap.new.self.items place
          (place + in_recent + in_merged) slot (c.swap.ensures.by_index) items inside
          (c.loop-place.invariant.moved items (omega (arith, inside)) filled);
    }
