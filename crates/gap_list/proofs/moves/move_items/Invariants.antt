use Rattle.std.proofs.Common.{◌≡◌, ◌≤◌, ◌+◌, length, vec_capacity}
use Rattle.gap_list.specs.Fillings.{AreSlotItemsMoved}
use Rattle.gap_list.specs.Gaps.{gaps_with_more}
use Rattle.gap_list.specs.Searches.{AreGapsBefore}
use Rattle.gap_list.proofs.moves.move_items.Given as goal

-- the gaps before the last moved item are before the next one too
abbrev pub invariant-loop-place : goal.invariant-loop-place
invariant-loop-place g l = record {
  in_recent : l.in_recent ≤ length l.recent;
  before_recent : AreGapsBefore l.place l.in_recent l.recent;
  in_merged : l.in_merged ≤ length l.merged;
  before_merged : AreGapsBefore (l.place + l.in_recent) l.in_merged l.merged;
  slots : length l.slots.items ≡ length l.initial.slots.items;
  capacity : vec_capacity l.slots ≡ vec_capacity l.initial.slots;
  moved : AreSlotItemsMoved (gaps_with_more l.merged l.recent) 0 l.place l.initial.slots.items l.slots.items;
}
