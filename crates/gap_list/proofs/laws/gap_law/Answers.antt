use Rattle.gap_list.proofs.SlotItems.{item_in_slot, item_removed, place_moved_by_gap, place_of_slot}
use Rattle.gap_list.proofs.laws.gap_law.Goals as goal

pub returns : goal.returns
returns c = record {
  item_in_slot = item_in_slot;
  place_of_slot = place_of_slot;
  item_removed = item_removed;
  place_moved = place_moved_by_gap;
}
