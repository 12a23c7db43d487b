use Rattle.std.proofs.Common.{length, ◌∙◌, arith}
use Rattle.gap_list.proofs.FilledGaps.{filled_all}
use Rattle.gap_list.proofs.SlotItems.{gap_count}
use Rattle.gap_list.proofs.filling.fill_gaps.Goals as goal

pub overflow_sub-len : goal.overflow_sub-len
overflow_sub-len g c =
    omega (
      arith,
      c.len-2.ensures,
      c.len-3.ensures,
      c.args.slots.now.ok.0,
      gap_count 0 (length c.args.slots.now.items) c.args.gaps.now c.requires,
    )

pub move_items-requires : goal.move_items-requires
move_items-requires g c =
    omega (
      arith,
      c.len-2.ensures,
      c.len-3.ensures,
      c.args.slots.now.ok.0,
      gap_count 0 (length c.args.slots.now.items) c.args.gaps.now c.requires,
    )

pub returns-clause-items : goal.returns-clause-items
returns-clause-items g c =
    c.truncate.ensures.items
    ∙ filled_all c.args.gaps.now c.args.slots.now.items c.move_items.new.slots.items _ c.requires
    c.move_items.ensures.moved
    (omega (
      arith,
      c.len-2.ensures,
      c.len-3.ensures,
      c.args.slots.now.ok.0,
      gap_count 0 (length c.args.slots.now.items) c.args.gaps.now c.requires,
    ))
    c.move_items.ensures.slots
