use Rattle.std.proofs.Common.{ap, subst, sym, ◌∙◌, arith, length}
use Rattle.gap_list.specs.Gaps.{AreGaps, items_without_gaps}
use Rattle.gap_list.proofs.SlotItems.{gaps_with_one, item_removed, length-items_without_gaps}
use Rattle.gap_list.proofs.slots.remove_item.Goals as goal

pub returns-in-Ok-clause-gaps : goal.returns-in-Ok-clause-gaps
returns-in-Ok-clause-gaps g c =
    let gaps = c.args.gaps.now in
    let slots = c.args.slots.now.items in
    subst (AreGaps 0 (length slots)) (sym c.in-Ok.ensures.ok)
    (gaps_with_one 0 (length slots) c.args.place gaps c.requires.gaps (omega arith)
    (omega (arith, c.requires.place, length-items_without_gaps 0 gaps slots c.requires.gaps)))

pub returns-in-Ok-clause-items : goal.returns-in-Ok-clause-items
returns-in-Ok-clause-items g c =
    let slots = c.args.slots.now.items in
    ap (λ gaps. items_without_gaps gaps slots) c.in-Ok.ensures.ok ∙ item_removed c.args.gaps.now slots c.args.place
