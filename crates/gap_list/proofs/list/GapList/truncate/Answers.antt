use Rattle.std.proofs.Common.{take, ap, ◌∙◌, arith, length}
use Rattle.gap_list.proofs.SlotItems.{length-items_without_gaps}
use Rattle.gap_list.proofs.Truncations.{gaps_truncated, items_truncated}
use Rattle.gap_list.proofs.list.GapList.truncate.Goals as goal

pub invariant_of-self : goal.invariant_of-self
invariant_of-self g c =
    let s = c.self.inside in
    gaps_truncated s.gaps s.slots.items c.args.len c.in-Some.slot c.truncate.new.self _ c.self.invariant
    (omega (arith, c.if-len.false, c.len.ensures, ap (λ l. length l.listed) c.self.view_is))
    c.in-Some.ensures.slot c.truncate.ensures c.truncate-in-Some.ensures.items

pub returns-in-Some : goal.returns-in-Some
returns-in-Some g c =
    let s = c.self.inside in
    items_truncated s.gaps s.slots.items c.args.len c.in-Some.slot c.truncate.new.self _ c.self.invariant
    (omega (arith, c.if-len.false, c.len.ensures, ap (λ l. length l.listed) c.self.view_is))
    c.in-Some.ensures.slot c.truncate.ensures c.truncate-in-Some.ensures.items
    ∙ ap (λ l. take c.args.len l.listed) c.self.view_is

pub returns-in_default : goal.returns-in_default
returns-in_default g c =
    absurd (omega (
      arith,
      c.in_default.ensures.none,
      c.if-len.false,
      c.len.ensures,
      length-items_without_gaps 0 c.self.inside.gaps c.self.inside.slots.items c.self.invariant,
      c.self.inside.slots.ok.0,
      c.self.inside.slots.ok.1,
      c.self.inside.slots.small,
      ap (λ l. length l.listed) c.self.view_is,
    ))
