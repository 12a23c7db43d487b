use Rattle.std.proofs.Common.{◌++◌, ◌∷◌, [], ap, ◌∙◌, arith, length, length-append}
use Rattle.gap_list.specs.Gaps.{items_without_gaps}
use Rattle.gap_list.proofs.SlotItems.{gaps_in_more, items-push}
use Rattle.gap_list.proofs.list.GapList.push.Goals as goal

pub invariant_of-self-2 : goal.invariant_of-self-2
invariant_of-self-2 g c =
    let s = c.self.inside in
    gaps_in_more 0 (length s.slots.items) (length c.push.new.self.items) s.gaps
    (omega (arith, ap length c.in_ok-push.ensures.items, length-append s.slots.items (c.args.item ∷ [])))
    c.self.invariant

pub returns-clause-ok : goal.returns-clause-ok
returns-clause-ok g c =
    let s = c.self.inside in
    ap (items_without_gaps s.gaps) c.in_ok-push.ensures.items
    ∙ items-push 0 s.gaps s.slots.items c.args.item c.self.invariant
    ∙ ap (λ l. l.listed ++ c.args.item ∷ []) c.self.view_is
