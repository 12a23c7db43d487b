use Rattle.std.proofs.Common.{◌++◌, ◌∷◌, [], ap, ◌∙◌, arith, length, length-append}
use Rattle.gap_list.specs.Gaps.{items_without_gaps}
use Rattle.gap_list.proofs.SlotItems.{gaps_in_more, items-push}
use Rattle.gap_list.proofs.list.GapList.put.Goals as goal

pub put_last-requires : goal.put_last-requires
put_last-requires g c = omega (arith, c.requires, ap (λ l. l.spare) c.self.view_is)

pub invariant_of-self : goal.invariant_of-self
invariant_of-self g c =
    let s = c.self.inside in
    gaps_in_more 0 (length s.slots.items) (length c.put_last.new.slots.items) s.gaps
    (omega (arith, ap length c.put_last.ensures, length-append s.slots.items (c.args.item ∷ [])))
    c.self.invariant

pub returns : goal.returns
returns g c =
    let s = c.self.inside in
    ap (items_without_gaps s.gaps) c.put_last.ensures
    ∙ items-push 0 s.gaps s.slots.items c.args.item c.self.invariant
    ∙ ap (λ l. l.listed ++ c.args.item ∷ []) c.self.view_is
