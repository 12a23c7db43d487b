use Rattle.std.proofs.Common.{◌++◌, take, drop, ap, sym, ◌∙◌, arith, length, add-one}
use Rattle.std.specs.List.{remove}
use Rattle.gap_list.proofs.list.GapList.remove.Goals as goal

pub remove_item-requires-clause-place : goal.remove_item-requires-clause-place
remove_item-requires-clause-place g c =
    omega (arith, c.requires, ap length c.fill_many_gaps.ensures.items, ap (λ l. length l.listed) c.self.view_is)

pub returns : goal.returns
returns g c =
    let place = c.args.place in
    let listed = c.args.self.now.listed in
    c.remove_item.ensures.items
    ∙ ap (λ l. remove l place) (c.fill_many_gaps.ensures.items ∙ ap (λ l. l.listed) c.self.view_is)
    ∙ ap (λ n. take place listed ++ drop n listed) (sym (add-one place))
