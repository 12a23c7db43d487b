use Rattle.std.proofs.Common.{◌≡◌, ◌⊎◌, ◌<◌, Err, List, arith, length, subst}
use Rattle.quantity.specs.Amount.{Amount}
use Rattle.unit_list.specs.Amounts.{unit_counts_in}
use Rattle.unit_list.specs.declared.fault.SplitFault.{SplitFault}
use Rattle.unit_list.specs.declared.fault.SplitFault.TheVariants.{NotConformable, OutOfMemory}
use Rattle.reply.proofs.UnlikeUnits.{counted-unlike, place-within}
use Rattle.reply.proofs.comparison.count_units.Goals as goal

pub swap_remove-requires : goal.swap_remove-requires
swap_remove-requires c =
    let h : c.in-Err-NotConformable.place < length c.as_slice.result.now =
    place-within c.args.round c.args.x c.as_slice.result.now c.in-Err-NotConformable.place
    (subst (λ (f : SplitFault).
    (f ≡ OutOfMemory) ⊎ (unit_counts_in c.args.round c.args.x c.as_slice.result.now ≡ Err f))
    c.in-Err-NotConformable.field-0-is ((c.in-Err-NotConformable.ensures {u = tt}).computed)) in
    omega (arith, h, c.in-Err-NotConformable.place-is, c.as_slice.ensures.len)

pub returns-in-Err-NotConformable : goal.returns-in-Err-NotConformable
returns-in-Err-NotConformable c =
    counted-unlike c.args.round c.args.x c.args.units.items c.in-Err-NotConformable.place c.args.list _
    c.swap_remove.result
    (subst (λ (us : List Amount). (NotConformable c.in-Err-NotConformable.place ≡ OutOfMemory)
    ⊎ (unit_counts_in c.args.round c.args.x us ≡ Err (NotConformable c.in-Err-NotConformable.place)))
    c.as_slice.ensures.value
    (subst (λ (f : SplitFault).
    (f ≡ OutOfMemory) ⊎ (unit_counts_in c.args.round c.args.x c.as_slice.result.now ≡ Err f))
    c.in-Err-NotConformable.field-0-is ((c.in-Err-NotConformable.ensures {u = tt}).computed)))
    c.in-Err-NotConformable.place-is c.swap_remove.ensures.value
