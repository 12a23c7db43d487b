use Rattle.std.proofs.Common.{refl, sym, inl, inr}
use Rattle.live_table.proofs.stop.fault_of_stop.Goals as goal

pub returns-in-Ok : goal.returns-in-Ok
returns-in-Ok c q is = inr (sym (c.in-Ok.ensures q is))

pub returns-in-Err : goal.returns-in-Err
returns-in-Err c q is = inl refl
