use Rattle.std.proofs.Common.{◌⊎◌, ◌↔◌, List, ℕ, subst, Contains}
use Rattle.std.specs.Prelude.{OnOk}
use Rattle.live_table.proofs.explored_names.Explored.put_all.Goals as goal

pub put_all-put-requires : goal.put_all-put-requires
put_all-put-requires c m i = c.requires m (subst (λ (ns : List ℕ). Contains ns m) c.as_slice.ensures i)

pub returns-else-is_err-clause-ok : goal.returns-else-is_err-clause-ok
returns-else-is_err-clause-ok c =
    subst (λ (ns : List ℕ). OnOk c.put_all-put.result
    ((m : ℕ) → Contains c.put_all-put.new.self m ↔ (Contains c.args.self.now.names m ⊎ Contains ns m)))
    c.as_slice.ensures c.put_all-put.ensures
