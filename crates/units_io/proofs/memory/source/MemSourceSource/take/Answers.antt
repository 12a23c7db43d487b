use Rattle.std.proofs.Common.{◌≡◌, ◌≤◌, arith, length, length-take}
use Rattle.units_io.proofs.Growing.{drop-source_bytes_taken}
use Rattle.units_io.proofs.memory.source.MemSourceSource.take.Goals as goal

pub returns-clause-bytes : goal.returns-clause-bytes
returns-clause-bytes c =
    let fits : c.min-n.result ≤ length c.args.buf.now = omega arith in
    let long : length c.copy_from_slice.new.self ≡ c.min-n.result =
    omega (arith, simp length-take at c.copy_from_slice.ensures.len) in
    rw (← c.self.view_is)
    (drop-source_bytes_taken _ _ _ _ _ _ _ (omega arith) long c.deref-2.ensures.value c.copy_from_slice.ensures.after)
