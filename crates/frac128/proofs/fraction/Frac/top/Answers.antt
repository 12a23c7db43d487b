use Rattle.std.proofs.Common.{SFits, rules}
use Rattle.std.specs.Int.{w128}
use Rattle.std.proofs.lemmas.Int.{to_z-of_z}
use Rattle.frac128.proofs.fraction.Frac.top.Goals as goal

pub returns-clause-lowest : goal.returns-clause-lowest
returns-clause-lowest c =
    let fits : SFits w128 c.self.inside.num = search rules in
    let top = simp to_z-of_z at c.unsigned_abs.ensures.value in
    rw (top, ← c.self.view_is) c.self.invariant.lowest_terms.coprime
