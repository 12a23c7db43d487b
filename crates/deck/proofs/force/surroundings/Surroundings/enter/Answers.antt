use Rattle.std.proofs.Common.{arith, reverse}
use Rattle.std.proofs.lemmas.List.{length-reverse}
use Rattle.deck.proofs.BlockFailures.{failing_enclosing_count_bound}
use Rattle.deck.proofs.force.surroundings.Surroundings.enter.Goals as goal

pub overflow_add-self : goal.overflow_add-self
overflow_add-self c =
    omega (
      arith,
      c.self.invariant,
      failing_enclosing_count_bound (reverse c.self.inside.holds.items),
      length-reverse c.self.inside.holds.items,
      c.self.inside.holds.ok.0,
      c.self.inside.holds.small,
    )
