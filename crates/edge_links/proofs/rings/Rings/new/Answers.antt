use Rattle.std.proofs.Common.{None, sym, subst}
use Rattle.edge_links.specs.Columns.{LinkColumns}
use Rattle.edge_links.specs.RingInvariants.{AreLinked}
use Rattle.edge_links.proofs.ColumnChanges.{empty_columns_are_linked}
use Rattle.edge_links.proofs.rings.Rings.new.Goals as goal

pub invariant_of-result : goal.invariant_of-result
invariant_of-result c = subst (λ (x : LinkColumns). AreLinked x None) (sym c.new.ensures) empty_columns_are_linked
