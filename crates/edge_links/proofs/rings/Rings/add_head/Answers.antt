use Rattle.std.proofs.Common.{◌≡◌, ℕ, ◌+◌, ◌<◌, ◌^◌, Option, Result, Ok, Err, IfOk, OnErr, length, sym, subst}
use Rattle.edge_links.specs.Columns.{LinkColumns, link_columns_with_slot}
use Rattle.edge_links.specs.RingInvariants.{AreLinked}
use Rattle.edge_links.proofs.ColumnChanges.{grown_columns_are_linked}
use Rattle.edge_links.proofs.rings.Rings.add_head.Goals as goal

-- the places have one more or are unchanged
still_linked : {E : Type 0} (c d : LinkColumns) (top : Option ℕ) (name : ℕ) (r : Result ℕ E) → AreLinked c top
    → IfOk r (λ p. (p ≡ length c.names) × (p + 1 < 2 ^ 64) × (d ≡ link_columns_with_slot c p name)) → OnErr r (d ≡ c)
    → AreLinked d top
still_linked c d top name (Ok p) l ok err =
    subst (λ (x : LinkColumns). AreLinked x top) (sym ok.2) (grown_columns_are_linked c top p name l ok.0)
still_linked c d top name (Err e) l ok err = subst (λ (x : LinkColumns). AreLinked x top) (sym err) l

pub invariant_of-self : goal.invariant_of-self
invariant_of-self c =
    still_linked c.self.inside.slots c.push.new.self c.self.inside.last_waiting c.args.name c.push.result
    c.self.invariant c.push.ensures.ok c.push.ensures.err
