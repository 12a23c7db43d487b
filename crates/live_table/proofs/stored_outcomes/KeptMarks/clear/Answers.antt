use Rattle.std.proofs.Common.{Some, sym, ◌∙◌, ap, arith}
use Rattle.std.proofs.lemmas.Option.{slice_get-get_or}
use Rattle.live_table.proofs.OneLess.{one_less}
use Rattle.live_table.proofs.stored_outcomes.KeptMarks.clear.Goals as goal

pub returns-then-n-len-2-clause-rest : goal.returns-then-n-len-2-clause-rest
returns-then-n-len-2-clause-rest c =
    one_less c.args.self.now.settled.items c.args.self.now.count c.saturating_sub-self.result c.args.n
    c.args.self.now.outcomes.items
    (slice_get-get_or c.args.self.now.settled.items c.args.n c.index.result.now
    (let a = c.if-n-len.true in let e = c.len.ensures in omega (arith, a, e))
    ∙ ap Some (sym c.index.ensures ∙ c.if-index.true))
    c.saturating_sub-self.ensures
