use Rattle.std.proofs.Common.{arith}
use Rattle.std.proofs.lemmas.Result.{on_ok_weaker}
use Rattle.session.proofs.HeldLine.{still_long, gets_long, holds_more, session_call_effect_on_success}
use Rattle.session.proofs.partial_line.Held.add.Goals as goal

pub returns-then-self : goal.returns-then-self
returns-then-self c part h =
    still_long c.self.inside.long c.self.inside.bytes.items c.args.self.now c.self.view_is part h c.args.piece.now
    c.if-self.true

pub returns-then-piece-len : goal.returns-then-piece-len
returns-then-piece-len c part h =
    gets_long c.self.inside.long c.self.inside.bytes.items c.args.self.now c.self.view_is part h c.args.piece.now
    c.if-self.false (omega (arith, c.self.invariant, c.self.inside.bytes.ok.0))

pub returns : goal.returns
returns c part h =
    on_ok_weaker c.extend_from_slice.result
    (holds_more c.self.inside.long c.self.inside.bytes.items c.args.self.now c.self.view_is part h c.args.piece.now
    c.extend_from_slice.new.self.items c.if-self.false
    (omega (arith, c.self.invariant, c.self.inside.bytes.ok.0)))
    (session_call_effect_on_success c.extend_from_slice.result _ _ _ c.extend_from_slice.ensures.items)
