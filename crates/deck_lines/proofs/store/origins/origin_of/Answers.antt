use Rattle.std.proofs.Common.{◌-◌, arith}
use Rattle.deck_lines.proofs.ExchangedItems.{exchanged_behind, exchanged_front, exchanged_past, exchanged_put}
use Rattle.deck_lines.proofs.store.origins.origin_of.Goals as goal

pub returns-then-place-at : goal.returns-then-place-at
returns-then-place-at c = λ lines others e f.
    exchanged_front lines others c.args.at c.args.cut (omega (arith, c.requires, e)) c.args.place c.if-place-at.true

pub returns-then-past_front-put : goal.returns-then-past_front-put
returns-then-past_front-put c = λ lines others e f.
    exchanged_put lines others c.args.at c.args.cut (omega (arith, c.requires, e)) c.args.place
    (c.args.place - c.args.at) (omega (arith, c.if-place-at.false)) (omega (arith, c.if-past_front-put.true, f))

pub returns-then-count-at : goal.returns-then-count-at
returns-then-count-at c = λ lines others e f.
    exchanged_past lines others c.args.at c.args.cut (omega (arith, c.requires, e)) c.args.place
    (c.args.place - c.args.at - c.args.put) (omega (arith, c.if-place-at.false, c.if-past_front-put.false, f))
    (omega (arith, e, c.if-count-at.true))

pub returns : goal.returns
returns c = λ lines others e f.
    exchanged_behind lines others c.args.at c.args.cut (omega (arith, c.requires, e)) c.args.place
    (c.args.place - c.args.at - c.args.put) (omega (arith, c.if-place-at.false, c.if-past_front-put.false, f))
