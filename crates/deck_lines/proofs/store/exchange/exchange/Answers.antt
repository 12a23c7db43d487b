use Rattle.std.proofs.Common.{◌≡◌, ◌++◌, ◌+◌, ◌≤◌, length, take, drop, ap, ◌∙◌, arith, cond, length-append, length-drop}
use Rattle.std.proofs.Common.{length-take}
use Rattle.deck_lines.proofs.ListTurns.{left_is, gone_is, back_is}
use Rattle.deck_lines.proofs.store.exchange.exchange.Goals as goal

pub returns-clause-gone : goal.returns-clause-gone
returns-clause-gone g c =
    let fits : c.args.at + c.args.cut ≤ length c.args.items.now.items = c.requires.places in
    c.move_last.ensures.moved
    ∙ gone_is c.args.items.now.items c.args.at c.args.cut fits _ _ c.rotate_left.ensures.items
    (omega (arith, c.rotate_left.ensures.len, c.args.items.now.ok.0, fits))

pub returns-clause-items : goal.returns-clause-items
returns-clause-items g c =
    let fits : c.args.at + c.args.cut ≤ length c.args.items.now.items = c.requires.places in
    let left = c.move_last.ensures.rest
    ∙ left_is c.args.items.now.items c.args.at c.args.cut fits _ _ c.rotate_left.ensures.items
    (omega (arith, c.rotate_left.ensures.len, c.args.items.now.ok.0, fits)) in
    let ok = c.append.ensures.succeeds
    (omega (
      arith,
      c.requires.room,
      c.rotate_left.ensures.capacity,
      c.move_last.ensures.capacity,
      c.move_last.new.from.ok.0,
      ap length left,
      length-append (drop (c.args.at + c.args.cut) c.args.items.now.items) (take c.args.at c.args.items.now.items),
      length-drop (c.args.at + c.args.cut) c.args.items.now.items,
      length-take c.args.at c.args.items.now.items,
      c.args.items.now.ok.0,
      fits,
    )) in
    let appended : c.append.new.self.items
    ≡ (drop (c.args.at + c.args.cut) c.args.items.now.items ++ take c.args.at c.args.items.now.items)
    ++ c.args.put.now.items =
    c.append.ensures.items
    ∙ ap (λ b. cond b (c.move_last.new.from.items ++ c.args.put.now.items) c.move_last.new.from.items) ok
    ∙ ap (λ t. t ++ c.args.put.now.items) left in
    c.rotate_left-2.ensures.items
    ∙ back_is c.args.items.now.items c.args.at c.args.cut fits _ _ _ appended
    (omega (arith, c.len.ensures, c.args.items.now.ok.0, fits))
