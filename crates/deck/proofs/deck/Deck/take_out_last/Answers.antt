use Rattle.deck.proofs.DroppedLine.{changed_drop, covers_drop, indexed_drop, last_drop, line_defines, line_dropped}
use Rattle.deck.proofs.DroppedLine.{line_inside, room_drop, uncovered_drop}
use Rattle.std.proofs.Common.{arith}
use Rattle.deck.proofs.deck.Deck.take_out_last.Goals as goal

pub unreachable-requires : goal.unreachable-requires
unreachable-requires c =
    let s = c.self.inside in
    line_defines s.settings s.store s.notices _ c.self.view_is c.args.key.now c.in-Some.place c.in-Some.ensures
    c.in_default-key_number.ensures.number

pub restore-requires : goal.restore-requires
restore-requires c =
    let s = c.self.inside in
    room_drop s.settings s.store s.notices _ c.self.view_is c.args.key.now c.in-Some.place c.in-Some.ensures
    c.in-Some-key_number.number c.in-Some-key_number.ensures.number s.last c.self.invariant.indexed

pub remove-requires : goal.remove-requires
remove-requires c =
    let s = c.self.inside in
    line_inside s.settings s.store s.notices _ c.self.view_is c.args.key.now c.in-Some.place c.in-Some.ensures

pub without_line-requires : goal.without_line-requires
without_line-requires c =
    let s = c.self.inside in
    omega (
      arith,
      line_inside s.settings s.store s.notices _ c.self.view_is c.args.key.now c.in-Some.place c.in-Some.ensures,
      c.in_ok-covered.ensures.covered.0,
    )

pub invariant_of-self-2 : goal.invariant_of-self-2
invariant_of-self-2 c =
    let s = c.self.inside in
    let uncovered =
    uncovered_drop s.settings s.store s.notices _ c.self.view_is c.args.key.now c.in-Some.place c.in-Some.ensures
    c.in-Some-key_number.number c.in-Some-key_number.ensures.number c.in_ok-covered.covered
    c.in_ok-covered.ensures.covered c.get-uncovered.result c.get-uncovered.ensures in
    record {
      indexed = indexed_drop s.settings s.store s.notices _ c.self.view_is c.args.key.now c.in-Some.place
          c.in-Some.ensures c.in-Some-key_number.number c.in-Some-key_number.ensures.number c.get-uncovered.result
          uncovered c.in-Some-key_number.ensures.numbering s.last c.restore.new.self c.close_gap.new.self
          c.self.invariant.indexed c.restore.ensures c.close_gap.ensures c.remove.new.self c.remove.ensures.lines
          c.remove.ensures.names;
      covers = covers_drop s.settings s.store s.notices _ c.self.view_is c.args.key.now c.in-Some.place
          c.in-Some.ensures c.in_ok-covered.covered c.in_ok-covered.ensures.covered c.remove.new.self.lines
          c.remove.ensures.lines c.without_line.result c.without_line.ensures;
    }

pub returns : goal.returns
returns c =
    let s = c.self.inside in
    let uncovered =
    uncovered_drop s.settings s.store s.notices _ c.self.view_is c.args.key.now c.in-Some.place c.in-Some.ensures
    c.in-Some-key_number.number c.in-Some-key_number.ensures.number c.in_ok-covered.covered
    c.in_ok-covered.ensures.covered c.get-uncovered.result c.get-uncovered.ensures in (
      line_dropped s.settings s.store s.notices _ c.self.view_is c.args.key.now c.in-Some.place c.in-Some.ensures
          c.remove.new.self.lines c.remove.ensures.lines,
      changed_drop s.settings s.store s.notices _ c.self.view_is c.args.key.now c.in-Some.place c.in-Some.ensures
          c.in-Some-key_number.number c.in-Some-key_number.ensures.number c.get-uncovered.result
          uncovered c.same_text_law.ensures c.remove.new.self.lines c.in_ok-keys.keys
          c.remove.ensures.lines c.in_ok-keys.ensures,
    )
