use Rattle.std.proofs.Common.{false}
use Rattle.def_entry.specs.Views.{entry_with_definition}
use Rattle.deck_lines.specs.Marks.{store_line_with_mark}
use Rattle.deck.proofs.LastDefinition.{deck_indexed_with_appended_line, room_for_key_in_new_deck}
use Rattle.deck.proofs.deck.define.put_in_room.Goals as goal

pub put-requires : goal.put-requires
put-requires c =
    room_for_key_in_new_deck c.args.store.now c.push.new.self (store_line_with_mark false c.args.line)
    c.args.definition.0
    (entry_with_definition c.args.line.text c.args.definition.1)
    c.args.last.now c.in-Some.number c.len-place.result c.in_ok-push.ensures.ok c.len-place.ensures.count
    c.requires.defines c.requires.room
    c.in-Some.ensures.number

pub returns-clause-indexed : goal.returns-clause-indexed
returns-clause-indexed c = λ settings before.
    deck_indexed_with_appended_line settings c.args.store.now c.push.new.self (store_line_with_mark false c.args.line)
    c.args.definition.0
    (entry_with_definition c.args.line.text c.args.definition.1)
    c.args.last.now c.put.new.self c.in-Some.number c.len-place.result c.in_ok-push.ensures.ok c.len-place.ensures.count
    c.requires.defines
    c.len-place.ensures.numbering before c.requires.room c.in-Some.ensures.numbering c.in-Some.ensures.number
    c.put.ensures
