use Rattle.std.proofs.Common.{◌∙◌}
use Rattle.deck.proofs.RenumberedPlaces.{flags_long, indexed_again, none_there, room_there}
use Rattle.deck_lines.specs.Renumberings.{key_number_names_after}
use Rattle.deck.proofs.deck.key_removal.renumber.Goals as goal

pub note_lines-requires-clause-flags : goal.note_lines-requires-clause-flags
note_lines-requires-clause-flags c =
    flags_long c.args.store.now c.renumber.new.self (key_number_names_after c.in_ok-made.made.numbers)
    c.without_change.result
    c.in_ok-made.ensures.numbers.names c.renumber.ensures c.without_change.ensures.is c.args.settings.now
    c.as_slice.result.now (c.as_slice.ensures.value ∙ c.in_ok-flags.ensures)

pub note_lines-requires-clause-room : goal.note_lines-requires-clause-room
note_lines-requires-clause-room c =
    room_there c.args.store.now c.renumber.new.self (key_number_names_after c.in_ok-made.made.numbers)
    c.without_change.result
    c.in_ok-made.ensures.numbers.names c.renumber.ensures c.without_change.ensures.is c.in_ok-made.made.places
    c.in_ok-made.ensures.room

pub note_lines-requires-clause-none : goal.note_lines-requires-clause-none
note_lines-requires-clause-none c =
    none_there c.args.store.now c.renumber.new.self (key_number_names_after c.in_ok-made.made.numbers)
    c.without_change.result
    c.in_ok-made.ensures.numbers.names c.renumber.ensures c.without_change.ensures.is c.in_ok-made.made.places
    c.in_ok-made.ensures.none

pub returns-clause-indexed : goal.returns-clause-indexed
returns-clause-indexed c =
    indexed_again c.args.store.now c.renumber.new.self (key_number_names_after c.in_ok-made.made.numbers)
    c.without_change.result
    c.in_ok-made.ensures.numbers.names c.renumber.ensures c.without_change.ensures.is c.args.settings.now
    c.as_slice.result.now (c.as_slice.ensures.value ∙ c.in_ok-flags.ensures) c.note_lines.new.self
    c.requires.blocks_closed c.note_lines.ensures
