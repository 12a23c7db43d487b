use Rattle.std.proofs.Common.{◌≡◌, ◌++◌, drop}
use Rattle.deck_lines.specs.Names.{key_number_names_of_kind}
use Rattle.deck.specs.Numbers.{deck_keys_where, is_entry_changed_by_edit}
use Rattle.deck.proofs.places.changes.push_changed.Given as goal

abbrev pub invariant-loop-number : goal.invariant-loop-number
invariant-loop-number l =
    l.keys ++ deck_keys_where (is_entry_changed_by_edit l.edited l.before l.after) l.kind l.number
    (drop l.number (key_number_names_of_kind l.edited.names l.kind))
    ≡ l.fn.keys ++ deck_keys_where (is_entry_changed_by_edit l.edited l.before l.after) l.kind 0
    (key_number_names_of_kind l.edited.names l.kind)
