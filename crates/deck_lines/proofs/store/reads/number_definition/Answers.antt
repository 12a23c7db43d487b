use Rattle.deck_lines.specs.NumberedKeys.{key_number_names_in}
use Rattle.deck_lines.proofs.Keys.{key_numbers_extended_by_key, key_numbers_one_to_one_with_key}
use Rattle.deck_lines.proofs.store.reads.number_definition.Goals as goal

pub returns-clause-extended : goal.returns-clause-extended
returns-clause-extended c =
    key_numbers_extended_by_key (key_number_names_in c.args.keys.now) (key_number_names_in c.reserve_one.new.self)
    (key_number_names_in c.put-key.new.self) c.args.key c.in_ok-reserve_one.ensures.names c.put-key.ensures.names

pub returns-clause-unique : goal.returns-clause-unique
returns-clause-unique c =
    key_numbers_one_to_one_with_key (key_number_names_in c.args.keys.now) (key_number_names_in c.reserve_one.new.self)
    (key_number_names_in c.put-key.new.self) c.args.key c.in_ok-reserve_one.ensures.names c.put-key.ensures.names
