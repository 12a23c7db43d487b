use Rattle.deck_lines.specs.NumberedKeys.{key_number_names_in}
use Rattle.deck_lines.proofs.DefinitionsByNumber.{definition_put_with_key_number}
use Rattle.deck_lines.proofs.store.definitions.Definitions.put.Goals as goal

pub returns-in-Some-clause-lines : goal.returns-in-Some-clause-lines
returns-in-Some-clause-lines c = λ said line are.
    definition_put_with_key_number (key_number_names_in c.args.self.now.keys) (key_number_names_in c.put-key.new.self)
    c.in-Some.key c.in-Some.what c.put-key.result
    c.args.definition line c.args.self.now.of_lines.listed _ said
    c.in-Some.is c.put-key.ensures.names c.put-key.ensures.number c.put.ensures are
