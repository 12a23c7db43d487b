use Rattle.std.proofs.Common.{ap, ◌∙◌, map, option_map}
use Rattle.deck_lines.specs.StoredDefinitions.{seen_store_definition}
use Rattle.deck_lines.specs.NumberedKeys.{key_number_names_in}
use Rattle.deck_lines.proofs.DefinitionsByNumber.{store_defined_take}
use Rattle.deck_lines.proofs.store.definitions.Definitions.truncate.Goals as goal

pub returns-clause-lines : goal.returns-clause-lines
returns-clause-lines c = λ said are.
    ap (map (option_map (seen_store_definition (key_number_names_in c.args.self.now.keys)))) c.truncate.ensures
    ∙ store_defined_take (key_number_names_in c.args.self.now.keys) c.args.self.now.of_lines.listed said c.args.len are
