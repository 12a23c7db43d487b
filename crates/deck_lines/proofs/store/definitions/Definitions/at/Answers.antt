use Rattle.std.proofs.Common.{ap, ◌∙◌, sym, Some, None, option_map}
use Rattle.deck_lines.specs.StoredDefinitions.{keyed_store_definition}
use Rattle.deck_lines.specs.NumberedKeys.{key_number_names_in}
use Rattle.deck_lines.proofs.DefinitionsByNumber.{defined_at, undefined_at}
use Rattle.deck_lines.proofs.store.definitions.Definitions.at.Goals as goal

pub returns-in-Some-Some : goal.returns-in-Some-Some
returns-in-Some-Some c = λ lines are.
    defined_at (key_number_names_in c.args.self.now.keys) c.args.self.now.of_lines.listed lines c.args.place are
    (Some c.in-Some-Some.definition) (sym c.in-Some-Some.ensures ∙ ap Some c.in-Some-Some.field-0-is)

pub returns-in-Some-None : goal.returns-in-Some-None
returns-in-Some-None c = λ lines are.
    defined_at (key_number_names_in c.args.self.now.keys) c.args.self.now.of_lines.listed lines c.args.place are None
    (sym c.in-Some-None.ensures ∙ ap Some c.in-Some-None.field-0-is)

pub returns-in-None : goal.returns-in-None
returns-in-None c = λ lines are.
    sym (ap (option_map keyed_store_definition)
    (undefined_at (key_number_names_in c.args.self.now.keys) c.args.self.now.of_lines.listed lines c.args.place are
    (sym c.in-None.ensures)))
