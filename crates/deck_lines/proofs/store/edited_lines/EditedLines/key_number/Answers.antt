use Rattle.std.proofs.Common.{ap, ◌∙◌, option_map, Option}
use Rattle.def_entry.specs.Entries.{What}
use Rattle.def_entry.specs.declared.key.Key.{Key}
use Rattle.deck_lines.specs.Stores.{store_definition_at}
use Rattle.deck_lines.proofs.DefinitionsByNumber.{keyed_store_definition_key}
use Rattle.deck_lines.proofs.store.edited_lines.EditedLines.key_number.Goals as goal

pub returns-in-Some-clause-number : goal.returns-in-Some-clause-number
returns-in-Some-clause-number c =
    ap (option_map (λ (p : Option Key × What). p.0)) c.in-Some.ensures.is
    ∙ keyed_store_definition_key (store_definition_at c.args.self.now.new_lines c.args.place)

pub returns-in-None-clause-number : goal.returns-in-None-clause-number
returns-in-None-clause-number c =
    ap (option_map (λ (p : Option Key × What). p.0)) c.in-None.ensures.is
    ∙ keyed_store_definition_key (store_definition_at c.args.self.now.new_lines c.args.place)
