use Rattle.deck_lines.specs.Stores.{store_definition_at}
use Rattle.deck_lines.proofs.Entries.{is_there, no_entry_without_store_definition, said_there}
use Rattle.deck_lines.proofs.store.edited_lines.EditedLines.entry.Goals as goal

pub line-requires : goal.line-requires
line-requires c =
    is_there c.args.self.now.new_lines c.args.place c.args.self.now.names c.in-Some.definition.now c.in-Some.ensures.is

pub returns-in-Some : goal.returns-in-Some
returns-in-Some c =
    said_there c.args.self.now.new_lines c.args.place c.args.self.now.names c.in-Some.definition.now
    c.in-Some.ensures.is _
    c.line.ensures

pub returns-in-None : goal.returns-in-None
returns-in-None c = no_entry_without_store_definition (store_definition_at c.args.self.now.new_lines c.args.place)
    c.in-None.ensures.is
