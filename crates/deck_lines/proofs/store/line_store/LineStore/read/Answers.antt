use Rattle.std.proofs.Common.{refl}
use Rattle.deck_lines.proofs.StoredLines.{store_definitions_with_more_keys, stored_keys_are_a_numbering}
use Rattle.deck_lines.proofs.store.line_store.LineStore.read.Goals as goal

pub invariant_of-self : goal.invariant_of-self
invariant_of-self c =
    store_definitions_with_more_keys c.self.inside.lines c.self.inside.definitions
    (record c.self.inside.definitions { keys = c.read_definitions.new.keys }) c.self.invariant refl
    c.read_definitions.ensures.extended c.read_definitions.ensures.unique

pub returns-clause-before : goal.returns-clause-before
returns-clause-before c =
    stored_keys_are_a_numbering c.self.inside.lines c.self.inside.definitions c.args.self.now c.self.invariant
    c.self.view_is

pub returns-clause-after : goal.returns-clause-after
returns-clause-after c =
    stored_keys_are_a_numbering c.self.inside.lines
    (record c.self.inside.definitions { keys = c.read_definitions.new.keys }) _
    (store_definitions_with_more_keys c.self.inside.lines c.self.inside.definitions
    (record c.self.inside.definitions { keys = c.read_definitions.new.keys }) c.self.invariant refl
    c.read_definitions.ensures.extended c.read_definitions.ensures.unique) refl
