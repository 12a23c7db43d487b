use Rattle.std.proofs.Common.{ap, subst, sym, ◌∙◌}
use Rattle.deck_lines.specs.Loads.{store_with_lines}
use Rattle.deck_lines.specs.Names.{KeyNumberNames}
use Rattle.deck_lines.specs.Renumberings.{IsKeyRenumbering}
use Rattle.deck_lines.specs.Stores.{LineStoreView, store_without_lines}
use Rattle.deck_lines.proofs.RenumberedKeys.{key_numbers_per_definition, store_definitions_renumbered}
use Rattle.deck_lines.proofs.store.line_store.LineStore.renumber.Goals as goal

pub renumber-requires : goal.renumber-requires
renumber-requires c =
    key_numbers_per_definition c.self.inside.lines c.self.inside.definitions c.args.numbers c.self.invariant
    (subst (λ (s : LineStoreView). IsKeyRenumbering s.lines c.args.numbers) (sym c.self.view_is) c.requires)

pub invariant_of-self : goal.invariant_of-self
invariant_of-self c =
    store_definitions_renumbered c.self.inside.lines c.self.inside.definitions c.renumber.new.self c.args.numbers
    c.self.invariant
    (subst (λ (s : LineStoreView). IsKeyRenumbering s.lines c.args.numbers) (sym c.self.view_is) c.requires)
    c.renumber.ensures.lines c.renumber.ensures.names

pub returns : goal.returns
returns c =
    let are : IsKeyRenumbering c.self.inside.lines c.args.numbers =
    subst (λ (s : LineStoreView). IsKeyRenumbering s.lines c.args.numbers) (sym c.self.view_is) c.requires in
    ap (λ (n : KeyNumberNames). record { lines = c.self.inside.lines; names = n })
    (c.renumber.ensures.names ∙ are.names)
    ∙ ap (λ (s : LineStoreView). store_with_lines store_without_lines s.lines) c.self.view_is
