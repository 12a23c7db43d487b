use Rattle.std.proofs.Common.{◌≡◌, option_map, subst}
use Rattle.std.specs.Option.{option_copied}
use Rattle.deck_lines.specs.StoredDefinitions.{keyed_store_definition, seen_store_definition}
use Rattle.deck_lines.specs.Stores.{LineStoreView, store_definition_at}
use Rattle.deck_lines.proofs.store.line_store.LineStore.definition.Goals as goal

pub returns : goal.returns
returns c =
    subst (λ (s : LineStoreView). option_map (seen_store_definition s.names) (option_copied c.at.result)
    ≡ option_map keyed_store_definition (store_definition_at s.lines c.args.place)) c.self.view_is
    (c.at.ensures c.self.inside.lines c.self.invariant.definitions_right)
