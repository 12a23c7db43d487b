use Rattle.std.proofs.Common.{◌∙◌, ap}
use Rattle.edge_links.specs.Columns.{LinkColumns, link_columns_with_next_place}
use Rattle.edge_links.proofs.SlotWrites.{behind_set}
use Rattle.edge_links.proofs.slots.Slots.set_behind.Goals as goal

pub returns : goal.returns
returns c =
    behind_set c.self.inside.slots.items c.args.place c.index_mut.result.now c.index_mut.ensures.value c.args.behind
    ∙ ap (λ (x : LinkColumns). link_columns_with_next_place x c.args.place c.args.behind) c.self.view_is
