use Rattle.std.proofs.Common.{◌∙◌, ap}
use Rattle.edge_links.specs.Columns.{LinkColumns, link_columns_with_waits}
use Rattle.edge_links.proofs.SlotWrites.{waits_set}
use Rattle.edge_links.proofs.slots.Slots.set_waits.Goals as goal

pub returns : goal.returns
returns c =
    waits_set c.self.inside.slots.items c.args.place c.index_mut.result.now c.index_mut.ensures.value c.args.waits
    ∙ ap (λ (x : LinkColumns). link_columns_with_waits x c.args.place c.args.waits) c.self.view_is
