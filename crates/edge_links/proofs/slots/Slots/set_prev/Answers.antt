use Rattle.std.proofs.Common.{◌∙◌, sym, ap}
use Rattle.edge_links.specs.declared.slots.Side.TheVariants.{User, Key}
use Rattle.edge_links.specs.Columns.{LinkColumns, link_columns_with_prev}
use Rattle.edge_links.proofs.SlotWrites.{user_prev, key_prev}
use Rattle.edge_links.proofs.slots.Slots.set_prev.Goals as goal

pub returns-in-User : goal.returns-in-User
returns-in-User c =
    user_prev c.self.inside.slots.items c.args.place c.index_mut.result.now c.index_mut.ensures.value c.args.prev
    ∙ (ap (λ (x : LinkColumns). link_columns_with_prev User x c.args.place c.args.prev) c.self.view_is ∙ ap
    (λ side. link_columns_with_prev side c.args.self.now c.args.place c.args.prev) (sym c.in-User.is))

pub returns-in-Key : goal.returns-in-Key
returns-in-Key c =
    key_prev c.self.inside.slots.items c.args.place c.index_mut-in-Key.result.now c.index_mut-in-Key.ensures.value
    c.args.prev
    ∙ (ap (λ (x : LinkColumns). link_columns_with_prev Key x c.args.place c.args.prev) c.self.view_is ∙ ap
    (λ side. link_columns_with_prev side c.args.self.now c.args.place c.args.prev) (sym c.in-Key.is))
