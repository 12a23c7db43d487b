use Rattle.std.proofs.Common.{◌∙◌, sym, ap}
use Rattle.edge_links.specs.declared.slots.Side.TheVariants.{User, Key}
use Rattle.edge_links.specs.Columns.{LinkColumns, link_columns_with_seat}
use Rattle.edge_links.proofs.SlotWrites.{user_seat, key_seat}
use Rattle.edge_links.proofs.slots.Slots.set_seat.Goals as goal

pub returns-in-User : goal.returns-in-User
returns-in-User c =
    user_seat c.self.inside.slots.items c.args.place c.index_mut.result.now c.index_mut.ensures.value c.args.seat
    ∙ (ap (λ (x : LinkColumns). link_columns_with_seat User x c.args.place c.args.seat) c.self.view_is ∙ ap
    (λ side. link_columns_with_seat side c.args.self.now c.args.place c.args.seat) (sym c.in-User.is))

pub returns-in-Key : goal.returns-in-Key
returns-in-Key c =
    key_seat c.self.inside.slots.items c.args.place c.index_mut-in-Key.result.now c.index_mut-in-Key.ensures.value
    c.args.seat
    ∙ (ap (λ (x : LinkColumns). link_columns_with_seat Key x c.args.place c.args.seat) c.self.view_is ∙ ap
    (λ side. link_columns_with_seat side c.args.self.now c.args.place c.args.seat) (sym c.in-Key.is))
