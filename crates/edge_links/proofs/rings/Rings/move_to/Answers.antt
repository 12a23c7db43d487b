use Rattle.std.proofs.Common.{◌∙◌, ap}
use Rattle.edge_links.specs.Owners.{LinkOwners, link_owners_with_owner}
use Rattle.edge_links.proofs.Moves.{last_set_link_owner_remains}
use Rattle.edge_links.proofs.rings.Rings.move_to.Goals as goal

pub returns : goal.returns
returns c =
    c.join.ensures ∙ (ap (λ (s : LinkOwners). link_owners_with_owner c.args.side s c.args.place c.args.head)
    c.leave.ensures.owner
    ∙ last_set_link_owner_remains c.args.side c.args.self.now c.args.place c.args.place c.args.head)
