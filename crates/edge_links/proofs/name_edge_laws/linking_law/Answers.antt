use Rattle.edge_links.proofs.LinkedNameEdges.{linked_from, linked_to}
use Rattle.edge_links.proofs.name_edge_laws.linking_law.Goals as goal

pub returns : goal.returns
returns c user keys old new same x y = (linked_from user keys old new same x y, linked_to user keys old new same x y)
