-- Both rings of each place are well-formed, and so is the list of the waiting places.
use Rattle.std.specs.Prelude.{◌≡◌, ℕ, length, Option}
use Rattle.edge_links.specs.Columns.{LinkColumns}
use Rattle.edge_links.specs.Rings.{AreLinkRings}
use Rattle.edge_links.specs.WaitingStack.{AreWaitingLinks}

pub record AreLinked (c : LinkColumns) (top : Option ℕ) : Type 0 where
  pub users : AreLinkRings c.users
  pub keys : AreLinkRings c.keys
  pub waiting_stack : AreWaitingLinks c.waits c.behind top
  pub users_size : length c.users.owner ≡ length c.names
  pub keys_size : length c.keys.owner ≡ length c.names
  pub waits_size : length c.waits ≡ length c.names
