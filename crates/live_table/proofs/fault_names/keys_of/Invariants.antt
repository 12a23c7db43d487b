use Rattle.std.proofs.Common.{◌≡◌, map, take}
use Rattle.live_table.specs.TableContents.{node_key_at}
use Rattle.live_table.proofs.fault_names.keys_of.Given as goal

abbrev pub invariant-loop-n : goal.invariant-loop-n
invariant-loop-n l = l.list ≡ map (node_key_at l.keys) (take l.n-index l.names)
