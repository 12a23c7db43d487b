use Rattle.std.proofs.Common.{◌∙◌, ap, map, arith}
use Rattle.std.proofs.lemmas.List.{take_all}
use Rattle.live_table.specs.TableContents.{node_key_at}
use Rattle.live_table.proofs.fault_names.keys_of.Goals as goal

pub returns : goal.returns
returns c = c.loop-n.invariant ∙ ap (map (node_key_at c.args.keys.now))
    (take_all c.loop-n.n-index c.args.names.now (omega arith))
