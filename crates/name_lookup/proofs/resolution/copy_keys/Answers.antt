use Rattle.std.proofs.Common.{◌∙◌, arith}
use Rattle.std.proofs.lemmas.List.{take_all}
use Rattle.name_lookup.proofs.resolution.copy_keys.Goals as goal

pub returns : goal.returns
returns c = c.loop-key.invariant ∙ take_all c.loop-key.key-index c.args.keys.now (omega arith)
