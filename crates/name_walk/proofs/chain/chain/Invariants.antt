use Rattle.std.proofs.Common.{drop}
use Rattle.name_walk.specs.Faults.{path_from_name}
use Rattle.name_walk.specs.Traces.{path_of_frames}
use Rattle.name_walk.proofs.Chains.{IsChaining}
use Rattle.name_walk.proofs.chain.chain.Given as goal

abbrev pub invariant-loop-frame : goal.invariant-loop-frame
invariant-loop-frame l =
    IsChaining l.again l.last (path_from_name l.again (path_of_frames l.frames l.last)) l.names.items l.is_below
    (drop l.frame-index l.frames)
