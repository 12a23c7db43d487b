use Rattle.std.proofs.Common.{length}
use Rattle.name_walk.proofs.PathFaultRecords.{IsNoting}
use Rattle.name_walk.proofs.trail.note_path.Given as goal

abbrev pub invariant-loop-frame : goal.invariant-loop-frame
invariant-loop-frame l =
    IsNoting l.fn.traces l.traces l.fn.faults.items l.faults.items l.fn.last l.fn.last_step l.fn.last_ending l.name
    l.step l.ending

abbrev pub decreases-loop-frame : goal.decreases-loop-frame
decreases-loop-frame l = length l.traces.frames
