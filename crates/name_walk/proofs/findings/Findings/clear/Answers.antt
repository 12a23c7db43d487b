use Rattle.name_walk.proofs.StableFindings.{idle_walk_trace_is_consistent}
use Rattle.name_walk.proofs.findings.Findings.clear.Goals as goal

pub clear-requires : goal.clear-requires
clear-requires c = c.self.invariant.can_clear

pub invariant_of-self : goal.invariant_of-self
invariant_of-self c =
    idle_walk_trace_is_consistent c.clear.new.traces c.clear.new.faults.items c.clear.ensures.marks
    c.clear.ensures.order
    c.clear.ensures.faults

pub returns : goal.returns
returns c = record {
  no_sound_names = c.clear.ensures.order;
  no_faults = c.clear.ensures.faults;
  names = c.clear.ensures.marks.none_entered;
}
