use Rattle.std.proofs.Common.{◌≡◌, ◌<◌, ℕ, Some, set, sym, subst}
use Rattle.std.specs.List.{slice_get}
use Rattle.name_walk.specs.declared.step.Step.TheVariants.{To}
use Rattle.name_walk.specs.declared.trail.Ending.{Ending}
use Rattle.name_walk.specs.PathRecords.{ArePathFaultsNoted}
use Rattle.name_walk.specs.Traces.{path_of_frames}
use Rattle.name_walk.proofs.PathFaultRecords.{IsNoting, noting_all, noting_next, noting_others, noting_there}
use Rattle.name_walk.proofs.trail.note_path.Goals as goal

pub index_mut-requires : goal.index_mut-requires
index_mut-requires c =
    subst (λ (k : ℕ). c.loop-frame.name < k) (sym c.loop-frame.faults.ok.0)
    (noting_there c.args.traces.now c.args.faults.now.items c.args.last c.args.last_step c.args.last_ending
    c.requires.once c.requires.there c.loop-frame.traces c.loop-frame.faults.items c.loop-frame.name
    c.loop-frame.step c.loop-frame.ending c.loop-frame.invariant)

pub returns-in_default-clause-noted : goal.returns-in_default-clause-noted
returns-in_default-clause-noted c =
    subst (λ (e : ℕ). ArePathFaultsNoted (set c.loop-frame.faults.items c.loop-frame.name
    (Some (record { step = c.loop-frame.step; end = e }))) c.args.last_ending c.args.last_step
    (path_of_frames c.args.traces.now.frames c.args.last)) (sym c.end-end.ensures)
    (noting_all c.args.traces.now c.args.faults.now.items c.args.last c.args.last_step c.args.last_ending
    c.requires.once c.requires.there c.loop-frame.traces c.loop-frame.faults.items c.loop-frame.name
    c.loop-frame.step c.loop-frame.ending c.loop-frame.invariant c.in_default.ensures.1)

pub returns-in_default-clause-others : goal.returns-in_default-clause-others
returns-in_default-clause-others c n out =
    subst (λ (e : ℕ). slice_get (set c.loop-frame.faults.items c.loop-frame.name
    (Some (record { step = c.loop-frame.step; end = e }))) n ≡ slice_get c.args.faults.now.items n)
    (sym c.end-end.ensures)
    (noting_others c.args.traces.now c.args.faults.now.items c.args.last c.args.last_step c.args.last_ending
    c.requires.once c.requires.there c.loop-frame.traces c.loop-frame.faults.items c.loop-frame.name
    c.loop-frame.step c.loop-frame.ending c.loop-frame.invariant c.in_default.ensures.1 n out)

pub loop-frame-preserved : goal.loop-frame-preserved
loop-frame-preserved c =
    subst (λ (v : ℕ × Ending). IsNoting c.args.traces.now c.pop.new.self c.args.faults.now.items
    (set c.loop-frame.faults.items c.loop-frame.name (Some (record { step = c.loop-frame.step; end = v.0 })))
    c.args.last c.args.last_step c.args.last_ending c.in-Some.frame.name (To c.loop-frame.name) v.1)
    (λ i. (sym c.end-end.ensures i, sym c.above-ending.ensures i))
    (noting_next c.args.traces.now c.args.faults.now.items c.args.last c.args.last_step c.args.last_ending
    c.requires.once c.requires.there c.loop-frame.traces c.loop-frame.faults.items c.loop-frame.name
    c.loop-frame.step c.loop-frame.ending c.loop-frame.invariant c.pop.new.self c.in-Some.frame c.in-Some.ensures)
