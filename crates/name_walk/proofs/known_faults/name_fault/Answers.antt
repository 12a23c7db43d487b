use Rattle.std.proofs.Common.{rules}
use Rattle.name_walk.proofs.Rings.{dead_end_of, end_of, ring_of, walk_ring_names_are_of_its_way}
use Rattle.name_walk.proofs.known_faults.name_fault.Goals as goal

pub known_step-end-requires : goal.known_step-end-requires
known_step-end-requires c = c.requires.faulty

pub known_step-requires : goal.known_step-requires
known_step-requires c =
    end_of c.args.faults.now c.requires.trails c.args.name c.known_step-end.result c.known_step-end.ensures

pub ring-requires : goal.ring-requires
ring-requires c =
    let r = ring_of c.args.faults.now c.requires.trails c.args.name c.known_step-end.result c.known_step-end.ensures
    c.known_step.result c.known_step.ensures c.in-To.first c.in-To.is in
    record { ring = (r.rest, r.ring) }

pub returns-in_err-names-in-To : goal.returns-in_err-names-in-To
returns-in_err-names-in-To c = search rules

pub returns-in-Nowhere : goal.returns-in-Nowhere
returns-in-Nowhere c =
    dead_end_of c.args.faults.now c.requires.trails c.args.name c.known_step-end.result c.known_step-end.ensures
    c.known_step.result c.known_step.ensures c.in-Nowhere.word c.in-Nowhere.is

pub returns-in_ok-names-in-To : goal.returns-in_ok-names-in-To
returns-in_ok-names-in-To c =
    let r = c.in_ok-names-in-To.ensures.names in
    walk_ring_names_are_of_its_way c.args.faults.now c.args.name c.known_step-end.result.end c.in-To.first r.0
    c.in_ok-names-in-To.names.items
    (ring_of c.args.faults.now c.requires.trails c.args.name c.known_step-end.result c.known_step-end.ensures
    c.known_step.result c.known_step.ensures c.in-To.first c.in-To.is) r.1 r.2
