use Rattle.std.proofs.Common.{◌≡◌, ◌+◌, ◌<◌, ℕ, List, [], ◌∷◌, ◌++◌, length, ap, arith, ◌∙◌, length-append}
use Rattle.name_walk.proofs.RingPass.{ringing_leads, ringing_next, ringing_room, ringing_way, walk_ring_starts}
use Rattle.name_walk.proofs.known_faults.ring.Goals as goal

pub loop-here-init : goal.loop-here-init
loop-here-init c =
    walk_ring_starts c.args.faults.now c.args.end c.args.first c.requires.ring.0 c.push.new.self.items c.requires.ring.1
    (c.in_ok-push.ensures.items ∙ ap (λ (ns : List ℕ). ns ++ c.args.end ∷ []) c.new-names.ensures.items)

pub next-here-requires : goal.next-here-requires
next-here-requires c =
    ringing_leads c.args.faults.now c.args.end c.args.first c.loop-here.here c.loop-here.names.items
    c.loop-here.invariant c.loop-here-test.true

pub loop-here-smaller : goal.loop-here-smaller
loop-here-smaller c =
    let room : length c.loop-here.names.items < length c.args.faults.now =
    ringing_room c.args.faults.now c.args.end c.args.first c.loop-here.here c.loop-here.names.items
    c.loop-here.invariant c.loop-here-test.true in
    let more : length c.push-in-loop-here.new.self.items ≡ length c.loop-here.names.items + 1 =
    ap (λ (ns : List ℕ). length ns) c.in_ok-push-2.ensures.items
    ∙ length-append c.loop-here.names.items (c.loop-here.here ∷ []) in
    omega (arith, room, more)

pub loop-here-preserved : goal.loop-here-preserved
loop-here-preserved c =
    ringing_next c.args.faults.now c.args.end c.args.first c.loop-here.here c.loop-here.names.items
    c.loop-here.invariant c.loop-here-test.true c.next-here.result c.next-here.ensures
    c.push-in-loop-here.new.self.items c.in_ok-push-2.ensures.items

pub returns : goal.returns
returns c = record {
  names = (
    c.loop-here.invariant.passed,
    ringing_way c.args.faults.now c.args.end c.args.first c.loop-here.here c.loop-here.names.items
        c.loop-here.invariant c.loop-here-test.false,
    c.in_ok-push-3.ensures.items
        ∙ ap (λ (ns : List ℕ). ns ++ c.args.end ∷ []) c.loop-here.invariant.whole,
  );
}
