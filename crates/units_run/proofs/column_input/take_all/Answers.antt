use Rattle.std.proofs.Common.{◌++◌, ◌∙◌, List, ℕ, Some, inl, length, take, sym, ap, arith}
use Rattle.session.proofs.Blocks.{known_session_input_is_lost, no_session_input_is_left, session_count_rose_earlier}
use Rattle.session.proofs.Blocks.{session_took_more_than_limit}
use Rattle.units_run.proofs.TakenBytes.{took_bytes}
use Rattle.units_run.proofs.column_input.take_all.Goals as goal
use Rattle.general_lemmas.proofs.Parts.{front_whole, rejoined, no_rest}

pub loop-src-init : goal.loop-src-init
loop-src-init g c = record {
  room = (c.requires.some, c.requires.small);
  earlier = omega arith;
  counted = inl (omega (arith, ap length c.requires.empty));
  stands = λ input q. (input, ap (λ (t : List ℕ). t ++ input) (sym c.requires.empty), q);
}

pub returns-in-Err-clause-read : goal.returns-in-Err-clause-read
returns-in-Err-clause-read g c = λ is. session_count_rose_earlier _ _ _ c.loop-src.invariant.earlier
    c.in-Err.ensures.cause.failure_counted

pub returns-then-n-eq0-clause-if_known : goal.returns-then-n-eq0-clause-if_known
returns-then-n-eq0-clause-if_known g c = λ input q.
    let p = c.loop-src.invariant.stands input q in
    let lost = known_session_input_is_lost _ _ p.0 (take c.in-Ok.n c.take.new.buf) p.2 c.in-Ok.ensures.bytes in
    let none = no_session_input_is_left _ p.0 p.2 (c.in-Ok.ensures.end c.if-n-eq0.true) in
    (front_whole input c.loop-src.text.items p.0 p.1 none, lost.1 ∙ ap Some (no_rest _ _ _ lost.2 none))

pub loop-src-preserved : goal.loop-src-preserved
loop-src-preserved g c =
    let put = c.in_ok-extend_from_slice.ensures {u = tt} in
    record {
      room = (omega (arith, c.loop-src.invariant.room.0), omega (arith, c.loop-src.invariant.room.1));
      earlier = omega (arith, c.in-Ok.ensures.cause.count_grows, c.loop-src.invariant.earlier);
      counted = took_bytes c.loop-src.text.items c.take.new.buf _ c.in-Ok.n put.items c.in-Ok.ensures.within _ _ _
          c.loop-src.invariant.counted c.in-Ok.ensures.count;
      stands = λ input q.
          let p = c.loop-src.invariant.stands input q in
          let lost = known_session_input_is_lost _ _ p.0 (take c.in-Ok.n c.take.new.buf) p.2 c.in-Ok.ensures.bytes in (
            lost.0,
            sym (rejoined input c.loop-src.text.items p.0 (take c.in-Ok.n c.take.new.buf) lost.0 p.1 lost.2)
                ∙ ap (λ (t : List ℕ). t ++ lost.0) (sym put.items),
            lost.1,
          );
    }

pub returns-clause-too_long : goal.returns-clause-too_long
returns-clause-too_long g c = λ is.
    session_took_more_than_limit (length c.loop-src.text.items) 16777216 _ _ c.loop-src.invariant.counted (omega arith)
