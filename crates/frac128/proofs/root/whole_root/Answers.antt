use Rattle.std.proofs.Common.{arith, ◌≡◌, ◌<◌, ◌⊎◌, inl, inr}
use Rattle.frac128.proofs.RootSearch.{root_search_end_has_no_root, root_search_start, root_small}
use Rattle.frac128.proofs.root.whole_root.Goals.{then-q-eq1-via-then-q-eq1, then-q-eq1-via-else-q-eq1+then-n-lt2}
use Rattle.frac128.proofs.root.whole_root.Goals as goal

pub returns-then-q-eq1 : goal.returns-then-q-eq1
returns-then-q-eq1 c =
    let small : (c.args.q ≡ 1) ⊎ (c.args.n < 2) = elim c.then-q-eq1.branch [
      | then-q-eq1-via-then-q-eq1 w ↦ inl w.if-q-eq1.true
      | then-q-eq1-via-else-q-eq1+then-n-lt2 w ↦ inr w.if-n-lt2.true
    ] in
    root_small _ _ c.requires.some small

pub loop-high-init : goal.loop-high-init
loop-high-init c =
    root_search_start _ _ _ c.requires.some c.if-q-eq1.false
    (λ small. omega (arith, c.if-n-lt2.false)) c.ilog2.ensures.next_power_gt c.ilog2.ensures.bound

pub returns : goal.returns
returns c = root_search_end_has_no_root _ _ _ _ c.loop-high.invariant c.loop-high-test.false
