use Rattle.std.proofs.Common.{arith, ◌≡◌, ◌≤◌, ℕ, length, sym, subst}
use Rattle.std.specs.Prelude.{OnOk, OnErr, Result, Ok, Err}
use Rattle.std.specs.declared.alloc.AllocError.{AllocError}
use Rattle.name_walk.specs.Searches.{AreWalkMarksCovered}
use Rattle.name_walk.specs.Traces.{WalkTrace, walk_trace_with_names}
use Rattle.name_walk.proofs.UnknownNames.{more_walk_marks_cover_marks, walk_marks_cover_themselves}
use Rattle.name_walk.proofs.search.cover_marks.Goals as goal

covered_by : (n : ℕ) (t new : WalkTrace) (r : Result (Unit {0}) AllocError) → OnOk r (new ≡ walk_trace_with_names n t)
    → OnErr r (new ≡ t) → length t.marks ≤ n → AreWalkMarksCovered t new
covered_by n t new (Ok x) ok err l = subst (λ (u : WalkTrace). AreWalkMarksCovered t u) (sym ok)
    (more_walk_marks_cover_marks n t l)
covered_by n t new (Err x) ok err l = subst (λ (u : WalkTrace). AreWalkMarksCovered t u) (sym err)
    (walk_marks_cover_themselves t)

pub returns-clause-covered : goal.returns-clause-covered
returns-clause-covered c =
    let more = c.if-names-len.false in
    let size : c.len.result ≡ length c.args.traces.now.marks = c.len.ensures in
    covered_by c.args.names c.args.traces.now c.cover.new.self c.cover.result c.cover.ensures.ok c.cover.ensures.err
    (omega (arith, more, size))
