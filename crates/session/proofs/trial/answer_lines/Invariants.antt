use Rattle.std.proofs.Common.{◌≡◌, ◌++◌, ℕ, List, Some, length}
use Rattle.units_io.specs.FileMap.{no_files_in_map}
use Rattle.session.specs.SessionProgress.{IsTalkAtWholeLines, session_now_of}
use Rattle.session.specs.Trials.{silent_talk}
use Rattle.session.specs.BetweenPieces.{session_base_at_start}
use Rattle.session.proofs.trial.answer_lines.Given as goal

abbrev pub invariant-loop-rest : goal.invariant-loop-rest
invariant-loop-rest g l =
    (done : List ℕ) × (l.lines ≡ done ++ l.rest)
    × IsTalkAtWholeLines (session_base_at_start (Some no_files_in_map) l.initial.steps) (silent_talk l.fn.session) done
    l.listener.held
    (session_now_of l.listener.talk.buffers l.listener.talk.session (Some no_files_in_map) l.steps)

abbrev pub decreases-loop-rest : goal.decreases-loop-rest
decreases-loop-rest g l = length l.rest
