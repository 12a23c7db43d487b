use Rattle.std.proofs.Common.{◌≡◌, ◌++◌, ◌≤◌, ◌-◌, ℕ, List, Some, length, ◌<◌, []}
use Rattle.session.specs.HeardLines.{HeardInputNamesNoFile, heard_input_loads_file}
use Rattle.session.specs.Outside.{SessionOutside, SessionSinkGrowsAtLeast, session_outside}
use Rattle.session.specs.SessionProgress.{HoldsInputRest}
use Rattle.session.specs.Talks.{SessionTrace}
use Rattle.session.specs.KnownContents.{IsSessionValueKnownIfNeeded}
use Rattle.session.specs.BetweenPieces.{SessionTookAtLeast, SessionWaitsForInput}
use Rattle.session.proofs.listener.Listener.answer_blocks.Given as goal

abbrev pub invariant-loop-total : goal.invariant-loop-total
invariant-loop-total g l = record {
  later : g.F.Files.faults l.initial.files ≤ g.F.Files.faults l.files;
  stores_later : g.F.Files.store_faults l.initial.files ≤ g.F.Files.store_faults l.files;
  earlier : g.S.Source.faults l.initial.src ≤ g.S.Source.faults l.src;
  out_later : g.O.Sink.faults l.initial.out ≤ g.O.Sink.faults l.out;
  err_later : g.E.Sink.faults l.initial.err ≤ g.E.Sink.faults l.err;
  room : (0 < length l.block) × (length l.block ≤ 65536);
  counted : SessionTookAtLeast l.total (g.S.Source.taken l.initial.src) (g.S.Source.taken l.src);
  out_grows : SessionSinkGrowsAtLeast (g.O.Sink.written l.initial.out) (g.O.Sink.written l.out) [];
  err_grows : SessionSinkGrowsAtLeast (g.E.Sink.written l.initial.err) (g.E.Sink.written l.err) [];
  holds : (input : List ℕ) → g.S.Source.left l.initial.src ≡ Some input → HoldsInputRest [] l.initial.self.held →
      (taken : List ℕ) × (rest : List ℕ) × (input ≡ taken ++ rest) × (g.S.Source.left l.src ≡ Some rest)
      × HoldsInputRest taken l.self.held;
  unasked : (input : List ℕ) → g.S.Source.left l.initial.src ≡ Some input → HoldsInputRest [] l.initial.self.held →
      HeardInputNamesNoFile input → l.files ≡ l.initial.files;
  stands : (first : SessionTrace) (input : List ℕ) (start : SessionOutside) → g.S.Source.left l.initial.src ≡ Some input
      →
      IsSessionValueKnownIfNeeded (heard_input_loads_file input) start.files
      → SessionWaitsForInput first [] l.initial.self.held l.initial.self.talk.session start
      (session_outside (g.S.Source.left l.initial.src) (g.O.Sink.written l.initial.out) (g.E.Sink.written l.initial.err)
      (g.F.Files.files l.initial.files) (g.F.Files.faults l.initial.files)
      (g.F.Files.store_faults l.initial.files) l.initial.steps) →
      (taken : List ℕ) × (rest : List ℕ) × (input ≡ taken ++ rest) × (g.S.Source.left l.src ≡ Some rest)
      × SessionWaitsForInput first taken l.self.held l.self.talk.session start
      (session_outside (g.S.Source.left l.src) (g.O.Sink.written l.out) (g.E.Sink.written l.err)
      (g.F.Files.files l.files) (g.F.Files.faults l.files) (g.F.Files.store_faults l.files) l.steps);
}

abbrev pub decreases-loop-total : goal.decreases-loop-total
decreases-loop-total g l = 4294967297 - l.total
