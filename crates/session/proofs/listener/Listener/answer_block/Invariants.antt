use Rattle.std.proofs.Common.{◌≡◌, ◌++◌, ◌≤◌, [], ℕ, List, length}
use Rattle.std.specs.declared.option.Option.{Option}
use Rattle.session.specs.HeardLines.{HeardInputNamesNoFile, heard_input_loads_file}
use Rattle.session.specs.Outside.{SessionOutside, SessionSinkGrowsAtLeast, session_outside}
use Rattle.session.specs.SessionProgress.{HoldsInputRest}
use Rattle.session.specs.Talks.{SessionTrace}
use Rattle.session.specs.KnownContents.{IsSessionValueKnownIfNeeded}
use Rattle.session.specs.BetweenPieces.{SessionWaitsForInput}
use Rattle.session.proofs.listener.Listener.answer_block.Given as goal

abbrev pub invariant-loop-rest : goal.invariant-loop-rest
invariant-loop-rest g l = record {
  fetches_later : g.F.Files.faults l.initial.files ≤ g.F.Files.faults l.files;
  stores_later : g.F.Files.store_faults l.initial.files ≤ g.F.Files.store_faults l.files;
  out_later : g.O.Sink.faults l.initial.out ≤ g.O.Sink.faults l.out;
  err_later : g.E.Sink.faults l.initial.err ≤ g.E.Sink.faults l.err;
  out_grows : SessionSinkGrowsAtLeast (g.O.Sink.written l.initial.out) (g.O.Sink.written l.out) [];
  err_grows : SessionSinkGrowsAtLeast (g.E.Sink.written l.initial.err) (g.E.Sink.written l.err) [];
  holds : (taken : List ℕ) → HoldsInputRest taken l.initial.self.held →
      (done : List ℕ) × (l.block ≡ done ++ l.rest) × HoldsInputRest (taken ++ done) l.self.held;
  unasked : (taken more : List ℕ) → HoldsInputRest taken l.initial.self.held
      → HeardInputNamesNoFile ((taken ++ l.block) ++ more) →
      l.files ≡ l.initial.files;
  waits : (first : SessionTrace) (taken more : List ℕ) (start : SessionOutside) (was is : Option (List ℕ)) →
      IsSessionValueKnownIfNeeded (heard_input_loads_file ((taken ++ l.block) ++ more)) start.files →
      SessionWaitsForInput first taken l.initial.self.held l.initial.self.talk.session start
      (session_outside was (g.O.Sink.written l.initial.out) (g.E.Sink.written l.initial.err)
      (g.F.Files.files l.initial.files) (g.F.Files.faults l.initial.files)
      (g.F.Files.store_faults l.initial.files) l.initial.steps) →
      (done : List ℕ) × (l.block ≡ done ++ l.rest)
      × SessionWaitsForInput first (taken ++ done) l.self.held l.self.talk.session start
      (session_outside is (g.O.Sink.written l.out) (g.E.Sink.written l.err)
      (g.F.Files.files l.files) (g.F.Files.faults l.files) (g.F.Files.store_faults l.files) l.steps);
}

abbrev pub decreases-loop-rest : goal.decreases-loop-rest
decreases-loop-rest g l = length l.rest
