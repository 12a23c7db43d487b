use Rattle.std.proofs.Common.{◌≡◌, ◌++◌, ◌≤◌, ℕ, List, length}
use Rattle.session.specs.HeardLines.{HeardInputNamesNoFile, heard_input_loads_file}
use Rattle.session.specs.SessionProgress.{HoldsInputRest, IsTalkAtWholeLines, SessionBase, session_now_of}
use Rattle.session.specs.Talks.{SessionTrace}
use Rattle.session.specs.KnownContents.{IsSessionValueKnownIfNeeded}
use Rattle.session.proofs.listener.Listener.feed_block.Given as goal

abbrev pub invariant-loop-piece : goal.invariant-loop-piece
invariant-loop-piece g l = record {
  counted : g.F.Files.faults l.files ≡ g.F.Files.faults l.initial.files;
  later : g.F.Files.store_faults l.initial.files ≤ g.F.Files.store_faults l.files;
  within : length l.rest.now ≤ length l.initial.rest.now;
  holds : (taken : List ℕ) → HoldsInputRest taken l.initial.self.held →
      (done : List ℕ) × (l.initial.rest.now ≡ done ++ l.rest.now) × HoldsInputRest (taken ++ done) l.self.held;
  unasked : (taken more : List ℕ) → HoldsInputRest taken l.initial.self.held →
      HeardInputNamesNoFile ((taken ++ l.initial.rest.now) ++ more) → l.files ≡ l.initial.files;
  fed : (base : SessionBase) (first : SessionTrace) (taken more : List ℕ) →
      IsSessionValueKnownIfNeeded (heard_input_loads_file ((taken ++ l.initial.rest.now) ++ more)) base.files →
      IsTalkAtWholeLines base first taken l.initial.self.held
      (session_now_of l.initial.self.talk.buffers l.initial.self.talk.session (g.F.Files.files l.initial.files)
      l.initial.steps)
      → (done : List ℕ) × (l.initial.rest.now ≡ done ++ l.rest.now) × IsTalkAtWholeLines base first
      (taken ++ done) l.self.held
      (session_now_of l.self.talk.buffers l.self.talk.session (g.F.Files.files l.files) l.steps);
}

abbrev pub decreases-loop-piece : goal.decreases-loop-piece
decreases-loop-piece g l = length l.rest.now
