-- Runs over readers and writers of the standard library.
use Rattle.std.specs.Prelude.{◌≡◌, ℕ, List, [], false, Some, None}
use Rattle.std.specs.Option.{unwrap_or}
use Rattle.std.specs.declared.option.Option.{Option}
use Rattle.session.specs.Worlds.{SessionFilesSeen, SessionWorld, session_files_seen, session_sink, session_source}
use Rattle.session.specs.Worlds.{session_world}
use Rattle.units_io.specs.StreamStates.{ReaderState, WriterState}
use Rattle.units_io.specs.Counts.{FilesCounts}
use Rattle.units_io.specs.FileMap.{FileMap}
use Rattle.units_io.specs.NamedValues.{NamedTexts}
use Rattle.units_run.specs.Calls.{run_of}
use Rattle.units_run.specs.Endings.{IsStatedRunEnd}
use Rattle.units_run.specs.Headline.{IsRun}
use Rattle.units_run.specs.Needs.{run_fetches_file, run_needs_input}
use Rattle.units_run.specs.declared.status.Status.{Status}

-- a reader from which nothing was taken, by what it tells
abbrev pub untouched_reader : Option (List ℕ) → ReaderState
untouched_reader left = record { bytes_left = left; taken_count = 0; faults = 0 }

-- a writer to which nothing was written, by what it tells
abbrev pub untouched_writer : Option (List ℕ) → WriterState
untouched_writer held = record { written_bytes = unwrap_or held []; faults = 0 }

-- the world of these streams, files and steps
abbrev pub stream_world : ReaderState → (out err : WriterState) → SessionFilesSeen → (steps : ℕ) → SessionWorld
stream_world source out err files steps =
    session_world (session_source source.bytes_left source.taken_count source.faults)
    (session_sink (Some out.written_bytes) out.faults) (session_sink (Some err.written_bytes) err.faults) files steps

-- a run of the process, which begins with no count, over streams and files whose contents are not known. The bytes
-- accepted by its two writers are those of the run.
pub record IsProcessRun (words : List (List ℕ)) (vars : NamedTexts) (status : Status) (source : ReaderState)
    (out err : WriterState) (files : FilesCounts) : Type 0 where
  pub steps : ℕ
  pub run : IsRun words vars status
      (stream_world (untouched_reader None) (untouched_writer None) (untouched_writer None)
      (session_files_seen None 0 0) 0)
      (stream_world source out err (session_files_seen None files.faults files.store_faults) steps)

-- with a stated status, these bytes and this status are those of the run
abbrev pub IsPrintedRun : (words : List (List ℕ)) → NamedTexts → FileMap → (input : List ℕ) → Status
    → (out err : List ℕ) → Type 0
IsPrintedRun words vars files input status out err =
    IsStatedRunEnd status →
    let run = run_of (record { words = words; vars = vars; files = files; input = input }) in
    (out ≡ run.output.out) × (err ≡ run.output.err) × (status ≡ run.status)

-- words that need neither files nor input print their run, whatever the files and the input are
abbrev pub PrintsRun : (words : List (List ℕ)) → NamedTexts → Status → (out err : List ℕ) → Type 0
PrintsRun words vars status out err =
    (files : FileMap) (input : List ℕ) → run_fetches_file words input ≡ false → run_needs_input words ≡ false
    → IsPrintedRun words vars files input status out err

-- law: so does each process
abbrev pub ProcessPrintLaw : Type 0
ProcessPrintLaw = (words : List (List ℕ)) (vars : NamedTexts) (status : Status) (source : ReaderState)
    (out err : WriterState) (files : FilesCounts) → IsProcessRun words vars status source out err files
    → PrintsRun words vars status out.written_bytes err.written_bytes
