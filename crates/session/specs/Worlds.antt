-- Everything that a session over a source, or a run of the program, touches.
use Rattle.std.specs.Prelude.{ℕ, List}
use Rattle.std.specs.declared.option.Option.{Option}
use Rattle.units_io.specs.FileMap.{FileMap}
use Rattle.session.specs.Outside.{SessionOutside, session_outside}

-- a source: the bytes left of it, the number of bytes read, and the number of failed reads
pub record SessionSource : Type 0 where
  pub input_left : Option (List ℕ)
  pub bytes_taken : ℕ
  pub faults : ℕ

abbrev pub session_source : (left : Option (List ℕ)) → (taken faults : ℕ) → SessionSource
session_source left taken faults = record { input_left = left; bytes_taken = taken; faults = faults }

-- a sink: the bytes written to it, and the number of failed writes
pub record SessionSink : Type 0 where
  pub bytes_written : Option (List ℕ)
  pub faults : ℕ

abbrev pub session_sink : (written : Option (List ℕ)) → (faults : ℕ) → SessionSink
session_sink written faults = record { bytes_written = written; faults = faults }

-- files: their known contents, and the numbers of failed fetches and failed stores
pub record SessionFilesSeen : Type 0 where
  pub known_files : Option FileMap
  pub fetch_faults : ℕ
  pub store_faults : ℕ

abbrev pub session_files_seen : (files_if_known : Option FileMap) → (fetch_faults store_faults : ℕ) → SessionFilesSeen
session_files_seen files_if_known fetch_faults store_faults =
    record { known_files = files_if_known; fetch_faults = fetch_faults; store_faults = store_faults }

-- everything that a run touches, and the count of steps
pub record SessionWorld : Type 0 where
  pub source : SessionSource
  pub out : SessionSink
  pub err : SessionSink
  pub files : SessionFilesSeen
  pub steps : ℕ

abbrev pub session_world : SessionSource → (out err : SessionSink) → SessionFilesSeen → (steps : ℕ) → SessionWorld
session_world source out err files steps =
    record { source = source; out = out; err = err; files = files; steps = steps }

-- the state outside the program in a world
abbrev pub session_world_outside : SessionWorld → SessionOutside
session_world_outside world =
    session_outside world.source.input_left world.out.bytes_written world.err.bytes_written world.files.known_files
    world.files.fetch_faults
    world.files.store_faults world.steps
