-- The bytes on a sink only grow.
use Rattle.std.proofs.Common.{◌≡◌, ◌⊎◌, ◌++◌, ◌∙◌, [], ℕ, List, inl, inr, refl, sym, ap, take, append_assoc, Some, None}
use Rattle.std.specs.declared.option.Option.{Option}
use Rattle.std.proofs.lemmas.List.{append-nil}
use Rattle.units_io.specs.Bytes.{SinkGrowsByPrefix, sink_bytes_append}
use Rattle.session.specs.Outside.{SessionSinkGrowsAtLeast}
use Rattle.session.proofs.Blocks.{session_sink_grows_twice}

-- nothing was written to the sink
pub unwritten_session_sink_grows : (o : Option (List ℕ)) → SessionSinkGrowsAtLeast o o []
unwritten_session_sink_grows None = ([], refl)
unwritten_session_sink_grows (Some held) = ([], ap Some (sym (append-nil held)))

-- a front of some bytes was written
pub session_sink_grows_by_front : (o new : Option (List ℕ)) (bytes : List ℕ) → SinkGrowsByPrefix o new bytes
    → SessionSinkGrowsAtLeast o new []
session_sink_grows_by_front o new bytes f = (take f.0 bytes, f.2)

-- all of the bytes were written
pub session_sink_grows_by_all : (o new : Option (List ℕ)) (bytes : List ℕ) → new ≡ sink_bytes_append o bytes
    → SessionSinkGrowsAtLeast o new bytes
session_sink_grows_by_all o new bytes e = ([], e ∙ ap (sink_bytes_append o) (sym (append-nil bytes)))

-- more was written after the bytes
pub session_sink_grows_by_more : (o mid new : Option (List ℕ)) (bytes : List ℕ) → SessionSinkGrowsAtLeast o mid bytes
    → SessionSinkGrowsAtLeast mid new []
    → SessionSinkGrowsAtLeast o new bytes
session_sink_grows_by_more o mid new bytes first later = (
  first.0 ++ later.0,
  later.1 ∙ ap (λ m. sink_bytes_append m later.0) first.1 ∙ session_sink_grows_twice o (bytes ++ first.0) later.0
      ∙ ap (sink_bytes_append o) (append_assoc bytes first.0 later.0),
)

pub session_sink_grows_again : (o mid new : Option (List ℕ)) → SessionSinkGrowsAtLeast o mid []
    → SessionSinkGrowsAtLeast mid new []
    → SessionSinkGrowsAtLeast o new []
session_sink_grows_again o mid new first later = session_sink_grows_by_more o mid new [] first later

-- nothing was written to one sink, or all of some bytes to the other
pub session_sinks_grow_in_order : (A : Type 0) (o new : Option (List ℕ)) (bytes : List ℕ)
    → A ⊎ (new ≡ sink_bytes_append o bytes)
    → A ⊎ SessionSinkGrowsAtLeast o new bytes
session_sinks_grow_in_order A o new bytes (inl same) = inl same
session_sinks_grow_in_order A o new bytes (inr e) = inr (session_sink_grows_by_all o new bytes e)
