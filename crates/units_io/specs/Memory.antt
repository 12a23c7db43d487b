-- Sources, sinks and files in memory.
use Rattle.std.specs.Prelude.{◌≡◌, ℕ, List, refl}
use Rattle.std.specs.Coded.{Coded, code_by, coded×, coded_list, coded_ℕ}
use Rattle.units_io.specs.FileMap.{FileMap, file_map_code}
pub use Rattle.units_io.specs.Faults.{next_io_count}

-- a source in memory: the bytes left, the most bytes that a call gives, the calls that fail, and the counts
pub record SourceState : Type 0 where
  pub bytes_left : List ℕ
  pub piece : ℕ
  pub fails : List ℕ
  pub calls : ℕ
  pub taken_count : ℕ
  pub faults : ℕ

-- a sink in memory: the bytes written, its total room, the most bytes that a call takes, the calls that fail, and the
-- counts
pub record SinkState : Type 0 where
  pub written_bytes : List ℕ
  pub room : ℕ
  pub piece : ℕ
  pub fails : List ℕ
  pub calls : ℕ
  pub faults : ℕ

-- files in memory, the fetches and the stores that fail, and the counts of both
pub record FilesState : Type 0 where
  pub files : FileMap
  pub fails : List ℕ
  pub calls : ℕ
  pub faults : ℕ
  pub store_fails : List ℕ
  pub store_calls : ℕ
  pub store_faults : ℕ

-- the encoding of this state as its fields
abbrev pub memory_files_code : Coded FilesState
memory_files_code =
    code_by (FileMap × (List ℕ × (ℕ × (ℕ × (List ℕ × (ℕ × ℕ))))))
    (coded× file_map_code
    (coded× (coded_list coded_ℕ)
    (coded× coded_ℕ (coded× coded_ℕ (coded× (coded_list coded_ℕ) (coded× coded_ℕ coded_ℕ))))))
    (λ s. (s.files, (s.fails, (s.calls, (s.faults, (s.store_fails, (s.store_calls, s.store_faults)))))))
    (λ p. record {
      files = p.0;
      fails = p.1.0;
      calls = p.1.1.0;
      faults = p.1.1.1.0;
      store_fails = p.1.1.1.1.0;
      store_calls = p.1.1.1.1.1.0;
      store_faults = p.1.1.1.1.1.1;
    })
    (λ _. refl)

-- a fetch preserves the facts about stores and the list of fetches that fail
pub record FetchKeepsStores (old new : FilesState) : Type 0 where
  pub fails : new.fails ≡ old.fails
  pub store_fails : new.store_fails ≡ old.store_fails
  pub store_calls : new.store_calls ≡ old.store_calls

-- a store preserves the facts about fetches and the list of stores that fail
pub record StoreKeepsFetches (old new : FilesState) : Type 0 where
  pub fails : new.fails ≡ old.fails
  pub store_fails : new.store_fails ≡ old.store_fails
  pub calls : new.calls ≡ old.calls
