-- The result of a fetch, if the files are known.
use Rattle.std.specs.Prelude.{◌≡◌, ◌≤◌, ℕ, List, length, nat_le, if◌then◌else◌, Result, Ok, Err, Some, None, IsErrOf, ⊤}
use Rattle.std.specs.declared.option.Option.{Option}
use Rattle.std.specs.FinMap as map
pub use Rattle.units_io.specs.FileMap.{FileMap, longest_file}
use Rattle.units_io.specs.Faults.{HasIoCountRisen, next_io_count}
use Rattle.units_io.specs.declared.files.FetchFault.{FetchFault}
use Rattle.units_io.specs.declared.files.FetchFault.TheVariants.{Absent, TooLong, Failed, OutOfMemory}

-- the result for a name with this file, or without a file
abbrev pub file_fetch_answer : Option (List ℕ) → Result (List ℕ) FetchFault
file_fetch_answer None = Err Absent
file_fetch_answer (Some bytes) = if nat_le (length bytes) longest_file then Ok bytes else Err TooLong

-- the result that the known files determine, unless the fetch failed or ran out of memory
abbrev pub IsFileFetched : FileMap → List ℕ → Result (List ℕ) FetchFault → Type 0
IsFileFetched files name (Err Failed) = ⊤
IsFileFetched files name (Err OutOfMemory) = ⊤
IsFileFetched files name (Err Absent) = file_fetch_answer (map.get files name) ≡ Err Absent
IsFileFetched files name (Err TooLong) = file_fetch_answer (map.get files name) ≡ Err TooLong
IsFileFetched files name (Ok bytes) = file_fetch_answer (map.get files name) ≡ Ok bytes

-- the count never decreases, and it increases if the result is `Failed`
pub record FetchFailsWithCause (before now : ℕ) (result : Result (List ℕ) FetchFault) : Type 0 where
  pub count_grows : before ≤ now
  pub failure_counted : IsErrOf result Failed → HasIoCountRisen before now

-- the count after a fetch, if each failure is counted once
abbrev pub faults_after_fetch : ℕ → Result (List ℕ) FetchFault → ℕ
faults_after_fetch faults (Ok _) = faults
faults_after_fetch faults (Err Absent) = faults
faults_after_fetch faults (Err TooLong) = faults
faults_after_fetch faults (Err Failed) = next_io_count faults
faults_after_fetch faults (Err OutOfMemory) = faults
