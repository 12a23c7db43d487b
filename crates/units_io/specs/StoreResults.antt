-- The result of a store, and the files after it.
use Rattle.std.specs.Prelude.{◌≡◌, ◌≢◌, ◌≤◌, ℕ, List, Result, Ok, Err, Some, None, IsErrOf}
use Rattle.std.specs.declared.option.Option.{Option}
use Rattle.units_io.specs.FileMap.{FileMap, file_of_name, with_file}
use Rattle.units_io.specs.Faults.{HasIoCountRisen, next_io_count}
use Rattle.units_io.specs.declared.files.StoreFault.{StoreFault}
use Rattle.units_io.specs.declared.files.StoreFault.TheVariants.{Failed, OutOfMemory}

-- every file but the one with this name is unchanged
abbrev pub StoreKeepsOtherFiles : FileMap → FileMap → List ℕ → Type 0
StoreKeepsOtherFiles old new name = (other : List ℕ) → other ≢ name → file_of_name new other ≡ file_of_name old other

-- known files contain the new file after `Ok`, keep all others after `Failed`, and are unchanged after `OutOfMemory`
abbrev pub IsFileStored : Option FileMap → Option FileMap → List ℕ → List ℕ → Result (Unit {0}) StoreFault → Type 0
IsFileStored None new name bytes result = new ≡ None
IsFileStored (Some old) new name bytes (Ok _) = new ≡ Some (with_file old name bytes)
IsFileStored (Some old) new name bytes (Err Failed) = (kept : FileMap) × (new ≡ Some kept) × StoreKeepsOtherFiles old
    kept name
IsFileStored (Some old) new name bytes (Err OutOfMemory) = new ≡ Some old

-- the count of failed stores never decreases, and it increases if the result is `Failed`
pub record StoreHasCause (before now : ℕ) (result : Result (Unit {0}) StoreFault) : Type 0 where
  pub count_grows : before ≤ now
  pub failure_counted : IsErrOf result Failed → HasIoCountRisen before now

-- the count after a store, if each failure is counted once
abbrev pub faults_after_store : ℕ → Result (Unit {0}) StoreFault → ℕ
faults_after_store faults (Ok _) = faults
faults_after_store faults (Err Failed) = next_io_count faults
faults_after_store faults (Err OutOfMemory) = faults
