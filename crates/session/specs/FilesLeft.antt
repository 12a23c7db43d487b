-- The files after a line that is not answered, and after a session that broke off.
use Rattle.std.specs.Prelude.{◌≡◌, ◌⊎◌, ◌∷◌, ℕ, List, Result, Ok, Err, Some, None, ⊤}
use Rattle.std.specs.declared.option.Option.{Option}
use Rattle.units_io.specs.FileMap.{FileMap}
use Rattle.units_io.specs.StoreResults.{StoreKeepsOtherFiles}
use Rattle.session.specs.HeardLines.{heard_line_save_name}
use Rattle.session.specs.declared.fault.SessionFault.{SessionFault}
use Rattle.session.specs.declared.fault.SessionFault.TheVariants.{WriteFailed}

-- every file but the one with this name is as before; if the contents were not known, they are still not known
abbrev pub SessionKeepsOtherFiles : (name : List ℕ) → (old new : Option FileMap) → Type 0
SessionKeepsOtherFiles name None new = new ≡ None
SessionKeepsOtherFiles name (Some old) new = (kept : FileMap) × (new ≡ Some kept) × StoreKeepsOtherFiles old kept name

-- the files after a save that was not answered: if this file could not be written, no other has changed; with any other
-- fault none has
abbrev pub SessionSaveKeepsFiles : {A : Type 0} → (name : List ℕ) → Result A SessionFault → (old new : Option FileMap)
    → Type 0
SessionSaveKeepsFiles name (Ok _) old new = ⊤
SessionSaveKeepsFiles name (Err WriteFailed) old new = SessionKeepsOtherFiles name old new
SessionSaveKeepsFiles name (Err _) old new = new ≡ old

-- the files after a line that saves the file of this name, as after that save; after a line that saves none, all files
-- are as before, whether it was answered or not
abbrev pub SessionLineKeepsFiles : {A : Type 0} → (name : Option (List ℕ)) → Result A SessionFault
    → (old new : Option FileMap)
    → Type 0
SessionLineKeepsFiles None result old new = new ≡ old
SessionLineKeepsFiles (Some name) result old new = SessionSaveKeepsFiles name result old new

-- the next of these lines saves a file, which may now have any contents; all other files are as they were left
pub record IsFileSpoiltBySessionLine (rest : List (List ℕ)) (left files : FileMap) : Type 0 where
  pub line : List ℕ
  pub lines_later : List (List ℕ)
  pub name : List ℕ
  pub rest_begins : rest ≡ line ∷ lines_later
  pub saves : heard_line_save_name line ≡ Some name
  pub others_same : StoreKeepsOtherFiles left files name

-- the files if the answers broke off before these lines: as the answers left them, or, only if a store failed, with the
-- file damaged that the next line saves
abbrev pub AreFilesLeftBySession : (failed : Type 0) → (rest : List (List ℕ)) → (left files : FileMap) → Type 0
AreFilesLeftBySession failed rest left files = (files ≡ left) ⊎ (failed × IsFileSpoiltBySessionLine rest left files)
