-- The runs of the program.
use Rattle.std.specs.Prelude.{◌≡◌, ◌⊎◌, ℕ, List, [], true, Some}
use Rattle.units_io.specs.Faults.{HasIoCountRisen}
use Rattle.units_io.specs.FileMap.{FileMap}
use Rattle.units_io.specs.NamedValues.{NamedTexts}
use Rattle.session.specs.Outside.{IsInputReadToEnd, SessionCountUnchanged, SessionTookMoreThan}
use Rattle.session.specs.KnownContents.{IsSessionValueIfKnown}
use Rattle.units_run.specs.Endings.{IsCleanRunEnd, IsRunOf, IsStatedRunEnd, IsWorkedRunEnd, RunMayEndBy}
use Rattle.units_run.specs.LeftAlone.{RunOpensNoSession}
use Rattle.units_run.specs.Needs.{run_converts_column, run_fetches_file, run_input_limit, run_needs_input}
use Rattle.units_run.specs.Needs.{run_opens_session}
use Rattle.session.specs.Worlds.{SessionWorld, session_world_outside}
use Rattle.units_run.specs.declared.status.Status.{Status}
use Rattle.units_run.specs.declared.status.Status.TheVariants.{Done, ReadFault, WriteFault, InputTooLong}

-- a run of these words and variables ended in this way
pub record IsRun (words : List (List ℕ)) (vars : NamedTexts) (ending : Status) (before after : SessionWorld) : Type 0
  where
    -- the run leaves what the definition of a run with these words, variables, files and input says. Input that the
    -- words do not need may be anything, and so may the files if neither the words name a definition file nor a line
    -- loads a file
    pub files_after : (files : FileMap) (input : List ℕ) → IsSessionValueIfKnown (run_fetches_file words input)
        before.files.known_files
        files →
        IsSessionValueIfKnown (run_needs_input words) before.source.input_left input →
        IsRunOf (record { words = words; vars = vars; files = files; input = input }) ending
        (session_world_outside before) (session_world_outside after)
    -- the words alone decide which stated endings are possible, whatever contents are known
    pub stated_ending : IsStatedRunEnd ending → RunMayEndBy words ending
    -- a session that ended with `Done` has read its input to the end, or to a line that ends it
    pub session_input_read : (input : List ℕ) → before.source.input_left ≡ Some input → run_opens_session words ≡ true
        → ending ≡ Done →
        IsInputReadToEnd input after.source.input_left
    -- a column that was converted has read its input to the end, even if a cell is an error
    pub column_input_read : (input : List ℕ) → before.source.input_left ≡ Some input → run_converts_column words ≡ true
        → IsWorkedRunEnd ending →
        after.source.input_left ≡ Some []
    -- a read fault is reported only if a read or a fetch failed
    pub read_fault : ending ≡ ReadFault →
        HasIoCountRisen before.source.faults after.source.faults ⊎ HasIoCountRisen before.files.fetch_faults
        after.files.fetch_faults
    -- a write fault is reported only if a write or a store failed
    pub write_fault : ending ≡ WriteFault →
        HasIoCountRisen before.out.faults after.out.faults ⊎ HasIoCountRisen before.err.faults after.err.faults
        ⊎ HasIoCountRisen before.files.store_faults after.files.store_faults
    -- the input is reported as too long only if more bytes than its limit were read
    pub too_long : ending ≡ InputTooLong → SessionTookMoreThan (run_input_limit words) before.source.bytes_taken
        after.source.bytes_taken
    -- if nothing failed, there is no fault: the run finished, or a limit was passed, or memory ran out
    pub complete : SessionCountUnchanged before.source.faults after.source.faults →
        SessionCountUnchanged before.files.fetch_faults after.files.fetch_faults
        → SessionCountUnchanged before.out.faults after.out.faults →
        SessionCountUnchanged before.err.faults after.err.faults
        → SessionCountUnchanged before.files.store_faults after.files.store_faults →
        IsCleanRunEnd ending
    -- if no session is opened, the files are as before, whatever the ending and whether or not their contents are
    -- known, and none was stored
    pub files_unopened : RunOpensNoSession words vars ending before.files.known_files
        → after.files.known_files ≡ before.files.known_files
    pub stores : RunOpensNoSession words vars ending before.files.known_files →
        after.files.store_faults ≡ before.files.store_faults
