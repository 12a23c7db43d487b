-- The parts of the world that a run leaves alone.
use Rattle.std.specs.Prelude.{◌≡◌, ◌⊎◌, ℕ, List, false}
use Rattle.std.specs.declared.option.Option.{Option}
use Rattle.units_io.specs.FileMap.{FileMap}
use Rattle.units_io.specs.NamedValues.{NamedTexts}
use Rattle.session.specs.KnownContents.{IsSessionValueIfKnown}
use Rattle.units_run.specs.Needs.{run_needs_definitions, run_needs_input, run_opens_session}
use Rattle.units_run.specs.Plans.{IsWholePlan}
use Rattle.units_run.specs.Work.{plan_of}
use Rattle.units_run.specs.declared.status.Status.{Status}
use Rattle.units_run.specs.declared.status.Status.TheVariants.{NoFile}

-- with the known files, the whole run is known before any input is read
abbrev pub IsPlannedWhole : (words : List (List ℕ)) → NamedTexts → (files_if_known : Option FileMap) → Type 0
IsPlannedWhole words vars files_if_known =
    (files : FileMap) × IsSessionValueIfKnown (run_needs_definitions words) files_if_known files × IsWholePlan
    (plan_of words vars files)

-- a run that reads no input: its words lead neither to a session nor to a column; or there is no deck for one, as its
-- ending says or the files show
abbrev pub RunTakesNoInput : (words : List (List ℕ)) → NamedTexts → Status → (files_if_known : Option FileMap) → Type 0
RunTakesNoInput words vars ending files_if_known = (run_needs_input words ≡ false) ⊎ (ending ≡ NoFile) ⊎ IsPlannedWhole
    words vars
    files_if_known

-- a run that opens no session, and therefore stores no file
abbrev pub RunOpensNoSession : (words : List (List ℕ)) → NamedTexts → Status → (files_if_known : Option FileMap)
    → Type 0
RunOpensNoSession words vars ending files_if_known =
    (run_opens_session words ≡ false) ⊎ (ending ≡ NoFile) ⊎ IsPlannedWhole words
    vars files_if_known
