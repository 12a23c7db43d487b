-- Laws about the words of a run.
use Rattle.std.specs.Prelude.{◌≡◌, ℕ, List, false}
use Rattle.units_io.specs.FileMap.{FileMap}
use Rattle.units_io.specs.NamedValues.{NamedTexts}
use Rattle.units_run.specs.Calls.{RunArguments, run_of}
use Rattle.session.specs.Worlds.{SessionWorld}
use Rattle.units_run.specs.Endings.{IsStatedRunEnd, RunMayEndBy}
use Rattle.units_run.specs.Headline.{IsRun}
use Rattle.units_run.specs.Needs.{run_needs_files, run_needs_input}
use Rattle.units_run.specs.Plans.{IsWholePlan}
use Rattle.units_run.specs.Work.{plan_of}
use Rattle.units_run.specs.declared.status.Status.{Status}

-- law: files and input that are not needed make no difference
pub record RunNeedLaws : Type 0 where
  -- words that need no file have the same plan over all files
  pub any_files : (words : List (List ℕ)) (vars : NamedTexts) (files others : FileMap) → run_needs_files words ≡ false →
      plan_of words vars files ≡ plan_of words vars others
  -- a run that needs no input is completely known before any is read
  pub no_input : (words : List (List ℕ)) (vars : NamedTexts) (files : FileMap) → run_needs_input words ≡ false →
      IsWholePlan (plan_of words vars files)
  -- a run that needs no input is the same over all input
  pub any_input : (words : List (List ℕ)) (vars : NamedTexts) (files : FileMap) (input other : List ℕ) →
      run_needs_input words ≡ false →
      run_of (record { words = words; vars = vars; files = files; input = input })
      ≡ run_of (record { words = words; vars = vars; files = files; input = other })

-- words that need neither files nor input have the status of their run, whatever the files and the input are
abbrev pub HasRunStatus : (words : List (List ℕ)) → NamedTexts → Status → Type 0
HasRunStatus words vars ending =
    run_needs_files words ≡ false → run_needs_input words ≡ false → IsStatedRunEnd ending
    → (files : FileMap) (input : List ℕ)
    → ending ≡ (run_of (record { words = words; vars = vars; files = files; input = input })).status

-- law: words that need neither have the status of their run, even if the contents of the files and of the input are not
-- known
abbrev pub RunStatusLaw : Type 0
RunStatusLaw = (words : List (List ℕ)) (vars : NamedTexts) (ending : Status) (before after : SessionWorld)
    → IsRun words vars ending before after → HasRunStatus words vars ending

-- law: a run ends in one of the ways that its words allow
abbrev pub RunEndingLaw : Type 0
RunEndingLaw = (call : RunArguments) → RunMayEndBy call.words (run_of call).status
