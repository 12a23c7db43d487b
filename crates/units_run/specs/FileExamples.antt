-- Some runs over a file of a few lines, worked out by hand.
use Rattle.std.specs.Prelude.{◌≡◌, ◌∷◌, ℕ, List, [], Some, codes}
use Rattle.units_io.specs.FileMap.{FileMap, file_of_name}
use Rattle.units_io.specs.NamedValues.{NamedTexts}
use Rattle.units_run.specs.Calls.{Run, run_of}
use Rattle.units_run.specs.declared.status.Status.{Status}
use Rattle.units_run.specs.declared.status.Status.TheVariants.{Done, Refused}

-- the run has this output on each sink, and this status
abbrev pub IsRunWith : Run → (out err : List ℕ) → Status → Type 0
IsRunWith run out err status = (run.output.out ≡ out) × (run.output.err ≡ err) × (run.status ≡ status)

-- the run of these words over a file `first.units` with this text, whatever the other files and the variables are
abbrev pub RunGives : (words : List (List ℕ)) → (text input out err : List ℕ) → Status → Type 0
RunGives words text input out err status =
    (vars : NamedTexts) (files : FileMap) → file_of_name files (codes "first.units") ≡ Some text
    → IsRunWith (run_of (record { words = words; vars = vars; files = files; input = input })) out err status

abbrev pub run_measures_text : List ℕ
run_measures_text = codes "gauge[m] 1 2, 3 6\nHz 1/s\nyard 0.9144 m\nk- 1000\ns !\nm !\n"

pub record RunFileExamples : Type 0 where
  -- a conversion that succeeds, and one of units that do not conform
  pub two_conversions : RunGives (codes "-f" ∷ codes "first.units" ∷ codes "2 km" ∷ codes " yards " ∷ [])
      run_measures_text
      []
      (codes "\t* 2187.2266\n\t/ 0.0004572\n") [] Done
  pub unlike : RunGives (codes "-f" ∷ codes "first.units" ∷ codes "m" ∷ codes "s" ∷ []) run_measures_text []
      (codes "conformability error\n\t1 m\n\t1 s\n") [] Refused
  -- a definition that is refused, with a notice for the file
  pub two_definitions : RunGives (codes "-f" ∷ codes "first.units" ∷ codes "feet" ∷ []) (codes "m !\nfeet\n") []
      (codes "unknown unit: feet\n") (codes "first.units:2: bad definition\n") Refused
  -- a check that finds something and begins with a notice, and a check that finds nothing
  pub two_checks : RunGives (codes "-c" ∷ codes "-f" ∷ codes "first.units" ∷ []) (codes "feet\nft 12 in\n") []
      (codes "first.units:1: bad definition\nft: unknown unit: in in ft\n") [] Refused
  pub sound_check : RunGives (codes "-c" ∷ codes "-f" ∷ codes "first.units" ∷ []) (codes "m !\n") [] [] [] Done
  -- a session with an edit and an undo that reads to its end and ends with `Done`, although its replies are refusals
  pub session_run : RunGives (codes "-q" ∷ codes "-f" ∷ codes "first.units" ∷ []) (codes "feet\nm !\n")
      (codes ":define a b\na\n\n:undo\na\n\n") (codes "unknown unit: b in a\nunknown unit: a\n")
      (codes "first.units:1: bad definition\n") Done
