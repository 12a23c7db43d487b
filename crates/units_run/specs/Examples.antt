-- Some words and the runs that they lead to.
use Rattle.std.specs.Prelude.{◌≡◌, ◌∷◌, ℕ, List, [], Bool, true, false, Some, None, codes}
use Rattle.units_io.specs.FileMap.{FileMap, file_of_name}
use Rattle.units_io.specs.NamedValues.{NamedTexts}
use Rattle.command_line.specs.Examples.{empty_command_line}
use Rattle.command_line.specs.Usage.{usage_text}
use Rattle.units_run.specs.Calls.{Run, run_of}
use Rattle.units_run.specs.Needs.{run_input_limit, run_needs_files, run_needs_input}
use Rattle.units_run.specs.Options.{run_options}
use Rattle.units_run.specs.declared.status.Status.{Status}
use Rattle.units_run.specs.declared.status.Status.TheVariants.{Usage, NoFile}

-- whether words need files, and whether they need input
abbrev pub HasRunNeeds : (words : List (List ℕ)) → (files input : Bool) → Type 0
HasRunNeeds words files input = (run_needs_files words ≡ files) × (run_needs_input words ≡ input)

-- the run that writes this to `err`, and nothing else
abbrev pub complaint_run : (text : List ℕ) → Status → FileMap → Run
complaint_run text status files =
    record { output = record { out = []; err = text; steps = 0; files = files }; status = status }

pub record RunExamples : Type 0 where
  -- a session needs both, and a column needs its input
  pub session_needs : HasRunNeeds [] true true
  pub column : HasRunNeeds (codes "--column" ∷ codes "2" ∷ codes "--header" ∷ codes "feet" ∷ codes "m" ∷ []) false true
  -- a reply, a check and a trial need no input
  pub reply : HasRunNeeds (codes "m" ∷ codes "-q" ∷ codes "ft" ∷ []) false false
  pub reply_by_file : HasRunNeeds (codes "--exact" ∷ codes "-f" ∷ codes "first.units" ∷ codes "yd" ∷ codes "m" ∷ [])
      true false
  pub check : HasRunNeeds (codes "-c" ∷ codes "-l" ∷ codes "en_GB" ∷ []) false false
  pub trial : HasRunNeeds (codes "--trial" ∷ codes "007" ∷ []) false false
  -- words that are not valid need neither
  pub untaken : HasRunNeeds (codes "-d" ∷ codes "0" ∷ codes "m" ∷ codes "ft" ∷ []) false false
  -- the most bytes of input that a session reads, and that a column reads
  pub session_input : run_input_limit [] ≡ 4294967296
  pub column_input :
      run_input_limit (codes "--column" ∷ codes "2" ∷ codes "--header" ∷ codes "feet" ∷ codes "m" ∷ []) ≡ 16777216
  -- words that are not valid, and an absent definition file
  pub usage : (vars : NamedTexts) (files : FileMap) (input : List ℕ) →
      run_of (record {
        words = codes "-d" ∷ codes "0" ∷ codes "m" ∷ codes "ft" ∷ [];
        vars = vars;
        files = files;
        input = input;
      })
      ≡ complaint_run usage_text Usage files
  pub absent_file : (vars : NamedTexts) (files : FileMap) (input : List ℕ)
      → file_of_name files (codes "first.units") ≡ None →
      run_of (record {
        words = codes "--exact" ∷ codes "-f" ∷ codes "first.units" ∷ codes "yd" ∷ codes "m" ∷ [];
        vars = vars;
        files = files;
        input = input;
      })
      ≡ complaint_run (codes "units: no file: first.units\n") NoFile files
  -- eight digits by default, and no other option
  pub no_options : run_options empty_command_line
      ≡ record {
        digits = 8;
        exact = false;
        strict = false;
        one_line = false;
        compact = false;
        quiet = false;
        round = false;
        verbose = false;
      }
  -- a terse reply is not verbose
  pub terse_verbose : run_options (record empty_command_line { digits = Some 12; terse = true; verbose = true })
      ≡ record {
        digits = 12;
        exact = false;
        strict = true;
        one_line = true;
        compact = true;
        quiet = true;
        round = false;
        verbose = false;
      }
