-- The outcomes of loading a file.
use Rattle.std.specs.Prelude.{◌≡◌, ◌⊎◌, ◌++◌, ℕ, List, [], Bool, true, false, Some, Result, Ok, Err, MatchResult}
use Rattle.std.specs.Prelude.{IfOk, IsErrAnd}
use Rattle.units_io.specs.Faults.{next_io_count}
use Rattle.units_io.specs.FileMap.{FileMap, file_of_name}
use Rattle.units_io.specs.FetchResults.{file_fetch_answer}
use Rattle.units_io.specs.declared.files.FetchFault.{FetchFault}
use Rattle.units_io.specs.declared.files.FetchFault.TheVariants as fetch
use Rattle.deck_lines.specs.Excerpts.{Excerpt}
use Rattle.deck_lines.specs.Includes.{excerpt_of_deck_file, excerpt_of_lone_deck_file}
use Rattle.deck_lines.specs.LineLoads.{load_of_file}
use Rattle.deck_lines.specs.Transcripts.{AreTranscriptAnswersOf, Asks, Fails, FilesModel, HasTranscript, IsLoad}
use Rattle.deck_lines.specs.Transcripts.{Load, TranscriptFetch, Yields, load_after_fetch}
use Rattle.deck_lines.specs.declared.line.DeckLine.{DeckLine}
use Rattle.deck_lines.specs.declared.draft.LoadFault.{LoadFault}
use Rattle.deck_lines.specs.declared.draft.LoadFault.TheVariants as load
use Rattle.deck.specs.Decks.{DeckContents}
use Rattle.deck.specs.Edits.{deck_with_excerpt, deck_within_limit}
use Rattle.deck.specs.declared.fault.DeckFault.{DeckFault}
use Rattle.deck.specs.declared.fault.DeckFault.TheVariants.{BadLine, NoSuchKey, DeckFull, Absent, TooLong, ReadFailed}
use Rattle.deck.specs.declared.fault.DeckFault.TheVariants.{OutOfMemory}
use Rattle.deck.specs.declared.settings.Settings.{Settings}

-- the error of a load whose first file is not read
abbrev pub deck_load_error : FetchFault → DeckFault
deck_load_error fetch.Absent = Absent
deck_load_error fetch.TooLong = TooLong
deck_load_error fetch.Failed = ReadFailed
deck_load_error fetch.OutOfMemory = OutOfMemory

-- the error of a load that ends with this fault
abbrev pub deck_fault_of_load : LoadFault → DeckFault
deck_fault_of_load load.DeckFull = DeckFull
deck_fault_of_load load.ReadFailed = ReadFailed
deck_fault_of_load load.OutOfMemory = OutOfMemory

-- the outcome of appending the deck of a file, given the answer of its fetch
abbrev pub deck_append_by_answer : FileMap → List ℕ → Result (List ℕ) FetchFault → DeckContents
    → Result DeckContents DeckFault
deck_append_by_answer files name (Ok bytes) d =
    deck_within_limit (deck_with_excerpt (excerpt_of_deck_file files name bytes) d)
deck_append_by_answer files name (Err fault) d = Err (deck_load_error fault)

-- the outcome of appending the deck of the file with this name
abbrev pub deck_after_appending : FileMap → List ℕ → DeckContents → Result DeckContents DeckFault
deck_after_appending files name d = deck_append_by_answer files name (file_fetch_answer (file_of_name files name)) d

-- a deck without lines
abbrev pub empty_deck : Settings → DeckContents
empty_deck settings = record { lines = []; settings = settings; notices = [] }

-- the outcome of loading the file with this name
abbrev pub deck_after_loading : FileMap → List ℕ → Settings → Result DeckContents DeckFault
deck_after_loading files name settings = deck_after_appending files name (empty_deck settings)

-- the outcome of loading a text if all files are absent
abbrev pub deck_after_text_loading : List ℕ → List ℕ → Settings → Result DeckContents DeckFault
deck_after_text_loading text name settings =
    deck_within_limit (deck_with_excerpt (excerpt_of_lone_deck_file name text) (empty_deck settings))

-- the result is the deck or the error of this outcome, or `OutOfMemory`
abbrev pub IsDeckLoadResult : Result DeckContents DeckFault → Result DeckContents DeckFault → Type 0
IsDeckLoadResult outcome result =
    MatchResult result (λ d. outcome ≡ Ok d) (λ fault. (fault ≡ OutOfMemory) ⊎ (outcome ≡ Err fault))

-- the fault is a failed fetch or a failed allocation
abbrev pub MayDeckLoadFailWith : DeckFault → Type 0
MayDeckLoadFailWith fault = (fault ≡ OutOfMemory) ⊎ (fault ≡ ReadFailed)

-- a load or an append may fail with this fault
abbrev pub is_deck_load_fault : DeckFault → Bool
is_deck_load_fault (BadLine fault) = false
is_deck_load_fault NoSuchKey = false
is_deck_load_fault _ = true

-- the result of a load is the deck or the error of this outcome, or a failed fetch or allocation
abbrev pub IsDeckLoaded : Result DeckContents DeckFault → Result DeckContents DeckFault → Type 0
IsDeckLoaded outcome result =
    MatchResult result (λ d. outcome ≡ Ok d) (λ fault. MayDeckLoadFailWith fault ⊎ (outcome ≡ Err fault))

-- an append to a deck leaves the deck of this outcome, fails with its error, or fails with a failed fetch or allocation
abbrev pub IsDeckAppended : {T : Type 0} → Result DeckContents DeckFault → DeckContents → Result T DeckFault → Type 0
IsDeckAppended outcome now result =
    MatchResult result (λ _. outcome ≡ Ok now) (λ fault. MayDeckLoadFailWith fault ⊎ (outcome ≡ Err fault))

-- the lines and the notices of a deck
abbrev pub excerpt_of_deck : DeckContents → Excerpt
excerpt_of_deck d = record { lines = d.lines; notices = d.notices }

-- lines without notices, to which a load appends
abbrev pub deck_excerpt_of_lines : List DeckLine → Excerpt
deck_excerpt_of_lines lines = record { lines = lines; notices = [] }

-- a load with another name for its fault
abbrev pub load_with_deck_fault : (LoadFault → DeckFault) → Load LoadFault → Load DeckFault
load_with_deck_fault of_fault (Yields excerpt fetches) = Yields excerpt fetches
load_with_deck_fault of_fault (Fails fault fetches) = Fails (of_fault fault) fetches
load_with_deck_fault of_fault (Asks name fetches) = Asks name fetches

-- the load of the file with this name, given the answer of its fetch
abbrev pub deck_load_of_first_answer : List ℕ → Result (List ℕ) FetchFault → Excerpt → List TranscriptFetch
    → Load DeckFault
deck_load_of_first_answer name (Ok bytes) before fetches = load_with_deck_fault deck_fault_of_load
    (load_of_file name bytes before fetches)
deck_load_of_first_answer name (Err fault) before fetches = Fails (deck_load_error fault) fetches

-- the load of the file with this name, which appends to the lines and notices before it; its first fetch is of the file
abbrev pub deck_load_of_name : List ℕ → Excerpt → List TranscriptFetch → Load DeckFault
deck_load_of_name name before fetches = load_after_fetch name (λ answer. deck_load_of_first_answer name answer before)
    fetches

-- a deck with the lines and notices of an excerpt instead of its own
abbrev pub deck_of_outcome : DeckContents → Result Excerpt DeckFault → Result DeckContents DeckFault
deck_of_outcome d (Ok excerpt) = Ok (record d { lines = excerpt.lines; notices = excerpt.notices })
deck_of_outcome d (Err fault) = Err fault

-- law: if the files are known, an append has the outcome that they determine, unless a fetch fails or memory runs out
abbrev pub KnownDeckAppendLaw : Type 0
KnownDeckAppendLaw =
    (files : FileMap) (name : List ℕ) (d : DeckContents) (outcome : Result Excerpt DeckFault)
    → HasTranscript (AreTranscriptAnswersOf (Some files)) (deck_load_of_name name (deck_excerpt_of_lines d.lines))
    outcome
    → IsErrAnd outcome MayDeckLoadFailWith ⊎ (deck_after_appending files name d ≡ deck_of_outcome d outcome)

-- the count of failed fetches after a load, which ends with the first failed fetch
abbrev pub fetch_faults_after_deck_load : {T : Type 0} → ℕ → Result T DeckFault → ℕ
fetch_faults_after_deck_load faults (Err ReadFailed) = next_io_count faults
fetch_faults_after_deck_load faults _ = faults

-- law: consequences of a load of files with this view
pub record DeckLoadLaw {State : Type 0} (model : FilesModel State) : Type 0 where
  -- if the files are known, they determine the deck or the error of a load, unless a fetch fails or memory runs out
  pub loaded : (from to : State) (files : FileMap) (name : List ℕ) (settings : Settings)
      (result : Result DeckContents DeckFault)
      → model.bytes from ≡ Some files → IfOk result (λ d. d.settings ≡ settings)
      → IsLoad model from to OutOfMemory (deck_load_of_name name (deck_excerpt_of_lines [])) excerpt_of_deck result
      → IsDeckLoaded (deck_after_loading files name settings) result
  -- if the files are known, they determine the deck or the error of an append, unless a fetch fails or memory runs out
  pub appended : (from to : State) (files : FileMap) (name : List ℕ) (d now : DeckContents)
      (result : Result (Unit {0}) DeckFault)
      → model.bytes from ≡ Some files → now.settings ≡ d.settings
      → IsLoad model from to OutOfMemory (deck_load_of_name name (deck_excerpt_of_lines d.lines))
      (λ _. excerpt_of_deck now) result
      → IsDeckAppended (deck_after_appending files name d) now result
  -- one more failed fetch is counted exactly if a load ends with `ReadFailed`
  pub loaded_count : (from to : State) (name : List ℕ) (result : Result DeckContents DeckFault)
      → IsLoad model from to OutOfMemory (deck_load_of_name name (deck_excerpt_of_lines [])) excerpt_of_deck result
      → model.faults to ≡ fetch_faults_after_deck_load (model.faults from) result
  -- one more failed fetch is counted exactly if an append ends with `ReadFailed`
  pub appended_count : (from to : State) (name : List ℕ) (d now : DeckContents) (result : Result (Unit {0}) DeckFault)
      → IsLoad model from to OutOfMemory (deck_load_of_name name (deck_excerpt_of_lines d.lines))
      (λ _. excerpt_of_deck now) result
      → model.faults to ≡ fetch_faults_after_deck_load (model.faults from) result

-- law: an append keeps the lines before it and appends others
abbrev pub AppendedDeckLinesLaw : Type 0
AppendedDeckLinesLaw =
    (name : List ℕ) (before now : Excerpt) (transcript rest : List TranscriptFetch)
    → deck_load_of_name name before transcript ≡ Yields now rest
    → (more : List DeckLine) × (now.lines ≡ before.lines ++ more)
