-- Transcripts of loads: the fetches that a load makes, in order.
use Rattle.std.specs.Prelude.{◌≡◌, ◌⊎◌, ◌++◌, ℕ, List, [], ◌∷◌, if◌then◌else◌, bytes_eq, Option, IfSome}
use Rattle.std.specs.Prelude.{Result, Ok, Err, MatchResult, ⊤}
use Rattle.units_io.specs.FetchResults.{FileMap, IsFileFetched, faults_after_fetch}
use Rattle.units_io.specs.declared.files.FetchFault.{FetchFault}
use Rattle.deck_lines.specs.Excerpts.{Excerpt}

-- a fetch: the name of the file that is asked for, and the answer
pub record TranscriptFetch : Type 0 where
  pub name : List ℕ
  pub answer : Result (List ℕ) FetchFault

-- the outcome of a load or of a part of it: it yields lines and notices, fails, or asks for a file whose fetch does not
-- come next; each with the fetches that it leaves
pub data Load (E : Type 0) : Type 0 where
  Yields : Excerpt → List TranscriptFetch → Load E
  Fails : E → List TranscriptFetch → Load E
  Asks : List ℕ → List TranscriptFetch → Load E

-- a load that asks for the file with this name; if the next fetch is of this file, it continues with the answer
abbrev pub load_after_fetch : {E : Type 0} → List ℕ → (Result (List ℕ) FetchFault → List TranscriptFetch → Load E)
    → List TranscriptFetch
    → Load E
load_after_fetch name load [] = Asks name []
load_after_fetch name load (fetch ∷ fetches) =
    if bytes_eq name fetch.name then load fetch.answer fetches else Asks name (fetch ∷ fetches)

-- two parts of a load, one after the other: the second continues with the lines, notices and fetches that the first
-- leaves
abbrev pub loads_in_turn : {E : Type 0} → Load E → (Excerpt → List TranscriptFetch → Load E) → Load E
loads_in_turn (Yields excerpt fetches) second = second excerpt fetches
loads_in_turn (Fails fault fetches) second = Fails fault fetches
loads_in_turn (Asks name fetches) second = Asks name fetches

-- a load that has come to this outcome and leaves these fetches
abbrev pub load_outcome : {E : Type 0} → Result Excerpt E → List TranscriptFetch → Load E
load_outcome (Ok excerpt) fetches = Yields excerpt fetches
load_outcome (Err fault) fetches = Fails fault fetches

-- the answers of the fetches are those of the files, if they are known; each fetch may fail
abbrev pub AreTranscriptAnswersOf : Option FileMap → List TranscriptFetch → Type 0
AreTranscriptAnswersOf files [] = ⊤
AreTranscriptAnswersOf files (fetch ∷ fetches) =
    IfSome files (λ m. IsFileFetched m fetch.name fetch.answer) × AreTranscriptAnswersOf files fetches

-- a relation that holds if a fetch of the file with this name, begun in the first state of the files, gives this answer
-- and ends in the second state
abbrev pub FetchRelation : Type 0 → Type 1
FetchRelation State = State → List ℕ → Result (List ℕ) FetchFault → State → Type 0

-- all fetches between two states of the files, in order: the first begins in the state `from`, each other one in the
-- state in which the one before it ends, and the last ends in the state `to`
abbrev pub AreFetchesBetween : {State : Type 0} → FetchRelation State → (from to : State) → List TranscriptFetch
    → Type 0
AreFetchesBetween is_fetch from to [] = to ≡ from
AreFetchesBetween is_fetch from to (fetch ∷ fetches) =
    (next : _) × is_fetch from fetch.name fetch.answer next × AreFetchesBetween is_fetch next to fetches

-- a part of a transcript has all fetches between two states of the files, in order, and their answers are those of the
-- files
abbrev pub IsPartTranscript : {State : Type 0} → Option FileMap → FetchRelation State → (from to : State)
    → List TranscriptFetch
    → Type 0
IsPartTranscript files is_fetch from to transcript =
    AreTranscriptAnswersOf files transcript × AreFetchesBetween is_fetch from to transcript

-- a load uses up some fetches, of which `are_made` holds, and then continues as another load
abbrev pub LoadContinuesAs : {E : Type 0} → (List TranscriptFetch → Type 0) → (List TranscriptFetch → Load E)
    → (List TranscriptFetch → Load E) → Type 0
LoadContinuesAs are_made load later =
    (transcript : List TranscriptFetch) × are_made transcript
    × ((rest : List TranscriptFetch) → load (transcript ++ rest) ≡ later rest)

-- a load may have this outcome: there is a transcript, of which `are_made` holds, that the load uses up as a whole, and
-- with which it has the outcome
abbrev pub HasTranscript : {E : Type 0} → (List TranscriptFetch → Type 0) → (List TranscriptFetch → Load E)
    → Result Excerpt E → Type 0
HasTranscript are_made load outcome = LoadContinuesAs are_made load (load_outcome outcome)

-- the result of a part of a load is an outcome that it may have, or `wanting` if memory runs out; a success leaves the
-- lines and notices `left`
abbrev pub IsPartLoad : {T E : Type 0} → E → (List TranscriptFetch → Type 0) → (List TranscriptFetch → Load E)
    → (T → Excerpt) → Result T E
    → Type 0
IsPartLoad wanting are_made load left result =
    MatchResult result (λ value. HasTranscript are_made load (Ok (left value)))
    (λ fault. (fault ≡ wanting) ⊎ HasTranscript are_made load (Err fault))

-- the count of failed fetches after some fetches
abbrev pub load_faults_after_fetches : ℕ → List TranscriptFetch → ℕ
load_faults_after_fetches faults [] = faults
load_faults_after_fetches faults (fetch ∷ fetches) =
    load_faults_after_fetches (faults_after_fetch faults fetch.answer) fetches

-- a view of files: the bytes of each, if they are known, the count of failed fetches, and which fetches lead from one
-- state to another
pub record FilesModel (State : Type 0) : Type 1 where
  pub bytes : State → Option FileMap
  pub faults : State → ℕ
  pub is_fetch : FetchRelation State

-- the view by these three functions
abbrev pub files_model : {State : Type 0} → (State → Option FileMap) → (State → ℕ) → FetchRelation State
    → FilesModel State
files_model bytes faults is_fetch = record { bytes = bytes; faults = faults; is_fetch = is_fetch }

-- a transcript has all fetches between two states of the files, in order; their answers are those of the files, and the
-- failed ones are counted
abbrev pub IsTranscript : {State : Type 0} → FilesModel State → (from to : State) → List TranscriptFetch → Type 0
IsTranscript model from to transcript =
    IsPartTranscript (model.bytes from) model.is_fetch from to transcript
    × (model.faults to ≡ load_faults_after_fetches (model.faults from) transcript)

-- the result of a load between two states of the files is an outcome that it may have with a transcript of its fetches;
-- or it is `wanting` if memory runs out, and then no failed fetch was counted. A success leaves the lines and notices
-- `left`
abbrev pub IsLoad : {State T E : Type 0} → FilesModel State → (from to : State) → E → (List TranscriptFetch → Load E)
    → (T → Excerpt) → Result T E
    → Type 0
IsLoad model from to wanting load left result =
    MatchResult result (λ value. HasTranscript (IsTranscript model from to) load (Ok (left value)))
    (λ fault. ((fault ≡ wanting) × (model.faults to ≡ model.faults from))
    ⊎ HasTranscript (IsTranscript model from to) load (Err fault))
