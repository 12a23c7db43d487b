-- Laws of loads.
use Rattle.std.specs.Prelude.{◌≡◌, ◌↔◌, ◌⊎◌, ◌++◌, ℕ, List, [], ◌∷◌, if◌then◌else◌, Some, Result, Ok, Err}
use Rattle.units_io.specs.FileMap.{FileMap}
use Rattle.units_io.specs.declared.files.FetchFault.TheVariants.{Failed}
use Rattle.deck_lines.specs.Excerpts.{Excerpt, excerpts_in_turn}
use Rattle.deck_lines.specs.Includes.{excerpt_of_deck_file}
use Rattle.deck_lines.specs.Limits.{pass_store_limit}
use Rattle.deck_lines.specs.LineLoads.{faults_after_load, load_of_file}
use Rattle.deck_lines.specs.Transcripts.{AreFetchesBetween, AreTranscriptAnswersOf, Asks, Fails, FetchRelation}
use Rattle.deck_lines.specs.Transcripts.{TranscriptFetch, Yields, load_faults_after_fetches, load_outcome}
use Rattle.deck_lines.specs.declared.draft.LoadFault.{LoadFault}
use Rattle.deck_lines.specs.declared.draft.LoadFault.TheVariants.{DeckFull, OutOfMemory, ReadFailed}
use Rattle.deck_lines.specs.declared.line.DeckLine.{DeckLine}

-- an excerpt, or `DeckFull` if its lines pass a limit
abbrev pub excerpt_within_limit : Excerpt → Result Excerpt LoadFault
excerpt_within_limit excerpt = if pass_store_limit excerpt.lines then Err DeckFull else Ok excerpt

-- law: if the files are known, a load appends the deck of its file, or ends with `DeckFull` if the lines then pass a
-- limit, unless a fetch fails or memory runs out
abbrev pub KnownLoadLaw : Type 0
KnownLoadLaw =
    (files : FileMap) (name bytes : List ℕ) (before : Excerpt) (outcome : Result Excerpt LoadFault)
    (transcript rest : List TranscriptFetch) → AreTranscriptAnswersOf (Some files) transcript
    → load_of_file name bytes before transcript ≡ load_outcome outcome rest
    → ((outcome ≡ Err ReadFailed) ⊎ (outcome ≡ Err OutOfMemory))
    ⊎ (outcome ≡ excerpt_within_limit (excerpts_in_turn before (excerpt_of_deck_file files name bytes)))

-- law: a load ends with the first fetch that fails, and with `ReadFailed` only then
abbrev pub LoadFailureLaw : Type 0
LoadFailureLaw =
    (name bytes : List ℕ) (before : Excerpt) (outcome : Result Excerpt LoadFault) (transcript : List TranscriptFetch)
    (faults : ℕ)
    → load_of_file name bytes before transcript ≡ load_outcome outcome []
    → load_faults_after_fetches faults transcript ≡ faults_after_load faults outcome

-- a failed fetch of the file with this name
abbrev pub failed_load_fetch : List ℕ → TranscriptFetch
failed_load_fetch name = record { name = name; answer = Err Failed }

-- law: if a load asks for a file and its fetch fails, the load ends there, whatever fetches follow
abbrev pub LoadAskLaw : Type 0
LoadAskLaw =
    (name bytes file : List ℕ) (before : Excerpt) (transcript rest : List TranscriptFetch)
    → load_of_file name bytes before transcript ≡ Asks file []
    → load_of_file name bytes before (transcript ++ failed_load_fetch file ∷ rest) ≡ Fails ReadFailed rest

-- law: if a load ends with `ReadFailed`, its last fetch is the failed fetch of the file for which it asks after the
-- others
abbrev pub LastFetchLaw : Type 0
LastFetchLaw =
    (name bytes : List ℕ) (before : Excerpt) (transcript : List TranscriptFetch)
    → load_of_file name bytes before transcript ≡ Fails ReadFailed []
    → (others : List TranscriptFetch) × (file : List ℕ) × (transcript ≡ others ++ failed_load_fetch file ∷ [])
    × (load_of_file name bytes before others ≡ Asks file [])

-- law: a load keeps the lines before it and appends others
abbrev pub LoadKeepsLinesLaw : Type 0
LoadKeepsLinesLaw =
    (name bytes : List ℕ) (before now : Excerpt) (transcript rest : List TranscriptFetch)
    → load_of_file name bytes before transcript ≡ Yields now rest
    → (more : List DeckLine) × (now.lines ≡ before.lines ++ more)

-- a fetch of files whose state is the list of all fetches that were made
abbrev pub is_logged_fetch : FetchRelation (List TranscriptFetch)
is_logged_fetch from name answer to = to ≡ from ++ record { name = name; answer = answer } ∷ []

-- law: if the state of the files is this list, the fetches between two states are those by which the list grows
abbrev pub LoggedFetchesLaw : Type 0
LoggedFetchesLaw =
    (from to fetches : List TranscriptFetch) → AreFetchesBetween is_logged_fetch from to fetches ↔
    (to ≡ from ++ fetches)
