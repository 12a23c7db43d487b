-- Consequences of the transcript of a load: the count of failed fetches, and the deck if the files are known.
use Rattle.std.proofs.Common.{◌≡◌, ◌⊎◌, ◌∷◌, [], ℕ, List, Bool, true, false, cond, refl, sym, ap, subst, ◌∙◌}
use Rattle.std.proofs.Common.{Result, Ok, Err, Some, inl, inr}
use Rattle.std.proofs.lemmas.List.{append-nil}
use Rattle.std.specs.Prelude.{IfOk, IsErrAnd, bytes_eq}
use Rattle.units_io.specs.FileMap.{FileMap}
use Rattle.units_io.specs.FetchResults.{faults_after_fetch}
use Rattle.units_io.specs.declared.files.FetchFault.{FetchFault}
use Rattle.units_io.specs.declared.files.FetchFault.TheVariants as fetch
use Rattle.deck_lines.specs.Excerpts.{Excerpt}
use Rattle.deck_lines.specs.LineLoads.{faults_after_load, load_of_file}
use Rattle.deck_lines.specs.LoadLaws.{KnownLoadLaw, LoadFailureLaw}
use Rattle.deck_lines.specs.Transcripts.{AreTranscriptAnswersOf, Asks, Fails, FilesModel, HasTranscript, IsLoad}
use Rattle.deck_lines.specs.Transcripts.{IsTranscript, Load, TranscriptFetch, load_faults_after_fetches, load_outcome}
use Rattle.deck_lines.specs.declared.draft.LoadFault.{LoadFault}
use Rattle.deck_lines.specs.declared.draft.LoadFault.TheVariants as load
use Rattle.deck.specs.Decks.{DeckContents}
use Rattle.deck.specs.FileLoads.{DeckLoadLaw, IsDeckAppended, IsDeckLoaded, MayDeckLoadFailWith, deck_after_appending}
use Rattle.deck.specs.FileLoads.{deck_after_loading, deck_excerpt_of_lines, deck_load_error, deck_load_of_first_answer}
use Rattle.deck.specs.FileLoads.{deck_load_of_name, deck_of_outcome, empty_deck, excerpt_of_deck}
use Rattle.deck.specs.FileLoads.{fetch_faults_after_deck_load}
use Rattle.deck.specs.declared.fault.DeckFault.{DeckFault}
use Rattle.deck.specs.declared.fault.DeckFault.TheVariants.{Absent, BadLine, DeckFull, NoSuchKey, OutOfMemory}
use Rattle.deck.specs.declared.fault.DeckFault.TheVariants.{ReadFailed, TooLong}
use Rattle.deck.specs.declared.settings.Settings.{Settings}
use Rattle.deck.proofs.KnownLoads.{asking_deck_load_has_no_outcome, deck_load_has_one_fault, deck_load_leaves_one_list}
use Rattle.deck.proofs.KnownLoads.{deck_load_outcome_of_lines, known_deck_append_law, of_load}

-- the faults of a load of lines and of the load of its deck are counted alike
deck_load_counts_as_lines : (faults : ℕ) (o : Result Excerpt LoadFault)
    → faults_after_load faults o ≡ fetch_faults_after_deck_load faults (of_load o)
deck_load_counts_as_lines faults (Ok excerpt) = refl
deck_load_counts_as_lines faults (Err load.DeckFull) = refl
deck_load_counts_as_lines faults (Err load.ReadFailed) = refl
deck_load_counts_as_lines faults (Err load.OutOfMemory) = refl

-- a failed fetch of the file itself is counted as the error of its load
unread_deck_load_counts : (faults : ℕ) (fault : FetchFault)
    → faults_after_fetch faults (Err fault)
    ≡ fetch_faults_after_deck_load {T = Excerpt} faults (Err (deck_load_error fault))
unread_deck_load_counts faults fetch.Absent = refl
unread_deck_load_counts faults fetch.TooLong = refl
unread_deck_load_counts faults fetch.Failed = refl
unread_deck_load_counts faults fetch.OutOfMemory = refl

-- an error is counted alike whatever a success yields
errors_count_alike : (T : Type 0) (faults : ℕ) (fault : DeckFault)
    → fetch_faults_after_deck_load {T = Excerpt} faults (Err fault)
    ≡ fetch_faults_after_deck_load {T = T} faults (Err fault)
errors_count_alike T faults (BadLine fault) = refl
errors_count_alike T faults NoSuchKey = refl
errors_count_alike T faults DeckFull = refl
errors_count_alike T faults Absent = refl
errors_count_alike T faults TooLong = refl
errors_count_alike T faults ReadFailed = refl
errors_count_alike T faults OutOfMemory = refl

module _ (law : LoadFailureLaw) where
  -- the count after a load of a deck
  deck_load_counts : (name : List ℕ) (before : Excerpt) (outcome : Result Excerpt DeckFault)
      (transcript : List TranscriptFetch) (faults : ℕ)
      → deck_load_of_name name before transcript ≡ load_outcome outcome []
      → load_faults_after_fetches faults transcript ≡ fetch_faults_after_deck_load faults outcome
  deck_load_counts name before outcome [] faults h = absurd (asking_deck_load_has_no_outcome name [] [] outcome h)
  deck_load_counts name before outcome (f ∷ fetches) faults h = by (bytes_eq name f.name) h
    where
      by_error : (fault : FetchFault) (outcome : Result Excerpt DeckFault)
          → ◌≡◌ {A = Load DeckFault} (Fails (deck_load_error fault) fetches) (load_outcome outcome [])
          → load_faults_after_fetches (faults_after_fetch faults (Err fault)) fetches
          ≡ fetch_faults_after_deck_load faults outcome
      by_error fault (Ok excerpt) g = cc
      by_error fault (Err error) g =
          ap (load_faults_after_fetches (faults_after_fetch faults (Err fault)))
          (deck_load_leaves_one_list (deck_load_error fault) error fetches [] g)
          ∙ unread_deck_load_counts faults fault
          ∙ ap (λ e. fetch_faults_after_deck_load {T = Excerpt} faults (Err e))
          (deck_load_has_one_fault (deck_load_error fault) error fetches [] g)

      by_answer : (answer : Result (List ℕ) FetchFault)
          → deck_load_of_first_answer name answer before fetches ≡ load_outcome outcome []
          → load_faults_after_fetches faults (record { name = f.name; answer = answer } ∷ fetches)
          ≡ fetch_faults_after_deck_load faults outcome
      by_answer (Ok bytes) g =
          let p = deck_load_outcome_of_lines (load_of_file name bytes before fetches) [] outcome g in
          law name bytes before p.0 fetches faults p.1
          ∙ deck_load_counts_as_lines faults p.0
          ∙ ap (fetch_faults_after_deck_load faults) (sym p.2)
      by_answer (Err fault) g = by_error fault outcome g

      by : (b : Bool)
          → cond b (deck_load_of_first_answer name f.answer before fetches) (Asks name (f ∷ fetches))
          ≡ load_outcome outcome []
          → load_faults_after_fetches faults (f ∷ fetches) ≡ fetch_faults_after_deck_load faults outcome
      by true g = by_answer f.answer g
      by false g = absurd (asking_deck_load_has_no_outcome name (f ∷ fetches) [] outcome g)

module _ {State : Type 0} (model : FilesModel State) (failures : LoadFailureLaw) (from to : State) where
  -- the count after a load with a transcript
  transcript_counts : (name : List ℕ) (before : Excerpt) (outcome : Result Excerpt DeckFault)
      → HasTranscript (IsTranscript model from to) (deck_load_of_name name before) outcome
      → model.faults to ≡ fetch_faults_after_deck_load (model.faults from) outcome
  transcript_counts name before outcome h =
      h.1.1 ∙ deck_load_counts failures name before outcome h.0 (model.faults from)
      (ap (deck_load_of_name name before) (sym (append-nil h.0)) ∙ h.2 [])

  -- the count after a load with this result
  pub load_result_counts : {T : Type 0} (name : List ℕ) (before : Excerpt) (left : T → Excerpt) (r : Result T DeckFault)
      → IsLoad model from to OutOfMemory (deck_load_of_name name before) left r
      → model.faults to ≡ fetch_faults_after_deck_load (model.faults from) r
  load_result_counts {T} name before left (Ok value) h = transcript_counts name before (Ok (left value)) h
  load_result_counts {T} name before left (Err fault) (inl h) =
      h.1 ∙ ap (λ f. fetch_faults_after_deck_load {T = Excerpt} (model.faults from) (Err f)) (sym h.0)
      ∙ errors_count_alike T (model.faults from) fault
  load_result_counts {T} name before left (Err fault) (inr h) =
      transcript_counts name before (Err fault) h ∙ errors_count_alike T (model.faults from) fault

  -- if memory runs out after a load, no failed fetch was counted
  pub load_without_memory : {U : Type 0} (name : List ℕ) (before now : Excerpt)
      (load : List TranscriptFetch → Load DeckFault) (left : U → Excerpt)
      → HasTranscript (IsTranscript model from to) (deck_load_of_name name before) (Ok now)
      → IsLoad model from to OutOfMemory load left (Err OutOfMemory)
  load_without_memory name before now load left h = inl (refl, transcript_counts name before (Ok now) h)

  module _ (law : KnownLoadLaw) (files : FileMap) (name : List ℕ) (d : DeckContents) (is : model.bytes from ≡ Some files)
    where
      -- the outcome of a load with a transcript, if the files are known
      known_outcome : (outcome : Result Excerpt DeckFault)
          → HasTranscript (IsTranscript model from to) (deck_load_of_name name (deck_excerpt_of_lines d.lines)) outcome
          → IsErrAnd outcome MayDeckLoadFailWith ⊎ (deck_after_appending files name d ≡ deck_of_outcome d outcome)
      known_outcome outcome h =
          known_deck_append_law law files name d outcome
          (h.0, subst (λ f. AreTranscriptAnswersOf f h.0) is h.1.0.0, h.2)

      -- a load leaves the deck that the files determine
      pub known_deck : (now : DeckContents) → now.settings ≡ d.settings
          → HasTranscript (IsTranscript model from to) (deck_load_of_name name (deck_excerpt_of_lines d.lines))
          (Ok (excerpt_of_deck now))
          → deck_after_appending files name d ≡ Ok now
      known_deck now same h = by (known_outcome (Ok (excerpt_of_deck now)) h)
        where
          by : IsErrAnd {T = Excerpt} {E = DeckFault} (Ok (excerpt_of_deck now)) MayDeckLoadFailWith
              ⊎ (deck_after_appending files name d ≡ deck_of_outcome d (Ok (excerpt_of_deck now)))
              → deck_after_appending files name d ≡ Ok now
          by (inl e) = absurd e
          by (inr e) =
              e ∙ ap (λ s. Ok (record { lines = now.lines; settings = s; notices = now.notices })) (sym same)

      -- a load fails with the error that the files determine, or with a failed fetch or allocation
      pub known_error : {T : Type 0} (left : T → Excerpt) (fault : DeckFault)
          → IsLoad model from to OutOfMemory (deck_load_of_name name (deck_excerpt_of_lines d.lines)) left (Err fault)
          → MayDeckLoadFailWith fault ⊎ (deck_after_appending files name d ≡ Err fault)
      known_error left fault (inl h) = inl (inl h.0)
      known_error left fault (inr h) = known_outcome (Err fault) h

-- the laws of loads
pub deck_load_law : {State : Type 0} (model : FilesModel State) → KnownLoadLaw → LoadFailureLaw → DeckLoadLaw model
deck_load_law {State} model law failures = record {
  loaded = loaded;
  appended = appended;
  loaded_count = λ from to name result h.
      load_result_counts model failures from to name (deck_excerpt_of_lines []) excerpt_of_deck result h;
  appended_count = λ from to name d now result h.
      load_result_counts model failures from to name (deck_excerpt_of_lines d.lines) (λ _. excerpt_of_deck now) result
      h;
}
  where
    loaded : (from to : State) (files : FileMap) (name : List ℕ) (settings : Settings)
        (result : Result DeckContents DeckFault)
        → model.bytes from ≡ Some files → IfOk result (λ d. d.settings ≡ settings)
        → IsLoad model from to OutOfMemory (deck_load_of_name name (deck_excerpt_of_lines [])) excerpt_of_deck result
        → IsDeckLoaded (deck_after_loading files name settings) result
    loaded from to files name settings (Ok d) is same h =
        known_deck model failures from to law files name (empty_deck settings) is d same h
    loaded from to files name settings (Err fault) is same h =
        known_error model failures from to law files name (empty_deck settings) is excerpt_of_deck fault h

    appended : (from to : State) (files : FileMap) (name : List ℕ) (d now : DeckContents)
        (result : Result (Unit {0}) DeckFault)
        → model.bytes from ≡ Some files → now.settings ≡ d.settings
        → IsLoad model from to OutOfMemory (deck_load_of_name name (deck_excerpt_of_lines d.lines))
        (λ _. excerpt_of_deck now) result
        → IsDeckAppended (deck_after_appending files name d) now result
    appended from to files name d now (Ok u) is same h = known_deck model failures from to law files name d is now same h
    appended from to files name d now (Err fault) is same h =
        known_error model failures from to law files name d is (λ (_ : Unit {0}). excerpt_of_deck now) fault h
