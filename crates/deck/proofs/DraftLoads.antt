-- Loads of files and texts to drafts.
use Rattle.std.proofs.Common.{◌≡◌, ◌⊎◌, ◌++◌, ◌∷◌, [], ℕ, List, true, refl, sym, ap, subst, ◌∙◌}
use Rattle.std.proofs.Common.{Result, Ok, Err, Some, IfSome, inl, inr, arith}
use Rattle.std.proofs.lemmas.List.{append-nil}
use Rattle.std.proofs.lemmas.Slice.Eq.{bytes_eq-Decides}
use Rattle.std.specs.Prelude.{IsErrAnd, MatchResult, bytes_eq}
use Rattle.units_io.specs.Faults.{next_io_count}
use Rattle.units_io.specs.FileMap.{no_files_in_map}
use Rattle.units_io.specs.FetchResults.{IsFileFetched, faults_after_fetch}
use Rattle.units_io.specs.declared.files.FetchFault.{FetchFault}
use Rattle.deck_lines.specs.Excerpts.{Excerpt}
use Rattle.deck_lines.specs.LineLoads.{excerpt_in, load_of_file}
use Rattle.deck_lines.specs.LoadLaws.{KnownLoadLaw, LoadFailureLaw}
use Rattle.deck_lines.specs.Transcripts.{AreTranscriptAnswersOf, FetchRelation, FilesModel, HasTranscript, IsLoad}
use Rattle.deck_lines.specs.Transcripts.{IsTranscript, TranscriptFetch, files_model, load_faults_after_fetches}
use Rattle.deck_lines.specs.Transcripts.{load_outcome}
use Rattle.deck_lines.specs.declared.draft.Draft.{Draft}
use Rattle.deck_lines.specs.declared.draft.LoadFault.{LoadFault}
use Rattle.deck_lines.specs.declared.draft.LoadFault.TheVariants as load
use Rattle.deck.specs.Decks.{DeckContents}
use Rattle.deck.specs.FileLoads.{MayDeckLoadFailWith, deck_after_text_loading}
use Rattle.deck.specs.FileLoads.{deck_of_outcome, empty_deck, deck_excerpt_of_lines, deck_fault_of_load}
use Rattle.deck.specs.FileLoads.{deck_load_error, deck_load_of_first_answer, deck_load_of_name, load_with_deck_fault}
use Rattle.deck.specs.declared.fault.DeckFault.{DeckFault}
use Rattle.deck.specs.declared.fault.DeckFault.TheVariants.{DeckFull, OutOfMemory}
use Rattle.deck.specs.declared.settings.Settings.{Settings}
use Rattle.deck.proofs.KnownLoads.{of_load, read_known}

-- a load whose first fetch is of its file continues with the answer
fetched_first : (name : List ℕ) (answer : Result (List ℕ) FetchFault) (before : Excerpt) (rest : List TranscriptFetch)
    → deck_load_of_name name before (record { name = name; answer = answer } ∷ rest)
    ≡ deck_load_of_first_answer name answer before rest
fetched_first name answer before rest =
    let same : bytes_eq name name ≡ true = (bytes_eq-Decides name name).1 refl in
    rw same refl

-- the outcome of a load with another name for its fault
renamed : (o : Result Excerpt LoadFault) (rest : List TranscriptFetch)
    → load_with_deck_fault deck_fault_of_load (load_outcome o rest) ≡ load_outcome (of_load o) rest
renamed (Ok e) rest = refl
renamed (Err f) rest = refl

module _ {State : Type 0} (model : FilesModel State) (from to : State) where
  -- the load of a file to a draft has this result
  abbrev IsNamedLoad : List ℕ → Draft → Draft → Result (Unit {0}) DeckFault → Type 0
  IsNamedLoad name before after r =
      IsLoad model from to OutOfMemory (deck_load_of_name name (excerpt_in before)) (λ _. excerpt_in after) r

  -- the result of the load of a file that is read is that of the load of its bytes
  pub read_loads : (here : State) (name bytes : List ℕ) (before after : Draft) (r : Result (Unit {0}) LoadFault)
      → IfSome (model.bytes from) (λ m. IsFileFetched m name (Ok bytes)) → model.is_fetch from name (Ok bytes) here
      → model.bytes here ≡ model.bytes from → model.faults here ≡ model.faults from
      → IsLoad model here to load.OutOfMemory (load_of_file name bytes (excerpt_in before)) (λ _. excerpt_in after) r
      → MatchResult r (λ u. IsNamedLoad name before after (Ok u))
      (λ fault. IsNamedLoad name before after (Err (deck_fault_of_load fault)))
  read_loads here name bytes before after r may made kept uncounted h = by r h
    where
      go : (o : Result Excerpt LoadFault)
          → HasTranscript (IsTranscript model here to) (load_of_file name bytes (excerpt_in before)) o
          → HasTranscript (IsTranscript model from to) (deck_load_of_name name (excerpt_in before)) (of_load o)
      go o g = (
        record { name = name; answer = Ok bytes } ∷ g.0,
        (
          ((may, subst (λ f. AreTranscriptAnswersOf f g.0) kept g.1.0.0), (here, made, g.1.0.1)),
          g.1.1 ∙ ap (λ n. load_faults_after_fetches n g.0) uncounted,
        ),
        λ rest. fetched_first name (Ok bytes) (excerpt_in before) (g.0 ++ rest)
            ∙ ap (load_with_deck_fault deck_fault_of_load) (g.2 rest) ∙ renamed o rest,
      )

      by : (r : Result (Unit {0}) LoadFault)
          → IsLoad model here to load.OutOfMemory (load_of_file name bytes (excerpt_in before)) (λ _. excerpt_in after)
          r
          → MatchResult r (λ u. IsNamedLoad name before after (Ok u))
          (λ fault. IsNamedLoad name before after (Err (deck_fault_of_load fault)))
      by (Ok u) g = go (Ok (excerpt_in after)) g
      by (Err fault) (inl e) = inl (ap deck_fault_of_load e.0, e.1 ∙ uncounted)
      by (Err fault) (inr g) = inr (go (Err fault) g)

  -- the result of the load of a file that is not read is the error of its fetch
  pub unread_loads : {T : Type 0} (name : List ℕ) (before : Excerpt) (left : T → Excerpt) (fault : FetchFault)
      → IfSome (model.bytes from) (λ m. IsFileFetched m name (Err fault)) → model.is_fetch from name (Err fault) to
      → model.faults to ≡ faults_after_fetch (model.faults from) (Err fault)
      → IsLoad model from to OutOfMemory (deck_load_of_name name before) left (Err (deck_load_error fault))
  unread_loads name before left fault may made counted =
      inr (
        record { name = name; answer = Err fault } ∷ [],
        (((may, tt), (to, made, refl)), counted),
        fetched_first name (Err fault) before,
      )

-- the view of a file system without files
abbrev no_files : {State : Type 0} → FetchRelation State → FilesModel State
no_files is_fetch = files_model (λ _. Some no_files_in_map) (λ _. 0) is_fetch

-- a text is loaded as the file of a deck that includes no other file
pub text_known : {State : Type 0} (is_fetch : FetchRelation State) (from to : State) → KnownLoadLaw → LoadFailureLaw
    → (name bytes : List ℕ) (settings : Settings) (before after : Draft) (r : Result (Unit {0}) LoadFault)
    → excerpt_in before ≡ deck_excerpt_of_lines []
    → IsLoad (no_files is_fetch) from to load.OutOfMemory
    (load_of_file name bytes (excerpt_in before)) (λ _. excerpt_in after) r
    → MatchResult r
    (λ _. deck_after_text_loading bytes name settings
    ≡ Ok (record { lines = after.store.lines; settings = settings; notices = after.notices }))
    (λ fault. (deck_fault_of_load fault ≡ OutOfMemory) ⊎
    (deck_after_text_loading bytes name settings ≡ Err (deck_fault_of_load fault)))
text_known is_fetch from to law failures name bytes settings before after r none loads =
    by r (subst (λ e. IsLoad (no_files is_fetch) from to load.OutOfMemory (load_of_file name bytes e) (λ _. excerpt_in after) r) none
    loads)
  where
    known : (o : Result Excerpt LoadFault)
        → HasTranscript (IsTranscript (no_files is_fetch) from to) (load_of_file name bytes (deck_excerpt_of_lines [])) o
        → IsErrAnd (of_load o) MayDeckLoadFailWith
        ⊎ (deck_after_text_loading bytes name settings ≡ deck_of_outcome (empty_deck settings) (of_load o))
    known o h = read_known law no_files_in_map name (empty_deck settings) bytes (h.0 ++ []) [] o
        (subst (AreTranscriptAnswersOf (Some no_files_in_map)) (sym (append-nil h.0)) h.1.0.0) (h.2 [])

    deck : DeckContents
    deck = record { lines = after.store.lines; settings = settings; notices = after.notices }

    ok : IsErrAnd {T = Excerpt} {E = DeckFault} (Ok (excerpt_in after)) MayDeckLoadFailWith
        ⊎ (deck_after_text_loading bytes name settings ≡ Ok deck) → deck_after_text_loading bytes name settings ≡ Ok
        deck
    ok (inl h) = absurd h
    ok (inr e) = e

    full : MayDeckLoadFailWith DeckFull ⊎ (deck_after_text_loading bytes name settings ≡ Err DeckFull)
        → deck_after_text_loading bytes name settings ≡ Err DeckFull
    full (inl (inl e)) = cc
    full (inl (inr e)) = cc
    full (inr e) = e

    -- no fetch fails, since none is counted
    unfailed : HasTranscript (IsTranscript (no_files is_fetch) from to) (load_of_file name bytes (deck_excerpt_of_lines []))
        (Err load.ReadFailed)
        → ⊥
    unfailed h =
        let counted : 0 ≡ next_io_count 0 =
        h.1.1 ∙ failures name bytes (deck_excerpt_of_lines []) (Err load.ReadFailed) h.0 0
        (ap (load_of_file name bytes (deck_excerpt_of_lines [])) (sym (append-nil h.0)) ∙ h.2 []) in
        omega (arith, counted)

    by : (r : Result (Unit {0}) LoadFault)
        → IsLoad (no_files is_fetch) from to load.OutOfMemory (load_of_file name bytes (deck_excerpt_of_lines []))
        (λ _. excerpt_in after) r
        → MatchResult r (λ _. deck_after_text_loading bytes name settings ≡ Ok deck)
        (λ fault. (deck_fault_of_load fault ≡ OutOfMemory) ⊎
        (deck_after_text_loading bytes name settings ≡ Err (deck_fault_of_load fault)))
    by (Ok u) h = ok (known (Ok (excerpt_in after)) h)
    by (Err load.OutOfMemory) h = inl refl
    by (Err load.ReadFailed) (inl h) = cc
    by (Err load.ReadFailed) (inr h) = absurd (unfailed h)
    by (Err load.DeckFull) (inl h) = cc
    by (Err load.DeckFull) (inr h) = inr (full (known (Err load.DeckFull) h))
