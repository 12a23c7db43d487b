-- Loads of files whose contents are known, and the lines before them.
use Rattle.std.proofs.Common.{◌≡◌, ◌⊎◌, ◌++◌, ◌∷◌, [], ℕ, List, Bool, true, false, cond, refl, sym, ap, subst, ◌∙◌}
use Rattle.std.proofs.Common.{Result, Ok, Err, Some, inl, inr}
use Rattle.std.proofs.lemmas.List.{append-nil}
use Rattle.std.proofs.lemmas.Slice.Eq.{bytes_eq-Decides}
use Rattle.std.specs.Prelude.{IsErrAnd, bytes_eq}
use Rattle.units_io.specs.FileMap.{FileMap}
use Rattle.units_io.specs.FetchResults.{IsFileFetched}
use Rattle.units_io.specs.declared.files.FetchFault.{FetchFault}
use Rattle.units_io.specs.declared.files.FetchFault.TheVariants as fetch
use Rattle.deck_lines.specs.Excerpts.{Excerpt, excerpts_in_turn}
use Rattle.deck_lines.specs.Includes.{excerpt_of_deck_file}
use Rattle.deck_lines.specs.Limits.{pass_store_limit}
use Rattle.deck_lines.specs.LineLoads.{load_of_file}
use Rattle.deck_lines.specs.LoadLaws.{KnownLoadLaw, LoadKeepsLinesLaw, excerpt_within_limit}
use Rattle.deck_lines.specs.Transcripts.{AreTranscriptAnswersOf, Asks, Fails, Load, TranscriptFetch}
use Rattle.deck_lines.specs.Transcripts.{Yields, load_outcome}
use Rattle.deck_lines.specs.declared.draft.LoadFault.{LoadFault}
use Rattle.deck_lines.specs.declared.draft.LoadFault.TheVariants as load
use Rattle.deck_lines.specs.declared.line.DeckLine.{DeckLine}
use Rattle.deck.specs.Decks.{DeckContents}
use Rattle.deck.specs.FileLoads.{AppendedDeckLinesLaw, KnownDeckAppendLaw, MayDeckLoadFailWith, deck_after_appending}
use Rattle.deck.specs.FileLoads.{deck_of_outcome, deck_excerpt_of_lines, deck_fault_of_load, deck_load_error}
use Rattle.deck.specs.FileLoads.{deck_load_of_first_answer, deck_load_of_name, deck_append_by_answer}
use Rattle.deck.specs.FileLoads.{load_with_deck_fault}
use Rattle.deck.specs.declared.fault.DeckFault.{DeckFault}
use Rattle.deck.specs.declared.fault.DeckFault.TheVariants.{DeckFull}

-- a load yields one excerpt, and fails with one fault
deck_load_has_one_excerpt : {E : Type 0} (a b : Excerpt) (xs ys : List TranscriptFetch)
    → ◌≡◌ {A = Load E} (Yields a xs) (Yields b ys) → a ≡ b
deck_load_has_one_excerpt a b xs ys h = cc

pub deck_load_has_one_fault : {E : Type 0} (a b : E) (xs ys : List TranscriptFetch)
    → ◌≡◌ {A = Load E} (Fails a xs) (Fails b ys) → a ≡ b
deck_load_has_one_fault a b xs ys h = cc

-- the outcome of a load of lines as that of a load of a deck
abbrev pub of_load : Result Excerpt LoadFault → Result Excerpt DeckFault
of_load (Ok excerpt) = Ok excerpt
of_load (Err fault) = Err (deck_fault_of_load fault)

-- a load that asks for a file has no outcome
pub asking_deck_load_has_no_outcome : {E : Type 0} (name : List ℕ) (rest left : List TranscriptFetch)
    (outcome : Result Excerpt E)
    → ◌≡◌ {A = Load E} (Asks name rest) (load_outcome outcome left) → ⊥
asking_deck_load_has_no_outcome name rest left (Ok excerpt) h = cc
asking_deck_load_has_no_outcome name rest left (Err fault) h = cc

-- a load leaves one list of fetches
pub deck_load_leaves_one_list : {E : Type 0} (a b : E) (xs ys : List TranscriptFetch)
    → ◌≡◌ {A = Load E} (Fails a xs) (Fails b ys) → xs ≡ ys
deck_load_leaves_one_list a b xs ys h = cc

yielded_deck_load_leaves_one_list : {E : Type 0} (a b : Excerpt) (xs ys : List TranscriptFetch)
    → ◌≡◌ {A = Load E} (Yields a xs) (Yields b ys) → xs ≡ ys
yielded_deck_load_leaves_one_list a b xs ys h = cc

-- the outcome of a load of a deck is that of the load of its lines, and leaves the same fetches
pub deck_load_outcome_of_lines : (l : Load LoadFault) (rest : List TranscriptFetch) (outcome : Result Excerpt DeckFault)
    → load_with_deck_fault deck_fault_of_load l ≡ load_outcome outcome rest
    → (o : Result Excerpt LoadFault) × (l ≡ load_outcome o rest) × (outcome ≡ of_load o)
deck_load_outcome_of_lines (Yields e left) rest (Ok x) h = (
  Ok e,
  ap (Yields e) (yielded_deck_load_leaves_one_list e x left rest h),
  ap Ok (sym (deck_load_has_one_excerpt e x left rest h)),
)
deck_load_outcome_of_lines (Yields e left) rest (Err fault) h = cc
deck_load_outcome_of_lines (Fails f left) rest (Ok x) h = cc
deck_load_outcome_of_lines (Fails f left) rest (Err fault) h = (
  Err f,
  ap (Fails f) (deck_load_leaves_one_list (deck_fault_of_load f) fault left rest h),
  ap Err (sym (deck_load_has_one_fault (deck_fault_of_load f) fault left rest h)),
)
deck_load_outcome_of_lines (Asks name left) rest outcome h =
    absurd (asking_deck_load_has_no_outcome name left rest outcome h)

-- the deck after an append of an excerpt, by whether its lines pass a limit
deck_append_by_limit : (b : Bool) (all : Excerpt) (d : DeckContents)
    → cond b (Err DeckFull) (Ok (record d { lines = all.lines; notices = all.notices }))
    ≡ deck_of_outcome d (of_load (cond b (Err load.DeckFull) (Ok all)))
deck_append_by_limit true all d = refl
deck_append_by_limit false all d = refl

module _ (law : KnownLoadLaw) (m : FileMap) (name : List ℕ) (d : DeckContents) where
  -- an append of a file that is read
  pub read_known : (bytes : List ℕ) (fetches rest : List TranscriptFetch) (o : Result Excerpt LoadFault)
      → AreTranscriptAnswersOf (Some m) fetches → load_of_file name bytes (deck_excerpt_of_lines d.lines)
      fetches ≡ load_outcome o rest
      → IsErrAnd (of_load o) MayDeckLoadFailWith ⊎
      (deck_append_by_answer m name (Ok bytes) d ≡ deck_of_outcome d (of_load o))
  read_known bytes fetches rest o are h = by o (law m name bytes (deck_excerpt_of_lines d.lines) o fetches rest are h)
    where
      all : Excerpt
      all = excerpts_in_turn (deck_excerpt_of_lines d.lines) (excerpt_of_deck_file m name bytes)

      by : (o : Result Excerpt LoadFault)
          → ((o ≡ Err load.ReadFailed) ⊎ (o ≡ Err load.OutOfMemory)) ⊎ (o ≡ excerpt_within_limit all)
          → IsErrAnd (of_load o) MayDeckLoadFailWith ⊎
          (deck_append_by_answer m name (Ok bytes) d ≡ deck_of_outcome d (of_load o))
      by o (inl (inl e)) = inl (subst (λ o. IsErrAnd (of_load o) MayDeckLoadFailWith) (sym e) (inr refl))
      by o (inl (inr e)) = inl (subst (λ o. IsErrAnd (of_load o) MayDeckLoadFailWith) (sym e) (inl refl))
      by o (inr e) = inr (deck_append_by_limit (pass_store_limit all.lines) all d
          ∙ ap (λ o. deck_of_outcome d (of_load o)) (sym e))

  answer_known : (answer : Result (List ℕ) FetchFault) (fetches rest : List TranscriptFetch)
      (outcome : Result Excerpt DeckFault)
      → IsFileFetched m name answer → AreTranscriptAnswersOf (Some m) fetches
      → deck_load_of_first_answer name answer (deck_excerpt_of_lines d.lines) fetches ≡ load_outcome outcome rest
      → IsErrAnd outcome MayDeckLoadFailWith ⊎ (deck_after_appending m name d ≡ deck_of_outcome d outcome)
  answer_known (Ok bytes) fetches rest outcome may are h =
      let p = deck_load_outcome_of_lines (load_of_file name bytes (deck_excerpt_of_lines d.lines) fetches) rest outcome
      h in
      subst (λ o. IsErrAnd o MayDeckLoadFailWith ⊎ (deck_after_appending m name d ≡ deck_of_outcome d o)) (sym p.2)
      (subst (λ a. IsErrAnd (of_load p.0) MayDeckLoadFailWith ⊎
      (deck_append_by_answer m name a d ≡ deck_of_outcome d (of_load p.0)))
      (sym may) (read_known bytes fetches rest p.0 are p.1))
  answer_known (Err fault) fetches rest (Ok excerpt) may are h = cc
  answer_known (Err fetch.Absent) fetches rest (Err fault) may are h =
      inr (ap (λ a. deck_append_by_answer m name a d) may
      ∙ ap Err (deck_load_has_one_fault (deck_load_error fetch.Absent) fault fetches rest h))
  answer_known (Err fetch.TooLong) fetches rest (Err fault) may are h =
      inr (ap (λ a. deck_append_by_answer m name a d) may
      ∙ ap Err (deck_load_has_one_fault (deck_load_error fetch.TooLong) fault fetches rest h))
  answer_known (Err fetch.Failed) fetches rest (Err fault) may are h =
      inl (inr (sym (deck_load_has_one_fault (deck_load_error fetch.Failed) fault fetches rest h)))
  answer_known (Err fetch.OutOfMemory) fetches rest (Err fault) may are h =
      inl (inl (sym (deck_load_has_one_fault (deck_load_error fetch.OutOfMemory) fault fetches rest h)))

  name_known : (fetches rest : List TranscriptFetch) (outcome : Result Excerpt DeckFault)
      → AreTranscriptAnswersOf (Some m) fetches
      → deck_load_of_name name (deck_excerpt_of_lines d.lines) fetches ≡ load_outcome outcome rest
      → IsErrAnd outcome MayDeckLoadFailWith ⊎ (deck_after_appending m name d ≡ deck_of_outcome d outcome)
  name_known [] rest outcome are h = absurd (asking_deck_load_has_no_outcome name [] rest outcome h)
  name_known (f ∷ fetches) rest outcome are h = by (bytes_eq name f.name) refl h
    where
      by : (b : Bool) → bytes_eq name f.name ≡ b
          → cond b (deck_load_of_first_answer name f.answer (deck_excerpt_of_lines d.lines) fetches)
          (Asks name (f ∷ fetches))
          ≡ load_outcome outcome rest
          → IsErrAnd outcome MayDeckLoadFailWith ⊎ (deck_after_appending m name d ≡ deck_of_outcome d outcome)
      by true e g =
          answer_known f.answer fetches rest outcome
          (subst (λ n. IsFileFetched m n f.answer) (sym ((bytes_eq-Decides name f.name).0 e)) are.0) are.1 g
      by false e g = absurd (asking_deck_load_has_no_outcome name (f ∷ fetches) rest outcome g)

-- the law of appends of files that are known
pub known_deck_append_law : KnownLoadLaw → KnownDeckAppendLaw
known_deck_append_law law m name d outcome h =
    name_known law m name d (h.0 ++ []) [] outcome (subst (AreTranscriptAnswersOf (Some m)) (sym (append-nil h.0)) h.1)
    (h.2 [])

-- the law of the lines before an append
pub appended_deck_lines_law : LoadKeepsLinesLaw → AppendedDeckLinesLaw
appended_deck_lines_law law name before now [] rest h = cc
appended_deck_lines_law law name before now (f ∷ fetches) rest h = by (bytes_eq name f.name) h
  where
    by_load : (bytes : List ℕ) (l : Load LoadFault) → load_of_file name bytes before fetches ≡ l
        → load_with_deck_fault deck_fault_of_load l ≡ Yields now rest
        → (more : List DeckLine) × (now.lines ≡ before.lines ++ more)
    by_load bytes (Yields e left) is g =
        let kept = law name bytes before e fetches left is in
        (kept.0, ap (λ (x : Excerpt). x.lines) (sym (deck_load_has_one_excerpt e now left rest g)) ∙ kept.1)
    by_load bytes (Fails fault left) is g = cc
    by_load bytes (Asks file left) is g = cc

    by_answer : (answer : Result (List ℕ) FetchFault) → deck_load_of_first_answer name answer before fetches ≡ Yields
        now
        rest
        → (more : List DeckLine) × (now.lines ≡ before.lines ++ more)
    by_answer (Ok bytes) g = by_load bytes (load_of_file name bytes before fetches) refl g
    by_answer (Err fault) g = cc

    by : (b : Bool)
        → cond b (deck_load_of_first_answer name f.answer before fetches) (Asks name (f ∷ fetches)) ≡ Yields now rest
        → (more : List DeckLine) × (now.lines ≡ before.lines ++ more)
    by true g = by_answer f.answer g
    by false g = cc
