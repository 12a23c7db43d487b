-- The fetches that a load uses up, and the last fetch of a load that ends with a failed read.
use Rattle.std.proofs.Common.{◌≡◌, ◌++◌, ◌∷◌, [], ℕ, List, Bool, true, false, cond, refl, sym, ap, subst, ◌∙◌}
use Rattle.std.proofs.Common.{append_assoc, Result, Ok, Err}
use Rattle.std.proofs.lemmas.Slice.Eq.{bytes_eq-Decides}
use Rattle.std.specs.Bool.{⊤}
use Rattle.std.specs.Str.{bytes_eq}
use Rattle.units_io.specs.declared.files.FetchFault.{FetchFault}
use Rattle.units_io.specs.declared.files.FetchFault.TheVariants as fetch
use Rattle.def_lines.specs.declared.line.Line.{Line}
use Rattle.deck_lines.specs.Excerpts.{Excerpt, excerpts_in_turn, include_excerpt, line_without_notice}
use Rattle.deck_lines.specs.Includes.{include_not_read, most_include_depth}
use Rattle.deck_lines.specs.Limits.{pass_store_limit}
use Rattle.deck_lines.specs.LineLoads.{LoadPart, load_of_answer, load_of_excerpt, load_of_file}
use Rattle.deck_lines.specs.LoadLaws.{LastFetchLaw, failed_load_fetch}
use Rattle.deck_lines.specs.Marks.{plain_store_line}
use Rattle.deck_lines.specs.Transcripts.{Asks, Fails, Load, TranscriptFetch, Yields, load_after_fetch, loads_in_turn}
use Rattle.deck_lines.specs.declared.draft.LoadFault.{LoadFault}
use Rattle.deck_lines.specs.declared.draft.LoadFault.TheVariants.{DeckFull, OutOfMemory, ReadFailed}
use Rattle.deck_lines.proofs.PartInduction.{both_parts, include_part, of_above}

-- a part with this outcome uses up the fetches before those that it leaves, whatever follows them; if a failed read
-- ends it, the last of them is the failed fetch of the file for which the part asks after the others
abbrev UsesUp : LoadPart → Excerpt → List TranscriptFetch → Load LoadFault → Type 0
UsesUp part before fetches (Yields now rest) =
    (used : List TranscriptFetch) × (fetches ≡ used ++ rest)
    × ((more : List TranscriptFetch) → part before (used ++ more) ≡ Yields now more)
UsesUp part before fetches (Fails ReadFailed rest) =
    (used : List TranscriptFetch) × (file : List ℕ) × (fetches ≡ used ++ failed_load_fetch file ∷ rest)
    × (part before used ≡ Asks file [])
UsesUp part before fetches (Fails fault rest) = ⊤
UsesUp part before fetches (Asks file rest) = ⊤

abbrev AlwaysUsesUp : LoadPart → Type 0
AlwaysUsesUp part = (before : Excerpt) (fetches : List TranscriptFetch)
    → UsesUp part before fetches (part before fetches)

excerpt_uses : (excerpt : Excerpt) → AlwaysUsesUp (load_of_excerpt excerpt)
excerpt_uses excerpt before fetches = by (pass_store_limit (before.lines ++ excerpt.lines)) refl
  where
    by : (b : Bool) → pass_store_limit (before.lines ++ excerpt.lines) ≡ b
        → UsesUp (load_of_excerpt excerpt) before fetches
        (cond b (Fails DeckFull fetches) (Yields (excerpts_in_turn before excerpt) fetches))
    by true e = tt
    by false e = ([], refl, λ more. rw e refl)

both_use : (first second : LoadPart) → AlwaysUsesUp first → AlwaysUsesUp second → AlwaysUsesUp (both_parts first second)
both_use first second h g before fetches = by (first before fetches) (h before fetches)
  where
    after : (used : List TranscriptFetch) (now : Excerpt) (rest : List TranscriptFetch) (load : Load LoadFault)
        → fetches ≡ used ++ rest
        → ((more : List TranscriptFetch) → first before (used ++ more) ≡ Yields now more)
        → UsesUp second now rest load → UsesUp (both_parts first second) before fetches load
    after used now rest (Yields end left) e f p = (
      used ++ p.0,
      e ∙ ap (λ fs. used ++ fs) p.1 ∙ sym (append_assoc used p.0 left),
      λ more. ap (both_parts first second before) (append_assoc used p.0 more)
          ∙ ap (λ l. loads_in_turn l second) (f (p.0 ++ more)) ∙ p.2 more,
    )
    after used now rest (Fails ReadFailed left) e f p = (
      used ++ p.0,
      p.1,
      e ∙ ap (λ fs. used ++ fs) p.2 ∙ sym (append_assoc used p.0 (failed_load_fetch p.1 ∷ left)),
      ap (λ l. loads_in_turn l second) (f p.0) ∙ p.3,
    )
    after used now rest (Fails DeckFull left) e f p = tt
    after used now rest (Fails OutOfMemory left) e f p = tt
    after used now rest (Asks file left) e f p = tt

    by : (load : Load LoadFault) → UsesUp first before fetches load
        → UsesUp (both_parts first second) before fetches (loads_in_turn load second)
    by (Yields now rest) p = after p.0 now rest (second now rest) p.1 p.2 (g now rest)
    by (Fails ReadFailed rest) p = (p.0, p.1, p.2, ap (λ l. loads_in_turn l second) p.3)
    by (Fails DeckFull rest) p = tt
    by (Fails OutOfMemory rest) p = tt
    by (Asks file rest) p = tt

-- a part that begins with a fetch goes on as the part after it
with_fetch : (whole part : LoadPart) (before : Excerpt) (f : TranscriptFetch) (fetches : List TranscriptFetch)
    (outcome : Load LoadFault)
    → ((more : List TranscriptFetch) → whole before (f ∷ more) ≡ part before more) → UsesUp part before fetches outcome
    → UsesUp whole before (f ∷ fetches) outcome
with_fetch whole part before f fetches (Yields now rest) e p =
    (f ∷ p.0, ap (λ fs. f ∷ fs) p.1, λ more. e (p.0 ++ more) ∙ p.2 more)
with_fetch whole part before f fetches (Fails ReadFailed rest) e p =
    (f ∷ p.0, p.1, ap (λ fs. f ∷ fs) p.2, e p.0 ∙ p.3)
with_fetch whole part before f fetches (Fails DeckFull rest) e p = tt
with_fetch whole part before f fetches (Fails OutOfMemory rest) e p = tt
with_fetch whole part before f fetches (Asks file rest) e p = tt

module _ (load : List ℕ → LoadPart) (includer name : List ℕ) (line : Line)
    (each : (bytes : List ℕ) → AlwaysUsesUp (load bytes)) where
  -- the load of the include line, and that of its answer
  abbrev whole : LoadPart
  whole = include_part load includer name line

  abbrev answer_part : Result (List ℕ) FetchFault → LoadPart
  answer_part answer = load_of_answer load includer name line answer

  -- an include line whose next fetch is of its file
  answer_uses : (before : Excerpt) (file : List ℕ) (answer : Result (List ℕ) FetchFault)
      (fetches : List TranscriptFetch)
      → pass_store_limit (before.lines ++ plain_store_line line.number line.text ∷ []) ≡ false
      → bytes_eq name file ≡ true
      → UsesUp whole before (record { name = file; answer = answer } ∷ fetches) (answer_part answer before fetches)
  answer_uses before file (Ok bytes) fetches fits e =
      with_fetch whole (answer_part (Ok bytes)) before (record { name = file; answer = Ok bytes }) fetches
      (answer_part (Ok bytes) before fetches) (λ more. rw (fits, e) refl)
      (both_use (load_of_excerpt (line_without_notice line)) (load bytes) (excerpt_uses (line_without_notice line))
      (each bytes) before fetches)
  answer_uses before file (Err fetch.Failed) fetches fits e = (
    [],
    name,
    ap (λ n. failed_load_fetch n ∷ fetches) (sym ((bytes_eq-Decides name file).0 e)),
    rw fits refl,
  )
  answer_uses before file (Err fetch.OutOfMemory) fetches fits e = tt
  answer_uses before file (Err fetch.Absent) fetches fits e =
      with_fetch whole (answer_part (Err fetch.Absent)) before (record { name = file; answer = Err fetch.Absent })
      fetches
      (answer_part (Err fetch.Absent) before fetches) (λ more. rw (fits, e) refl)
      (excerpt_uses (include_excerpt includer line (include_not_read name fetch.Absent)) before fetches)
  answer_uses before file (Err fetch.TooLong) fetches fits e =
      with_fetch whole (answer_part (Err fetch.TooLong)) before (record { name = file; answer = Err fetch.TooLong })
      fetches (answer_part (Err fetch.TooLong) before fetches) (λ more. rw (fits, e) refl)
      (excerpt_uses (include_excerpt includer line (include_not_read name fetch.TooLong)) before fetches)

  include_uses : AlwaysUsesUp whole
  include_uses before fetches = by_room (pass_store_limit (before.lines ++ plain_store_line line.number line.text ∷ []))
      refl
    where
      by_fetch : pass_store_limit (before.lines ++ plain_store_line line.number line.text ∷ []) ≡ false
          → (f : TranscriptFetch)
          (rest : List TranscriptFetch) (b : Bool) → bytes_eq name f.name ≡ b
          → UsesUp whole before (f ∷ rest) (cond b (answer_part f.answer before rest) (Asks name (f ∷ rest)))
      by_fetch fits f rest true e = answer_uses before f.name f.answer rest fits e
      by_fetch fits f rest false e = tt

      with_room : (fetches : List TranscriptFetch)
          → pass_store_limit (before.lines ++ plain_store_line line.number line.text ∷ []) ≡ false
          → UsesUp whole before fetches (load_after_fetch name (λ answer. answer_part answer before) fetches)
      with_room [] fits = tt
      with_room (f ∷ rest) fits = by_fetch fits f rest (bytes_eq name f.name) refl

      by_room : (b : Bool) → pass_store_limit (before.lines ++ plain_store_line line.number line.text ∷ []) ≡ b
          → UsesUp whole before fetches (cond b (Fails DeckFull fetches)
          (load_after_fetch name (λ answer. answer_part answer before) fetches))
      by_room true e = tt
      by_room false e = with_room fetches e

-- the law of the last fetch of a load
pub last_fetch_law : LastFetchLaw
last_fetch_law name bytes before transcript e =
    subst (UsesUp (load_of_file name bytes) before transcript) e
    (of_above AlwaysUsesUp (record {
      of_excerpt = excerpt_uses;
      of_both = both_use;
      of_include = include_uses;
    }) most_include_depth name bytes before transcript)
