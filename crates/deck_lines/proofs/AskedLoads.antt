-- Loads that go on with more fetches.
use Rattle.std.proofs.Common.{◌≡◌, ◌++◌, ◌∷◌, [], ℕ, List, Bool, true, false, cond, refl, ap, subst, ◌∙◌, Result, Ok}
use Rattle.std.proofs.Common.{Err}
use Rattle.std.proofs.lemmas.Slice.Eq.{bytes_eq-Decides}
use Rattle.std.specs.Bool.{⊤}
use Rattle.std.specs.Str.{bytes_eq}
use Rattle.units_io.specs.declared.files.FetchFault.{FetchFault}
use Rattle.units_io.specs.declared.files.FetchFault.TheVariants as fetch
use Rattle.def_lines.specs.declared.line.Line.{Line}
use Rattle.deck_lines.specs.Excerpts.{Excerpt, excerpts_in_turn, include_excerpt, line_without_notice}
use Rattle.deck_lines.specs.Includes.{include_not_read, most_include_depth}
use Rattle.deck_lines.specs.Limits.{pass_store_limit}
use Rattle.deck_lines.specs.LineLoads.{LoadPart, load_of_answer, load_of_excerpt, load_of_file}
use Rattle.deck_lines.specs.LoadLaws.{LoadAskLaw, failed_load_fetch}
use Rattle.deck_lines.specs.Marks.{plain_store_line}
use Rattle.deck_lines.specs.Transcripts.{Asks, Fails, Load, TranscriptFetch, Yields, load_after_fetch, loads_in_turn}
use Rattle.deck_lines.specs.declared.draft.LoadFault.{LoadFault}
use Rattle.deck_lines.specs.declared.draft.LoadFault.TheVariants.{DeckFull, ReadFailed}
use Rattle.deck_lines.proofs.PartInduction.{both_parts, include_part, of_above}

-- a part with this outcome by these fetches leaves all that follow them; if it asks for a file, it ends with the failed
-- fetch of that file
abbrev GoesOn : LoadPart → Excerpt → List TranscriptFetch → Load LoadFault → Type 0
GoesOn part before fetches (Yields now rest) =
    (more : List TranscriptFetch) → part before (fetches ++ more) ≡ Yields now (rest ++ more)
GoesOn part before fetches (Fails fault rest) =
    (more : List TranscriptFetch) → part before (fetches ++ more) ≡ Fails fault (rest ++ more)
GoesOn part before fetches (Asks file []) =
    (more : List TranscriptFetch) → part before (fetches ++ failed_load_fetch file ∷ more) ≡ Fails ReadFailed more
GoesOn part before fetches (Asks file (f ∷ rest)) = ⊤

abbrev AlwaysGoesOn : LoadPart → Type 0
AlwaysGoesOn part = (before : Excerpt) (fetches : List TranscriptFetch)
    → GoesOn part before fetches (part before fetches)

excerpt_load_goes_on : (excerpt : Excerpt) → AlwaysGoesOn (load_of_excerpt excerpt)
excerpt_load_goes_on excerpt before fetches = by (pass_store_limit (before.lines ++ excerpt.lines)) refl
  where
    by : (b : Bool) → pass_store_limit (before.lines ++ excerpt.lines) ≡ b
        → GoesOn (load_of_excerpt excerpt) before fetches
        (cond b (Fails DeckFull fetches) (Yields (excerpts_in_turn before excerpt) fetches))
    by true e = λ more. rw e refl
    by false e = λ more. rw e refl

load_parts_go_on : (first second : LoadPart) → AlwaysGoesOn first → AlwaysGoesOn second
    → AlwaysGoesOn (both_parts first second)
load_parts_go_on first second h g before fetches = by (first before fetches) (h before fetches)
  where
    after : (now : Excerpt) (rest : List TranscriptFetch) (load : Load LoadFault)
        → ((more : List TranscriptFetch) → first before (fetches ++ more) ≡ Yields now (rest ++ more))
        → GoesOn second now rest load → GoesOn (both_parts first second) before fetches load
    after now rest (Yields end left) e p = λ more. ap (λ l. loads_in_turn l second) (e more) ∙ p more
    after now rest (Fails fault left) e p = λ more. ap (λ l. loads_in_turn l second) (e more) ∙ p more
    after now rest (Asks file []) e p = λ more.
        ap (λ l. loads_in_turn l second) (e (failed_load_fetch file ∷ more)) ∙ p more
    after now rest (Asks file (f ∷ left)) e p = tt

    by : (load : Load LoadFault) → GoesOn first before fetches load
        → GoesOn (both_parts first second) before fetches (loads_in_turn load second)
    by (Yields now rest) p = after now rest (second now rest) p (g now rest)
    by (Fails fault rest) p = λ more. ap (λ l. loads_in_turn l second) (p more)
    by (Asks file []) p = λ more. ap (λ l. loads_in_turn l second) (p more)
    by (Asks file (f ∷ rest)) p = tt

module _ (load : List ℕ → LoadPart) (includer name : List ℕ) (line : Line)
    (each : (bytes : List ℕ) → AlwaysGoesOn (load bytes)) where
  answer_goes_on : (answer : Result (List ℕ) FetchFault) → AlwaysGoesOn (load_of_answer load includer name line answer)
  answer_goes_on (Ok bytes) =
      load_parts_go_on (load_of_excerpt (line_without_notice line)) (load bytes)
      (excerpt_load_goes_on (line_without_notice line))
      (each bytes)
  answer_goes_on (Err fetch.Failed) = λ before fetches more. refl
  answer_goes_on (Err fetch.OutOfMemory) = λ before fetches more. refl
  answer_goes_on (Err fetch.Absent) =
      excerpt_load_goes_on (include_excerpt includer line (include_not_read name fetch.Absent))
  answer_goes_on (Err fetch.TooLong) =
      excerpt_load_goes_on (include_excerpt includer line (include_not_read name fetch.TooLong))

  -- a part that begins with a fetch goes on as the part after it
  fetched : (whole part : LoadPart) (before : Excerpt) (f : TranscriptFetch) (fetches : List TranscriptFetch)
      (outcome : Load LoadFault)
      → ((more : List TranscriptFetch) → whole before (f ∷ more) ≡ part before more)
      → GoesOn part before fetches outcome
      → GoesOn whole before (f ∷ fetches) outcome
  fetched whole part before f fetches (Yields now rest) e p = λ more. e (fetches ++ more) ∙ p more
  fetched whole part before f fetches (Fails fault rest) e p = λ more. e (fetches ++ more) ∙ p more
  fetched whole part before f fetches (Asks file []) e p = λ more. e (fetches ++ failed_load_fetch file ∷ more) ∙ p more
  fetched whole part before f fetches (Asks file (g ∷ rest)) e p = tt

  include_goes_on : AlwaysGoesOn (include_part load includer name line)
  include_goes_on before fetches =
      by_room (pass_store_limit (before.lines ++ plain_store_line line.number line.text ∷ [])) refl
    where
      by_fetch : (fits : pass_store_limit (before.lines ++ plain_store_line line.number line.text ∷ []) ≡ false)
          (f : TranscriptFetch) (rest : List TranscriptFetch) (b : Bool) → bytes_eq name f.name ≡ b
          → GoesOn (include_part load includer name line) before (f ∷ rest)
          (cond b (load_of_answer load includer name line f.answer before rest) (Asks name (f ∷ rest)))
      by_fetch fits f rest true e =
          fetched (include_part load includer name line) (load_of_answer load includer name line f.answer) before f rest
          (load_of_answer load includer name line f.answer before rest) (λ more. rw (fits, e) refl)
          (answer_goes_on f.answer before rest)
      by_fetch fits f rest false e = tt

      with_room : (fetches : List TranscriptFetch)
          → pass_store_limit (before.lines ++ plain_store_line line.number line.text ∷ []) ≡ false
          → GoesOn (include_part load includer name line) before fetches
          (load_after_fetch name (λ answer. load_of_answer load includer name line answer before) fetches)
      with_room [] fits = λ more.
          let same : bytes_eq name name ≡ true = (bytes_eq-Decides name name).1 refl in
          rw (fits, same) refl
      with_room (f ∷ rest) fits = by_fetch fits f rest (bytes_eq name f.name) refl

      by_room : (b : Bool) → pass_store_limit (before.lines ++ plain_store_line line.number line.text ∷ []) ≡ b
          → GoesOn (include_part load includer name line) before fetches (cond b (Fails DeckFull fetches)
          (load_after_fetch name (λ answer. load_of_answer load includer name line answer before) fetches))
      by_room true e = λ more. rw e refl
      by_room false e = with_room fetches e

-- the law of a load that asks for a file
pub load_ask_law : LoadAskLaw
load_ask_law name bytes file before transcript rest e =
    subst (GoesOn load before transcript) e
    (of_above AlwaysGoesOn (record {
      of_excerpt = excerpt_load_goes_on;
      of_both = load_parts_go_on;
      of_include = include_goes_on;
    }) most_include_depth name bytes before transcript) rest
  where
    load : LoadPart
    load = load_of_file name bytes
