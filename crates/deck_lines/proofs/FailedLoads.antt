-- Loads that a failed fetch ends.
use Rattle.std.proofs.Common.{◌≡◌, ◌++◌, ◌∷◌, [], ℕ, List, Bool, true, false, cond, refl, subst, ◌∙◌, Result, Ok, Err}
use Rattle.std.specs.Bool.{⊤}
use Rattle.std.specs.Str.{bytes_eq}
use Rattle.units_io.specs.Faults.{next_io_count}
use Rattle.units_io.specs.declared.files.FetchFault.{FetchFault}
use Rattle.units_io.specs.declared.files.FetchFault.TheVariants as fetch
use Rattle.def_lines.specs.declared.line.Line.{Line}
use Rattle.deck_lines.specs.Excerpts.{Excerpt, excerpts_in_turn, line_without_notice, include_excerpt}
use Rattle.deck_lines.specs.Includes.{include_not_read, most_include_depth}
use Rattle.deck_lines.specs.Limits.{pass_store_limit}
use Rattle.deck_lines.specs.LineLoads.{LoadPart, load_of_answer, load_of_excerpt, faults_after_load}
use Rattle.deck_lines.specs.LoadLaws.{LoadFailureLaw}
use Rattle.deck_lines.specs.Marks.{plain_store_line}
use Rattle.deck_lines.specs.Transcripts.{Asks, Fails, Load, TranscriptFetch, Yields, load_after_fetch}
use Rattle.deck_lines.specs.Transcripts.{load_faults_after_fetches, load_outcome, loads_in_turn}
use Rattle.deck_lines.specs.declared.draft.LoadFault.{LoadFault}
use Rattle.deck_lines.specs.declared.draft.LoadFault.TheVariants.{DeckFull, ReadFailed, OutOfMemory}
use Rattle.deck_lines.proofs.PartInduction.{both_parts, include_part, of_above}

-- the count after these fetches is that after the fetches that the load leaves, with one more if a fetch failed
abbrev CountsFaults : List TranscriptFetch → Load LoadFault → Type 0
CountsFaults fetches (Yields now rest) =
    (faults : ℕ) → load_faults_after_fetches faults fetches ≡ load_faults_after_fetches faults rest
CountsFaults fetches (Fails ReadFailed rest) =
    (faults : ℕ) → load_faults_after_fetches faults fetches ≡ load_faults_after_fetches (next_io_count faults) rest
CountsFaults fetches (Fails fault rest) =
    (faults : ℕ) → load_faults_after_fetches faults fetches ≡ load_faults_after_fetches faults rest
CountsFaults fetches (Asks name rest) = ⊤

abbrev IsCounted : LoadPart → Type 0
IsCounted part = (before : Excerpt) (fetches : List TranscriptFetch) → CountsFaults fetches (part before fetches)

excerpt_load_faults_counted : (excerpt : Excerpt) → IsCounted (load_of_excerpt excerpt)
excerpt_load_faults_counted excerpt before fetches = by (pass_store_limit (before.lines ++ excerpt.lines))
  where
    by : (b : Bool) → CountsFaults fetches
        (cond b (Fails DeckFull fetches) (Yields (excerpts_in_turn before excerpt) fetches))
    by true = λ faults. refl
    by false = λ faults. refl

load_parts_faults_counted : (first second : LoadPart) → IsCounted first → IsCounted second
    → IsCounted (both_parts first second)
load_parts_faults_counted first second h g before fetches = by (first before fetches) (h before fetches)
  where
    after : (rest : List TranscriptFetch) (load : Load LoadFault)
        → ((faults : ℕ) → load_faults_after_fetches faults fetches ≡ load_faults_after_fetches faults rest)
        → CountsFaults rest load → CountsFaults fetches load
    after rest (Yields now left) e p = λ faults. e faults ∙ p faults
    after rest (Fails ReadFailed left) e p = λ faults. e faults ∙ p faults
    after rest (Fails DeckFull left) e p = λ faults. e faults ∙ p faults
    after rest (Fails OutOfMemory left) e p = λ faults. e faults ∙ p faults
    after rest (Asks name left) e p = tt

    by : (load : Load LoadFault) → CountsFaults fetches load → CountsFaults fetches (loads_in_turn load second)
    by (Yields now rest) p = after rest (second now rest) p (g now rest)
    by (Fails ReadFailed rest) p = p
    by (Fails DeckFull rest) p = p
    by (Fails OutOfMemory rest) p = p
    by (Asks name rest) p = tt

module _ (load : List ℕ → LoadPart) (includer name : List ℕ) (line : Line)
    (each : (bytes : List ℕ) → IsCounted (load bytes)) where
  answer_counted : (file : List ℕ) (answer : Result (List ℕ) FetchFault) (before : Excerpt)
      (fetches : List TranscriptFetch)
      → CountsFaults (record { name = file; answer = answer } ∷ fetches)
      (load_of_answer load includer name line answer before fetches)
  answer_counted file (Ok bytes) before fetches =
      same (both_parts (load_of_excerpt (line_without_notice line)) (load bytes) before fetches)
      (load_parts_faults_counted (load_of_excerpt (line_without_notice line)) (load bytes)
      (excerpt_load_faults_counted (line_without_notice line)) (each bytes) before fetches)
    where
      same : (outcome : Load LoadFault) → CountsFaults fetches outcome
          → CountsFaults (record { name = file; answer = Ok bytes } ∷ fetches) outcome
      same (Yields now left) p = p
      same (Fails ReadFailed left) p = p
      same (Fails DeckFull left) p = p
      same (Fails OutOfMemory left) p = p
      same (Asks n left) p = tt
  answer_counted file (Err fetch.Failed) before fetches = λ faults. refl
  answer_counted file (Err fetch.OutOfMemory) before fetches = λ faults. refl
  answer_counted file (Err fetch.Absent) before fetches = by (pass_store_limit (before.lines ++ absent.lines))
    where
      absent : Excerpt
      absent = include_excerpt includer line (include_not_read name fetch.Absent)

      by : (b : Bool) → CountsFaults (record { name = file; answer = Err fetch.Absent } ∷ fetches)
          (cond b (Fails DeckFull fetches) (Yields (excerpts_in_turn before absent) fetches))
      by true = λ faults. refl
      by false = λ faults. refl
  answer_counted file (Err fetch.TooLong) before fetches = by (pass_store_limit (before.lines ++ long.lines))
    where
      long : Excerpt
      long = include_excerpt includer line (include_not_read name fetch.TooLong)

      by : (b : Bool) → CountsFaults (record { name = file; answer = Err fetch.TooLong } ∷ fetches)
          (cond b (Fails DeckFull fetches) (Yields (excerpts_in_turn before long) fetches))
      by true = λ faults. refl
      by false = λ faults. refl

  fetch_counted : (before : Excerpt) (fetches : List TranscriptFetch)
      → CountsFaults fetches
      (load_after_fetch name (λ answer. load_of_answer load includer name line answer before) fetches)
  fetch_counted before [] = tt
  fetch_counted before (f ∷ fetches) = by (bytes_eq name f.name)
    where
      by : (b : Bool) → CountsFaults (f ∷ fetches)
          (cond b (load_of_answer load includer name line f.answer before fetches) (Asks name (f ∷ fetches)))
      by true = answer_counted f.name f.answer before fetches
      by false = tt

  include_counted : IsCounted (include_part load includer name line)
  include_counted before fetches = by (pass_store_limit (before.lines ++ plain_store_line line.number line.text ∷ []))
    where
      by : (b : Bool) → CountsFaults fetches (cond b (Fails DeckFull fetches)
          (load_after_fetch name (λ answer. load_of_answer load includer name line answer before) fetches))
      by true = λ faults. refl
      by false = fetch_counted before fetches

-- the law of failed fetches
pub load_failure_law : LoadFailureLaw
load_failure_law name bytes before outcome transcript faults e =
    by outcome
    (subst (CountsFaults transcript) e
    (of_above IsCounted (record {
      of_excerpt = excerpt_load_faults_counted;
      of_both = load_parts_faults_counted;
      of_include = include_counted;
    }) most_include_depth name bytes before transcript))
  where
    by : (outcome : Result Excerpt LoadFault) → CountsFaults transcript (load_outcome outcome [])
        → load_faults_after_fetches faults transcript ≡ faults_after_load faults outcome
    by (Ok now) p = p faults
    by (Err ReadFailed) p = p faults
    by (Err DeckFull) p = p faults
    by (Err OutOfMemory) p = p faults
