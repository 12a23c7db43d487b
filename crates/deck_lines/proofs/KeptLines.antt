-- Loads keep the lines that are there before them.
use Rattle.std.proofs.Common.{◌≡◌, ◌++◌, ◌∷◌, [], List, Bool, true, false, cond, refl, ap, subst, ◌∙◌, append_assoc}
use Rattle.std.proofs.Common.{Result, Ok, Err}
use Rattle.std.specs.Bool.{⊤}
use Rattle.std.specs.Str.{bytes_eq}
use Rattle.std.specs.Prelude.{ℕ}
use Rattle.units_io.specs.declared.files.FetchFault.{FetchFault}
use Rattle.units_io.specs.declared.files.FetchFault.TheVariants as fetch
use Rattle.def_lines.specs.declared.line.Line.{Line}
use Rattle.deck_lines.specs.Excerpts.{Excerpt, excerpts_in_turn, include_excerpt, line_without_notice}
use Rattle.deck_lines.specs.Includes.{include_not_read, most_include_depth}
use Rattle.deck_lines.specs.Limits.{pass_store_limit}
use Rattle.deck_lines.specs.LineLoads.{LoadPart, load_of_answer, load_of_excerpt}
use Rattle.deck_lines.specs.LoadLaws.{LoadKeepsLinesLaw}
use Rattle.deck_lines.specs.Marks.{plain_store_line}
use Rattle.deck_lines.specs.Transcripts.{Asks, Fails, Load, TranscriptFetch, Yields, load_after_fetch, loads_in_turn}
use Rattle.deck_lines.specs.declared.draft.LoadFault.{LoadFault}
use Rattle.deck_lines.specs.declared.draft.LoadFault.TheVariants.{DeckFull}
use Rattle.deck_lines.specs.declared.line.DeckLine.{DeckLine}
use Rattle.deck_lines.proofs.PartInduction.{both_parts, include_part, of_above}

-- if a load yields lines, they begin with these
abbrev BeginsWith : List DeckLine → Load LoadFault → Type 0
BeginsWith lines (Yields now rest) = (more : List DeckLine) × (now.lines ≡ lines ++ more)
BeginsWith lines (Fails fault rest) = ⊤
BeginsWith lines (Asks name rest) = ⊤

abbrev KeepsLines : LoadPart → Type 0
KeepsLines part = (before : Excerpt) (fetches : List TranscriptFetch) → BeginsWith before.lines (part before fetches)

excerpt_load_keeps_lines : (excerpt : Excerpt) → KeepsLines (load_of_excerpt excerpt)
excerpt_load_keeps_lines excerpt before fetches = by (pass_store_limit (before.lines ++ excerpt.lines))
  where
    by : (b : Bool) → BeginsWith before.lines
        (cond b (Fails DeckFull fetches) (Yields (excerpts_in_turn before excerpt) fetches))
    by true = tt
    by false = (excerpt.lines, refl)

load_parts_keep_lines : (first second : LoadPart) → KeepsLines first → KeepsLines second
    → KeepsLines (both_parts first second)
load_parts_keep_lines first second h g before fetches = by (first before fetches) (h before fetches)
  where
    after : (now : Excerpt) (more : List DeckLine) (load : Load LoadFault) → now.lines ≡ before.lines ++ more
        → BeginsWith now.lines load → BeginsWith before.lines load
    after now more (Yields end rest) e p =
        (more ++ p.0, p.1 ∙ ap (λ lines. lines ++ p.0) e ∙ append_assoc before.lines more p.0)
    after now more (Fails fault rest) e p = tt
    after now more (Asks name rest) e p = tt

    by : (load : Load LoadFault) → BeginsWith before.lines load → BeginsWith before.lines (loads_in_turn load second)
    by (Yields now rest) p = after now p.0 (second now rest) p.1 (g now rest)
    by (Fails fault rest) p = tt
    by (Asks name rest) p = tt

module _ (load : List ℕ → LoadPart) (includer name : List ℕ) (line : Line)
    (each : (bytes : List ℕ) → KeepsLines (load bytes)) where
  answer_keeps : (answer : Result (List ℕ) FetchFault) → KeepsLines (load_of_answer load includer name line answer)
  answer_keeps (Ok bytes) =
      load_parts_keep_lines (load_of_excerpt (line_without_notice line)) (load bytes)
      (excerpt_load_keeps_lines (line_without_notice line))
      (each bytes)
  answer_keeps (Err fetch.Failed) = λ before fetches. tt
  answer_keeps (Err fetch.OutOfMemory) = λ before fetches. tt
  answer_keeps (Err fetch.Absent) =
      excerpt_load_keeps_lines (include_excerpt includer line (include_not_read name fetch.Absent))
  answer_keeps (Err fetch.TooLong) =
      excerpt_load_keeps_lines (include_excerpt includer line (include_not_read name fetch.TooLong))

  fetch_keeps : (before : Excerpt) (fetches : List TranscriptFetch)
      → BeginsWith before.lines
      (load_after_fetch name (λ answer. load_of_answer load includer name line answer before) fetches)
  fetch_keeps before [] = tt
  fetch_keeps before (f ∷ fetches) = by (bytes_eq name f.name)
    where
      by : (b : Bool) → BeginsWith before.lines
          (cond b (load_of_answer load includer name line f.answer before fetches) (Asks name (f ∷ fetches)))
      by true = answer_keeps f.answer before fetches
      by false = tt

  include_keeps : KeepsLines (include_part load includer name line)
  include_keeps before fetches = by (pass_store_limit (before.lines ++ plain_store_line line.number line.text ∷ []))
    where
      by : (b : Bool) → BeginsWith before.lines (cond b (Fails DeckFull fetches)
          (load_after_fetch name (λ answer. load_of_answer load includer name line answer before) fetches))
      by true = tt
      by false = fetch_keeps before fetches

-- the law of the lines before a load
pub load_keeps_lines_law : LoadKeepsLinesLaw
load_keeps_lines_law name bytes before now transcript rest e =
    subst (BeginsWith before.lines) e
    (of_above KeepsLines (record {
      of_excerpt = excerpt_load_keeps_lines;
      of_both = load_parts_keep_lines;
      of_include =
          include_keeps;
    })
    most_include_depth name bytes before transcript)
