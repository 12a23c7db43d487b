-- Loads of files whose contents are known.
use Rattle.std.proofs.Common.{◌≡◌, ◌⊎◌, ◌++◌, ◌∷◌, [], ℕ, zero, suc, List, Bool, true, false, cond, refl, sym, ap}
use Rattle.std.proofs.Common.{subst}
use Rattle.std.proofs.Common.{◌∙◌, arith, append_assoc, length, length-append, Result, Ok, Err, Some, inl, inr, codes}
use Rattle.std.proofs.lemmas.Bool.Decides.{nat_tests}
use Rattle.std.proofs.lemmas.List.Sums.{sum_by-append}
use Rattle.std.proofs.lemmas.Slice.Eq.{bytes_eq-Decides}
use Rattle.std.specs.Bool.{⊤}
use Rattle.std.specs.Str.{bytes_eq}
use Rattle.units_io.specs.FileMap.{FileMap, file_of_name}
use Rattle.units_io.specs.FetchResults.{IsFileFetched, file_fetch_answer}
use Rattle.units_io.specs.declared.files.FetchFault.{FetchFault}
use Rattle.units_io.specs.declared.files.FetchFault.TheVariants as fetch
use Rattle.def_lines.specs.declared.line.Line.{Line}
use Rattle.def_lines.specs.Lines.{logical_lines, nonblank_lines}
use Rattle.deck_lines.specs.Excerpts.{Excerpt, Included, NotRead, Read, blocks_behind_line, excerpt_of_file_end}
use Rattle.deck_lines.specs.Excerpts.{excerpts_in_turn, include_excerpt, line_excerpt, line_with_notice}
use Rattle.deck_lines.specs.Excerpts.{line_without_notice, rest_excerpt}
use Rattle.deck_lines.specs.Includes.{excerpt_of_deck_above, excerpt_of_deck_file, included_below, included_by}
use Rattle.deck_lines.specs.Includes.{included_name, most_include_depth, include_of_answer}
use Rattle.deck_lines.specs.Limits.{pass_store_limit}
use Rattle.deck_lines.specs.LineLoads.{LoadPart, load_above, load_below, load_of_answer, load_of_excerpt}
use Rattle.deck_lines.specs.LineLoads.{load_of_line, load_of_rest}
use Rattle.deck_lines.specs.LoadLaws.{KnownLoadLaw, excerpt_within_limit}
use Rattle.deck_lines.specs.Marks.{marked_store_line, plain_store_line}
use Rattle.deck_lines.specs.Readings.{StoreLineReading, Stands, Defines, Includes, Faulty, store_line_reading_of}
use Rattle.deck_lines.specs.Transcripts.{AreTranscriptAnswersOf, Asks, Fails, Load, TranscriptFetch, Yields}
use Rattle.deck_lines.specs.Transcripts.{load_after_fetch, load_outcome, loads_in_turn}
use Rattle.deck_lines.specs.declared.draft.LoadFault.{LoadFault}
use Rattle.deck_lines.specs.declared.draft.LoadFault.TheVariants.{DeckFull, ReadFailed, OutOfMemory}
use Rattle.deck_lines.specs.declared.line.Block.{Block}
use Rattle.deck_lines.specs.declared.line.DeckLine.{DeckLine}
use Rattle.deck_lines.proofs.DraftAppends.{store_limit_passed_with_more}
use Rattle.deck_lines.proofs.PartInduction.{include_part}

-- an excerpt with these lines and notices
abbrev made : List DeckLine → List (List ℕ) → Excerpt
made lines notices = record { lines = lines; notices = notices }

-- appending excerpts in turn is associative
excerpts_in_turn-in_turn : (a b c : Excerpt) → excerpts_in_turn (excerpts_in_turn a b) c ≡ excerpts_in_turn a
    (excerpts_in_turn b c)
excerpts_in_turn-in_turn a b c =
    ap (λ lines. made lines ((a.notices ++ b.notices) ++ c.notices)) (append_assoc a.lines b.lines c.lines)
    ∙ ap (made (a.lines ++ (b.lines ++ c.lines))) (append_assoc a.notices b.notices c.notices)

-- this outcome of a part appends the excerpt, and the answers that are left are those of the files; or the lines have
-- no room; or a fetch failed or memory ran out
abbrev IsKnownEnd : FileMap → Excerpt → Excerpt → Load LoadFault → Type 0
IsKnownEnd m excerpt before (Yields now rest) =
    (now ≡ excerpts_in_turn before excerpt) × (pass_store_limit now.lines ≡ false) × AreTranscriptAnswersOf
    (Some m) rest
IsKnownEnd m excerpt before (Fails DeckFull rest) = pass_store_limit (before.lines ++ excerpt.lines) ≡ true
IsKnownEnd m excerpt before (Fails fault rest) = ⊤
IsKnownEnd m excerpt before (Asks name rest) = ⊤

-- with answers of the files, a part of a load has such an outcome
abbrev IsKnown : FileMap → Excerpt → LoadPart → Type 0
IsKnown m excerpt part =
    (before : Excerpt) (fetches : List TranscriptFetch) → AreTranscriptAnswersOf (Some m) fetches
    → IsKnownEnd m excerpt before (part before fetches)

module _ (m : FileMap) where
  -- the load of an excerpt
  excerpt_known : (excerpt : Excerpt) → IsKnown m excerpt (load_of_excerpt excerpt)
  excerpt_known excerpt before fetches h = by (pass_store_limit (before.lines ++ excerpt.lines)) refl
    where
      by : (b : Bool) → pass_store_limit (before.lines ++ excerpt.lines) ≡ b
          → IsKnownEnd m excerpt before
          (cond b (Fails DeckFull fetches) (Yields (excerpts_in_turn before excerpt) fetches))
      by true e = e
      by false e = (refl, e, h)

  -- if the first part of an excerpt has no room, the whole has none
  full_more : (before a b : Excerpt) → pass_store_limit (before.lines ++ a.lines) ≡ true
      → pass_store_limit (before.lines ++ (excerpts_in_turn a b).lines) ≡ true
  full_more before a b e = sym (ap pass_store_limit (append_assoc before.lines a.lines b.lines))
      ∙ store_limit_passed_with_more (before.lines ++ a.lines) b.lines e

  -- two parts of a load in turn
  in_turn_known : (a b : Excerpt) (first second : LoadPart) → IsKnown m a first → IsKnown m b second
      → IsKnown m (excerpts_in_turn a b) (λ before fetches. loads_in_turn (first before fetches) second)
  in_turn_known a b first second h g before fetches answers = by (first before fetches) (h before fetches answers)
    where
      after : (now : Excerpt) (load : Load LoadFault) → now ≡ excerpts_in_turn before a → IsKnownEnd m b now load
          → IsKnownEnd m (excerpts_in_turn a b) before load
      after now (Yields end rest) e p =
          (p.0 ∙ ap (λ t. excerpts_in_turn t b) e ∙ excerpts_in_turn-in_turn before a b, p.1, p.2)
      after now (Fails DeckFull rest) e p =
          sym (ap (λ (t : Excerpt). pass_store_limit (t.lines ++ b.lines)) e
          ∙ ap pass_store_limit (append_assoc before.lines a.lines b.lines)) ∙ p
      after now (Fails ReadFailed rest) e p = tt
      after now (Fails OutOfMemory rest) e p = tt
      after now (Asks name rest) e p = tt

      by : (load : Load LoadFault) → IsKnownEnd m a before load
          → IsKnownEnd m (excerpts_in_turn a b) before (loads_in_turn load second)
      by (Yields now rest) p = after now (second now rest) p.0 (g now rest p.2)
      by (Fails DeckFull rest) p = full_more before a b p
      by (Fails ReadFailed rest) p = tt
      by (Fails OutOfMemory rest) p = tt
      by (Asks name rest) p = tt

  -- the parts of a file, given those of its include lines
  module _ (includes : List ℕ → Line → LoadPart) (inc : List ℕ → Included) (file : List ℕ)
      (each : (word : List ℕ) (line : Line) → IsKnown m (include_excerpt file line (inc word)) (includes word line))
    where
      line_known : (blocks : List Block) (line : Line) (reading : StoreLineReading)
          → IsKnown m (line_excerpt inc file blocks line reading) (load_of_line includes file blocks line reading)
      line_known blocks line (Includes word) = each word line
      line_known blocks line (Stands role) = excerpt_known (line_excerpt inc file blocks line (Stands role))
      line_known blocks line (Defines entry) = excerpt_known (line_without_notice line)
      line_known blocks line (Faulty text) = excerpt_known (line_with_notice file line text)

      rest_known : (lines : List Line) (blocks : List Block)
          → IsKnown m (rest_excerpt inc file blocks lines) (load_of_rest includes file blocks lines)
      unfolding load_of_rest rest_excerpt
      rest_known [] blocks = excerpt_known (excerpt_of_file_end file blocks)
      rest_known (line ∷ lines) blocks =
          in_turn_known (line_excerpt inc file blocks line (store_line_reading_of line.text))
          (rest_excerpt inc file (blocks_behind_line blocks line (store_line_reading_of line.text)) lines)
          (load_of_line includes file blocks line (store_line_reading_of line.text))
          (load_of_rest includes file (blocks_behind_line blocks line (store_line_reading_of line.text)) lines)
          (line_known blocks line (store_line_reading_of line.text))
          (rest_known lines (blocks_behind_line blocks line (store_line_reading_of line.text)))

  -- a line with the mark needs as much room as one without
  same_room : (lines : List DeckLine) (line : Line)
      → pass_store_limit (lines ++ plain_store_line line.number line.text ∷ [])
      ≡ pass_store_limit (lines ++ marked_store_line line.number line.text ∷ [])
  unfolding pass_store_limit
  same_room lines line =
      grind (
        arith,
        nat_tests,
        length-append {A = DeckLine} lines (plain_store_line line.number line.text ∷ []),
        length-append {A = DeckLine} lines (marked_store_line line.number line.text ∷ []),
        sum_by-append (λ (l : DeckLine). length l.text) lines (plain_store_line line.number line.text ∷ []),
        sum_by-append (λ (l : DeckLine). length l.text) lines (marked_store_line line.number line.text ∷ []),
      )

  -- if an include line has no room, the include has none
  include_full : (before : Excerpt) (includer : List ℕ) (line : Line) (included : Included)
      → pass_store_limit (before.lines ++ plain_store_line line.number line.text ∷ []) ≡ true
      → pass_store_limit (before.lines ++ (include_excerpt includer line included).lines) ≡ true
  include_full before includer line (Read excerpt) e = full_more before (line_without_notice line) excerpt e
  include_full before includer line (NotRead text) e = sym (same_room before.lines line) ∙ e

  -- the load of an include line with an answer of the files
  answer_known : (depth : ℕ) (includer name : List ℕ) (line : Line) (answer : Result (List ℕ) FetchFault)
      → ((bytes : List ℕ) → IsKnown m (excerpt_of_deck_above m depth name bytes) (load_above depth name bytes))
      → IsFileFetched m name answer
      → IsKnown m (include_excerpt includer line
      (include_of_answer (included_by m depth name) name (file_fetch_answer (file_of_name m name))))
      (load_of_answer (load_above depth name) includer name line answer)
  answer_known depth includer name line (Ok bytes) each may =
      subst (λ a. IsKnown m (include_excerpt includer line (include_of_answer (included_by m depth name) name a))
      (load_of_answer (load_above depth name) includer name line (Ok bytes))) (sym may)
      (in_turn_known (line_without_notice line) (excerpt_of_deck_above m depth name bytes)
      (load_of_excerpt (line_without_notice line)) (load_above depth name bytes)
      (excerpt_known (line_without_notice line)) (each bytes))
  answer_known depth includer name line (Err fetch.Absent) each may =
      subst (λ a. IsKnown m (include_excerpt includer line (include_of_answer (included_by m depth name) name a))
      (load_of_answer (load_above depth name) includer name line (Err fetch.Absent))) (sym may)
      (excerpt_known (line_with_notice includer line (codes "no file: " ++ name)))
  answer_known depth includer name line (Err fetch.TooLong) each may =
      subst (λ a. IsKnown m (include_excerpt includer line (include_of_answer (included_by m depth name) name a))
      (load_of_answer (load_above depth name) includer name line (Err fetch.TooLong))) (sym may)
      (excerpt_known (line_with_notice includer line (codes "file too long: " ++ name)))
  answer_known depth includer name line (Err fetch.Failed) each may = λ before fetches h. tt
  answer_known depth includer name line (Err fetch.OutOfMemory) each may = λ before fetches h. tt

  -- the load of an include line, whose next fetch is of its file or of another
  fetch_known : (excerpt before : Excerpt) (name : List ℕ) (part : Result (List ℕ) FetchFault → LoadPart)
      (fetches : List TranscriptFetch)
      → ((answer : Result (List ℕ) FetchFault) → IsFileFetched m name answer → IsKnown m excerpt (part answer))
      → AreTranscriptAnswersOf (Some m) fetches
      → IsKnownEnd m excerpt before (load_after_fetch name (λ answer. part answer before) fetches)
  fetch_known excerpt before name part [] each answers = tt
  fetch_known excerpt before name part (f ∷ fetches) each answers = by (bytes_eq name f.name) refl
    where
      by : (b : Bool) → bytes_eq name f.name ≡ b
          → IsKnownEnd m excerpt before (cond b (part f.answer before fetches) (Asks name (f ∷ fetches)))
      by true e = each f.answer
          (subst (λ n. IsFileFetched m n f.answer) (sym ((bytes_eq-Decides name f.name).0 e)) answers.0) before fetches
          answers.1
      by false e = tt

  -- the load of an include line, given those of files that are less deep
  include_known : (depth : ℕ) (includer name : List ℕ) (line : Line)
      → ((bytes : List ℕ) → IsKnown m (excerpt_of_deck_above m depth name bytes) (load_above depth name bytes))
      → IsKnown m (include_excerpt includer line
      (include_of_answer (included_by m depth name) name (file_fetch_answer (file_of_name m name))))
      (include_part (load_above depth name) includer name line)
  include_known depth includer name line each before fetches answers =
      by (pass_store_limit (before.lines ++ plain_store_line line.number line.text ∷ [])) refl
    where
      include : Excerpt
      include = include_excerpt includer line
          (include_of_answer (included_by m depth name) name (file_fetch_answer (file_of_name m name)))

      by : (b : Bool) → pass_store_limit (before.lines ++ plain_store_line line.number line.text ∷ []) ≡ b
          → IsKnownEnd m include before (cond b (Fails DeckFull fetches)
          (load_after_fetch name
          (λ answer. load_of_answer (load_above depth name) includer name line answer before) fetches))
      by true e = include_full before includer line
          (include_of_answer (included_by m depth name) name (file_fetch_answer (file_of_name m name))) e
      by false e = fetch_known include before name (load_of_answer (load_above depth name) includer name line) fetches
          (λ answer may. answer_known depth includer name line answer each may) answers

  below_known : (depth : ℕ) (includer name : List ℕ) (line : Line)
      → IsKnown m (include_excerpt includer line (included_below m depth name)) (load_below depth includer name line)
  unfolding load_below included_below
  below_known zero includer name line = excerpt_known
      (line_with_notice includer line (codes "include too deep: " ++ name))
  below_known (suc depth) includer name line =
      include_known depth includer name line
      (λ bytes. rest_known (λ word. load_below depth name (included_name name word)) (included_by m depth name) name
      (λ word x. below_known depth name (included_name name word) x) (nonblank_lines (logical_lines bytes)) [])

-- the law of files whose contents are known
pub known_load_law : KnownLoadLaw
unfolding excerpt_of_deck_file
known_load_law m name bytes before outcome transcript left answers h =
    by outcome
    (subst (IsKnownEnd m (excerpt_of_deck_file m name bytes) before) h
    (rest_known m (λ word. load_below most_include_depth name (included_name name word))
    (included_by m most_include_depth name)
    name (λ word x. below_known m most_include_depth name (included_name name word) x)
    (nonblank_lines (logical_lines bytes)) []
    before transcript answers))
  where
    deck : Excerpt
    deck = excerpts_in_turn before (excerpt_of_deck_file m name bytes)

    by : (outcome : Result Excerpt LoadFault) → IsKnownEnd m (excerpt_of_deck_file m name bytes) before
        (load_outcome outcome left)
        → ((outcome ≡ Err ReadFailed) ⊎ (outcome ≡ Err OutOfMemory)) ⊎ (outcome ≡ excerpt_within_limit deck)
    by (Ok now) p = inr (ap Ok p.0 ∙ ap (λ b. cond b (Err DeckFull) (Ok deck))
        (sym (ap (λ (e : Excerpt). pass_store_limit e.lines) (sym p.0) ∙ p.1)))
    by (Err DeckFull) p = inr (ap (λ b. cond b (Err DeckFull) (Ok deck)) (sym p))
    by (Err ReadFailed) p = inl (inl refl)
    by (Err OutOfMemory) p = inl (inr refl)
