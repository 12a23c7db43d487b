-- Loads by transcripts, part by part.
use Rattle.std.proofs.Common.{◌≡◌, ◌++◌, ◌∷◌, ◌-◌, [], ℕ, suc, List, Bool, true, false, cond, refl, sym, ap, subst, ◌∙◌}
use Rattle.std.proofs.Common.{arith, append_assoc, Result, Ok, Err, Option, Some, None, IfSome, inl, inr, codes}
use Rattle.std.specs.Str.{bytes_eq}
use Rattle.std.proofs.lemmas.Slice.Eq.{bytes_eq-Decides}
use Rattle.std.specs.Bool.{⊤}
use Rattle.units_io.specs.FileMap.{FileMap}
use Rattle.units_io.specs.FetchResults.{IsFileFetched}
use Rattle.units_io.specs.declared.files.FetchFault.{FetchFault}
use Rattle.units_io.specs.declared.files.FetchFault.TheVariants as fetch
use Rattle.def_lines.specs.declared.line.Line.{Line}
use Rattle.deck_lines.specs.Excerpts.{Excerpt, NotRead, blocks_behind_line, excerpt_of_file_end, excerpts_in_turn}
use Rattle.deck_lines.specs.Excerpts.{line_excerpt, line_with_notice, line_without_notice}
use Rattle.deck_lines.specs.Limits.{pass_store_limit}
use Rattle.deck_lines.specs.LineLoads.{LoadPart, excerpt_in, load_above, load_below, load_of_answer, load_of_excerpt}
use Rattle.deck_lines.specs.LineLoads.{load_of_line, load_of_rest}
use Rattle.deck_lines.specs.Loads.{IsExcerptPut}
use Rattle.deck_lines.specs.Marks.{plain_store_line}
use Rattle.deck_lines.specs.Readings.{StoreLineReading, Stands, Defines, Includes, Faulty, store_line_reading_of}
use Rattle.deck_lines.specs.Transcripts.{AreTranscriptAnswersOf, LoadContinuesAs, Fails, TranscriptFetch, FetchRelation}
use Rattle.deck_lines.specs.Transcripts.{AreFetchesBetween}
use Rattle.deck_lines.specs.Transcripts.{HasTranscript, IsPartLoad, IsPartTranscript, Load, Yields, load_outcome, loads_in_turn}
use Rattle.deck_lines.specs.declared.draft.Draft.{Draft}
use Rattle.deck_lines.specs.declared.draft.LoadFault.{LoadFault}
use Rattle.deck_lines.specs.declared.draft.LoadFault.TheVariants.{DeckFull, ReadFailed, OutOfMemory}
use Rattle.deck_lines.specs.declared.line.Block.{Block}

-- the answers of two lists of fetches in turn are those of the files
transcript_answers_append : (files : Option FileMap) (first rest : List TranscriptFetch)
    → AreTranscriptAnswersOf files first → AreTranscriptAnswersOf files rest
    → AreTranscriptAnswersOf files (first ++ rest)
transcript_answers_append files [] rest h g = g
transcript_answers_append files (fetch ∷ first) rest h g = (h.0, transcript_answers_append files first rest h.1 g)

-- two lists of fetches in turn lead from the first state through the second to the third
both_between : {State : Type 0} (is_fetch : FetchRelation State) (from mid to : State)
    (first rest : List TranscriptFetch)
    → AreFetchesBetween is_fetch from mid first → AreFetchesBetween is_fetch mid to rest
    → AreFetchesBetween is_fetch from to (first ++ rest)
both_between is_fetch from mid to [] rest e h = subst (λ state. AreFetchesBetween is_fetch state to rest) e h
both_between is_fetch from mid to (fetch ∷ first) rest h g =
    (h.0, h.1, both_between is_fetch h.0 mid to first rest h.2 g)

-- a load that equals another continues as that, without a fetch
pub load_continues_at_once : {E : Type 0} (are_made : List TranscriptFetch → Type 0)
    (load later : List TranscriptFetch → Load E) → are_made []
    → ((fetches : List TranscriptFetch) → load fetches ≡ later fetches) → LoadContinuesAs are_made load later
load_continues_at_once are_made load later none h = ([], none, h)

-- a load of two parts in turn continues as the second part, after the outcome of the first
pub load_continues_in_turn : {E : Type 0} (are_made : List TranscriptFetch → Type 0)
    (part : List TranscriptFetch → Load E)
    (second : Excerpt → List TranscriptFetch → Load E) (outcome : Result Excerpt E)
    → HasTranscript are_made part outcome
    → LoadContinuesAs are_made (λ fetches. loads_in_turn (part fetches) second)
    (λ fetches. loads_in_turn (load_outcome outcome fetches) second)
load_continues_in_turn are_made part second outcome h =
    (h.0, h.1, λ rest. ap (λ load. loads_in_turn load second) (h.2 rest))

-- if the first of two parts fails, both in turn fail
pub load_fails_in_turn : {T E : Type 0} (wanting : E) (are_made : List TranscriptFetch → Type 0)
    (part : List TranscriptFetch → Load E)
    (second : Excerpt → List TranscriptFetch → Load E) (left now : T → Excerpt) (fault : E)
    → IsPartLoad wanting are_made part left
    (Err fault)
    → IsPartLoad wanting are_made (λ fetches. loads_in_turn (part fetches) second) now (Err fault)
load_fails_in_turn wanting are_made part second left now fault (inl e) = inl e
load_fails_in_turn wanting are_made part second left now fault (inr h) =
    inr (load_continues_in_turn are_made part second (Err fault) h)

-- the load of an excerpt, by whether its lines pass a limit
abbrev load_by : Bool → Excerpt → List TranscriptFetch → Load LoadFault
load_by b now fetches = cond b (Fails DeckFull fetches) (Yields now fetches)

-- an excerpt that is put is loaded, without a fetch
pub excerpt_loads : (are_made : List TranscriptFetch → Type 0) (before after : Draft) (excerpt : Excerpt)
    (r : Result (Unit {0}) LoadFault) → are_made [] → IsExcerptPut before excerpt r after
    → IsPartLoad OutOfMemory are_made (load_of_excerpt excerpt (excerpt_in before)) (λ _. excerpt_in after) r
excerpt_loads are_made before after excerpt (Ok u) none put =
    let fits : pass_store_limit (before.store.lines ++ excerpt.lines) ≡ false =
    ap (λ (d : Draft). pass_store_limit d.store.lines)
    (sym put.0) ∙ put.1 in
    load_continues_at_once are_made (load_of_excerpt excerpt (excerpt_in before)) (load_outcome (Ok (excerpt_in after)))
    none (λ fetches. ap (λ b. load_by b (excerpts_in_turn (excerpt_in before) excerpt) fetches) fits
    ∙ ap (λ d. Yields (excerpt_in d) fetches) (sym put.0))
excerpt_loads are_made before after excerpt (Err DeckFull) none put =
    inr (load_continues_at_once are_made (load_of_excerpt excerpt (excerpt_in before)) (load_outcome (Err DeckFull))
    none (λ fetches. ap (λ b. load_by b (excerpts_in_turn (excerpt_in before) excerpt) fetches) put))
excerpt_loads are_made before after excerpt (Err ReadFailed) none put = absurd put
excerpt_loads are_made before after excerpt (Err OutOfMemory) none put = inl refl

-- the meaning of a line that includes no file
abbrev IsAlone : StoreLineReading → Type 0
IsAlone (Includes word) = ⊥
IsAlone reading = ⊤

-- a line that includes no file is loaded if its own excerpt is put
pub alone_loads : (are_made : List TranscriptFetch → Type 0) (includes : List ℕ → Line → LoadPart) (file : List ℕ)
    (blocks : List Block)
    (x : Line) (reading : StoreLineReading) (before after : Draft) (r : Result (Unit {0}) LoadFault) → are_made []
    → IsAlone reading
    → reading ≡ store_line_reading_of x.text
    → IsExcerptPut before (line_excerpt (λ word. NotRead []) file blocks x reading) r after
    → IsPartLoad OutOfMemory are_made
    (load_of_line includes file blocks x (store_line_reading_of x.text) (excerpt_in before))
    (λ _. excerpt_in after) r
alone_loads are_made includes file blocks x reading before after r none alone e put =
    subst (λ t. IsPartLoad OutOfMemory are_made (load_of_line includes file blocks x t (excerpt_in before))
    (λ _. excerpt_in after) r) e (by reading alone put)
  where
    by : (t : StoreLineReading) → IsAlone t → IsExcerptPut before (line_excerpt (λ word. NotRead []) file blocks x t) r
        after
        → IsPartLoad OutOfMemory are_made (load_of_line includes file blocks x t (excerpt_in before))
        (λ _. excerpt_in after) r
    by (Includes word) h g = absurd h
    by (Stands role) h g =
        excerpt_loads are_made before after (line_excerpt (λ word. NotRead []) file blocks x (Stands role)) r none g
    by (Defines entry) h g = excerpt_loads are_made before after (line_without_notice x) r none g
    by (Faulty text) h g = excerpt_loads are_made before after (line_with_notice file x text) r none g

-- the loads of parts that make the fetches between two states of the files
module _ {State : Type 0} (files : Option FileMap) (is_fetch : FetchRelation State) where
  -- these are the fetches between the two states
  abbrev pub AreBetween : State → State → List TranscriptFetch → Type 0
  AreBetween from to fetches = IsPartTranscript files is_fetch from to fetches

  -- no fetch is made
  pub none_between : (state : State) → AreBetween state state []
  none_between state = (tt, refl)

  -- continuation is transitive
  continues_on : {E : Type 0} (from mid to : State) (load middle later : List TranscriptFetch → Load E)
      → LoadContinuesAs (AreBetween from mid) load middle → LoadContinuesAs (AreBetween mid to) middle later
      → LoadContinuesAs (AreBetween from to) load later
  continues_on from mid to load middle later first second = (
    first.0 ++ second.0,
    (
      transcript_answers_append files first.0 second.0 first.1.0 second.1.0,
      both_between is_fetch from mid to first.0 second.0 first.1.1 second.1.1,
    ),
    λ rest. ap load (append_assoc first.0 second.0 rest) ∙ first.2 (second.0 ++ rest) ∙ second.2 rest,
  )

  -- a load that continues as another one has its results
  load_ends : {T E : Type 0} (wanting : E) (from mid to : State) (load later : List TranscriptFetch → Load E)
      (left : T → Excerpt)
      (r : Result T E) → LoadContinuesAs (AreBetween from mid) load later
      → IsPartLoad wanting (AreBetween mid to) later left r
      → IsPartLoad wanting (AreBetween from to) load left r
  load_ends wanting from mid to load later left (Ok value) so_far h =
      continues_on from mid to load later (load_outcome (Ok (left value))) so_far h
  load_ends wanting from mid to load later left (Err fault) so_far (inl e) = inl e
  load_ends wanting from mid to load later left (Err fault) so_far (inr h) =
      inr (continues_on from mid to load later (load_outcome (Err fault)) so_far h)

  -- the load of a file, one line after another
  module _ (from here : State) (includes : List ℕ → Line → LoadPart) (file : List ℕ) (blocks : List Block)
      (whole : List TranscriptFetch → Load LoadFault) (mid : Draft) (ys : List Line)
      (so_far : LoadContinuesAs (AreBetween from here) whole (load_of_rest includes file blocks ys (excerpt_in mid)))
    where
      -- the load of a file ends with that of its end
      pub file_ends : (after : Draft) (r : Result (Unit {0}) LoadFault) → ys ≡ []
          → IsExcerptPut mid (excerpt_of_file_end file blocks) r after
          → IsPartLoad OutOfMemory (AreBetween from here) whole (λ _. excerpt_in after) r
      unfolding load_of_rest
      file_ends after r e put =
          load_ends OutOfMemory from here here whole (load_of_rest includes file blocks ys (excerpt_in mid))
          (λ _. excerpt_in after) r so_far
          (subst (λ lines. IsPartLoad OutOfMemory (AreBetween here here)
          (load_of_rest includes file blocks lines (excerpt_in mid)) (λ _. excerpt_in after) r) (sym e)
          (excerpt_loads (AreBetween here here) mid after (excerpt_of_file_end file blocks) r (none_between here) put))

      module _ (zs : List Line) (x : Line) (taken : ys ≡ x ∷ zs) where
        -- the load of the next line
        abbrev first : List TranscriptFetch → Load LoadFault
        first = load_of_line includes file blocks x (store_line_reading_of x.text) (excerpt_in mid)

        -- the load of the lines after it
        abbrev others : LoadPart
        others = load_of_rest includes file (blocks_behind_line blocks x (store_line_reading_of x.text)) zs

        -- the load of the next line and of the lines after it
        abbrev in_parts : List TranscriptFetch → Load LoadFault
        in_parts fetches = loads_in_turn (first fetches) others

        rest_parts : (fetches : List TranscriptFetch) → load_of_rest includes file blocks ys (excerpt_in mid) fetches
            ≡ in_parts fetches
        unfolding load_of_rest
        rest_parts fetches = ap (λ lines. load_of_rest includes file blocks lines (excerpt_in mid) fetches) taken

        -- the load of the file continues as that of the next line and the lines after it
        at_line : LoadContinuesAs (AreBetween from here) whole in_parts
        at_line = (so_far.0, so_far.1, λ rest. so_far.2 rest ∙ rest_parts rest)

        -- after a line is loaded, the load of the file continues as that of the remaining lines
        pub line_leads_on : (next : State) (now : Draft) (blocks_now : List Block)
            → blocks_now ≡ blocks_behind_line blocks x (store_line_reading_of x.text)
            → IsPartLoad {T = Unit {0}} OutOfMemory (AreBetween here next) first (λ _. excerpt_in now) (Ok tt)
            → LoadContinuesAs (AreBetween from next) whole (load_of_rest includes file blocks_now zs (excerpt_in now))
        line_leads_on next now blocks_now behind h =
            subst (λ bs. LoadContinuesAs (AreBetween from next) whole
            (load_of_rest includes file bs zs (excerpt_in now)))
            (sym behind)
            (continues_on from here next whole in_parts (others (excerpt_in now)) at_line
            (load_continues_in_turn (AreBetween here next) first others (Ok (excerpt_in now)) h))

        -- a fault at a line ends the load of the file
        pub line_ends : (next : State) (now after : Draft) (fault : LoadFault)
            → IsPartLoad {T = Unit {0}} OutOfMemory (AreBetween here next) first (λ _. excerpt_in now) (Err fault)
            → IsPartLoad {T = Unit {0}} OutOfMemory (AreBetween from next) whole (λ _. excerpt_in after) (Err fault)
        line_ends next now after fault h =
            load_ends {T = Unit {0}} OutOfMemory from here next whole in_parts
            (λ _. excerpt_in after) (Err fault) at_line
            (load_fails_in_turn {T = Unit {0}} OutOfMemory (AreBetween here next) first others (λ _. excerpt_in now)
            (λ _. excerpt_in after) fault h)

  -- an include that is nested too deep is loaded if its line with a notice is put
  pub deep_loads : (state : State) (depth : ℕ) (includer name : List ℕ) (line : Line) (before after : Draft)
      (r : Result (Unit {0}) LoadFault) → depth ≡ 0
      → IsExcerptPut before (line_with_notice includer line (codes "include too deep: " ++ name)) r after
      → IsPartLoad OutOfMemory (AreBetween state state) (load_below depth includer name line (excerpt_in before))
      (λ _. excerpt_in after) r
  unfolding load_below
  deep_loads state depth includer name line before after r e put =
      subst (λ n. IsPartLoad OutOfMemory (AreBetween state state) (load_below n includer name line (excerpt_in before))
      (λ _. excerpt_in after) r) (sym e)
      (excerpt_loads (AreBetween state state) before after
      (line_with_notice includer line (codes "include too deep: " ++ name)) r (none_between state) put)

  -- an include line within the maximum depth
  module _ (from : State) (includer name : List ℕ) (line : Line) (before : Draft) where
    -- if the line has no room, the load ends
    no_room : (depth : ℕ) → pass_store_limit (before.store.lines ++ plain_store_line line.number line.text ∷ []) ≡ true
        → HasTranscript (AreBetween from from) (load_below (suc depth) includer name line (excerpt_in before))
        (Err DeckFull)
    unfolding load_below
    no_room depth full =
        load_continues_at_once (AreBetween from from) (load_below (suc depth) includer name line (excerpt_in before))
        (load_outcome (Err DeckFull)) (none_between from) (λ fetches. rw full refl)

    -- if the line has room, the load continues with the answer of the fetch of the file
    with_answer : (here : State) (depth : ℕ) (answer : Result (List ℕ) FetchFault)
        → pass_store_limit (before.store.lines ++ plain_store_line line.number line.text ∷ []) ≡ false
        → IfSome files (λ m. IsFileFetched m name answer) → is_fetch from name answer here
        → LoadContinuesAs (AreBetween from here) (load_below (suc depth) includer name line (excerpt_in before))
        (load_of_answer (load_above depth name) includer name line answer (excerpt_in before))
    unfolding load_below
    with_answer here depth answer fits may made =
        let same : bytes_eq name name ≡ true = (bytes_eq-Decides name name).1 refl in (
          record { name = name; answer = answer } ∷ [],
          ((may, tt), (here, made, refl)),
          λ rest. rw (fits, same) refl,
        )

  module _ (from : State) (depth : ℕ) (includer name : List ℕ) (line : Line) (nonzero : depth ≡ 0 → ⊥)
      (before : Draft) where
    -- the load of the include line
    abbrev include : ℕ → List TranscriptFetch → Load LoadFault
    include n = load_below n includer name line (excerpt_in before)

    deeper : suc (depth - 1) ≡ depth
    deeper = omega arith

    pub full_ends : (after : Draft)
        → pass_store_limit (before.store.lines ++ plain_store_line line.number line.text ∷ []) ≡ true
        → IsPartLoad {T = Unit {0}} OutOfMemory (AreBetween from from) (include depth) (λ _. excerpt_in after)
        (Err DeckFull)
    full_ends after full =
        inr (subst (λ n. HasTranscript (AreBetween from from) (include n) (Err DeckFull)) deeper
        (no_room from includer name line before (depth - 1) full))

    module _ (here : State) (after : Draft)
        (fits : pass_store_limit (before.store.lines ++ plain_store_line line.number line.text ∷ []) ≡ false) where
      -- the load of the include line, given an answer of the fetch
      abbrev answer_part : Result (List ℕ) FetchFault → List TranscriptFetch → Load LoadFault
      answer_part answer = load_of_answer (load_above (depth - 1) name) includer name line answer (excerpt_in before)

      -- the load with an answer of the fetch is that of the line
      answer_loads : (to : State) (answer : Result (List ℕ) FetchFault) (r : Result (Unit {0}) LoadFault)
          → IfSome files (λ m. IsFileFetched m name answer) → is_fetch from name answer here
          → IsPartLoad OutOfMemory (AreBetween here to) (answer_part answer) (λ _. excerpt_in after) r
          → IsPartLoad OutOfMemory (AreBetween from to) (include depth) (λ _. excerpt_in after) r
      answer_loads to answer r may made h =
          load_ends OutOfMemory from here to (include depth) (answer_part answer) (λ _. excerpt_in after) r
          (subst (λ n. LoadContinuesAs (AreBetween from here) (include n) (answer_part answer)) deeper
          (with_answer from includer name line before here (depth - 1) answer fits may made)) h

      pub failed_ends : IfSome files (λ m. IsFileFetched m name (Err fetch.Failed))
          → is_fetch from name (Err fetch.Failed) here
          → IsPartLoad {T = Unit {0}} OutOfMemory (AreBetween from here) (include depth) (λ _. excerpt_in after)
          (Err ReadFailed)
      failed_ends may made =
          answer_loads here (Err fetch.Failed) (Err ReadFailed) may made
          (inr (load_continues_at_once (AreBetween here here) (answer_part (Err fetch.Failed))
          (load_outcome (Err ReadFailed))
          (none_between here) (λ fetches. refl)))

      pub absent_loads : (r : Result (Unit {0}) LoadFault) → IfSome files (λ m. IsFileFetched m name (Err fetch.Absent))
          → is_fetch from name (Err fetch.Absent) here
          → IsExcerptPut before (line_with_notice includer line (codes "no file: " ++ name)) r after
          → IsPartLoad OutOfMemory (AreBetween from here) (include depth) (λ _. excerpt_in after) r
      absent_loads r may made put =
          answer_loads here (Err fetch.Absent) r may made
          (excerpt_loads (AreBetween here here) before after
          (line_with_notice includer line (codes "no file: " ++ name)) r (none_between here) put)

      pub long_loads : (r : Result (Unit {0}) LoadFault) → IfSome files (λ m. IsFileFetched m name (Err fetch.TooLong))
          → is_fetch from name (Err fetch.TooLong) here
          → IsExcerptPut before (line_with_notice includer line (codes "file too long: " ++ name)) r after
          → IsPartLoad OutOfMemory (AreBetween from here) (include depth) (λ _. excerpt_in after) r
      long_loads r may made put =
          answer_loads here (Err fetch.TooLong) r may made
          (excerpt_loads (AreBetween here here) before after
          (line_with_notice includer line (codes "file too long: " ++ name)) r (none_between here) put)

      -- if the file is read, the load is that of the line followed by that of the file
      pub read_loads : (to : State) (mid : Draft) (bytes : List ℕ) (r : Result (Unit {0}) LoadFault)
          → IfSome files (λ m. IsFileFetched m name (Ok bytes)) → is_fetch from name (Ok bytes) here
          → IsExcerptPut before (line_without_notice line) (Ok tt) mid
          → IsPartLoad OutOfMemory (AreBetween here to) (load_above (depth - 1) name bytes (excerpt_in mid))
          (λ _. excerpt_in after) r
          → IsPartLoad OutOfMemory (AreBetween from to) (include depth) (λ _. excerpt_in after) r
      read_loads to mid bytes r may made put h =
          answer_loads to (Ok bytes) r may made
          (load_ends OutOfMemory here here to (answer_part (Ok bytes))
          (load_above (depth - 1) name bytes (excerpt_in mid))
          (λ _. excerpt_in after) r
          (load_continues_in_turn (AreBetween here here)
          (load_of_excerpt (line_without_notice line) (excerpt_in before))
          (load_above (depth - 1) name bytes) (Ok (excerpt_in mid))
          (excerpt_loads (AreBetween here here) before mid (line_without_notice line) (Ok tt) (none_between here) put))
          h)

      -- if the line cannot be put, the load ends
      pub line_fails : (now : Draft) (bytes : List ℕ) (fault : LoadFault)
          → IfSome files (λ m. IsFileFetched m name (Ok bytes)) → is_fetch from name (Ok bytes) here
          → IsExcerptPut before (line_without_notice line) (Err fault) now
          → IsPartLoad {T = Unit {0}} OutOfMemory (AreBetween from here) (include depth) (λ _. excerpt_in after) (Err fault)
      line_fails now bytes fault may made put =
          answer_loads here (Ok bytes) (Err fault) may made
          (load_fails_in_turn {T = Unit {0}} OutOfMemory (AreBetween here here)
          (load_of_excerpt (line_without_notice line) (excerpt_in before)) (load_above (depth - 1) name bytes)
          (λ _. excerpt_in now) (λ _. excerpt_in after) fault
          (excerpt_loads (AreBetween here here) before now (line_without_notice line) (Err fault) (none_between here)
          put))
