-- A file that includes itself: 16 files below the first are read, and the include in the last is not.
use Rattle.std.specs.Prelude.{◌≡◌, ◌++◌, ◌∷◌, ℕ, List, [], replicate, codes, Ok}
use Rattle.deck_lines.specs.LineLoads.{load_of_file}
use Rattle.deck_lines.specs.Marks.{marked_store_line, plain_store_line}
use Rattle.deck_lines.specs.TranscriptExamples.{transcript_fetch_of}
use Rattle.deck_lines.specs.Transcripts.{Load, TranscriptFetch, Yields}
use Rattle.deck_lines.specs.declared.draft.LoadFault.{LoadFault}

abbrev pub include_of_itself : List ℕ
include_of_itself = codes "!include a"

-- this many reads of the file
abbrev pub reads_of_itself : ℕ → List TranscriptFetch
reads_of_itself n = replicate n (transcript_fetch_of (codes "a") (Ok (include_of_itself ++ 10 ∷ [])))

abbrev pub load_with_reads : List TranscriptFetch → Load LoadFault
load_with_reads reads = load_of_file (codes "a") (include_of_itself ++ 10 ∷ [])
    (record { lines = []; notices = [] }) reads

pub record IncludeDepthExamples : Type 0 where
  pub sixteen_reads : (more : List TranscriptFetch) → load_with_reads (reads_of_itself 16 ++ more)
      ≡ Yields (record {
        lines = replicate 16 (plain_store_line 1 include_of_itself) ++ marked_store_line 1 include_of_itself ∷ [];
        notices = codes "a:1: include too deep: a" ∷ [];
      }) more
