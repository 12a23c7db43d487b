-- The loads of a few texts by transcripts, worked out by hand.
use Rattle.std.specs.Prelude.{◌≡◌, ◌++◌, ℕ, List, [], ◌∷◌, true, codes, Result, Ok, Err}
use Rattle.units_io.specs.declared.files.FetchFault.{FetchFault}
use Rattle.units_io.specs.declared.files.FetchFault.TheVariants.{Absent, Failed}
use Rattle.deck_lines.specs.Excerpts.{Excerpt}
use Rattle.deck_lines.specs.Limits.{pass_store_limit}
use Rattle.deck_lines.specs.LineLoads.{load_of_file}
use Rattle.deck_lines.specs.Marks.{marked_store_line, plain_store_line}
use Rattle.deck_lines.specs.Transcripts.{Asks, Fails, Load, TranscriptFetch, Yields}
use Rattle.deck_lines.specs.declared.draft.LoadFault.{LoadFault}
use Rattle.deck_lines.specs.declared.draft.LoadFault.TheVariants.{DeckFull, ReadFailed}

-- a fetch of the file with this name
abbrev pub transcript_fetch_of : List ℕ → Result (List ℕ) FetchFault → TranscriptFetch
transcript_fetch_of name answer = record { name = name; answer = answer }

-- the load of a text as the file `a.units`, after no lines and notices
abbrev pub load_alone : List ℕ → List TranscriptFetch → Load LoadFault
load_alone text fetches = load_of_file (codes "a.units") text (record { lines = []; notices = [] }) fetches

-- law: the loads of a few texts as the file `a.units`
pub record TranscriptExamplesLaw : Type 0 where
  -- a file that is absent
  pub absent : load_alone (codes "!include b.units\nm !\n") (transcript_fetch_of (codes "b.units") (Err Absent) ∷ [])
      ≡ Yields (record {
        lines = marked_store_line 1 (codes "!include b.units") ∷ plain_store_line 2 (codes "m !") ∷ [];
        notices = codes "a.units:1: no file: b.units" ∷ [];
      }) []
  -- a file that is included by an included file
  pub nested : load_alone (codes "!include sub/b.units\ns !\n")
      (transcript_fetch_of (codes "sub/b.units") (Ok (codes "!include c.units\nm !\n"))
      ∷ transcript_fetch_of (codes "sub/c.units") (Ok (codes "kg !"))
      ∷ [])
      ≡ Yields (record {
        lines =
            plain_store_line 1 (codes "!include sub/b.units")
            ∷ plain_store_line 1 (codes "!include c.units")
            ∷ plain_store_line 1 (codes "kg !")
            ∷ plain_store_line 2 (codes "m !")
            ∷ plain_store_line 2 (codes "s !")
            ∷ [];
        notices = [];
      }) []
  -- the load asks for that file if its fetch does not come next
  pub asks : load_alone (codes "!include sub/b.units\ns !\n")
      (transcript_fetch_of (codes "sub/b.units") (Ok (codes "!include c.units\nm !\n"))
      ∷ transcript_fetch_of (codes "c.units") (Ok (codes "kg !"))
      ∷ [])
      ≡ Asks (codes "sub/c.units") (transcript_fetch_of (codes "c.units") (Ok (codes "kg !")) ∷ [])
  -- a read that fails in the second include ends the load, and the third file is not fetched
  pub failed : load_alone (codes "!include b.units\n!include c.units\n!include d.units\n")
      (transcript_fetch_of (codes "b.units") (Err Absent)
      ∷ transcript_fetch_of (codes "c.units") (Err Failed)
      ∷ transcript_fetch_of (codes "d.units") (Ok [])
      ∷ [])
      ≡ Fails ReadFailed (transcript_fetch_of (codes "d.units") (Ok []) ∷ [])
  -- an include line that has no room ends the load, and its file is not fetched
  pub full : (before : Excerpt) (fetches : List TranscriptFetch)
      → pass_store_limit (before.lines ++ plain_store_line 1 (codes "!include b.units") ∷ []) ≡ true
      → load_of_file (codes "a.units") (codes "!include b.units\n") before fetches ≡ Fails DeckFull fetches
