-- The decks of a few texts, worked out by hand.
use Rattle.std.specs.Prelude.{◌≡◌, ◌∷◌, [], Some, codes}
use Rattle.units_io.specs.FileMap.{FileMap, file_of_name}
use Rattle.deck_lines.specs.Includes.{excerpt_of_deck_file, excerpt_of_lone_deck_file}
use Rattle.deck_lines.specs.Marks.{marked_store_line, plain_store_line}

-- law: the decks of a few texts as the file `sub/a.units`, alone and with other files
pub record ExcerptExamplesLaw : Type 0 where
  -- blank lines and comments are not lines of a deck, and the other lines have their numbers in the file
  pub deck_without_faults : excerpt_of_lone_deck_file (codes "sub/a.units")
      (codes "# lengths\n\nm !\n  ft 12 in # feet\n")
      ≡ record { lines = plain_store_line 3 (codes "m !") ∷ plain_store_line 4 (codes "ft 12 in") ∷ []; notices = [] }
  -- a line without an entry, an unknown directive and an end line that closes nothing have no effect
  pub deck_with_faults : excerpt_of_lone_deck_file (codes "sub/a.units") (codes "h 2 +\n!units\n!endvar\n")
      ≡ record {
        lines = marked_store_line 1 (codes "h 2 +") ∷ marked_store_line 2 (codes "!units") ∷ marked_store_line 3
            (codes "!endvar") ∷ [];
        notices =
            codes "sub/a.units:1: syntax error at 3"
            ∷ codes "sub/a.units:2: unknown directive"
            ∷ codes "sub/a.units:3: stray end"
            ∷ [];
      }
  -- an end line can close only the innermost block; blocks that are left open are closed at the end of the file,
  -- innermost first, and reported in the order of their lines
  pub open_block : excerpt_of_lone_deck_file (codes "sub/a.units")
      (codes "!locale en_US\n!var SIZE big\n!endlocale\ng 3 m\n")
      ≡ record {
        lines =
            plain_store_line 1 (codes "!locale en_US")
            ∷ plain_store_line 2 (codes "!var SIZE big")
            ∷ marked_store_line 3 (codes "!endlocale")
            ∷ plain_store_line 4 (codes "g 3 m")
            ∷ plain_store_line 2 (codes "!endvar")
            ∷ plain_store_line 1 (codes "!endlocale")
            ∷ [];
        notices =
            codes "sub/a.units:3: stray end"
            ∷ codes "sub/a.units:1: unclosed block"
            ∷ codes "sub/a.units:2: unclosed block"
            ∷ [];
      }
  -- an include of an absent file, whose name is relative to the folder of the including file
  pub absent : excerpt_of_lone_deck_file (codes "sub/a.units") (codes "!include b.units\n")
      ≡ record {
        lines = marked_store_line 1 (codes "!include b.units") ∷ [];
        notices = codes "sub/a.units:1: no file: sub/b.units" ∷ [];
      }
  -- the lines of an included file follow the include line, and its blocks end with it
  pub with_include : (files : FileMap) → file_of_name files (codes "sub/b.units") ≡ Some (codes "!utf8\ns !") →
      excerpt_of_deck_file files (codes "sub/a.units") (codes "m !\n!include b.units\n!endutf8\n")
      ≡ record {
        lines =
            plain_store_line 1 (codes "m !")
            ∷ plain_store_line 2 (codes "!include b.units")
            ∷ plain_store_line 1 (codes "!utf8")
            ∷ plain_store_line 2 (codes "s !")
            ∷ plain_store_line 1 (codes "!endutf8")
            ∷ marked_store_line 3 (codes "!endutf8")
            ∷ [];
        notices = codes "sub/b.units:1: unclosed block" ∷ codes "sub/a.units:3: stray end" ∷ [];
      }
