-- The lines of a few files, the kinds of a few lines and the words of a few texts, worked out by hand from the rules
-- of the format.
use Rattle.std.specs.Prelude.{◌≡◌, ℕ, List, [], ◌∷◌, Bool, true, false, codes, map}
use Rattle.def_lines.specs.declared.line.Line.{Line}
use Rattle.def_lines.specs.Kinds.{LineKindWithArguments, kind_of_line, Blank, Definition, Include, Locale, EndLocale}
use Rattle.def_lines.specs.Kinds.{Set, Var, VarNot, EndVar, Utf8, EndUtf8, Message, Prompt, UnitList, UnknownDirective}
use Rattle.def_lines.specs.Kinds.{BadDirective}
use Rattle.def_lines.specs.Lines.{logical_lines}
use Rattle.def_lines.specs.Words.{is_listed}

-- a line with this number and this text
abbrev pub logical_line_at : ℕ → List ℕ → Line
logical_line_at number text = record { number = number; text = text }

-- files and their lines
abbrev pub example_logical_lines : List (List ℕ × List Line)
example_logical_lines =
    (codes "", [])
    ∷ (codes "\n", logical_line_at 1 [] ∷ [])
    ∷ (codes "m !", logical_line_at 1 (codes "m !") ∷ [])
    ∷ (codes "m !\n", logical_line_at 1 (codes "m !") ∷ [])
    ∷ (codes "m !\ns !\n", logical_line_at 1 (codes "m !") ∷ logical_line_at 2 (codes "s !") ∷ [])
    ∷ (codes "  m\t! \t\n", logical_line_at 1 (codes "m\t!") ∷ [])
    ∷ (codes "a 2 \\\n m\nb 3 m\n", logical_line_at 1 (codes "a 2   m") ∷ logical_line_at 3 (codes "b 3 m") ∷ [])
    ∷ (codes "a \\\n\\\n  2 m\nb", logical_line_at 1 (codes "a     2 m") ∷ logical_line_at 4 (codes "b") ∷ [])
    ∷ (codes "a 2 m \\", logical_line_at 1 (codes "a 2 m") ∷ [])
    ∷ (codes "m !\na 2 m \\\n", logical_line_at 1 (codes "m !") ∷ logical_line_at 2 (codes "a 2 m") ∷ [])
    ∷ (codes "\\", logical_line_at 1 [] ∷ [])
    ∷ (codes " \\\n \\\n m !", logical_line_at 1 (codes "m !") ∷ [])
    ∷ (
      codes "# all\nm ! # metre\n#\n",
      logical_line_at 1 [] ∷ logical_line_at 2 (codes "m !") ∷ logical_line_at 3 [] ∷
          [],
    )
    ∷ (codes "a 2 \\ # more\nm", logical_line_at 1 (codes "a 2  m") ∷ [])
    ∷ (codes "a 2 # no \\\nm", logical_line_at 1 (codes "a 2") ∷ logical_line_at 2 (codes "m") ∷ [])
    ∷ (codes "m !\r\ns !\r", logical_line_at 1 (codes "m !") ∷ logical_line_at 2 (codes "s !") ∷ [])
    ∷ (codes "a \\\r\n2 m\r\n", logical_line_at 1 (codes "a  2 m") ∷ [])
    ∷ (codes "m !\r\r\n", logical_line_at 1 (codes "m !\r") ∷ [])
    ∷ (codes "a # b\r\n\nc", logical_line_at 1 (codes "a") ∷ logical_line_at 2 [] ∷ logical_line_at 3 (codes "c") ∷ [])
    ∷ []

-- lines and their kinds
abbrev pub example_line_kinds : List (List ℕ × LineKindWithArguments)
example_line_kinds =
    (codes "", Blank)
    ∷ (codes " ", Definition)
    ∷ (codes "m !", Definition)
    ∷ (codes " m !", Definition)
    ∷ (codes " !endvar", Definition)
    ∷ (codes "+!unitlist z m;s", Definition)
    ∷ (codes "!include a.units", Include (codes "a.units"))
    ∷ (codes "! \t include  sub/b.units ", Include (codes "sub/b.units"))
    ∷ (codes "!include", BadDirective)
    ∷ (codes "!include a b", BadDirective)
    ∷ (codes "!locale en_GB", Locale (codes "en_GB"))
    ∷ (codes "!locale", BadDirective)
    ∷ (codes "!locale en GB", BadDirective)
    ∷ (codes "!endlocale", EndLocale)
    ∷ (codes "!endlocale en_GB", BadDirective)
    ∷ (codes "!set SIZE big", Set (codes "SIZE") (codes "big"))
    ∷ (codes "!set SIZE  very  big ", Set (codes "SIZE") (codes "very  big"))
    ∷ (codes "!set SIZE", BadDirective)
    ∷ (codes "!set", BadDirective)
    ∷ (codes "!var SIZE big", Var (codes "SIZE") (codes "big"))
    ∷ (codes "!var SIZE big\tsmall", Var (codes "SIZE") (codes "big\tsmall"))
    ∷ (codes "!var SIZE", BadDirective)
    ∷ (codes "!var", BadDirective)
    ∷ (codes "!varnot SIZE big", VarNot (codes "SIZE") (codes "big"))
    ∷ (codes "!varnot SIZE", BadDirective)
    ∷ (codes "!endvar", EndVar)
    ∷ (codes "! endvar", EndVar)
    ∷ (codes "!endvar SIZE", BadDirective)
    ∷ (codes "!utf8", Utf8)
    ∷ (codes "!utf8 on", BadDirective)
    ∷ (codes "!endutf8", EndUtf8)
    ∷ (codes "!endutf8 now", BadDirective)
    ∷ (codes "!message hello  world ", Message (codes "hello  world"))
    ∷ (codes "!message", Message [])
    ∷ (codes "!prompt >", Prompt)
    ∷ (codes "!prompt", Prompt)
    ∷ (codes "!unitlist hms hr;min", UnitList)
    ∷ (codes "!unitlist", UnitList)
    ∷ (codes "!", UnknownDirective)
    ∷ (codes "! ", UnknownDirective)
    ∷ (codes "!nosuch", UnknownDirective)
    ∷ (codes "!Include a", UnknownDirective)
    ∷ (codes "!includes a", UnknownDirective)
    ∷ (codes "!includ", UnknownDirective)
    ∷ (codes "!message\ttabbed", Message (codes "tabbed"))
    ∷ (codes "!!include a", UnknownDirective)
    ∷ (codes "!var\tSIZE\tbig", Var (codes "SIZE") (codes "big"))
    ∷ []

-- texts and values, and whether the value is one of the words of the text
abbrev pub example_directive_listings : List (List ℕ × (List ℕ × Bool))
example_directive_listings =
    (codes "big", (codes "big", true))
    ∷ (codes "big small", (codes "small", true))
    ∷ (codes " \tbig\t small  ", (codes "small", true))
    ∷ (codes "big small", (codes "smal", false))
    ∷ (codes "big small", (codes "big small", false))
    ∷ (codes "big small", (codes "", false))
    ∷ (codes "", (codes "", false))
    ∷ (codes "  ", (codes " ", false))
    ∷ (codes "bigger", (codes "big", false))
    ∷ (codes "a b a", (codes "a", true))
    ∷ []

-- law: each file has the lines that `example_logical_lines` gives it
abbrev pub LogicalLinesLaw : Type 0
LogicalLinesLaw = map (λ file. logical_lines file.0) example_logical_lines ≡ map (λ file. file.1) example_logical_lines

-- law: each line has the kind that `example_line_kinds` gives it
abbrev pub LineKindsLaw : Type 0
LineKindsLaw = map (λ line. kind_of_line line.0) example_line_kinds ≡ map (λ line. line.1) example_line_kinds

-- law: each value is listed if and only if `example_directive_listings` says so
abbrev pub DirectiveListingsLaw : Type 0
DirectiveListingsLaw = map (λ row. is_listed row.0 row.1.0) example_directive_listings ≡ map (λ row. row.1.1)
    example_directive_listings
