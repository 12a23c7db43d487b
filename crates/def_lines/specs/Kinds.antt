-- The kinds of lines.
use Rattle.std.specs.Prelude.{◌==◌, ℕ, List, [], ◌∷◌, if◌then◌else◌, codes, Option, Some, None}
use Rattle.std.specs.Str.{bytes_eq}
use Rattle.def_lines.specs.declared.directive.Directive.{Directive}
use Rattle.def_lines.specs.declared.directive.Directive.TheVariants as directive
use Rattle.def_lines.specs.Blanks.{after_blanks}
use Rattle.def_lines.specs.Words.{after_word_trimmed_of_blanks, first_word_before_blank, is_empty, is_word}

-- the kind of a line, with its arguments
pub data LineKindWithArguments : Type 0 where
  Blank : LineKindWithArguments
  Definition : LineKindWithArguments
  Include : List ℕ → LineKindWithArguments
  Locale : List ℕ → LineKindWithArguments
  EndLocale : LineKindWithArguments
  Set : List ℕ → List ℕ → LineKindWithArguments
  Var : List ℕ → List ℕ → LineKindWithArguments
  VarNot : List ℕ → List ℕ → LineKindWithArguments
  EndVar : LineKindWithArguments
  Utf8 : LineKindWithArguments
  EndUtf8 : LineKindWithArguments
  Message : List ℕ → LineKindWithArguments
  Prompt : LineKindWithArguments
  UnitList : LineKindWithArguments
  UnknownDirective : LineKindWithArguments
  BadDirective : LineKindWithArguments

-- the words of the directives
abbrev pub directives : List (List ℕ × Directive)
directives =
    (codes "include", directive.Include)
    ∷ (codes "locale", directive.Locale)
    ∷ (codes "endlocale", directive.EndLocale)
    ∷ (codes "set", directive.Set)
    ∷ (codes "var", directive.Var)
    ∷ (codes "varnot", directive.VarNot)
    ∷ (codes "endvar", directive.EndVar)
    ∷ (codes "utf8", directive.Utf8)
    ∷ (codes "endutf8", directive.EndUtf8)
    ∷ (codes "message", directive.Message)
    ∷ (codes "prompt", directive.Prompt)
    ∷ (codes "unitlist", directive.UnitList)
    ∷ []

-- the directive of a word in such a list
abbrev pub directive_of_word : List ℕ → List (List ℕ × Directive) → Option Directive
directive_of_word word [] = None
directive_of_word word (d ∷ ds) = if bytes_eq word d.0 then Some d.1 else directive_of_word word ds

-- a kind that takes one word
abbrev pub directive_kind_with_word : (List ℕ → LineKindWithArguments) → List ℕ → LineKindWithArguments
directive_kind_with_word kind rest = if is_word rest then kind rest else BadDirective

-- a kind that takes a word and at least one more after it
abbrev pub directive_kind_with_two_words : (List ℕ → List ℕ → LineKindWithArguments) → List ℕ → LineKindWithArguments
directive_kind_with_two_words kind rest =
    if is_empty (after_word_trimmed_of_blanks rest) then BadDirective else kind (first_word_before_blank rest)
    (after_word_trimmed_of_blanks rest)

-- a kind that takes no argument
abbrev pub directive_kind_without_argument : LineKindWithArguments → List ℕ → LineKindWithArguments
directive_kind_without_argument kind rest = if is_empty rest then kind else BadDirective

-- the kind of a directive with the rest of its line
abbrev pub with_arguments : Directive → List ℕ → LineKindWithArguments
with_arguments directive.Include rest = directive_kind_with_word Include rest
with_arguments directive.Locale rest = directive_kind_with_word Locale rest
with_arguments directive.EndLocale rest = directive_kind_without_argument EndLocale rest
with_arguments directive.Set rest = directive_kind_with_two_words Set rest
with_arguments directive.Var rest = directive_kind_with_two_words Var rest
with_arguments directive.VarNot rest = directive_kind_with_two_words VarNot rest
with_arguments directive.EndVar rest = directive_kind_without_argument EndVar rest
with_arguments directive.Utf8 rest = directive_kind_without_argument Utf8 rest
with_arguments directive.EndUtf8 rest = directive_kind_without_argument EndUtf8 rest
with_arguments directive.Message rest = Message rest
with_arguments directive.Prompt rest = Prompt
with_arguments directive.UnitList rest = UnitList

-- the kind of a directive with the rest of its line, if there is such a directive
abbrev pub directive_kind : Option Directive → List ℕ → LineKindWithArguments
directive_kind (Some d) rest = with_arguments d rest
directive_kind None rest = UnknownDirective

-- the kind of a line by the text after its `!` and the blanks that follow the `!`
abbrev pub marked_line_kind : List ℕ → LineKindWithArguments
marked_line_kind text = directive_kind (directive_of_word (first_word_before_blank text) directives)
    (after_word_trimmed_of_blanks text)

-- the kind of a line
unfoldable pub kind_of_line : List ℕ → LineKindWithArguments
kind_of_line [] = Blank
kind_of_line (b ∷ line) = if b == 33 then marked_line_kind (after_blanks line) else Definition
