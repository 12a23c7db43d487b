-- Of the directives, only that of a list has an entry.
use Rattle.std.proofs.Common.{◌≡◌, ℕ, List, Bool, true, false, codes, Option, Some, None, if◌then◌else◌}
use Rattle.std.proofs.Common.{refl, sym, ap, ◌∙◌, true≢false}
use Rattle.std.specs.Str.{bytes_eq}
use Rattle.std.proofs.lemmas.Slice.Eq.{bytes_eq-Decides}
use Rattle.def_lines.specs.declared.directive.Directive.{Directive}
use Rattle.def_lines.specs.declared.directive.Directive.TheVariants as directive
use Rattle.def_lines.specs.Kinds.{LineKindWithArguments as LineKind, directive_kind, directive_of_word, directives}
use Rattle.def_lines.specs.Kinds.{marked_line_kind, with_arguments}
use Rattle.def_lines.specs.Kinds as line
use Rattle.def_lines.specs.Words.{after_word_trimmed_of_blanks, first_word_before_blank, is_empty, is_word}
use Rattle.def_entry.specs.EntryReading.{has_entry}

-- if neither kind has an entry, nor does the one that is chosen
chosen_line_kind_has_no_entry : {A : Type 0} (t : Bool) (one other : LineKind) → has_entry one ≡ false
    → has_entry other ≡ false
    → has_entry (if t then one else other) ≡ true → A
chosen_line_kind_has_no_entry true one other f g e = absurd (true≢false (sym e ∙ f))
chosen_line_kind_has_no_entry false one other f g e = absurd (true≢false (sym e ∙ g))

-- of the directives, only that of a list has an entry
only_list_directive_has_entry : (d : Directive) (rest : List ℕ) → has_entry (with_arguments d rest) ≡ true
    → d ≡ directive.UnitList
only_list_directive_has_entry directive.Include rest e = chosen_line_kind_has_no_entry (is_word rest)
    (line.Include rest) line.BadDirective refl refl e
only_list_directive_has_entry directive.Locale rest e = chosen_line_kind_has_no_entry (is_word rest) (line.Locale rest)
    line.BadDirective refl refl e
only_list_directive_has_entry directive.EndLocale rest e = chosen_line_kind_has_no_entry (is_empty rest) line.EndLocale
    line.BadDirective refl refl e
only_list_directive_has_entry directive.Set rest e =
    chosen_line_kind_has_no_entry (is_empty (after_word_trimmed_of_blanks rest)) line.BadDirective
    (line.Set (first_word_before_blank rest) (after_word_trimmed_of_blanks rest)) refl refl e
only_list_directive_has_entry directive.Var rest e =
    chosen_line_kind_has_no_entry (is_empty (after_word_trimmed_of_blanks rest)) line.BadDirective
    (line.Var (first_word_before_blank rest) (after_word_trimmed_of_blanks rest)) refl refl e
only_list_directive_has_entry directive.VarNot rest e =
    chosen_line_kind_has_no_entry (is_empty (after_word_trimmed_of_blanks rest)) line.BadDirective
    (line.VarNot (first_word_before_blank rest) (after_word_trimmed_of_blanks rest)) refl refl e
only_list_directive_has_entry directive.EndVar rest e = chosen_line_kind_has_no_entry (is_empty rest) line.EndVar
    line.BadDirective refl refl e
only_list_directive_has_entry directive.Utf8 rest e = chosen_line_kind_has_no_entry (is_empty rest) line.Utf8
    line.BadDirective refl refl e
only_list_directive_has_entry directive.EndUtf8 rest e = chosen_line_kind_has_no_entry (is_empty rest) line.EndUtf8
    line.BadDirective refl refl e
only_list_directive_has_entry directive.Message rest e = absurd (true≢false (sym e))
only_list_directive_has_entry directive.Prompt rest e = absurd (true≢false (sym e))
only_list_directive_has_entry directive.UnitList rest e = refl

-- if the directive of a list is found, it is not at an entry with another directive
list_heading_not_of_other_word : (word : List ℕ) (t : Bool) (d : Directive) (found : Option Directive)
    → (d ≡ directive.UnitList → ⊥)
    → (if t then Some d else found) ≡ Some directive.UnitList → found ≡ Some directive.UnitList
list_heading_not_of_other_word word true d found f e = let same : d ≡ directive.UnitList = cc in absurd (f same)
list_heading_not_of_other_word word false d found f e = e

-- if the last entry gives the directive of a list, the word is `unitlist`
last_word_of_list_heading : (word : List ℕ) (t : Bool) → bytes_eq word (codes "unitlist") ≡ t
    → (if t then Some directive.UnitList else None) ≡ Some directive.UnitList → word ≡ codes "unitlist"
last_word_of_list_heading word true same e = (bytes_eq-Decides word (codes "unitlist")).0 same
last_word_of_list_heading word false same e = cc

-- only the word `unitlist` has the directive of a list
list_heading_word : (word : List ℕ) → directive_of_word word directives ≡ Some directive.UnitList
    → word ≡ codes "unitlist"
list_heading_word word e0 =
    let e1 = list_heading_not_of_other_word word (bytes_eq word (codes "include")) directive.Include _ (λ e. cc) e0 in
    let e2 = list_heading_not_of_other_word word (bytes_eq word (codes "locale")) directive.Locale _ (λ e. cc) e1 in
    let e3 = list_heading_not_of_other_word word (bytes_eq word (codes "endlocale")) directive.EndLocale _
    (λ e. cc) e2 in
    let e4 = list_heading_not_of_other_word word (bytes_eq word (codes "set")) directive.Set _ (λ e. cc) e3 in
    let e5 = list_heading_not_of_other_word word (bytes_eq word (codes "var")) directive.Var _ (λ e. cc) e4 in
    let e6 = list_heading_not_of_other_word word (bytes_eq word (codes "varnot")) directive.VarNot _ (λ e. cc) e5 in
    let e7 = list_heading_not_of_other_word word (bytes_eq word (codes "endvar")) directive.EndVar _ (λ e. cc) e6 in
    let e8 = list_heading_not_of_other_word word (bytes_eq word (codes "utf8")) directive.Utf8 _ (λ e. cc) e7 in
    let e9 = list_heading_not_of_other_word word (bytes_eq word (codes "endutf8")) directive.EndUtf8 _ (λ e. cc) e8 in
    let e10 = list_heading_not_of_other_word word (bytes_eq word (codes "message")) directive.Message _ (λ e. cc) e9 in
    let e11 = list_heading_not_of_other_word word (bytes_eq word (codes "prompt")) directive.Prompt _ (λ e. cc) e10 in
    last_word_of_list_heading word (bytes_eq word (codes "unitlist")) refl e11

-- a directive with an entry starts with the word `unitlist`
pub entry_directive_is_unitlist : (text : List ℕ) → has_entry (marked_line_kind text) ≡ true
    → first_word_before_blank text ≡ codes "unitlist"
entry_directive_is_unitlist text e = go (directive_of_word (first_word_before_blank text) directives) refl e where
  go : (found : Option Directive) → directive_of_word (first_word_before_blank text) directives ≡ found
      → has_entry (directive_kind found (after_word_trimmed_of_blanks text)) ≡ true
      → first_word_before_blank text ≡ codes "unitlist"
  go None f e = absurd (true≢false (sym e))
  go (Some d) f e = list_heading_word (first_word_before_blank text)
      (f ∙ ap Some (only_list_directive_has_entry d (after_word_trimmed_of_blanks text) e))
