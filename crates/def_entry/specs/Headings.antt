-- The head of a line: the kind of its key, its name, and the text after the name, as they are computed. HeadingGrammar
-- defines how they are written.
use Rattle.std.specs.Prelude.{◌==◌, ◌||◌, ◌&&◌, ℕ, List, [], ◌∷◌, Bool, true, false, length, drop, nat_lt}
use Rattle.std.specs.Prelude.{if◌then◌else◌}
use Rattle.std.specs.List.{before_first}
use Rattle.units_io.specs.Blanks.{is_blank_text_byte}
use Rattle.def_lines.specs.Blanks.{after_blanks, trimmed_of_blanks}
use Rattle.def_lines.specs.Words.{after_word_trimmed_of_blanks, first_word_before_blank}
use Rattle.expr_tree.specs.Names.{last_byte, word_token_base}
use Rattle.def_entry.specs.declared.key.Kind.{Kind}
use Rattle.def_entry.specs.declared.key.Kind.TheVariants.{Unit as UnitKind, Prefix, Func, List as ListKind}
use Rattle.def_entry.specs.Marks.{entry_exclamation, entry_minus, entry_open_bracket, entry_open_paren, entry_plus}

-- the kind of the key of a line, its name, and the text of its entry
pub record Heading : Type 0 where
  pub kind : Kind
  pub name : List ℕ
  pub text : List ℕ

-- the byte is `(` or `[`
abbrev pub is_opening : ℕ → Bool
is_opening b = b == entry_open_paren || b == entry_open_bracket

-- the byte is a blank, `(` or `[`
abbrev pub ends_head : ℕ → Bool
ends_head b = is_blank_text_byte b || is_opening b

-- the text is empty or starts with a blank
abbrev pub stands_apart : List ℕ → Bool
stands_apart [] = true
stands_apart (b ∷ text) = is_blank_text_byte b

-- the text starts with `(` or `[`
abbrev pub begins_with_entry_bracket : List ℕ → Bool
begins_with_entry_bracket [] = false
begins_with_entry_bracket (b ∷ text) = is_opening b

-- the last byte is `-`
abbrev pub ends_in_minus : List ℕ → Bool
ends_in_minus head = nat_lt 0 (length head) && last_byte head == entry_minus

-- the heading of a head and the text after it
abbrev pub heading_of : List ℕ → List ℕ → Heading
heading_of head behind =
    if ends_in_minus head && stands_apart behind
    then record { kind = Prefix; name = word_token_base head; text = trimmed_of_blanks behind }
    else record {
      kind = if begins_with_entry_bracket behind then Func else UnitKind;
      name = head;
      text = trimmed_of_blanks behind;
    }

-- the heading of a line that defines a unit, a prefix or a function
abbrev pub definition_heading : List ℕ → Heading
definition_heading line =
    let head = before_first ends_head line in heading_of head (drop (length head) line)

-- the heading of a line that defines a list, given the text after its `!`
abbrev pub list_heading : List ℕ → Heading
list_heading directive =
    let rest = after_word_trimmed_of_blanks (after_blanks directive) in
    record { kind = ListKind; name = first_word_before_blank rest; text = after_word_trimmed_of_blanks rest }

-- the head of a line; one leading `+` and the blanks after it are ignored
unfoldable pub heading_of_line : List ℕ → Heading
heading_of_line [] = definition_heading []
heading_of_line (b ∷ line) =
    if b == entry_exclamation
    then list_heading line
    else (if b == entry_plus then definition_heading (after_blanks line) else definition_heading (b ∷ line))

-- the text of the entry that a line gives
abbrev pub entry_text : List ℕ → List ℕ
entry_text line = (heading_of_line line).text
