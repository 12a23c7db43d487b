-- The grammar of the headings of lines.
use Rattle.std.specs.Prelude.{◌≡◌, ◌↔◌, ◌==◌, ◌&&◌, ◌||◌, ◌++◌, ℕ, List, [], ◌∷◌, Bool, true, false, not, codes}
use Rattle.std.specs.List.{list_all}
use Rattle.units_io.specs.Blanks.{is_blank_text_byte}
use Rattle.def_lines.specs.Blanks.{trimmed_of_blanks}
use Rattle.def_lines.specs.Kinds.{kind_of_line}
use Rattle.def_lines.specs.Parts.{begins_without_blank}
use Rattle.def_entry.specs.declared.key.Kind.TheVariants.{Unit as UnitKind, Prefix, Func, List as ListKind}
use Rattle.def_entry.specs.Headings.{Heading, begins_with_entry_bracket, ends_head, ends_in_minus, heading_of_line}
use Rattle.def_entry.specs.Headings.{stands_apart}
use Rattle.def_entry.specs.Marks.{entry_exclamation, entry_minus, entry_plus}
use Rattle.def_entry.specs.EntryReading.{has_entry}

-- the text before the name of a definition
pub data HeadingLead : Type 0 where
  -- nothing
  NoLead : HeadingLead
  -- "+" blanks
  PlusLead : List ℕ → HeadingLead

-- the text before a name, the name, and the text after it
pub data WrittenHeading : Type 0 where
  -- lead name, and a text apart from it
  UnitHeading : HeadingLead → List ℕ → List ℕ → WrittenHeading
  -- lead name "-", and a text apart from it
  PrefixHeading : HeadingLead → List ℕ → List ℕ → WrittenHeading
  -- lead name, and a text that begins with "(" or "["
  FuncHeading : HeadingLead → List ℕ → List ℕ → WrittenHeading
  -- "!" blanks "unitlist" blanks name, and a text apart from it
  ListHeading : List ℕ → List ℕ → List ℕ → List ℕ → WrittenHeading

-- the bytes of a heading

abbrev pub with_heading_lead : HeadingLead → List ℕ → List ℕ
with_heading_lead NoLead rest = rest
with_heading_lead (PlusLead blanks) rest = entry_plus ∷ (blanks ++ rest)

abbrev pub heading_bytes : WrittenHeading → List ℕ
heading_bytes (UnitHeading l name behind) = with_heading_lead l (name ++ behind)
heading_bytes (PrefixHeading l name behind) = with_heading_lead l (name ++ (entry_minus ∷ behind))
heading_bytes (FuncHeading l name behind) = with_heading_lead l (name ++ behind)
heading_bytes (ListHeading before between name behind) =
    entry_exclamation ∷ (before ++ (codes "unitlist" ++ (between ++ (name ++ behind))))

-- the text starts with `!` or `+`
abbrev pub has_heading_mark : List ℕ → Bool
has_heading_mark [] = false
has_heading_mark (b ∷ text) = b == entry_exclamation || b == entry_plus

-- a leading `+` is followed by all the blanks after it, and a line without `+` does not start with a mark
abbrev pub is_heading_lead : HeadingLead → List ℕ → Bool
is_heading_lead NoLead rest = not (has_heading_mark rest)
is_heading_lead (PlusLead blanks) rest = list_all is_blank_text_byte blanks && begins_without_blank rest

-- the head of a definition contains no blank, `(` or `[`
abbrev pub is_heading_head : List ℕ → Bool
is_heading_head name = list_all (λ b. not (ends_head b)) name

-- the name of a list contains no blank
abbrev pub is_list_heading_name : List ℕ → Bool
is_list_heading_name name = list_all (λ b. not (is_blank_text_byte b)) name

-- the parts of a heading are well-formed
abbrev pub is_heading : WrittenHeading → Bool
is_heading (UnitHeading l name behind) =
    is_heading_lead l (name ++ behind) && is_heading_head name && stands_apart behind && not (ends_in_minus name)
is_heading (PrefixHeading l name behind) =
    is_heading_lead l (name ++ (entry_minus ∷ behind)) && is_heading_head name && stands_apart behind
is_heading (FuncHeading l name behind) = is_heading_lead l (name ++ behind) && is_heading_head name &&
    begins_with_entry_bracket behind
is_heading (ListHeading before between name behind) =
    list_all is_blank_text_byte before
    && list_all is_blank_text_byte between
    && stands_apart (between ++ (name ++ behind))
    && begins_without_blank (name ++ behind)
    && is_list_heading_name name
    && stands_apart behind

-- the heading that is written in this way
abbrev pub heading_of : WrittenHeading → Heading
heading_of (UnitHeading l name behind) = record { kind = UnitKind; name = name; text = trimmed_of_blanks behind }
heading_of (PrefixHeading l name behind) = record { kind = Prefix; name = name; text = trimmed_of_blanks behind }
heading_of (FuncHeading l name behind) = record { kind = Func; name = name; text = trimmed_of_blanks behind }
heading_of (ListHeading before between name behind) =
    record { kind = ListKind; name = name; text = trimmed_of_blanks behind }

-- the line is written with this heading
pub record HasWrittenHeading (line : List ℕ) (h : Heading) : Type 0 where
  pub written_heading : WrittenHeading
  pub spelled_line : line ≡ heading_bytes written_heading
  pub well_formed : is_heading written_heading ≡ true
  pub reads_as_heading : h ≡ heading_of written_heading

-- law: the heading of a line is the one with which it is written
abbrev pub HeadingLaw : Type 0
HeadingLaw = (line : List ℕ) (h : Heading) → has_entry (kind_of_line line) ≡ true
    → (heading_of_line line ≡ h) ↔ HasWrittenHeading line h
