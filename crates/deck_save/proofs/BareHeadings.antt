-- A line that defines a key defines it also without the blanks at its ends.
use Rattle.std.proofs.Common.{◌≡◌, ◌==◌, ◌&&◌, ◌||◌, ◌++◌, ◌∷◌, [], ℕ, List, Bool, true, false, not, codes, cond}
use Rattle.std.proofs.Common.{reverse, refl, sym, ap, subst, ◌∙◌}
use Rattle.std.specs.List.{list_all}
use Rattle.std.proofs.lemmas.Bool.{and_parts, not-true, or_parts, true≢false}
use Rattle.std.proofs.lemmas.List.{reverse-append, reverse-reverse}
use Rattle.units_io.specs.Blanks.{is_blank_text_byte}
use Rattle.def_lines.specs.Blanks.{after_blanks, before_blanks}
use Rattle.def_lines.specs.Kinds.{Definition, UnitList, directive_kind, directive_of_word, directives, kind_of_line}
use Rattle.def_lines.specs.Kinds.{marked_line_kind}
use Rattle.def_lines.specs.Parts.{begins_without_blank}
use Rattle.def_lines.specs.Words.{after_word_trimmed_of_blanks, is_empty}
use Rattle.def_lines.proofs.TrimmedTexts.{before_blanks-word}
use Rattle.expr_tree.specs.Names.{is_name}
use Rattle.def_entry.specs.declared.key.Key.{Key}
use Rattle.def_entry.specs.declared.key.Kind.TheVariants.{Unit as UnitKind, Prefix, Func, List as ListKind}
use Rattle.def_entry.specs.Entries.{Entry}
use Rattle.def_entry.specs.EntryGrammar.{IsEntry}
use Rattle.def_entry.specs.HeadingGrammar.{HeadingLead, NoLead, PlusLead, WrittenHeading, UnitHeading, PrefixHeading}
use Rattle.def_entry.specs.HeadingGrammar.{FuncHeading, ListHeading, heading_bytes, heading_of, is_heading}
use Rattle.def_entry.specs.HeadingGrammar.{is_heading_head, is_heading_lead, is_list_heading_name, with_heading_lead}
use Rattle.def_entry.specs.Headings.{Heading, begins_with_entry_bracket, ends_in_minus, stands_apart}
use Rattle.def_entry.specs.EntryReading.{has_entry}
use Rattle.def_entry.proofs.Fronts.{entry_front-before-at, entry_text-apart-before_blanks}
use Rattle.def_entry.proofs.Fronts.{entry_text-before_blanks-front, entry_text-stops-apart}
use Rattle.def_entry.proofs.Fronts.{entry_text-trimmed-before_blanks}
use Rattle.def_entry.proofs.WrittenHeadings.{bracketed_heading_text_not_apart}
use Rattle.def_entry.proofs.WrittenOptions.{option-after_blanks-front}
use Rattle.deck_save.proofs.Names.{saved_name_has_no_blank, saved_name_is_some}

-- `bare` is the text without the blanks at its end, and is not empty
record EndsAs (text bare : List ℕ) : Type 0 where
  pub is : before_blanks text ≡ bare
  pub some : is_empty bare ≡ false

after_saved_blanks-append : (front behind : List ℕ) → is_empty (after_blanks front) ≡ false
    → after_blanks (front ++ behind) ≡ after_blanks front ++ behind
after_saved_blanks-append [] behind some = absurd (true≢false some)
after_saved_blanks-append (b ∷ front) behind some = go (after_saved_blanks-append front behind) (is_blank_text_byte b)
    refl some
  where
    go : (is_empty (after_blanks front) ≡ false → after_blanks (front ++ behind) ≡ after_blanks front ++ behind)
        → (t : Bool) → is_blank_text_byte b ≡ t
        → is_empty (cond t (after_blanks front) (b ∷ front)) ≡ false
        → cond (is_blank_text_byte b) (after_blanks (front ++ behind)) (b ∷ (front ++ behind)) ≡ cond
        (is_blank_text_byte b)
        (after_blanks front) (b ∷ front) ++ behind
    go rest true e some =
        ap (λ t. cond t (after_blanks (front ++ behind)) (b ∷ (front ++ behind))) e ∙ rest some
        ∙ ap (λ t. cond t (after_blanks front) (b ∷ front) ++ behind) (sym e)
    go rest false e some =
        ap (λ t. cond t (after_blanks (front ++ behind)) (b ∷ (front ++ behind))) e
        ∙ ap (λ t. cond t (after_blanks front) (b ∷ front) ++ behind) (sym e)

reversed_saved_text_is_some : (text : List ℕ) → is_empty (reverse text) ≡ false → is_empty text ≡ false
reversed_saved_text_is_some [] some = some
reversed_saved_text_is_some (b ∷ text) some = refl

-- the same holds with more bytes in front
saved_heading_end_in_front : (front text bare : List ℕ) → EndsAs text bare → EndsAs (front ++ text) (front ++ bare)
saved_heading_end_in_front front text bare ends = record {
  is =
      ap (λ t. reverse (after_blanks t)) (reverse-append front text)
      ∙ ap reverse (after_saved_blanks-append (reverse text) (reverse front)
      (reversed_saved_text_is_some (after_blanks (reverse text)) (ap is_empty ends.is ∙ ends.some)))
      ∙ reverse-append (after_blanks (reverse text)) (reverse front)
      ∙ (λ i. reverse-reverse front i ++ ends.is i);
  some = longer front;
}
  where
    longer : (xs : List ℕ) → is_empty (xs ++ bare) ≡ false
    longer [] = ends.some
    longer (b ∷ xs) = refl

-- a name and the text after it, without the blanks at the end
saved_name_ends_bare : (name behind : List ℕ) → is_name name ≡ true
    → EndsAs (name ++ behind) (name ++ before_blanks behind)
saved_name_ends_bare name behind is =
    record {
      is = entry_text-before_blanks-front name behind (saved_name_has_no_blank name is);
      some =
          longer name (saved_name_is_some name is);
    }
  where
    longer : (xs : List ℕ) → is_empty xs ≡ false → is_empty (xs ++ before_blanks behind) ≡ false
    longer [] some = absurd (true≢false some)
    longer (b ∷ xs) some = refl

saved_lead_ends_bare : (l : HeadingLead) (text bare : List ℕ) → EndsAs text bare → EndsAs (with_heading_lead l text)
    (with_heading_lead l bare)
saved_lead_ends_bare NoLead text bare ends = ends
saved_lead_ends_bare (PlusLead blanks) text bare ends = saved_heading_end_in_front (43 ∷ blanks) text bare ends

-- a heading without the blanks at its end
abbrev pub bare_heading : WrittenHeading → WrittenHeading
bare_heading (UnitHeading l name behind) = UnitHeading l name (before_blanks behind)
bare_heading (PrefixHeading l name behind) = PrefixHeading l name (before_blanks behind)
bare_heading (FuncHeading l name behind) = FuncHeading l name (before_blanks behind)
bare_heading (ListHeading before between name behind) = ListHeading before between name (before_blanks behind)

saved_heading_ends_bare : (w : WrittenHeading) → is_name (heading_of w).name ≡ true
    → EndsAs (heading_bytes w) (heading_bytes (bare_heading w))
saved_heading_ends_bare (UnitHeading l name behind) is = saved_lead_ends_bare l (name ++ behind)
    (name ++ before_blanks behind) (saved_name_ends_bare name behind is)
saved_heading_ends_bare (PrefixHeading l name behind) is =
    saved_lead_ends_bare l (name ++ (45 ∷ behind)) (name ++ (45 ∷ before_blanks behind))
    (subst (λ t. EndsAs (name ++ (45 ∷ behind)) (name ++ t)) (before_blanks-word 45 behind refl)
    (saved_name_ends_bare name (45 ∷ behind) is))
saved_heading_ends_bare (FuncHeading l name behind) is = saved_lead_ends_bare l (name ++ behind)
    (name ++ before_blanks behind) (saved_name_ends_bare name behind is)
saved_heading_ends_bare (ListHeading before between name behind) is =
    let bare : List ℕ = name ++ before_blanks behind in
    saved_heading_end_in_front (33 ∷ before) (codes "unitlist" ++ (between ++ (name ++ behind)))
    (codes "unitlist" ++ (between ++ bare))
    (saved_heading_end_in_front (codes "unitlist") (between ++ (name ++ behind)) (between ++ bare)
    (saved_heading_end_in_front between (name ++ behind) bare (saved_name_ends_bare name behind is)))

-- without these blanks the heading has the same kind, name and text
saved_bare_heading_is_same : (w : WrittenHeading) → heading_of (bare_heading w) ≡ heading_of w
saved_bare_heading_is_same (UnitHeading l name behind) =
    ap (λ (t : List ℕ). record { kind = UnitKind; name = name; text = t })
    (entry_text-trimmed-before_blanks behind)
saved_bare_heading_is_same (PrefixHeading l name behind) =
    ap (λ (t : List ℕ). record { kind = Prefix; name = name; text = t })
    (entry_text-trimmed-before_blanks behind)
saved_bare_heading_is_same (FuncHeading l name behind) =
    ap (λ (t : List ℕ). record { kind = Func; name = name; text = t })
    (entry_text-trimmed-before_blanks behind)
saved_bare_heading_is_same (ListHeading before between name behind) =
    ap (λ (t : List ℕ). record { kind = ListKind; name = name; text = t }) (entry_text-trimmed-before_blanks behind)

-- without these blanks it is still a heading

saved_bare_lead : (l : HeadingLead) (name x y : List ℕ) → is_name name ≡ true → is_heading_lead l (name ++ x) ≡ true
    → is_heading_lead l (name ++ y) ≡ true
saved_bare_lead l [] x y is leads = absurd (true≢false (sym is))
saved_bare_lead NoLead (b ∷ name) x y is leads = leads
saved_bare_lead (PlusLead blanks) (b ∷ name) x y is leads = leads

saved_bare_bracket : (behind : List ℕ) → begins_with_entry_bracket behind ≡ true
    → begins_with_entry_bracket (before_blanks behind) ≡ true
saved_bare_bracket [] opened = opened
saved_bare_bracket (b ∷ behind) opened = ap begins_with_entry_bracket
    (before_blanks-word b behind (bracketed_heading_text_not_apart (b ∷ behind) opened).0)
    ∙ opened

saved_bare_between : (between name x y : List ℕ) → is_name name ≡ true → stands_apart (between ++ (name ++ x)) ≡ true
    → stands_apart (between ++ (name ++ y)) ≡ true
saved_bare_between [] [] x y is apart = absurd (true≢false (sym is))
saved_bare_between [] (b ∷ name) x y is apart = apart
saved_bare_between (b ∷ between) name x y is apart = apart

saved_bare_name_begins : (name x y : List ℕ) → is_name name ≡ true → begins_without_blank (name ++ x) ≡ true
    → begins_without_blank (name ++ y) ≡ true
saved_bare_name_begins [] x y is begun = absurd (true≢false (sym is))
saved_bare_name_begins (b ∷ name) x y is begun = begun

saved_bare_heading_is_whole : (w : WrittenHeading) → is_heading w ≡ true → is_name (heading_of w).name ≡ true
    → is_heading (bare_heading w) ≡ true
saved_bare_heading_is_whole (UnitHeading l name behind) whole is =
    let a : ((is_heading_lead l (name ++ behind) && is_heading_head name && stands_apart behind) ≡ true)
    × (not (ends_in_minus name) ≡ true) = and_parts _ _ whole in
    let b : ((is_heading_lead l (name ++ behind) && is_heading_head name) ≡ true) × (stands_apart behind ≡ true) =
    and_parts _ _ a.0 in
    let c : (is_heading_lead l (name ++ behind) ≡ true) × (is_heading_head name ≡ true) = and_parts _ _ b.0 in
    (λ i. saved_bare_lead l name behind (before_blanks behind) is c.0 i && c.1 i && entry_text-apart-before_blanks
    behind b.1 i && a.1 i)
saved_bare_heading_is_whole (PrefixHeading l name behind) whole is =
    let a : ((is_heading_lead l (name ++ (45 ∷ behind)) && is_heading_head name) ≡ true) × (stands_apart behind ≡ true)
    =
    and_parts _ _ whole in
    let c : (is_heading_lead l (name ++ (45 ∷ behind)) ≡ true) × (is_heading_head name ≡ true) = and_parts _ _ a.0 in
    (λ i. saved_bare_lead l name (45 ∷ behind) (45 ∷ before_blanks behind) is c.0 i && c.1 i &&
    entry_text-apart-before_blanks behind a.1
    i)
saved_bare_heading_is_whole (FuncHeading l name behind) whole is =
    let a : ((is_heading_lead l (name ++ behind) && is_heading_head name) ≡ true)
    × (begins_with_entry_bracket behind ≡ true) = and_parts _ _ whole in
    let c : (is_heading_lead l (name ++ behind) ≡ true) × (is_heading_head name ≡ true) = and_parts _ _ a.0 in
    (λ i. saved_bare_lead l name behind (before_blanks behind) is c.0 i && c.1 i && saved_bare_bracket behind a.1 i)
saved_bare_heading_is_whole (ListHeading before between name behind) whole is =
    let a : ((list_all is_blank_text_byte before && list_all is_blank_text_byte between && stands_apart
    (between ++ (name ++ behind)) &&
    begins_without_blank (name ++ behind) && is_list_heading_name name) ≡ true) × (stands_apart behind ≡ true) =
    and_parts _ _ whole in
    let b : ((list_all is_blank_text_byte before && list_all is_blank_text_byte between && stands_apart
    (between ++ (name ++ behind)) &&
    begins_without_blank (name ++ behind)) ≡ true) × (is_list_heading_name name ≡ true) = and_parts _ _ a.0 in
    let c : ((list_all is_blank_text_byte before && list_all is_blank_text_byte between && stands_apart
    (between ++ (name ++ behind)))
    ≡ true) × (begins_without_blank (name ++ behind) ≡ true) = and_parts _ _ b.0 in
    let d : ((list_all is_blank_text_byte before && list_all is_blank_text_byte between) ≡ true)
    × (stands_apart (between ++ (name ++ behind)) ≡ true) = and_parts _ _ c.0 in
    let e : (list_all is_blank_text_byte before ≡ true) × (list_all is_blank_text_byte between ≡ true) =
    and_parts _ _ d.0 in
    (λ i. e.0 i && e.1 i && saved_bare_between between name behind (before_blanks behind) is d.1 i &&
    saved_bare_name_begins name behind
    (before_blanks behind) is c.1 i && b.1 i && entry_text-apart-before_blanks behind a.1 i)

-- the line without the blanks at its end defines the key
pub record IsBare (line : List ℕ) (k : Key) (e : Entry) : Type 0 where
  pub entry : IsEntry (before_blanks line) k e
  pub some : is_empty (before_blanks line) ≡ false
  pub begun : begins_without_blank line ≡ true
  pub has : has_entry (kind_of_line (before_blanks line)) ≡ true

-- a name does not begin with a blank
saved_name_begins_line : (name behind : List ℕ) → is_name name ≡ true → begins_without_blank (name ++ behind) ≡ true
saved_name_begins_line [] behind is = absurd (true≢false (sym is))
saved_name_begins_line (b ∷ name) behind is =
    (and_parts (not (is_blank_text_byte b)) (list_all (λ c. not (is_blank_text_byte c)) name)
    (saved_name_has_no_blank (b ∷ name) is)).0

-- a line with a heading does not begin with a blank
saved_heading_begins_line : (w : WrittenHeading) → is_name (heading_of w).name ≡ true
    → begins_without_blank (heading_bytes w) ≡ true
saved_heading_begins_line (UnitHeading NoLead name behind) is = saved_name_begins_line name behind is
saved_heading_begins_line (UnitHeading (PlusLead blanks) name behind) is = refl
saved_heading_begins_line (PrefixHeading NoLead name behind) is = saved_name_begins_line name (45 ∷ behind) is
saved_heading_begins_line (PrefixHeading (PlusLead blanks) name behind) is = refl
saved_heading_begins_line (FuncHeading NoLead name behind) is = saved_name_begins_line name behind is
saved_heading_begins_line (FuncHeading (PlusLead blanks) name behind) is = refl
saved_heading_begins_line (ListHeading before between name behind) is = refl

-- the line is a definition or a unit list

saved_line_of_other_mark : (b : ℕ) (line : List ℕ) → (b == 33) ≡ false → has_entry (kind_of_line (b ∷ line)) ≡ true
unfolding kind_of_line
saved_line_of_other_mark b line e = ap (λ t. has_entry (cond t (marked_line_kind (after_blanks line)) Definition)) e

saved_line_of_plus_mark : (line : List ℕ) → has_entry (kind_of_line (43 ∷ line)) ≡ true
saved_line_of_plus_mark line = saved_line_of_other_mark 43 line refl

saved_lead_kind_has_entry : (l : HeadingLead) (name behind : List ℕ) → is_name name ≡ true
    → is_heading_lead l (name ++ behind) ≡ true
    → has_entry (kind_of_line (with_heading_lead l (name ++ behind))) ≡ true
saved_lead_kind_has_entry l [] behind is leads = absurd (true≢false (sym is))
saved_lead_kind_has_entry NoLead (b ∷ name) behind is leads = saved_line_of_other_mark b (name ++ behind)
    (or_parts (b == 33) (b == 43) (not-true (b == 33 || b == 43) leads)).0
saved_lead_kind_has_entry (PlusLead blanks) (b ∷ name) behind is leads =
    saved_line_of_plus_mark (blanks ++ ((b ∷ name) ++ behind))

saved_unit_list_kind : (before rest : List ℕ) → list_all is_blank_text_byte before ≡ true → stands_apart rest ≡ true
    → kind_of_line (33 ∷ (before ++ (codes "unitlist" ++ rest))) ≡ UnitList
unfolding kind_of_line
saved_unit_list_kind before rest blank apart =
    ap marked_line_kind (option-after_blanks-front before (codes "unitlist" ++ rest) blank refl)
    ∙ ap (λ w. directive_kind (directive_of_word w directives)
    (after_word_trimmed_of_blanks (codes "unitlist" ++ rest)))
    (entry_front-before-at is_blank_text_byte (codes "unitlist") rest refl (entry_text-stops-apart rest apart))

saved_heading_kind_has_entry : (w : WrittenHeading) → is_heading w ≡ true → is_name (heading_of w).name ≡ true
    → has_entry (kind_of_line (heading_bytes w)) ≡ true
saved_heading_kind_has_entry (UnitHeading l name behind) whole is =
    let a : ((is_heading_lead l (name ++ behind) && is_heading_head name && stands_apart behind) ≡ true)
    × (not (ends_in_minus name) ≡ true) = and_parts _ _ whole in
    let b : ((is_heading_lead l (name ++ behind) && is_heading_head name) ≡ true) × (stands_apart behind ≡ true) =
    and_parts _ _ a.0 in
    saved_lead_kind_has_entry l name behind is
    (and_parts (is_heading_lead l (name ++ behind)) (is_heading_head name) b.0).0
saved_heading_kind_has_entry (PrefixHeading l name behind) whole is =
    let a : ((is_heading_lead l (name ++ (45 ∷ behind)) && is_heading_head name) ≡ true) × (stands_apart behind ≡ true)
    =
    and_parts _ _ whole in
    saved_lead_kind_has_entry l name (45 ∷ behind) is
    (and_parts (is_heading_lead l (name ++ (45 ∷ behind))) (is_heading_head name) a.0).0
saved_heading_kind_has_entry (FuncHeading l name behind) whole is =
    let a : ((is_heading_lead l (name ++ behind) && is_heading_head name) ≡ true)
    × (begins_with_entry_bracket behind ≡ true) = and_parts _ _ whole in
    saved_lead_kind_has_entry l name behind is
    (and_parts (is_heading_lead l (name ++ behind)) (is_heading_head name) a.0).0
saved_heading_kind_has_entry (ListHeading before between name behind) whole is =
    let a : ((list_all is_blank_text_byte before && list_all is_blank_text_byte between && stands_apart
    (between ++ (name ++ behind)) &&
    begins_without_blank (name ++ behind) && is_list_heading_name name) ≡ true) × (stands_apart behind ≡ true) =
    and_parts _ _ whole in
    let b : ((list_all is_blank_text_byte before && list_all is_blank_text_byte between && stands_apart
    (between ++ (name ++ behind)) &&
    begins_without_blank (name ++ behind)) ≡ true) × (is_list_heading_name name ≡ true) = and_parts _ _ a.0 in
    let c : ((list_all is_blank_text_byte before && list_all is_blank_text_byte between && stands_apart
    (between ++ (name ++ behind)))
    ≡ true) × (begins_without_blank (name ++ behind) ≡ true) = and_parts _ _ b.0 in
    let d : ((list_all is_blank_text_byte before && list_all is_blank_text_byte between) ≡ true)
    × (stands_apart (between ++ (name ++ behind)) ≡ true) = and_parts _ _ c.0 in
    let e : (list_all is_blank_text_byte before ≡ true) × (list_all is_blank_text_byte between ≡ true) =
    and_parts _ _ d.0 in
    ap has_entry (saved_unit_list_kind before (between ++ (name ++ behind)) e.0 d.1)

pub saved_entry_is_bare : (line : List ℕ) (k : Key) (e : Entry) → IsEntry line k e → IsBare line k e
saved_entry_is_bare line k e is =
    let w : WrittenHeading = is.line_has_heading.written_heading in
    let own : is_name (heading_of w).name ≡ true = subst (λ (h : Heading). is_name h.name ≡ true)
    is.line_has_heading.reads_as_heading
    is.names.own_name in
    let ends : EndsAs (heading_bytes w) (heading_bytes (bare_heading w)) = saved_heading_ends_bare w own in
    let bare : before_blanks line ≡ heading_bytes (bare_heading w) = ap before_blanks is.line_has_heading.spelled_line
    ∙ ends.is in
    let whole : is_heading (bare_heading w) ≡ true = saved_bare_heading_is_whole w is.line_has_heading.well_formed own
    in
    let named : is_name (heading_of (bare_heading w)).name ≡ true = subst (λ (h : Heading). is_name h.name ≡ true)
    (sym (saved_bare_heading_is_same w)) own in
    record {
      entry = record {
        heading = is.heading;
        line_has_heading = record {
          written_heading = bare_heading w;
          spelled_line = bare;
          well_formed = whole;
          reads_as_heading = is.line_has_heading.reads_as_heading
              ∙ sym (saved_bare_heading_is_same w);
        };
        key_is = is.key_is;
        text_of_heading = is.text_of_heading;
        names = is.names;
        form = is.form;
        spelled_form = is.spelled_form;
        form_defines = is.form_defines;
      };
      some = ap is_empty bare ∙ ends.some;
      begun = ap begins_without_blank is.line_has_heading.spelled_line ∙ saved_heading_begins_line w own;
      has = ap (λ t. has_entry (kind_of_line t)) bare ∙ saved_heading_kind_has_entry (bare_heading w) whole named;
    }
