-- Headings are read the way they are written.
use Rattle.std.proofs.Common.{◌≡◌, ◌<◌, ◌≤◌, ◌-◌, ◌==◌, ◌&&◌, ◌||◌, ◌∷◌, [], ◌++◌, ℕ, suc, List, Bool, true, false, not}
use Rattle.std.proofs.Common.{cond, length, drop, codes, if◌then◌else◌, refl, sym, ap, ◌∙◌, arith}
use Rattle.std.proofs.Common.{append_assoc, length-append}
use Rattle.std.specs.List.{list_all}
use Rattle.std.specs.Prelude.{nat_lt}
use Rattle.std.proofs.lemmas.Bool.Decides.{Decides-ltb}
use Rattle.std.proofs.lemmas.Bool.{and_from, and_parts, eqb-true, ltb-true, not-true}
use Rattle.std.proofs.lemmas.List.{take-append-drop}
use Rattle.std.proofs.lemmas.List.Folds.{list_all-append}
use Rattle.std.proofs.Math.ListN.{drop_of_length-le}
use Rattle.std.proofs.Math.Seq.{drop-append_seam, drop-cons}
use Rattle.std.proofs.Math.Bool.{and-false}
use Rattle.units_io.specs.Blanks.{is_blank_text_byte}
use Rattle.def_lines.specs.Blanks.{after_blanks, trimmed_of_blanks}
use Rattle.def_lines.specs.Kinds.{kind_of_line, marked_line_kind}
use Rattle.def_lines.specs.Kinds as line
use Rattle.def_lines.specs.Parts.{begins_without_blank}
use Rattle.def_lines.specs.Words.{after_word_trimmed_of_blanks, first_word_before_blank}
use Rattle.def_lines.proofs.TrimmedTexts.{begins_without_blank-after_blanks}
use Rattle.expr_tree.specs.Names.{last_byte, word_token_base}
use Rattle.def_entry.specs.declared.key.Kind.TheVariants.{Unit as UnitKind, Prefix, Func, List as ListKind}
use Rattle.def_entry.specs.HeadingGrammar.{HasWrittenHeading, HeadingLaw, HeadingLead, NoLead, PlusLead, WrittenHeading}
use Rattle.def_entry.specs.HeadingGrammar.{UnitHeading, PrefixHeading, FuncHeading, ListHeading, heading_bytes}
use Rattle.def_entry.specs.HeadingGrammar.{heading_of, is_heading_head, is_heading, is_heading_lead}
use Rattle.def_entry.specs.HeadingGrammar.{is_list_heading_name, with_heading_lead}
use Rattle.def_entry.specs.Headings.{Heading, definition_heading, ends_head, ends_in_minus, heading_of_line}
use Rattle.def_entry.specs.Headings.{begins_with_entry_bracket, heading_of as heading_by, is_opening, list_heading}
use Rattle.def_entry.specs.Headings.{stands_apart}
use Rattle.def_entry.specs.EntryReading.{has_entry}
use Rattle.def_entry.proofs.Fronts.{FirstWord, Parted, entry_front-before-at, entry_text-first-word, entry_text-parted}
use Rattle.def_entry.proofs.Fronts.{entry_text-stops-apart, stops}
use Rattle.def_entry.proofs.ListDirectives.{entry_directive_is_unitlist}
use Rattle.def_entry.proofs.KeyTexts.{spelling_contains_name, spelling_last_byte_after}
use Rattle.def_entry.proofs.WrittenOptions.{Fronted, option-after_blanks-front, option_text_after_blanks}

-- if a disjunction does not hold, both of its tests are false
neither_heading_test_holds : (a b : Bool) → not (a || b) ≡ true → (a ≡ false) × (b ≡ false)
neither_heading_test_holds true b e = cc
neither_heading_test_holds false true e = cc
neither_heading_test_holds false false e = (refl, refl)

-- the heading of a prefix
abbrev prefix : List ℕ → List ℕ → Heading
prefix head behind = record { kind = Prefix; name = word_token_base head; text = trimmed_of_blanks behind }

-- the heading of a function or of a unit
abbrev other : List ℕ → List ℕ → Bool → Heading
other head behind opened =
    record { kind = if opened then Func else UnitKind; name = head; text = trimmed_of_blanks behind }

-- the heading of a list
abbrev list_by : List ℕ → List ℕ → Heading
list_by name text = record { kind = ListKind; name = name; text = text }

-- a lead does not change the heading
heading_after_lead : (l : HeadingLead) (rest : List ℕ) → is_heading_lead l rest ≡ true
    → heading_of_line (with_heading_lead l rest) ≡ definition_heading rest
unfolding heading_of_line
heading_after_lead NoLead [] plain = refl
heading_after_lead NoLead (b ∷ rest) plain =
    let none : ((b == 33) ≡ false) × ((b == 43) ≡ false) = neither_heading_test_holds (b == 33) (b == 43) plain in
    ap (λ t. cond t (list_heading rest)
    (cond (b == 43) (definition_heading (after_blanks rest)) (definition_heading (b ∷ rest)))) none.0
    ∙ ap (λ t. cond t (definition_heading (after_blanks rest)) (definition_heading (b ∷ rest))) none.1
heading_after_lead (PlusLead blanks) rest plain =
    let parts : (list_all is_blank_text_byte blanks ≡ true) × (begins_without_blank rest ≡ true) =
    and_parts _ _ plain in
    ap definition_heading (option-after_blanks-front blanks rest parts.0 parts.1)

-- the head extends to the first blank or bracket
heading_of_head : (head behind : List ℕ) → is_heading_head head ≡ true → stops ends_head behind ≡ true
    → definition_heading (head ++ behind) ≡ heading_by head behind
heading_of_head head behind clear stop =
    ap (λ h. heading_by h (drop (length h) (head ++ behind))) (entry_front-before-at ends_head head behind clear stop)
    ∙ ap (heading_by head) (drop-append_seam head behind)

-- a text that is empty or starts with a blank does not start with a bracket, and ends a head
heading_text_apart_has_no_bracket : (text : List ℕ) → stands_apart text ≡ true
    → (begins_with_entry_bracket text ≡ false) × (stops ends_head text ≡ true)
heading_text_apart_has_no_bracket [] apart = (refl, refl)
heading_text_apart_has_no_bracket (b ∷ text) apart =
    (go (b == 32) (b == 9) refl refl apart, ap (λ t. t || is_opening b) apart)
  where
    go : (s t : Bool) → (b == 32) ≡ s → (b == 9) ≡ t → (s || t) ≡ true → is_opening b ≡ false
    go true t e f apart = ap is_opening (eqb-true b 32 e)
    go false true e f apart = ap is_opening (eqb-true b 9 f)
    go false false e f apart = cc

-- a text that starts with a bracket is neither empty nor starts with a blank, and ends a head
pub bracketed_heading_text_not_apart : (text : List ℕ) → begins_with_entry_bracket text ≡ true
    → (stands_apart text ≡ false) × (stops ends_head text ≡ true)
bracketed_heading_text_not_apart [] opened = cc
bracketed_heading_text_not_apart (b ∷ text) opened =
    (go (b == 40) (b == 91) refl refl opened, or_second (is_blank_text_byte b) (is_opening b) opened)
  where
    or_second : (s t : Bool) → t ≡ true → (s || t) ≡ true
    or_second true t e = refl
    or_second false t e = e

    go : (s t : Bool) → (b == 40) ≡ s → (b == 91) ≡ t → (s || t) ≡ true → is_blank_text_byte b ≡ false
    go true t e f opened = ap is_blank_text_byte (eqb-true b 40 e)
    go false true e f opened = ap is_blank_text_byte (eqb-true b 91 f)
    go false false e f opened = cc

-- a name followed by a minus ends in a minus
heading_head_ends_in_minus : (name : List ℕ) → ends_in_minus (name ++ (45 ∷ [])) ≡ true
heading_head_ends_in_minus name = and_from (nat_lt 0 (length (name ++ (45 ∷ [])))) (last_byte (name ++ (45 ∷ [])) == 45)
    (some (length (name ++ (45 ∷ []))) (omega (arith, length-append name (45 ∷ []))))
    (ap (λ b. b == 45) (spelling_last_byte_after name (45 ∷ []) (omega arith)))
  where
    some : (n : ℕ) → 0 < n → nat_lt 0 n ≡ true
    some n more = (Decides-ltb 0 n).1 more

-- a head that ends in a minus is its base followed by the minus
heading_head_before_minus : (head : List ℕ) → ends_in_minus head ≡ true → head ≡ word_token_base head ++ (45 ∷ [])
heading_head_before_minus head ends =
    let parts : (nat_lt 0 (length head) ≡ true) × ((last_byte head == 45) ≡ true) = and_parts _ _ ends in
    let some : 0 < length head = ltb-true 0 (length head) parts.0 in
    let last : length head - 1 < length head = omega arith in
    let all : length head ≤ suc (length head - 1) = omega arith in
    sym (take-append-drop (length head - 1) head)
    ∙ ap (λ t. word_token_base head ++ t)
    (drop-cons head (length head - 1) 0 last
    ∙ (λ i. eqb-true (last_byte head) 45 parts.1 i ∷ drop_of_length-le head all i))

-- a line that is written this way has this heading
pub heading-written : (w : WrittenHeading) → is_heading w ≡ true → heading_of_line (heading_bytes w) ≡ heading_of w
unfolding heading_of_line
heading-written (UnitHeading l name behind) whole =
    let a : ((is_heading_lead l (name ++ behind) && is_heading_head name && stands_apart behind) ≡ true)
    × (not (ends_in_minus name) ≡ true) = and_parts _ _ whole in
    let b : ((is_heading_lead l (name ++ behind) && is_heading_head name) ≡ true) × (stands_apart behind ≡ true) =
    and_parts _ _ a.0 in
    let c : (is_heading_lead l (name ++ behind) ≡ true) × (is_heading_head name ≡ true) = and_parts _ _ b.0 in
    let apart : (begins_with_entry_bracket behind ≡ false) × (stops ends_head behind ≡ true) =
    heading_text_apart_has_no_bracket behind b.1 in
    heading_after_lead l (name ++ behind) c.0
    ∙ heading_of_head name behind c.1 apart.1
    ∙ ap (λ t. cond (t && stands_apart behind) (prefix name behind)
    (other name behind (begins_with_entry_bracket behind)))
    (not-true (ends_in_minus name) a.1)
    ∙ ap (other name behind) apart.0
heading-written (PrefixHeading l name behind) whole =
    let a : ((is_heading_lead l (name ++ (45 ∷ behind)) && is_heading_head name) ≡ true) × (stands_apart behind ≡ true)
    =
    and_parts _ _ whole in
    let c : (is_heading_lead l (name ++ (45 ∷ behind)) ≡ true) × (is_heading_head name ≡ true) = and_parts _ _ a.0 in
    let apart : (begins_with_entry_bracket behind ≡ false) × (stops ends_head behind ≡ true) =
    heading_text_apart_has_no_bracket behind a.1 in
    let head : is_heading_head (name ++ (45 ∷ [])) ≡ true = list_all-append (λ b. not (ends_head b)) name (45 ∷ [])
    ∙ ap (λ t. t && true) c.1 in
    let parts : definition_heading (name ++ (45 ∷ behind)) ≡ heading_by (name ++ (45 ∷ [])) behind =
    ap definition_heading (sym (append_assoc name (45 ∷ []) behind))
    ∙ heading_of_head (name ++ (45 ∷ [])) behind head apart.1 in
    heading_after_lead l (name ++ (45 ∷ behind)) c.0
    ∙ parts
    ∙ ap (λ t. cond t (prefix (name ++ (45 ∷ [])) behind)
    (other (name ++ (45 ∷ [])) behind (begins_with_entry_bracket behind)))
    (λ i. heading_head_ends_in_minus name i && a.1 i)
    ∙ ap (λ (n : List ℕ). record { kind = Prefix; name = n; text = trimmed_of_blanks behind })
    (spelling_contains_name Prefix name)
heading-written (FuncHeading l name behind) whole =
    let a : ((is_heading_lead l (name ++ behind) && is_heading_head name) ≡ true)
    × (begins_with_entry_bracket behind ≡ true) = and_parts _ _ whole in
    let c : (is_heading_lead l (name ++ behind) ≡ true) × (is_heading_head name ≡ true) = and_parts _ _ a.0 in
    let opened : (stands_apart behind ≡ false) × (stops ends_head behind ≡ true) =
    bracketed_heading_text_not_apart behind a.1 in
    heading_after_lead l (name ++ behind) c.0
    ∙ heading_of_head name behind c.1 opened.1
    ∙ ap (λ t. cond (ends_in_minus name && t) (prefix name behind)
    (other name behind (begins_with_entry_bracket behind))) opened.0
    ∙ ap (λ t. cond t (prefix name behind) (other name behind (begins_with_entry_bracket behind)))
    (and-false (ends_in_minus name))
    ∙ ap (other name behind) a.1
heading-written (ListHeading before between name behind) whole =
    let y : List ℕ = between ++ (name ++ behind) in
    let a : ((list_all is_blank_text_byte before && list_all is_blank_text_byte between && stands_apart
    (between ++ (name ++ behind))
    && begins_without_blank (name ++ behind) && is_list_heading_name name) ≡ true) × (stands_apart behind ≡ true) =
    and_parts _ _ whole in
    let b : ((list_all is_blank_text_byte before && list_all is_blank_text_byte between && stands_apart
    (between ++ (name ++ behind))
    && begins_without_blank (name ++ behind)) ≡ true) × (is_list_heading_name name ≡ true) =
    and_parts _ _ a.0 in
    let c : ((list_all is_blank_text_byte before && list_all is_blank_text_byte between && stands_apart
    (between ++ (name ++ behind)))
    ≡ true) × (begins_without_blank (name ++ behind) ≡ true) = and_parts _ _ b.0 in
    let d : ((list_all is_blank_text_byte before && list_all is_blank_text_byte between) ≡ true)
    × (stands_apart (between ++ (name ++ behind)) ≡ true) = and_parts _ _ c.0 in
    let e : (list_all is_blank_text_byte before ≡ true) × (list_all is_blank_text_byte between ≡ true) =
    and_parts _ _ d.0 in
    let front : after_blanks (before ++ (codes "unitlist" ++ y)) ≡ codes "unitlist" ++ y =
    option-after_blanks-front before (codes "unitlist" ++ y) e.0 refl in
    let word : first_word_before_blank (codes "unitlist" ++ y) ≡ codes "unitlist" =
    entry_front-before-at is_blank_text_byte (codes "unitlist") y refl (entry_text-stops-apart y d.1) in
    let rest : after_word_trimmed_of_blanks (after_blanks (before ++ (codes "unitlist" ++ y))) ≡ trimmed_of_blanks y =
    ap after_word_trimmed_of_blanks front ∙ ap (λ w. trimmed_of_blanks (drop (length w) (codes "unitlist" ++ y))) word
    in
    let first : FirstWord y name behind = entry_text-first-word between name behind e.1 c.1 b.1 a.1 in
    ap (λ (r : List ℕ). list_by (first_word_before_blank r) (after_word_trimmed_of_blanks r)) rest
    ∙ (λ i. list_by (first.first i) (first.rest i))

-- the written form of the bytes of a line
pub record Written (line : List ℕ) : Type 0 where
  pub written : WrittenHeading
  pub spelled : line ≡ heading_bytes written
  pub whole : is_heading written ≡ true

-- a text that ends a head and does not start with a bracket is empty or starts with a blank
heading_text_apart_or_bracketed : (text : List ℕ) → stops ends_head text ≡ true → begins_with_entry_bracket text ≡ false
    → stands_apart text ≡ true
heading_text_apart_or_bracketed [] stop closed = refl
heading_text_apart_or_bracketed (b ∷ text) stop closed = go (is_blank_text_byte b) (is_opening b) stop closed where
  go : (s t : Bool) → (s || t) ≡ true → t ≡ false → s ≡ true
  go true t e f = refl
  go false true e f = cc
  go false false e f = cc

-- the written form of a definition with its lead
written_definition_heading : (l : HeadingLead) (rest line : List ℕ) → is_heading_lead l rest ≡ true
    → line ≡ with_heading_lead l rest → Written line
written_definition_heading l rest line plain is = go (entry_text-parted ends_head rest) where
  go : Parted ends_head rest → Written line
  go part = by (begins_with_entry_bracket part.behind) refl (ends_in_minus part.front) refl where
    by : (o : Bool) → begins_with_entry_bracket part.behind ≡ o → (m : Bool) → ends_in_minus part.front ≡ m
        → Written line
    by true f m g = record {
      written = FuncHeading l part.front part.behind;
      spelled = is ∙ ap (with_heading_lead l) part.whole;
      whole = (λ i. (ap (is_heading_lead l) (sym part.whole) ∙ plain) i && part.clear i && f i);
    }
    by false f true g =
        let minus : part.front ≡ word_token_base part.front ++ (45 ∷ []) = heading_head_before_minus part.front g in
        let whole : rest ≡ word_token_base part.front ++ (45 ∷ part.behind) =
        part.whole ∙ ap (λ t. t ++ part.behind) minus ∙ append_assoc (word_token_base part.front)
        (45 ∷ []) part.behind in
        let head : (is_heading_head (word_token_base part.front) && is_heading_head (45 ∷ [])) ≡ true =
        sym (list_all-append (λ b. not (ends_head b)) (word_token_base part.front) (45 ∷ []))
        ∙ ap is_heading_head (sym minus)
        ∙ part.clear in
        record {
          written = PrefixHeading l (word_token_base part.front) part.behind;
          spelled = is ∙ ap (with_heading_lead l) whole;
          whole = (λ i. (ap (is_heading_lead l) (sym whole) ∙ plain) i
              && (and_parts (is_heading_head (word_token_base part.front)) (is_heading_head (45 ∷ [])) head).0 i
              && heading_text_apart_or_bracketed part.behind part.stop f i);
        }
    by false f false g = record {
      written = UnitHeading l part.front part.behind;
      spelled = is ∙ ap (with_heading_lead l) part.whole;
      whole = (λ i. (ap (is_heading_lead l) (sym part.whole) ∙ plain) i && part.clear i
          && heading_text_apart_or_bracketed part.behind part.stop f i && not (g i));
    }

-- the written form of a line that defines a list, given the text after its mark
written_list_heading : (text line : List ℕ) → line ≡ 33 ∷ text → has_entry (marked_line_kind (after_blanks text)) ≡ true
    → Written line
written_list_heading text line is entry =
    let front : Fronted text = option_text_after_blanks text in
    let part : Parted is_blank_text_byte (after_blanks text) = entry_text-parted is_blank_text_byte (after_blanks text)
    in
    let word : part.front ≡ codes "unitlist" =
    sym (ap first_word_before_blank part.whole ∙ entry_front-before-at is_blank_text_byte part.front part.behind
    part.clear part.stop)
    ∙ entry_directive_is_unitlist (after_blanks text) entry in
    let gap : Fronted part.behind = option_text_after_blanks part.behind in
    let inner : Parted is_blank_text_byte (after_blanks part.behind) = entry_text-parted is_blank_text_byte
    (after_blanks part.behind) in
    let whole : part.behind ≡ gap.blanks ++ (inner.front ++ inner.behind) =
    gap.whole ∙ ap (λ t. gap.blanks ++ t) inner.whole in
    let spelled : after_blanks text ≡ codes "unitlist" ++ (gap.blanks ++ (inner.front ++ inner.behind)) =
    part.whole ∙ (λ i. word i ++ whole i) in
    record {
      written = ListHeading front.blanks gap.blanks inner.front inner.behind;
      spelled = is ∙ ap (λ t. 33 ∷ t) (front.whole ∙ ap (λ t. front.blanks ++ t) spelled);
      whole = (λ i. front.clear i && gap.clear i && (ap stands_apart (sym whole) ∙ apart_so part.behind part.stop) i
          && (ap begins_without_blank (sym inner.whole) ∙ begins_without_blank-after_blanks part.behind) i
          && inner.clear i
          && apart_so inner.behind inner.stop i);
    }
  where
    apart_so : (t : List ℕ) → stops is_blank_text_byte t ≡ true → stands_apart t ≡ true
    apart_so [] stop = refl
    apart_so (b ∷ t) stop = stop

-- a line that has an entry is written with a heading
pub entry-has-written-heading : (line : List ℕ) → has_entry (kind_of_line line) ≡ true → Written line
unfolding kind_of_line
entry-has-written-heading [] entry = written_definition_heading NoLead [] [] refl refl
entry-has-written-heading (b ∷ text) entry = go (b == 33) refl (b == 43) refl entry (option_text_after_blanks text)
  where
    go : (s : Bool) → (b == 33) ≡ s → (t : Bool) → (b == 43) ≡ t
        → has_entry (if s then marked_line_kind (after_blanks text) else line.Definition) ≡ true → Fronted text
        → Written (b ∷ text)
    go true e t f entry front = written_list_heading text (b ∷ text) (ap (λ c. c ∷ text) (eqb-true b 33 e)) entry
    go false e true f entry front = written_definition_heading (PlusLead front.blanks) (after_blanks text) (b ∷ text)
        (λ i. front.clear i && begins_without_blank-after_blanks text i)
        ((λ i. eqb-true b 43 f i ∷ front.whole i))
    go false e false f entry front = written_definition_heading NoLead (b ∷ text) (b ∷ text) (λ i. not (e i || f i))
        refl

-- the law of headings
pub headings : HeadingLaw
headings text h entry = (to, from) where
  to : heading_of_line text ≡ h → HasWrittenHeading text h
  to e =
      let is : Written text = entry-has-written-heading text entry in
      record {
        written_heading = is.written;
        spelled_line = is.spelled;
        well_formed = is.whole;
        reads_as_heading = sym e ∙ ap heading_of_line is.spelled ∙ heading-written is.written is.whole;
      }

  from : HasWrittenHeading text h → heading_of_line text ≡ h
  from is = ap heading_of_line is.spelled_line ∙ heading-written is.written_heading is.well_formed
      ∙ sym is.reads_as_heading
