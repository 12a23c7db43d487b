-- Options are read the way they are written.
use Rattle.std.proofs.Common.{◌≡◌, ◌==◌, ◌&&◌, ◌||◌, ◌∷◌, [], ◌++◌, ℕ, List, Bool, true, false, not, cond, length, take}
use Rattle.std.proofs.Common.{drop, codes, Option, Some, None, option_map, refl, sym, ap, ◌∙◌}
use Rattle.std.specs.List.{list_all, starts_with}
use Rattle.std.specs.Option.{is_some}
use Rattle.std.specs.Prelude.{nat_eq}
use Rattle.std.proofs.lemmas.Bool.{and_parts, eqb-true, not-true}
use Rattle.std.proofs.lemmas.List.{take-append-drop}
use Rattle.std.proofs.lemmas.Slice.Eq.{bytes_eq-Decides}
use Rattle.std.proofs.lemmas.Option.{some_pair_parts}
use Rattle.units_io.specs.Blanks.{is_blank_text_byte}
use Rattle.def_lines.specs.Blanks.{after_blanks, trimmed_of_blanks}
use Rattle.def_lines.specs.Parts.{begins_without_blank}
use Rattle.def_lines.proofs.TrimmedTexts.{after_blanks-blank, after_blanks-word}
use Rattle.def_entry.specs.declared.entry.Span.{Span}
use Rattle.def_entry.specs.declared.options.Choice.{Choice}
use Rattle.def_entry.specs.declared.options.Choice.TheVariants.{Units as UnitsChoice, Domain, Range, NoError}
use Rattle.def_entry.specs.Cuts.{behind_byte, cut_at, entry_text_lacks}
use Rattle.def_entry.specs.Headings.{stands_apart}
use Rattle.def_entry.specs.Intervals.{interval_at}
use Rattle.def_entry.specs.OptionGrammar.{WrittenOptionInterval, WrittenOption, UnitsOption, DomainOption, RangeOption}
use Rattle.def_entry.specs.OptionGrammar.{NoErrorOption, is_complete_option, is_option_interval, option_has_ended}
use Rattle.def_entry.specs.OptionGrammar.{option_interval_span, spelled_option, spelled_option_interval}
use Rattle.def_entry.specs.Options.{Options, Units, begins_with_no_error, begins_with_option, choice_at}
use Rattle.def_entry.specs.Options.{text_after_choice, units_at, with_option_choice}
use Rattle.def_entry.specs.Steps.{◌>>=◌}
use Rattle.def_entry.proofs.Choices.{begins_with_option-choice_at}
use Rattle.def_entry.proofs.CutTexts.{entry_cut-at, entry_cut-is}
use Rattle.def_entry.proofs.WrittenIntervals.{Interval, option_bind_some, option_interval-at, option_interval-is}
use Rattle.general_lemmas.proofs.Options.{mapped_some}

-- blanks

-- blanks before a text that does not start with a blank are skipped
pub option-after_blanks-front : (blanks text : List ℕ) → list_all is_blank_text_byte blanks ≡ true
    → begins_without_blank text ≡ true
    → after_blanks (blanks ++ text) ≡ text
option-after_blanks-front [] [] clear begun = refl
option-after_blanks-front [] (b ∷ text) clear begun = after_blanks-word b text (not-true (is_blank_text_byte b) begun)
option-after_blanks-front (b ∷ blanks) text clear begun =
    go (and_parts (is_blank_text_byte b) (list_all is_blank_text_byte blanks) clear)
    (option-after_blanks-front blanks text)
  where
    go : (is_blank_text_byte b ≡ true) × (list_all is_blank_text_byte blanks ≡ true)
        → (list_all is_blank_text_byte blanks ≡ true → begins_without_blank text ≡ true
        → after_blanks (blanks ++ text) ≡ text)
        → after_blanks ((b ∷ blanks) ++ text) ≡ text
    go parts rest = after_blanks-blank b (blanks ++ text) parts.0 ∙ rest parts.1 begun

-- a text and its leading blanks
pub record Fronted (text : List ℕ) : Type 0 where
  pub blanks : List ℕ
  pub whole : text ≡ blanks ++ after_blanks text
  pub clear : list_all is_blank_text_byte blanks ≡ true

-- each text is a sequence of blanks followed by a text that does not start with a blank
pub option_text_after_blanks : (text : List ℕ) → Fronted text
option_text_after_blanks [] = record { blanks = []; whole = refl; clear = refl }
option_text_after_blanks (b ∷ text) = go (is_blank_text_byte b) refl (option_text_after_blanks text) where
  go : (t : Bool) → is_blank_text_byte b ≡ t → Fronted text → Fronted (b ∷ text)
  go true e rest = record {
    blanks = b ∷ rest.blanks;
    whole = ap (λ t. b ∷ t) rest.whole ∙ ap (λ t. b ∷ (rest.blanks ++ t)) (sym (after_blanks-blank b text e));
    clear = (λ i. e i && rest.clear i);
  }
  go false e rest = record { blanks = []; whole = sym (after_blanks-word b text e); clear = refl }

-- a text that starts with a front is the front followed by the rest
pub option_start-is : (text front : List ℕ) → starts_with nat_eq text front ≡ true
    → text ≡ front ++ drop (length front) text
option_start-is text front e = sym (take-append-drop (length front) text)
    ∙ ap (λ t. t ++ drop (length front) text) (sym ((bytes_eq-Decides front (take (length front) text)).0 e))

-- the kind of an option
abbrev pub choice_of : WrittenOption → Choice
choice_of (UnitsOption a b) = UnitsChoice
choice_of (DomainOption i) = Domain
choice_of (RangeOption i) = Range
choice_of NoErrorOption = NoError

-- an option starts with the word of its kind
pub option_choice-at : (w : WrittenOption) (rest : List ℕ) → is_complete_option w rest ≡ true
    → choice_at (spelled_option w rest) ≡ Some (choice_of w)
option_choice-at (UnitsOption a b) rest whole = refl
option_choice-at (DomainOption i) rest whole = refl
option_choice-at (RangeOption i) rest whole = refl
option_choice-at NoErrorOption rest whole = ap (λ t. cond t (Some NoError) None) whole

-- an option does not start with a blank
pub begun-option : (w : WrittenOption) (rest : List ℕ) → begins_without_blank (spelled_option w rest) ≡ true
begun-option (UnitsOption a b) rest = refl
begun-option (DomainOption i) rest = refl
begun-option (RangeOption i) rest = refl
begun-option NoErrorOption rest = refl

-- the end of the options, in terms of the tests for their words
ended-option-cases : (u d r n b : Bool) → (not (u || d || r || n) && b) ≡ true
    → (cond u (Some UnitsChoice) (cond d (Some Domain) (cond r (Some Range) (cond n (Some NoError) None))) ≡ None)
    × (b ≡ true)
ended-option-cases false false false false true e = (refl, refl)
ended-option-cases false false false false false e = cc
ended-option-cases true d r n b e = cc
ended-option-cases false true d r b e = cc
ended-option-cases false false true n b e = cc
ended-option-cases false false false true b e = cc

-- if the options have ended, the text does not start with an option
pub no-option-choice : (rest : List ℕ) → option_has_ended rest ≡ true
    → (choice_at rest ≡ None) × (begins_without_blank rest ≡ true)
no-option-choice rest e = ended-option-cases (begins_with_option UnitsChoice rest) (begins_with_option Domain rest)
    (begins_with_option Range rest)
    (begins_with_no_error rest) (begins_without_blank rest) e

-- if no option is chosen, no test for a word holds
option-cases-ended : (u d r n b : Bool)
    → cond u (Some UnitsChoice) (cond d (Some Domain) (cond r (Some Range) (cond n (Some NoError) None))) ≡ None
    → b ≡ true
    → (not (u || d || r || n) && b) ≡ true
option-cases-ended false false false false b e f = f
option-cases-ended true d r n b e f = cc
option-cases-ended false true r n b e f = cc
option-cases-ended false false true n b e f = cc
option-cases-ended false false false true b e f = cc

-- if the text does not start with an option, the options have ended
pub options-have-ended : (rest : List ℕ) → choice_at rest ≡ None → begins_without_blank rest ≡ true
    → option_has_ended rest ≡ true
options-have-ended rest none begun =
    option-cases-ended (begins_with_option UnitsChoice rest) (begins_with_option Domain rest)
    (begins_with_option Range rest)
    (begins_with_no_error rest) (begins_without_blank rest) none begun

-- a single option

-- the units of two texts
abbrev units_by : List ℕ → List ℕ → Units
units_by a b = record { in_unit = trimmed_of_blanks a; out_unit = trimmed_of_blanks b }

-- options with these units
abbrev with_units : Options → Units × List ℕ → Options × List ℕ
with_units o found = (record o { units = Some found.0 }, found.1)

-- options with this domain
abbrev with_domain : Options → Span × List ℕ → Options × List ℕ
with_domain o found = (record o { domain = Some found.0 }, found.1)

-- options with this range
abbrev with_range : Options → Span × List ℕ → Options × List ℕ
with_range o found = (record o { range = Some found.0 }, found.1)

-- options with `noerror`
abbrev with_no_error : Options → Options
with_no_error o = record o { no_error = true }

-- the options with one more
abbrev pub added : WrittenOption → Options → Options
added (UnitsOption a b) o = record o { units = Some (units_by a b) }
added (DomainOption i) o = record o { domain = option_interval_span i }
added (RangeOption i) o = record o { range = option_interval_span i }
added NoErrorOption o = with_no_error o

-- no such option occurred before
abbrev pub is_free : WrittenOption → Options → Bool
is_free (UnitsOption a b) o = not (is_some o.units)
is_free (DomainOption i) o = not (is_some o.domain)
is_free (RangeOption i) o = not (is_some o.range)
is_free NoErrorOption o = not o.no_error

-- an option that is found to be present has a value
pub some_option_value : {A : Type 0} (v : Option A) → is_some v ≡ true → (x : A) × (v ≡ Some x)
some_option_value None e = cc
some_option_value (Some x) e = (x, refl)

-- units are read the way they are written
option_units-at : (a b rest : List ℕ) → entry_text_lacks 59 a ≡ true → entry_text_lacks 93 b ≡ true
    → units_at (91 ∷ (a ++ (59 ∷ (b ++ (93 ∷ rest))))) ≡ Some (units_by a b, rest)
option_units-at a b rest clear clear' = (λ i. entry_cut-at 59 a (b ++ (93 ∷ rest)) clear i
    >>= (λ first. cut_at 93 first.1 >>= (λ second. Some (units_by first.0 second.0, second.1))))
    ∙ (λ i. entry_cut-at 93 b rest clear' i >>= (λ second. Some (units_by a second.0, second.1)))

-- the value of an option is read
pub option_value-at : (w : WrittenOption) (o : Options) (rest : List ℕ) → is_complete_option w rest ≡ true
    → is_free w o ≡ true
    → with_option_choice (choice_of w) o (text_after_choice (choice_of w) (spelled_option w rest)) ≡ Some
    (added w o, rest)
option_value-at (UnitsOption a b) o rest whole free =
    let clear : (entry_text_lacks 59 a ≡ true) × (entry_text_lacks 93 b ≡ true) = and_parts _ _ whole in
    let value : List ℕ = 91 ∷ (a ++ (59 ∷ (b ++ (93 ∷ rest)))) in
    ap (λ t. cond t None (option_map (with_units o) (units_at value))) (not-true (is_some o.units) free)
    ∙ ap (option_map (with_units o)) (option_units-at a b rest clear.0 clear.1)
option_value-at (DomainOption i) o rest whole free =
    let value : (s : Span) × (option_interval_span i ≡ Some s) = some_option_value (option_interval_span i)
    (and_parts _ _ whole).1 in
    ap (λ t. cond t None (option_map (with_domain o) (interval_at (spelled_option_interval i rest))))
    (not-true (is_some o.domain) free)
    ∙ ap (option_map (with_domain o)) (option_interval-at i rest value.0 whole value.1)
    ∙ ap (λ v. domain_set v) (sym value.1)
  where
    domain_set : Option Span → Option (Options × List ℕ)
    domain_set v = Some (record o { domain = v }, rest)
option_value-at (RangeOption i) o rest whole free =
    let value : (s : Span) × (option_interval_span i ≡ Some s) = some_option_value (option_interval_span i)
    (and_parts _ _ whole).1 in
    ap (λ t. cond t None (option_map (with_range o) (interval_at (spelled_option_interval i rest))))
    (not-true (is_some o.range) free)
    ∙ ap (option_map (with_range o)) (option_interval-at i rest value.0 whole value.1)
    ∙ ap (λ v. range_set v) (sym value.1)
  where
    range_set : Option Span → Option (Options × List ℕ)
    range_set v = Some (record o { range = v }, rest)
option_value-at NoErrorOption o rest whole free =
    ap (λ t. cond t None (Some (with_no_error o, rest))) (not-true o.no_error free)

-- the written form of an option that is read
pub record Added (text : List ℕ) (o new : Options) (rest : List ℕ) : Type 0 where
  pub written : WrittenOption
  pub spelled : text ≡ spelled_option written rest
  pub whole : is_complete_option written rest ≡ true
  pub free : is_free written o ≡ true
  pub made : new ≡ added written o

-- a text with a byte removed from its front starts with that byte
option_byte-is : (mark : ℕ) (text inside : List ℕ) → behind_byte mark text ≡ Some inside → text ≡ mark ∷ inside
option_byte-is mark [] inside e = cc
option_byte-is mark (b ∷ text) inside e = go (b == mark) refl e where
  go : (t : Bool) → (b == mark) ≡ t → cond t (Some text) None ≡ Some inside → b ∷ text ≡ mark ∷ inside
  go true f e = let same : text ≡ inside = cc in let byte : b ≡ mark = eqb-true b mark f in (λ i. byte i ∷ same i)
  go false f e = cc

-- the written form of the units of a text
record UnitsWritten (text rest : List ℕ) (u : Units) : Type 0 where
  in_unit : List ℕ
  out_unit : List ℕ
  spelled : text ≡ 91 ∷ (in_unit ++ (59 ∷ (out_unit ++ (93 ∷ rest))))
  clear : (entry_text_lacks 59 in_unit && entry_text_lacks 93 out_unit) ≡ true
  value : u ≡ units_by in_unit out_unit

-- units that are read are written that way
option_units-is : (text rest : List ℕ) (u : Units) → units_at text ≡ Some (u, rest) → UnitsWritten text rest u
option_units-is text rest u e =
    let one = option_bind_some (behind_byte 91 text)
    (λ inside. cut_at 59 inside
    >>= (λ first. cut_at 93 first.1 >>= (λ second. Some (units_by first.0 second.0, second.1)))) (u, rest) e in
    let two = option_bind_some (cut_at 59 one.0)
    (λ first. cut_at 93 first.1 >>= (λ second. Some (units_by first.0 second.0, second.1))) (u, rest) one.2 in
    let three = option_bind_some (cut_at 93 two.0.1) (λ second. Some (units_by two.0.0 second.0, second.1))
    (u, rest) two.2 in
    done one.0 two.0.0 two.0.1 three.0.0 three.0.1 one.1 two.1 three.1 three.2
  where
    done : (inside a more b left : List ℕ) → behind_byte 91 text ≡ Some inside → cut_at 59 inside ≡ Some (a, more)
        → cut_at 93 more ≡ Some (b, left)
        → ◌≡◌ {A = Option (Units × List ℕ)} (Some (units_by a b, left)) (Some (u, rest)) → UnitsWritten text rest u
    done inside a more b left first second third last =
        let front : text ≡ 91 ∷ inside = option_byte-is 91 text inside first in
        let s : (inside ≡ a ++ (59 ∷ more)) × (entry_text_lacks 59 a ≡ true) = entry_cut-is 59 inside a more second in
        let t : (more ≡ b ++ (93 ∷ left)) × (entry_text_lacks 93 b ≡ true) = entry_cut-is 93 more b left third in
        let pair : (units_by a b ≡ u) × (left ≡ rest) = some_pair_parts (units_by a b) u left rest last in
        record {
          in_unit = a;
          out_unit = b;
          spelled = front ∙ ap (λ x. 91 ∷ x) s.0 ∙ ap (λ x. 91 ∷ (a ++ (59 ∷ x))) t.0
              ∙ ap (λ x. 91 ∷ (a ++ (59 ∷ (b ++ (93 ∷ x))))) pair.1;
          clear = (λ i. s.1 i && t.1 i);
          value = sym pair.0;
        }

-- if an option with a value is accepted, it was free, and its value is read
taken_option_was_free : {A : Type 0} (had : Bool) (put : A → Options × List ℕ) (given : Option A)
    (made : Options × List ℕ)
    → cond had None (option_map put given) ≡ Some made
    → (not had ≡ true) × ((x : A) × (given ≡ Some x) × (put x ≡ made))
taken_option_was_free true put given made e = cc
taken_option_was_free false put given made e = (refl, mapped_some put given made e)

-- `noerror` is followed by a blank or by nothing
no_error_option_is_apart : (text : List ℕ) → choice_at text ≡ Some NoError
    → stands_apart (text_after_choice NoError text) ≡ true
no_error_option_is_apart text e = go (begins_with_option UnitsChoice text) (begins_with_option Domain text)
    (begins_with_option Range text)
    (begins_with_option NoError text) (stands_apart (text_after_choice NoError text)) e
  where
    go : (u d r n s : Bool)
        → cond u (Some UnitsChoice) (cond d (Some Domain) (cond r (Some Range) (cond (n && s) (Some NoError) None)))
        ≡ Some NoError
        → s ≡ true
    go true d r n s e = cc
    go false true r n s e = cc
    go false false true n s e = cc
    go false false false true true e = refl
    go false false false true false e = cc
    go false false false false s e = cc

-- the written form of an option with an interval that is read
record Spanned (text rest : List ℕ) (put : Option Span → Options) (new : Options) : Type 0 where
  written : WrittenOptionInterval
  spelled : text ≡ spelled_option_interval written rest
  whole : is_option_interval written ≡ true
  made : new ≡ put (option_interval_span written)

-- an interval that is read is written that way
read_option_interval_is_written : (text rest : List ℕ) (put : Option Span → Options) (new : Options) (s : Span)
    (left : List ℕ)
    → interval_at text ≡ Some (s, left) → ◌≡◌ {A = Options × List ℕ} (put (Some s), left) (new, rest)
    → Spanned text rest put new
read_option_interval_is_written text rest put new s left value made =
    let is : Interval text left s = option_interval-is text left s value in
    record {
      written = is.written;
      spelled = is.spelled ∙ ap (spelled_option_interval is.written) (ap (λ (p : Options × List ℕ). p.1) made);
      whole = is.whole;
      made = sym (ap (λ (p : Options × List ℕ). p.0) made) ∙ ap put (sym is.value);
    }

-- the value of each option that is read is written that way
pub option_value-is : (c : Choice) (text : List ℕ) (o new : Options) (rest : List ℕ) → choice_at text ≡ Some c
    → with_option_choice c o (text_after_choice c text) ≡ Some (new, rest) → Added text o new rest
option_value-is UnitsChoice text o new rest begins e =
    let front : text ≡ codes "units=" ++ text_after_choice UnitsChoice text =
    option_start-is text (codes "units=") (begins_with_option-choice_at text (choice_at text) UnitsChoice refl begins)
    in
    let read = taken_option_was_free (is_some o.units) (with_units o) (units_at (text_after_choice UnitsChoice text))
    (new, rest) e in
    done front read.0 read.1.0.0 read.1.0.1 read.1.1 read.1.2
  where
    done : text ≡ codes "units=" ++ text_after_choice UnitsChoice text → not (is_some o.units) ≡ true
        → (u : Units) (left : List ℕ)
        → units_at (text_after_choice UnitsChoice text) ≡ Some (u, left)
        → ◌≡◌ {A = Options × List ℕ} (with_units o (u, left)) (new, rest) → Added text o new rest
    done front free u left value made =
        let is : UnitsWritten (text_after_choice UnitsChoice text) left u =
        option_units-is (text_after_choice UnitsChoice text) left u value in
        let left_is : left ≡ rest = ap (λ (p : Options × List ℕ). p.1) made in
        let new_is : ◌≡◌ {A = Options} (record o { units = Some u }) new = ap (λ (p : Options × List ℕ). p.0) made in
        record {
          written = UnitsOption is.in_unit is.out_unit;
          spelled = front ∙ ap (λ t. codes "units=" ++ t) is.spelled
              ∙ ap (λ t. spelled_option (UnitsOption is.in_unit is.out_unit) t) left_is;
          whole = is.clear;
          free = free;
          made = sym new_is ∙ ap (λ (v : Units). record o { units = Some v }) is.value;
        }
option_value-is Domain text o new rest begins e =
    let front : text ≡ codes "domain=" ++ text_after_choice Domain text =
    option_start-is text (codes "domain=") (begins_with_option-choice_at text (choice_at text) Domain refl begins) in
    let read = taken_option_was_free (is_some o.domain) (with_domain o) (interval_at (text_after_choice Domain text))
    (new, rest) e in
    let is : Spanned (text_after_choice Domain text) rest (λ v. record o { domain = v }) new =
    read_option_interval_is_written (text_after_choice Domain text) rest (λ v. record o { domain = v }) new read.1.0.0
    read.1.0.1 read.1.1
    read.1.2 in
    record {
      written = DomainOption is.written;
      spelled = front ∙ ap (λ t. codes "domain=" ++ t) is.spelled;
      whole = is.whole;
      free = read.0;
      made = is.made;
    }
option_value-is Range text o new rest begins e =
    let front : text ≡ codes "range=" ++ text_after_choice Range text =
    option_start-is text (codes "range=") (begins_with_option-choice_at text (choice_at text) Range refl begins) in
    let read = taken_option_was_free (is_some o.range) (with_range o) (interval_at (text_after_choice Range text))
    (new, rest) e in
    let is : Spanned (text_after_choice Range text) rest (λ v. record o { range = v }) new =
    read_option_interval_is_written (text_after_choice Range text) rest (λ v. record o { range = v }) new read.1.0.0
    read.1.0.1 read.1.1
    read.1.2 in
    record {
      written = RangeOption is.written;
      spelled = front ∙ ap (λ t. codes "range=" ++ t) is.spelled;
      whole = is.whole;
      free = read.0;
      made = is.made;
    }
option_value-is NoError text o new rest begins e =
    let front : text ≡ codes "noerror" ++ text_after_choice NoError text =
    option_start-is text (codes "noerror") (begins_with_option-choice_at text (choice_at text) NoError refl begins) in
    go o.no_error refl e front
  where
    go : (t : Bool) → o.no_error ≡ t
        → cond {A = Option (Options × List ℕ)} t None (Some (with_no_error o, text_after_choice NoError text)) ≡ Some
        (new, rest)
        → text ≡ codes "noerror" ++ text_after_choice NoError text
        → Added text o new rest
    go true f e front = cc
    go false f e front =
        let pair : (with_no_error o ≡ new) × (text_after_choice NoError text ≡ rest) =
        some_pair_parts (with_no_error o) new (text_after_choice NoError text) rest e in
        record {
          written = NoErrorOption;
          spelled = front ∙ ap (λ t. codes "noerror" ++ t) pair.1;
          whole = ap stands_apart (sym pair.1) ∙ no_error_option_is_apart text begins;
          free = ap not f;
          made = sym pair.0;
        }
