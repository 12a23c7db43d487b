-- Intervals are read as they are written.
use Rattle.std.proofs.Common.{◌≡◌, ◌+◌, ◌==◌, ◌&&◌, ◌||◌, ◌∷◌, [], ◌++◌, ℕ, List, Bool, true, false, not, cond, length}
use Rattle.std.proofs.Common.{take, drop, Option, Some, None, option_map, unwrap_or, refl, sym, ap, ◌∙◌}
use Rattle.std.specs.List.{list_all, position}
use Rattle.std.specs.Option.{is_some}
use Rattle.std.specs.Prelude.{slice_index}
use Rattle.std.proofs.lemmas.Bool.{and_parts, eqb-true}
use Rattle.std.proofs.Math.Seq.{drop-append-add, take-append_seam}
use Rattle.std.proofs.lemmas.Option.{some_pair_parts}
use Rattle.def_lines.specs.Blanks.{trimmed_of_blanks}
use Rattle.def_entry.specs.declared.entry.Bound.{Bound}
use Rattle.def_entry.specs.declared.entry.Span.{Span}
use Rattle.def_entry.specs.Cuts.{cut_at, entry_text_lacks}
use Rattle.def_entry.specs.Intervals.{bound_in, interval_at, is_closing, option_closing_bracket, option_opening_bracket}
use Rattle.def_entry.specs.OptionGrammar.{WrittenOptionInterval, is_option_interval, option_closing_byte}
use Rattle.def_entry.specs.OptionGrammar.{option_interval_span, option_opening_byte, spelled_option_interval}
use Rattle.def_entry.specs.Steps.{◌>>=◌}
use Rattle.def_entry.proofs.CutTexts.{Around, entry_cut-around, entry_cut-at, entry_cut-index-at, entry_cut-is}
use Rattle.def_entry.proofs.CutTexts.{entry_cut-position-at}

-- if a step and its continuation succeed, the step succeeds
pub option_bind_some : {A B : Type 0} (given : Option A) (step : A → Option B) (y : B) → (given >>= step) ≡ Some y
    → (x : A) × (given ≡ Some x) × (step x ≡ Some y)
option_bind_some None step y e = cc
option_bind_some (Some x) step y e = (x, refl, e)

-- a written opening bracket is read
option_opening-at : (is_closed : Bool) (text : List ℕ)
    → option_opening_bracket (option_opening_byte is_closed ∷ text) ≡ Some
    (is_closed, text)
option_opening-at true text = refl
option_opening-at false text = refl

-- an opening bracket that is read is at the front of the text
option_opening-is : (text : List ℕ) (is_closed : Bool) (behind : List ℕ) → option_opening_bracket text ≡ Some
    (is_closed, behind)
    → text ≡ option_opening_byte is_closed ∷ behind
option_opening-is [] is_closed behind e = cc
option_opening-is (b ∷ text) is_closed behind e = go (b == 91) (b == 40) refl refl e
  where
    go : (s t : Bool) → (b == 91) ≡ s → (b == 40) ≡ t
        → cond {A = Option (Bool × List ℕ)} s (Some (true, text)) (cond t (Some (false, text)) None)
        ≡ Some (is_closed, behind)
        → b ∷ text ≡ option_opening_byte is_closed ∷ behind
    go true t f g e =
        let parts : (true ≡ is_closed) × (text ≡ behind) = some_pair_parts true is_closed text behind e in
        let byte : b ≡ option_opening_byte true = eqb-true b 91 f in
        (λ i. byte i ∷ text) ∙ (λ i. option_opening_byte (parts.0 i) ∷ parts.1 i)
    go false true f g e =
        let parts : (false ≡ is_closed) × (text ≡ behind) = some_pair_parts false is_closed text behind e in
        let byte : b ≡ option_opening_byte false = eqb-true b 40 g in
        (λ i. byte i ∷ text) ∙ (λ i. option_opening_byte (parts.0 i) ∷ parts.1 i)
    go false false f g e = cc

-- a closing bracket is recognised as one
option_closing_byte_closes : (is_closed : Bool) → is_closing (option_closing_byte is_closed) ≡ true
option_closing_byte_closes true = refl
option_closing_byte_closes false = refl

-- a closing bracket determines whether the end is included
option_closing_byte_is_closed : (is_closed : Bool) → (option_closing_byte is_closed == 93) ≡ is_closed
option_closing_byte_is_closed true = refl
option_closing_byte_is_closed false = refl

-- the text before the first closing bracket is read
option_closing-at : (is_closed : Bool) (front behind : List ℕ) → list_all (λ b. not (is_closing b)) front ≡ true
    → option_closing_bracket (front ++ (option_closing_byte is_closed ∷ behind)) ≡ Some (front, is_closed, behind)
option_closing-at is_closed front behind clear =
    let text : List ℕ = front ++ (option_closing_byte is_closed ∷ behind) in
    let so : (slice_index (front ++ (option_closing_byte is_closed ∷ behind)) (length front) == 93) ≡ is_closed =
    ap (λ b. b == 93) (entry_cut-index-at front (option_closing_byte is_closed) behind)
    ∙ option_closing_byte_is_closed is_closed in
    ap (option_map {U = List ℕ × Bool × List ℕ} (λ n. (take n text, slice_index text n == 93, drop (n + 1) text)))
    (entry_cut-position-at is_closing front (option_closing_byte is_closed) behind clear
    (option_closing_byte_closes is_closed))
    ∙ (λ i. Some (
      take-append_seam front (option_closing_byte is_closed ∷ behind) i,
      so i,
      drop-append-add front (option_closing_byte is_closed ∷ behind) 1 i,
    ))

-- a closing bracket is determined by the test for `]`
option_bracket_by_test : (b : ℕ) → is_closing b ≡ true → b ≡ option_closing_byte (b == 93)
option_bracket_by_test b passes = go (b == 93) refl (b == 41) refl passes
  where
    go : (s : Bool) → (b == 93) ≡ s → (t : Bool) → (b == 41) ≡ t → (s || t) ≡ true → b ≡ option_closing_byte (b == 93)
    go true e t f passes = eqb-true b 93 e ∙ ap option_closing_byte (sym e)
    go false e true f passes = eqb-true b 41 f ∙ ap option_closing_byte (sym e)
    go false e false f passes = cc

-- the texts before and after the closing bracket
pub record Closed (text front : List ℕ) (is_closed : Bool) (behind : List ℕ) : Type 0 where
  pub whole : text ≡ front ++ (option_closing_byte is_closed ∷ behind)
  pub clear : list_all (λ b. not (is_closing b)) front ≡ true

-- a closing bracket that is read is in the text
option_closing-is : (text front : List ℕ) (is_closed : Bool) (behind : List ℕ)
    → option_closing_bracket text ≡ Some (front, is_closed, behind)
    → Closed text front is_closed behind
option_closing-is text front is_closed behind e = go (position is_closing text) refl e
  where
    go : (found : Option ℕ) → position is_closing text ≡ found
        → option_map {U = List ℕ × Bool × List ℕ} (λ n. (take n text, slice_index text n == 93, drop (n + 1) text))
        found ≡ Some (front, is_closed, behind) → Closed text front is_closed behind
    go None f e = cc
    go (Some n) f e =
        let at : Around is_closing text n = entry_cut-around is_closing text n f in
        let first : take n text ≡ front = ap (λ o. (unwrap_or {T = List ℕ × Bool × List ℕ} o ([], true, [])).0) e in
        let second : (slice_index text n == 93) ≡ is_closed =
        ap (λ o. (unwrap_or {T = List ℕ × Bool × List ℕ} o ([], true, [])).1) e in
        let third : drop (n + 1) text ≡ behind =
        ap (λ o. (unwrap_or {T = List ℕ × Bool × List ℕ} o ([], true, [])).2) e in
        let byte : slice_index text n ≡ option_closing_byte is_closed = option_bracket_by_test (slice_index text n)
        at.passes
        ∙ ap option_closing_byte second in
        record {
          whole = at.whole ∙ (λ i. first i ++ (byte i ∷ third i));
          clear = ap (list_all (λ b. not (is_closing b))) (sym first) ∙ at.clear;
        }

-- the span of two bounds, and the text after it
abbrev both : Option (Option Bound) → Option (Option Bound) → List ℕ → Option (Span × List ℕ)
both low high rest = low >>= (λ l. high >>= (λ h. Some (record { low = l; high = h }, rest)))

-- the span of two bounds, if both are read
abbrev span : Option (Option Bound) → Option (Option Bound) → Option Span
span low high = low >>= (λ l. high >>= (λ h. Some (record { low = l; high = h })))

-- if two bounds form a span, the span is read
option_bounds-some : (low high : Option (Option Bound)) (s : Span) (rest : List ℕ) → span low high ≡ Some s
    → both low high rest ≡ Some (s, rest)
option_bounds-some None high s rest e = cc
option_bounds-some (Some l) None s rest e = cc
option_bounds-some (Some l) (Some h) s rest e = let same : ◌≡◌ {A = Span} (record { low = l; high = h }) s =
    cc in ap (λ (x : Span). Some (x, rest)) same

-- if a span is read, the two bounds form it
some-option_bounds : (low high : Option (Option Bound)) (s : Span) (rest behind : List ℕ)
    → both low high behind ≡ Some (s, rest)
    → (span low high ≡ Some s) × (behind ≡ rest)
some-option_bounds None high s rest behind e = cc
some-option_bounds (Some l) None s rest behind e = cc
some-option_bounds (Some l) (Some h) s rest behind e =
    let parts : (◌≡◌ {A = Span} (record { low = l; high = h }) s) × (behind ≡ rest) =
    some_pair_parts (record { low = l; high = h }) s behind rest e in
    (ap Some parts.0, parts.1)

-- an interval that is written is read
pub option_interval-at : (i : WrittenOptionInterval) (rest : List ℕ) (s : Span) → is_option_interval i ≡ true
    → option_interval_span i ≡ Some s
    → interval_at (spelled_option_interval i rest) ≡ Some (s, rest)
unfolding interval_at
option_interval-at i rest s whole value =
    let most : ((entry_text_lacks 44 i.low && list_all (λ b. not (is_closing b)) i.high) ≡ true)
    × (is_some (option_interval_span i) ≡ true) =
    and_parts _ _ whole in
    let parts : (entry_text_lacks 44 i.low ≡ true) × (list_all (λ b. not (is_closing b)) i.high ≡ true) =
    and_parts _ _ most.0 in
    let first : option_opening_bracket (spelled_option_interval i rest)
    ≡ Some (i.low_closed, i.low ++ (44 ∷ (i.high ++ (option_closing_byte i.high_closed ∷ rest)))) =
    option_opening-at i.low_closed _ in
    let second : cut_at 44 (i.low ++ (44 ∷ (i.high ++ (option_closing_byte i.high_closed ∷ rest))))
    ≡ Some (i.low, i.high ++ (option_closing_byte i.high_closed ∷ rest)) = entry_cut-at 44 i.low _ parts.0 in
    let third : option_closing_bracket (i.high ++ (option_closing_byte i.high_closed ∷ rest)) ≡ Some
    (i.high, i.high_closed, rest) =
    option_closing-at i.high_closed i.high rest parts.1 in
    (λ j. first j >>= (λ front. cut_at 44 front.1
    >>= (λ parts. option_closing_bracket parts.1
    >>= (λ back. both (bound_in front.0 (trimmed_of_blanks parts.0)) (bound_in back.1 (trimmed_of_blanks back.0))
    back.2))))
    ∙ (λ j. second j
    >>= (λ parts. option_closing_bracket parts.1
    >>= (λ back. both (bound_in i.low_closed (trimmed_of_blanks parts.0)) (bound_in back.1 (trimmed_of_blanks back.0))
    back.2)))
    ∙ (λ j. third j >>= (λ back. both (bound_in i.low_closed (trimmed_of_blanks i.low))
    (bound_in back.1 (trimmed_of_blanks back.0)) back.2))
    ∙ option_bounds-some (bound_in i.low_closed (trimmed_of_blanks i.low))
    (bound_in i.high_closed (trimmed_of_blanks i.high)) s rest value

-- the written form of an interval that is read
pub record Interval (text rest : List ℕ) (s : Span) : Type 0 where
  pub written : WrittenOptionInterval
  pub spelled : text ≡ spelled_option_interval written rest
  pub whole : is_option_interval written ≡ true
  pub value : option_interval_span written ≡ Some s

-- an interval that is read is written that way
pub option_interval-is : (text rest : List ℕ) (s : Span) → interval_at text ≡ Some (s, rest) → Interval text rest s
unfolding interval_at
option_interval-is text rest s e =
    let one = option_bind_some (option_opening_bracket text)
    (λ front. cut_at 44 front.1
    >>= (λ parts. option_closing_bracket parts.1
    >>= (λ back. both (bound_in front.0 (trimmed_of_blanks parts.0)) (bound_in back.1 (trimmed_of_blanks back.0))
    back.2)))
    (s, rest) e in
    let two = option_bind_some (cut_at 44 one.0.1)
    (λ parts. option_closing_bracket parts.1
    >>= (λ back. both (bound_in one.0.0 (trimmed_of_blanks parts.0)) (bound_in back.1 (trimmed_of_blanks back.0))
    back.2))
    (s, rest) one.2 in
    let three = option_bind_some (option_closing_bracket two.0.1)
    (λ back. both (bound_in one.0.0 (trimmed_of_blanks two.0.0)) (bound_in back.1 (trimmed_of_blanks back.0)) back.2)
    (s, rest) two.2 in
    done one.0.0 one.0.1 two.0.0 two.0.1 three.0.0 three.0.1 three.0.2 one.1 two.1 three.1 three.2
  where
    done : (is_low : Bool) (inside low behind high : List ℕ) (is_high : Bool) (left : List ℕ)
        → option_opening_bracket text ≡ Some (is_low, inside)
        → cut_at 44 inside ≡ Some (low, behind)
        → option_closing_bracket behind ≡ Some (high, is_high, left)
        → both (bound_in is_low (trimmed_of_blanks low)) (bound_in is_high (trimmed_of_blanks high)) left ≡ Some
        (s, rest)
        → Interval text rest s
    done is_low inside low behind high is_high left first second third last =
        let a : text ≡ option_opening_byte is_low ∷ inside = option_opening-is text is_low inside first in
        let b : (inside ≡ low ++ (44 ∷ behind)) × (entry_text_lacks 44 low ≡ true) =
        entry_cut-is 44 inside low behind second in
        let c : Closed behind high is_high left = option_closing-is behind high is_high left third in
        let d : (span (bound_in is_low (trimmed_of_blanks low)) (bound_in is_high (trimmed_of_blanks high)) ≡ Some s)
        × (left ≡ rest) =
        some-option_bounds (bound_in is_low (trimmed_of_blanks low)) (bound_in is_high (trimmed_of_blanks high)) s rest
        left last in
        record {
          written = record { low_closed = is_low; low = low; high = high; high_closed = is_high };
          spelled =
              a
              ∙ ap (λ t. option_opening_byte is_low ∷ t) b.0
              ∙ ap (λ t. option_opening_byte is_low ∷ (low ++ (44 ∷ t))) c.whole
              ∙ ap (λ t. option_opening_byte is_low ∷ (low ++ (44 ∷ (high ++ (option_closing_byte is_high ∷ t))))) d.1;
          whole = (λ j. b.1 j && c.clear j && is_some (d.0 j));
          value = d.0;
        }
