-- The lines of an input that a session hears, as its bytes are fed.
use Rattle.std.proofs.Common.{◌≡◌, ◌++◌, ◌∷◌, ◌||◌, ◌∙◌, [], ℕ, List, Bool, true, false, cond, refl, sym, ap, subst}
use Rattle.std.proofs.Common.{append_assoc, Some, None, Option}
use Rattle.std.specs.List.{list_any}
use Rattle.std.proofs.lemmas.List.Folds.{list_any-append}
use Rattle.std.proofs.Math.Bool.{or-false}
use Rattle.def_entry.specs.Cuts.{cut_at, entry_text_lacks}
use Rattle.def_entry.proofs.CutTexts.{entry_cut-is, entry_cut-none}
use Rattle.units_io.specs.FileMap.{FileMap}
use Rattle.session.specs.HeardLines.{HeardInputNamesNoFile, heard_input_loads_file, heard_line_loads_file}
use Rattle.session.specs.HeardLines.{heard_line_names_file, heard_lines, is_last_session_line, readable_session_line}
use Rattle.session.specs.Input.{input_cut_from, input_lines, unfinished_input_line, whole_input_lines}
use Rattle.session.specs.SessionProgress.{HoldsInputRest}
use Rattle.session.specs.KnownContents.{IsSessionValueKnownIfNeeded}
use Rattle.session.proofs.LineCuts.{input_lines_begin_with_whole, input_lines_with_unfinished_line, lines_line}
use Rattle.session.proofs.LineCuts.{open_line, unfinished_input_line_with_piece, whole_input_lines_with_piece}
use Rattle.session.proofs.LineCuts.{whole_line, whole_input_lines_of_split}

-- lines that do not end the session are heard, and so are the lines after them
pub lines-are-heard-until-the-end : (xs ys : List (List ℕ)) → list_any is_last_session_line xs ≡ false
    → heard_lines (xs ++ ys) ≡ xs ++ heard_lines ys
lines-are-heard-until-the-end [] ys e = refl
lines-are-heard-until-the-end (x ∷ xs) ys e = by (lines-are-heard-until-the-end xs ys) (is_last_session_line x) e
  where
    by : (list_any is_last_session_line xs ≡ false → heard_lines (xs ++ ys) ≡ xs ++ heard_lines ys) → (d : Bool)
        → (d || list_any is_last_session_line xs) ≡ false → x ∷ cond d [] (heard_lines (xs ++ ys)) ≡ x ∷
        (xs ++ heard_lines ys)
    by ih true g = cc
    by ih false g = ap (λ t. x ∷ t) (ih g)

module _ (taken : List ℕ) (going : list_any is_last_session_line (whole_input_lines taken) ≡ false) where
  -- the complete lines are heard, and then perhaps more
  pub heard_more : (more : List ℕ)
      → (lines : List (List ℕ)) × (heard_lines (input_lines (taken ++ more)) ≡ whole_input_lines taken ++ lines)
  heard_more more =
      let parts = input_lines_begin_with_whole taken more in (
        heard_lines parts.0,
        ap heard_lines parts.1 ∙ lines-are-heard-until-the-end (whole_input_lines taken) parts.0
            going,
      )

  -- the last line, which no line feed ends
  pub heard_end : (unfinished_input_line taken ≡ [] → ⊥) → heard_lines (input_lines taken) ≡ whole_input_lines taken
      ++ unfinished_input_line taken
      ∷ []
  heard_end h =
      ap heard_lines (input_lines_with_unfinished_line taken h)
      ∙ lines-are-heard-until-the-end (whole_input_lines taken) (unfinished_input_line taken ∷ []) going
      ∙ ap (λ ls. whole_input_lines taken ++ unfinished_input_line taken ∷ ls)
      (same_cond (is_last_session_line (unfinished_input_line taken)))
    where
      same_cond : (d : Bool) → cond {A = List (List ℕ)} d [] [] ≡ []
      same_cond true = refl
      same_cond false = refl

  module _ (piece : List ℕ) (clear : entry_text_lacks 10 piece ≡ true) where
    abbrev line : List ℕ
    line = unfinished_input_line taken ++ piece

    -- the lines heard after a line feed
    pub heard_feed : (more : List ℕ)
        → heard_lines (input_lines (taken ++ (piece ++ 10 ∷ more)))
        ≡ whole_input_lines taken ++ line ∷ cond (is_last_session_line line) [] (heard_lines (input_lines more))
    heard_feed more =
        ap heard_lines (lines_line taken piece clear more)
        ∙ lines-are-heard-until-the-end (whole_input_lines taken) (line ∷ input_lines more) going

    pub last_feed : list_any is_last_session_line (whole_input_lines (taken ++ (piece ++ 10 ∷ [])))
        ≡ is_last_session_line line
    last_feed =
        ap (list_any is_last_session_line) (whole_line taken piece clear)
        ∙ list_any-append is_last_session_line (whole_input_lines taken) (line ∷ [])
        ∙ ap (λ d. d || (is_last_session_line line || false)) going ∙ or-false (is_last_session_line line)

    -- if a line is the last, one of the complete lines is, whatever follows
    pub last_among : (behind : List ℕ) → true ≡ is_last_session_line line
        → list_any is_last_session_line (whole_input_lines (taken ++ (piece ++ 10 ∷ behind))) ≡ true
    last_among behind d =
        ap (λ t. list_any is_last_session_line (whole_input_lines t)) (sym joined)
        ∙ ap (list_any is_last_session_line) (whole_input_lines_of_split front behind)
        ∙ list_any-append is_last_session_line (whole_input_lines front)
        (input_cut_from (unfinished_input_line front) behind).complete_lines
        ∙ ap (λ d. d || list_any is_last_session_line
        (input_cut_from (unfinished_input_line front) behind).complete_lines) (last_feed ∙ sym d)
      where
        front : List ℕ
        front = taken ++ (piece ++ 10 ∷ [])

        joined : (taken ++ (piece ++ 10 ∷ [])) ++ behind ≡ taken ++ (piece ++ 10 ∷ behind)
        joined =
            append_assoc taken (piece ++ 10 ∷ []) behind ∙ ap (λ t. taken ++ t) (append_assoc piece (10 ∷ []) behind)

-- if no line has a property, a line among them does not have it
no-heard-line-has-property : (p : List ℕ → Bool) (before : List (List ℕ)) (line : List ℕ) (after : List (List ℕ))
    → list_any p (before ++ line ∷ after) ≡ false → p line ≡ false
no-heard-line-has-property p before line after h =
    first-false (p line) (list_any p after)
    (second-false (list_any p before) (p line || list_any p after)
    (sym (list_any-append p before (line ∷ after)) ∙ h))
  where
    first-false : (a b : Bool) → (a || b) ≡ false → a ≡ false
    first-false true b e = cc
    first-false false b e = refl

    second-false : (a b : Bool) → (a || b) ≡ false → b ≡ false
    second-false true b e = cc
    second-false false b e = e

-- before any byte is read, nothing is held
pub nothing_is_heard_at_start : (held : Option (List ℕ)) → held ≡ readable_session_line [] → HoldsInputRest [] held
nothing_is_heard_at_start held h = record { going = refl; held_part = h }

-- a block in progress: one part of it was fed, and the rest is to come
module _ (taken block ready rest : List ℕ) (held : Option (List ℕ)) (b : block ≡ ready ++ rest)
    (h : HoldsInputRest (taken ++ ready) held) where
  whole : (tail : List ℕ) → rest ≡ tail → (taken ++ ready) ++ tail ≡ taken ++ block
  whole tail r = append_assoc taken ready tail ∙ ap (λ t. taken ++ t) (ap (λ t. ready ++ t) (sym r) ∙ sym b)

  -- the rest has no line feed
  pub rest_holds : cut_at 10 rest ≡ None → (held_now : Option (List ℕ))
      → held_now ≡ readable_session_line (unfinished_input_line (taken ++ ready) ++ rest)
      → HoldsInputRest (taken ++ block) held_now
  rest_holds cut held_now e =
      let clear : entry_text_lacks 10 rest ≡ true = entry_cut-none 10 rest cut in
      subst (λ t. HoldsInputRest t held_now) (whole rest refl) (record {
        going = ap (list_any is_last_session_line) (whole_input_lines_with_piece (taken ++ ready) rest clear) ∙ h.going;
        held_part = e ∙ ap readable_session_line (sym (unfinished_input_line_with_piece (taken ++ ready) rest clear));
      })

  -- the rest has a line feed
  module _ (piece behind : List ℕ) (cut : cut_at 10 rest ≡ Some (piece, behind)) where
    abbrev ended : List ℕ
    ended = unfinished_input_line (taken ++ ready) ++ piece

    parts : (rest ≡ piece ++ 10 ∷ behind) × (entry_text_lacks 10 piece ≡ true)
    parts = entry_cut-is 10 rest piece behind cut

    -- the line that it ends is the last
    pub line_last : true ≡ is_last_session_line ended
        → list_any is_last_session_line (whole_input_lines (taken ++ block)) ≡ true
    line_last d =
        ap (λ t. list_any is_last_session_line (whole_input_lines t)) (sym (whole (piece ++ 10 ∷ behind) parts.0))
        ∙ last_among (taken ++ ready) h.going piece parts.1 behind d

    -- the line that it ends is not the last, and the session goes on
    pub line_holds : (held_now : Option (List ℕ)) → false ≡ is_last_session_line ended → held_now ≡ Some []
        → (done : List ℕ) × (block ≡ done ++ behind) × HoldsInputRest (taken ++ done) held_now
    unfolding readable_session_line
    line_holds held_now d e = (
      ready ++ (piece ++ 10 ∷ []),
      b ∙ ap (λ t. ready ++ t) parts.0
          ∙ sym (append_assoc ready (piece ++ 10 ∷ []) behind
          ∙ ap (λ t. ready ++ t) (append_assoc piece (10 ∷ []) behind)),
      subst (λ t. HoldsInputRest t held_now) (append_assoc taken ready (piece ++ 10 ∷ [])) (record {
        going = last_feed (taken ++ ready) h.going piece parts.1 ∙ sym d;
        held_part = e ∙ ap readable_session_line (sym (open_line (taken ++ ready) piece parts.1));
      }),
    )

    -- if no line that is heard has a property, this line does not have it
    line_has_none : (p : List ℕ → Bool) (more : List ℕ)
        → list_any p (heard_lines (input_lines ((taken ++ block) ++ more))) ≡ false → p ended ≡ false
    line_has_none p more none =
        no-heard-line-has-property p (whole_input_lines (taken ++ ready)) ended
        (cond (is_last_session_line ended) [] (heard_lines (input_lines (behind ++ more))))
        (ap (list_any p) (sym (heard_feed (taken ++ ready) h.going piece parts.1 (behind ++ more)))
        ∙ ap (λ t. list_any p (heard_lines (input_lines t))) regroup ∙ none)
      where
        regroup : (taken ++ ready) ++ (piece ++ 10 ∷ (behind ++ more)) ≡ (taken ++ block) ++ more
        regroup =
            ap (λ t. (taken ++ ready) ++ t) (sym (append_assoc piece (10 ∷ behind) more))
            ∙ sym (append_assoc (taken ++ ready) (piece ++ 10 ∷ behind) more)
            ∙ ap (λ t. t ++ more) (whole (piece ++ 10 ∷ behind) parts.0)

    -- if no line that is heard names a file, this line names none
    pub line_names_none : (more : List ℕ) → HeardInputNamesNoFile ((taken ++ block) ++ more)
        → heard_line_names_file ended ≡ false
    line_names_none more none = line_has_none heard_line_names_file more none

    -- files that are known if a line loads one are known if this line does
    pub line_is_known : (more : List ℕ) (files : Option FileMap)
        → IsSessionValueKnownIfNeeded (heard_input_loads_file ((taken ++ block) ++ more)) files
        → IsSessionValueKnownIfNeeded (heard_line_loads_file ended) files
    line_is_known more None loads_known = line_has_none heard_line_loads_file more loads_known
    line_is_known more (Some old) loads_known = tt

-- the last line, which no line feed ends
module _ (input : List ℕ) (held : Option (List ℕ)) (h : HoldsInputRest input held)
    (some : unfinished_input_line input ≡ [] → ⊥) where
  end_has_none : (p : List ℕ → Bool) → list_any p (heard_lines (input_lines input)) ≡ false
      → p (unfinished_input_line input) ≡ false
  end_has_none p none =
      no-heard-line-has-property p (whole_input_lines input) (unfinished_input_line input) []
      (ap (list_any p) (sym (heard_end input h.going some)) ∙ none)

  pub end_names_none : HeardInputNamesNoFile input → heard_line_names_file (unfinished_input_line input) ≡ false
  end_names_none none = end_has_none heard_line_names_file none

  pub end_is_known : (files : Option FileMap) → IsSessionValueKnownIfNeeded (heard_input_loads_file input) files
      → IsSessionValueKnownIfNeeded (heard_line_loads_file (unfinished_input_line input)) files
  end_is_known None loads_known = end_has_none heard_line_loads_file loads_known
  end_is_known (Some old) loads_known = tt

-- an equal line loads a file exactly if this line does
pub equal_heard_line_loads_file : (line same : List ℕ) (files : Option FileMap) → line ≡ same
    → IsSessionValueKnownIfNeeded (heard_line_loads_file same) files
    → IsSessionValueKnownIfNeeded (heard_line_loads_file line) files
equal_heard_line_loads_file line same files e loads_known =
    subst (λ l. IsSessionValueKnownIfNeeded (heard_line_loads_file l) files) (sym e) loads_known

pub equal_heard_input_loads_file : (i input : List ℕ) (files : Option FileMap) → i ≡ input
    → IsSessionValueKnownIfNeeded (heard_input_loads_file input) files
    → IsSessionValueKnownIfNeeded (heard_input_loads_file i) files
equal_heard_input_loads_file i input files e loads_known =
    subst (λ t. IsSessionValueKnownIfNeeded (heard_input_loads_file t) files) (sym e) loads_known
