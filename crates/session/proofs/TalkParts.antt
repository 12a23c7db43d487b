-- A talk over lines, part by part.
use Rattle.std.proofs.Common.{◌≡◌, ◌++◌, ◌∷◌, [], ℕ, List, true, false, cond, refl, sym, ap, subst, ◌∙◌}
use Rattle.std.proofs.Common.{append_assoc, Some}
use Rattle.std.specs.declared.option.Option.{Option}
use Rattle.std.specs.List.{list_any}
use Rattle.std.proofs.lemmas.List.{append-nil}
use Rattle.def_entry.specs.Cuts.{entry_text_lacks}
use Rattle.session.specs.HeardLines.{is_last_session_line, heard_lines, readable_session_line}
use Rattle.session.specs.Input.{whole_input_lines, unfinished_input_line, input_lines}
use Rattle.session.specs.Steps.{session_line_answer}
use Rattle.session.specs.Talks.{SessionTrace, talk_with_answer, talk_text_of_answer, talk_over_lines, talk_over_input}
use Rattle.session.specs.SessionProgress.{SessionBase, SessionNow, IsAtPointOfTalk, BeginsTalkOutput, IsFrontOfTalk}
use Rattle.session.specs.SessionProgress.{IsTalkAtWholeLines, IsTalkOver}
use Rattle.session.proofs.LineCuts.{finished_input_lines_are_whole, open_line, unfinished_input_line_with_piece}
use Rattle.session.proofs.LineCuts.{whole_input_lines_with_piece, whole_line}
use Rattle.session.proofs.HeardLines.{heard_end, heard_feed, last_among, last_feed, lines-are-heard-until-the-end}

-- lines are answered one after another
pub talk-append : (talk : SessionTrace) (xs ys : List (List ℕ)) → talk_over_lines talk (xs ++ ys) ≡ talk_over_lines
    (talk_over_lines talk xs) ys
talk-append talk [] ys = refl
talk-append talk (x ∷ xs) ys = talk-append (talk_with_answer talk (session_line_answer talk.state x) x) xs ys

-- a front of a front is a front
pub talk-front-of-front : (xs ys zs : List ℕ) → BeginsTalkOutput xs ys → BeginsTalkOutput ys zs → BeginsTalkOutput xs zs
talk-front-of-front xs ys zs p q = (p.0 ++ q.0, q.1 ∙ ap (λ t. t ++ q.0) p.1 ∙ append_assoc xs p.0 q.0)

pub whole-talk-is-front : (xs ys : List ℕ) → ys ≡ xs → BeginsTalkOutput xs ys
whole-talk-is-front xs ys e = ([], e ∙ sym (append-nil xs))

pub talk-out-grows : (talk : SessionTrace) (lines : List (List ℕ))
    → BeginsTalkOutput talk.out (talk_over_lines talk lines).out
talk-out-grows talk [] = whole-talk-is-front talk.out talk.out refl
talk-out-grows talk (line ∷ lines) =
    let next = talk_with_answer talk (session_line_answer talk.state line) line in
    talk-front-of-front talk.out next.out (talk_over_lines next lines).out
    (talk_text_of_answer (session_line_answer talk.state line) line, refl)
    (talk-out-grows next lines)

pub talk-err-grows : (talk : SessionTrace) (lines : List (List ℕ))
    → BeginsTalkOutput talk.err (talk_over_lines talk lines).err
talk-err-grows talk [] = whole-talk-is-front talk.err talk.err refl
talk-err-grows talk (line ∷ lines) =
    let next = talk_with_answer talk (session_line_answer talk.state line) line in
    talk-front-of-front talk.err next.err (talk_over_lines next lines).err
    ((session_line_answer talk.state line).err, refl)
    (talk-err-grows next lines)

-- the talk with one more answer
abbrev pub next : SessionTrace → List ℕ → SessionTrace
next talk line = talk_with_answer talk (session_line_answer talk.state line) line

module _ (first : SessionTrace) (taken : List ℕ)
    (going : list_any is_last_session_line (whole_input_lines taken) ≡ false) where
  abbrev talked : SessionTrace
  talked = talk_over_lines first (whole_input_lines taken)

  talk_end : (unfinished_input_line taken ≡ [] → ⊥) → talk_over_input first taken ≡ next talked
      (unfinished_input_line taken)
  talk_end h = ap (talk_over_lines first) (heard_end taken going h) ∙ talk-append first (whole_input_lines taken)
      (unfinished_input_line taken ∷ [])

  -- the talk over an input on which no line is left open
  pub talk_ended : unfinished_input_line taken ≡ [] → talk_over_input first taken ≡ talked
  talk_ended h =
      ap (λ ls. talk_over_lines first (heard_lines ls))
      (finished_input_lines_are_whole taken h ∙ sym (append-nil (whole_input_lines taken)))
      ∙ ap (talk_over_lines first) (lines-are-heard-until-the-end (whole_input_lines taken) [] going
      ∙ append-nil (whole_input_lines taken))

  module _ (piece : List ℕ) (clear : entry_text_lacks 10 piece ≡ true) where
    abbrev line : List ℕ
    line = unfinished_input_line taken ++ piece

    talk_feed : (more : List ℕ)
        → talk_over_input first (taken ++ (piece ++ 10 ∷ more))
        ≡ talk_over_lines (next talked line) (cond (is_last_session_line line) [] (heard_lines (input_lines more)))
    talk_feed more =
        ap (talk_over_lines first) (heard_feed taken going piece clear more)
        ∙ talk-append first (whole_input_lines taken)
        (line ∷ cond (is_last_session_line line) [] (heard_lines (input_lines more)))

    pub over_feed : talk_over_lines first (whole_input_lines (taken ++ (piece ++ 10 ∷ []))) ≡ next talked line
    over_feed = ap (talk_over_lines first) (whole_line taken piece clear) ∙ talk-append first (whole_input_lines taken)
        (line ∷ [])

-- the output at a point of a talk is a front of that of everything that follows
pub talk_output_is_front_of_later : (base : SessionBase) (talk more : SessionTrace) (lines : List (List ℕ))
    (now : SessionNow) → IsAtPointOfTalk base talk now
    → more ≡ talk_over_lines talk lines → IsFrontOfTalk base more now.output_buffers
talk_output_is_front_of_later base talk more lines now at e = record {
  out = talk-front-of-front _ talk.out more.out (whole-talk-is-front _ talk.out at.out)
      (subst (λ (t : SessionTrace). BeginsTalkOutput talk.out t.out) (sym e) (talk-out-grows talk lines));
  err = talk-front-of-front _ talk.err more.err (whole-talk-is-front _ talk.err at.err)
      (subst (λ (t : SessionTrace). BeginsTalkOutput talk.err t.err) (sym e) (talk-err-grows talk lines));
}

module _ (base : SessionBase) (first : SessionTrace) (taken : List ℕ) (held : Option (List ℕ)) (now : SessionNow)
    (s : IsTalkAtWholeLines base first taken held now) where
  -- the piece continues the line
  pub fed_piece : (piece : List ℕ) (held_now : Option (List ℕ)) → entry_text_lacks 10 piece ≡ true
      → held_now ≡ readable_session_line (unfinished_input_line taken ++ piece)
      → IsTalkAtWholeLines base first (taken ++ piece) held_now now
  fed_piece piece held_now clear h = record {
    is_at = subst (λ ls. IsAtPointOfTalk base (talk_over_lines first ls) now)
        (sym (whole_input_lines_with_piece taken piece clear)) s.is_at;
    going = ap (list_any is_last_session_line) (whole_input_lines_with_piece taken piece clear) ∙ s.going;
    held_part = h ∙ ap readable_session_line (sym (unfinished_input_line_with_piece taken piece clear));
  }

  module _ (piece : List ℕ) (clear : entry_text_lacks 10 piece ≡ true) where
    abbrev answered : SessionTrace
    answered = next (talk_over_lines first (whole_input_lines taken)) (unfinished_input_line taken ++ piece)

    -- the line is answered and is not the last
    pub fed_line : (held_now : Option (List ℕ)) (after : SessionNow)
        → false ≡ is_last_session_line (unfinished_input_line taken ++ piece)
        → held_now ≡ Some [] → IsAtPointOfTalk base answered after
        → IsTalkAtWholeLines base first (taken ++ (piece ++ 10 ∷ [])) held_now after
    unfolding readable_session_line
    fed_line held_now after d h a = record {
      is_at = subst (λ t. IsAtPointOfTalk base t after) (sym (over_feed first taken s.going piece clear)) a;
      going = last_feed taken s.going piece clear ∙ sym d;
      held_part = h ∙ ap readable_session_line (sym (open_line taken piece clear));
    }

    -- the line is the last, whatever follows it
    pub fed_last : (behind more : List ℕ) (after : SessionNow)
        → true ≡ is_last_session_line (unfinished_input_line taken ++ piece)
        → IsAtPointOfTalk base answered after
        → IsTalkOver base first (taken ++ (piece ++ 10 ∷ behind)) ((taken ++ (piece ++ 10 ∷ behind)) ++ more) after
    fed_last behind more after d a = record {
      is_at = subst (λ t. IsAtPointOfTalk base t after) (sym (whole ∙ alone)) a;
      last_line = last_among taken s.going piece clear behind d;
    }
      where
        regroup : (taken ++ (piece ++ 10 ∷ behind)) ++ more ≡ taken ++ (piece ++ 10 ∷ (behind ++ more))
        regroup =
            append_assoc taken (piece ++ 10 ∷ behind) more
            ∙ ap (λ t. taken ++ t) (append_assoc piece (10 ∷ behind) more)

        whole : talk_over_input first ((taken ++ (piece ++ 10 ∷ behind)) ++ more)
            ≡ talk_over_lines answered
            (cond (is_last_session_line (unfinished_input_line taken ++ piece)) []
            (heard_lines (input_lines (behind ++ more))))
        whole = ap (talk_over_input first) regroup ∙ talk_feed first taken s.going piece clear (behind ++ more)

        alone : talk_over_lines answered
            (cond (is_last_session_line (unfinished_input_line taken ++ piece)) []
            (heard_lines (input_lines (behind ++ more))))
            ≡ answered
        alone = ap (λ c. talk_over_lines answered (cond c [] (heard_lines (input_lines (behind ++ more))))) (sym d)

  -- the end of the input, with no line open or with one open
  pub end_open : unfinished_input_line taken ≡ [] → IsAtPointOfTalk base (talk_over_input first taken) now
  end_open e = subst (λ t. IsAtPointOfTalk base t now) (sym (talk_ended first taken s.going e)) s.is_at

  pub end_line : (after : SessionNow) → (unfinished_input_line taken ≡ [] → ⊥)
      → IsAtPointOfTalk base (next (talk_over_lines first (whole_input_lines taken)) (unfinished_input_line taken))
      after
      → IsAtPointOfTalk base (talk_over_input first taken) after
  end_line after h a = subst (λ t. IsAtPointOfTalk base t after) (sym (talk_end first taken s.going h)) a
