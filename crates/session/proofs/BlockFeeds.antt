-- Answering a block of an input, line by line.
use Rattle.std.proofs.Common.{◌≡◌, ◌++◌, ◌∷◌, [], ℕ, List, Bool, true, false, refl, sym, ap, subst, ◌∙◌, append_assoc}
use Rattle.std.proofs.Common.{Some, None, Ok, Err}
use Rattle.std.specs.declared.option.Option.{Option}
use Rattle.std.specs.Prelude.{MatchResult, Result}
use Rattle.def_entry.specs.Cuts.{cut_at, entry_text_lacks}
use Rattle.def_entry.proofs.CutTexts.{entry_cut-is, entry_cut-none}
use Rattle.def_lines.specs.Words.{is_empty}
use Rattle.session.specs.HeardLines.{heard_lines, is_last_session_line, readable_session_line}
use Rattle.session.specs.Input.{input_lines, whole_input_lines, unfinished_input_line}
use Rattle.session.specs.SessionProgress.{SessionBase, HoldsInputRest, SessionNow, IsAtPointOfTalk, IsTalkBroken}
use Rattle.session.specs.SessionProgress.{IsTalkAtWholeLines, IsTalkOver}
use Rattle.session.specs.Talks.{SessionTrace, talk_over_lines}
use Rattle.session.specs.declared.fault.SessionFault.{SessionFault}
use Rattle.session.proofs.BrokenAnswers.{broken_line, broken_rest}
use Rattle.session.proofs.TalkParts.{next, fed_piece, fed_line, fed_last}

-- a session at this point holds the rest of the bytes read
pub talk_holds_input_rest : (base : SessionBase) (first : SessionTrace) (taken : List ℕ) (held : Option (List ℕ))
    (now : SessionNow)
    → IsTalkAtWholeLines base first taken held now → HoldsInputRest taken held
talk_holds_input_rest base first taken held now s = record { going = s.going; held_part = s.held_part }

-- a block in progress: one part of it is answered, and the rest is to come
module _ (base : SessionBase) (first : SessionTrace) (taken block ready rest : List ℕ) (held : Option (List ℕ))
    (now : SessionNow)
    (b : block ≡ ready ++ rest) (s : IsTalkAtWholeLines base first (taken ++ ready) held now) where
  abbrev talk : SessionTrace
  talk = talk_over_lines first (whole_input_lines (taken ++ ready))

  whole : (tail : List ℕ) → rest ≡ tail → (taken ++ ready) ++ tail ≡ taken ++ block
  whole tail r = append_assoc taken ready tail ∙ ap (λ t. taken ++ t) (ap (λ t. ready ++ t) (sym r) ∙ sym b)

  -- the rest has no line feed
  pub rest_held : cut_at 10 rest ≡ None → (held_now : Option (List ℕ))
      → held_now ≡ readable_session_line (unfinished_input_line (taken ++ ready) ++ rest)
      → IsTalkAtWholeLines base first (taken ++ block) held_now now
  rest_held cut held_now h =
      subst (λ t. IsTalkAtWholeLines base first t held_now now) (whole rest refl)
      (fed_piece base first (taken ++ ready) held now s rest held_now (entry_cut-none 10 rest cut) h)

  pub rest_lost : (fault : SessionFault) (more : List ℕ)
      → IsTalkBroken fault base first (heard_lines (input_lines ((taken ++ block) ++ more))) now
  rest_lost fault more =
      subst (λ t. IsTalkBroken fault base first (heard_lines (input_lines t)) now)
      (sym (append_assoc (taken ++ ready) rest more) ∙ ap (λ t. t ++ more) (whole rest refl))
      (broken_rest fault base first (taken ++ ready) held now s (rest ++ more))

  -- the rest has a line feed
  module _ (piece behind : List ℕ) (cut : cut_at 10 rest ≡ Some (piece, behind)) where
    abbrev line : List ℕ
    line = unfinished_input_line (taken ++ ready) ++ piece

    parts : (rest ≡ piece ++ 10 ∷ behind) × (entry_text_lacks 10 piece ≡ true)
    parts = entry_cut-is 10 rest piece behind cut

    pub line_over : (more : List ℕ) (after : SessionNow) → true ≡ is_last_session_line line
        → IsAtPointOfTalk base (next talk line) after
        → IsTalkOver base first (taken ++ block) ((taken ++ block) ++ more) after
    line_over more after d a =
        subst (λ t. IsTalkOver base first t (t ++ more) after) (whole (piece ++ 10 ∷ behind) parts.0)
        (fed_last base first (taken ++ ready) held now s piece parts.1 behind more after d a)

    pub line_lost : (fault : SessionFault) (more : List ℕ) (after : SessionNow)
        → IsTalkBroken fault base talk (line ∷ []) after
        → IsTalkBroken fault base first (heard_lines (input_lines ((taken ++ block) ++ more))) after
    line_lost fault more after b =
        subst (λ t. IsTalkBroken fault base first (heard_lines (input_lines (t ++ more))) after)
        (whole (piece ++ 10 ∷ behind) parts.0)
        (broken_line fault base first (taken ++ ready) held now s piece parts.1 behind more after b)

    pub line_fed : (held_now : Option (List ℕ)) (after : SessionNow) → false ≡ is_last_session_line line
        → held_now ≡ Some []
        → IsAtPointOfTalk base (next talk line) after
        → (ready : List ℕ) × (block ≡ ready ++ behind) × IsTalkAtWholeLines base first (taken ++ ready) held_now after
    line_fed held_now after d h a = (
      ready ++ (piece ++ 10 ∷ []),
      b ∙ ap (λ t. ready ++ t) parts.0
          ∙ sym (append_assoc ready (piece ++ 10 ∷ []) behind
          ∙ ap (λ t. ready ++ t) (append_assoc piece (10 ∷ []) behind)),
      subst (λ t. IsTalkAtWholeLines base first t held_now after) (append_assoc taken ready (piece ++ 10 ∷ []))
          (fed_line base first (taken ++ ready) held now s piece parts.1 held_now after d h a),
    )

-- the answer to a line is the answer to an equal line
pub equal_session_line_is_answered : (base : SessionBase) (talk : SessionTrace) (result : Result Bool SessionFault)
    (one same : List ℕ)
    (held : Option (List ℕ)) (now : SessionNow) → one ≡ same → held ≡ Some []
    → MatchResult result (λ done. (done ≡ is_last_session_line one) × IsAtPointOfTalk base (next talk one) now)
    (λ fault. IsTalkBroken fault base talk (one ∷ []) now)
    → MatchResult result (λ done. (done ≡ is_last_session_line same) × (held ≡ Some []) × IsAtPointOfTalk base
    (next talk same) now)
    (λ fault. IsTalkBroken fault base talk (same ∷ []) now)
equal_session_line_is_answered base talk (Ok done) one same held now e h line_answered = (
  line_answered.0 ∙ ap is_last_session_line e,
  h,
  subst (λ l. IsAtPointOfTalk base (next talk l) now) e
      line_answered.1,
)
equal_session_line_is_answered base talk (Err fault) one same held now e h line_answered =
    subst (λ l. IsTalkBroken fault base talk (l ∷ []) now) e line_answered

-- a piece after an empty part is the whole line
pub piece_after_empty_input_part : (part piece : List ℕ) → is_empty part ≡ true → piece ≡ part ++ piece
piece_after_empty_input_part [] piece e = refl
piece_after_empty_input_part (b ∷ part) piece e = cc

pub empty_input_part_is_nil : (part : List ℕ) → is_empty part ≡ true → part ≡ []
empty_input_part_is_nil [] e = refl
empty_input_part_is_nil (b ∷ part) e = cc

pub nonempty_input_part_is_not_nil : (part : List ℕ) → is_empty part ≡ false → part ≡ [] → ⊥
nonempty_input_part_is_not_nil [] e q = cc
nonempty_input_part_is_not_nil (b ∷ part) e q = cc
