-- Holding a line that is not complete yet.
use Rattle.std.proofs.Common.{◌≡◌, ◌==◌, ◌++◌, ◌+◌, ◌<◌, ◌≤◌, ◌∷◌, [], ℕ, List, Bool, true, false, cond, length, refl}
use Rattle.std.proofs.Common.{sym, ap, ◌∙◌, Option, Some, None, Ok, Err, OnOk, is_ok, arith, length-append}
use Rattle.std.specs.Prelude.{nat_le, Result}
use Rattle.std.proofs.lemmas.Bool.Decides.{nat_tests}
use Rattle.std.proofs.lemmas.Bool.{le-leb, lt-leb}
use Rattle.def_lines.specs.Words.{is_empty}
use Rattle.session.specs.HeardLines.{readable_session_line}

pub short_session_line_is_readable : (line : List ℕ) → length line ≤ 65536 → readable_session_line line ≡ Some line
unfolding readable_session_line
short_session_line_is_readable line h = ap (λ b. cond b (Some line) None) (le-leb (length line) 65536 h)

pub long_session_line_is_unreadable : (line : List ℕ) → 65536 < length line → readable_session_line line ≡ None
unfolding readable_session_line
long_session_line_is_unreadable line h = ap (λ b. cond b (Some line) None) (lt-leb (length line) 65536 h)

session_line_is_short_or_long : (n : ℕ) → (b : Bool) → nat_le n 65536 ≡ b → cond b (n ≤ 65536) (65536 < n)
session_line_is_short_or_long n true e = grind (arith, nat_tests)
session_line_is_short_or_long n false e = grind (arith, nat_tests)

-- the effect of a call that succeeded
pub session_call_effect_on_success : {T E : Type 0} (r : Result T E) (new more old : List ℕ)
    → new ≡ cond (is_ok r) more old
    → OnOk r (new ≡ more)
session_call_effect_on_success (Ok x) new more old e = e
session_call_effect_on_success (Err x) new more old e = tt

-- a part that can be read is the line; a part that is too long is not read
pub record IsRead (part line : List ℕ) : Type 0 where
  pub same : part ≡ line
  pub short : length part ≤ 65536

pub readable_session_line_is_read : (part line : List ℕ) → Some line ≡ readable_session_line part → IsRead part line
unfolding readable_session_line
readable_session_line_is_read part line e = by (nat_le (length part) 65536) refl e
  where
    by : (b : Bool) → nat_le (length part) 65536 ≡ b → Some line ≡ cond b (Some part) None → IsRead part line
    by true q e = record { same = cc; short = session_line_is_short_or_long (length part) true q }
    by false q e = cc

pub unreadable_session_line_is_long : (part : List ℕ) → None ≡ readable_session_line part → 65536 < length part
unfolding readable_session_line
unreadable_session_line_is_long part e = by (nat_le (length part) 65536) refl e
  where
    by : (b : Bool) → nat_le (length part) 65536 ≡ b → None ≡ cond b (Some part) None → 65536 < length part
    by true q e = cc
    by false q e = session_line_is_short_or_long (length part) false q

-- how a line is held: its bytes, or the fact that it is too long
module _ (long : Bool) (bytes : List ℕ) (held : Option (List ℕ)) (is : cond long None (Some bytes) ≡ held)
    (part : List ℕ)
    (h : held ≡ readable_session_line part) where
  long_held : long ≡ true → None ≡ held
  long_held e = sym (ap (λ b. cond b None (Some bytes)) e) ∙ is

  short_held : long ≡ false → Some bytes ≡ held
  short_held e = sym (ap (λ b. cond b None (Some bytes)) e) ∙ is

  pub still_long : (piece : List ℕ) → long ≡ true → held ≡ readable_session_line (part ++ piece)
  still_long piece e =
      let n : 65536 < length part = unreadable_session_line_is_long part (long_held e ∙ h) in
      sym (long_held e) ∙ sym
      (long_session_line_is_unreadable (part ++ piece) (omega (arith, length-append part piece)))

  pub gets_long : (piece : List ℕ) → long ≡ false → 65536 < length bytes + length piece
      → None ≡ readable_session_line (part ++ piece)
  gets_long piece e over =
      let r : IsRead part bytes = readable_session_line_is_read part bytes (short_held e ∙ h) in
      sym (long_session_line_is_unreadable (part ++ piece) (omega (arith, length-append part piece, ap length r.same)))

  pub holds_more : (piece more : List ℕ) → long ≡ false → length bytes + length piece ≤ 65536 → more ≡ bytes ++ piece
      → cond long None (Some more) ≡ readable_session_line (part ++ piece)
  holds_more piece more e within grown =
      let r : IsRead part bytes = readable_session_line_is_read part bytes (short_held e ∙ h) in
      ap (λ b. cond b None (Some more)) e ∙ ap Some grown ∙ ap (λ p. Some (p ++ piece)) (sym r.same)
      ∙ sym (short_session_line_is_readable (part ++ piece) (omega (arith, length-append part piece, ap length r.same)))

  pub none_empty : long ≡ true → false ≡ is_empty part
  none_empty e = by part (unreadable_session_line_is_long part (long_held e ∙ h))
    where
      by : (p : List ℕ) → 65536 < length p → false ≡ is_empty p
      by [] n = absurd (omega arith)
      by (b ∷ p) n = refl

  pub part_empty : (n : ℕ) → long ≡ false → n ≡ length bytes → (n == 0) ≡ is_empty part
  part_empty n e count = by part (ap length (readable_session_line_is_read part bytes (short_held e ∙ h)).same)
    where
      by : (p : List ℕ) → length p ≡ length bytes → (n == 0) ≡ is_empty p
      by [] q = let z : n ≡ 0 = omega (arith, q, count) in ap (λ k. k == 0) z
      by (b ∷ p) q = let z : n ≡ length p + 1 = omega (arith, q, count) in grind (arith, nat_tests)
