-- Bytes that stay unchanged in their line.
use Rattle.std.proofs.Common.{◌≡◌, ◌==◌, ◌||◌, ◌++◌, ◌∷◌, [], ℕ, List, Bool, true, false, reverse}
use Rattle.std.proofs.Common.{refl, sym, ap, ◌∙◌, ⊎_elim}
use Rattle.std.specs.List.{list_all}
use Rattle.std.proofs.lemmas.Bool.{and_from, and_parts, eqb-true, not-false, not-true, or_cases, or_parts}
use Rattle.std.proofs.lemmas.Bool.{true_from_ne_false, true≢false}
use Rattle.std.proofs.lemmas.List.{reverse-append}
use Rattle.std.proofs.lemmas.List.Folds.{list_all-append}
use Rattle.deck_save.specs.SavedLines.{is_saved_line_byte}

-- if each byte that passes one test passes another, so do all bytes of a text
pub saved_bytes_all_pass : (p q : ℕ → Bool) → ((b : ℕ) → p b ≡ true → q b ≡ true) → (text : List ℕ)
    → list_all p text ≡ true
    → list_all q text ≡ true
saved_bytes_all_pass p q passes [] clear = refl
saved_bytes_all_pass p q passes (b ∷ text) clear =
    let parts : (p b ≡ true) × (list_all p text ≡ true) = and_parts _ _ clear in
    and_from _ _ (passes b parts.0) (saved_bytes_all_pass p q passes text parts.1)

-- if all bytes of two texts pass a test, so do all bytes of both together
pub saved_bytes_all_both : (p : ℕ → Bool) (front behind : List ℕ) → list_all p front ≡ true → list_all p behind ≡ true
    → list_all p (front ++ behind) ≡ true
saved_bytes_all_both p front behind first second = list_all-append p front behind ∙ and_from _ _ first second

pub saved_bytes_all_reversed : (p : ℕ → Bool) (text : List ℕ) → list_all p text ≡ true
    → list_all p (reverse text) ≡ true
saved_bytes_all_reversed p [] clear = refl
saved_bytes_all_reversed p (b ∷ text) clear =
    let parts : (p b ≡ true) × (list_all p text ≡ true) = and_parts _ _ clear in
    ap (list_all p) (reverse-append (b ∷ []) text) ∙ saved_bytes_all_both p (reverse text) (b ∷ [])
    (saved_bytes_all_reversed p text parts.1)
    (and_from _ _ parts.0 refl)

-- a byte that stays is not a line feed, a carriage return or `#`
pub record IsNone (b : ℕ) : Type 0 where
  pub feed : (b == 10) ≡ false
  pub return : (b == 13) ≡ false
  pub mark : (b == 35) ≡ false

pub saved_byte_is_none_of_three : (b : ℕ) → is_saved_line_byte b ≡ true → IsNone b
saved_byte_is_none_of_three b clear =
    let outer : ((b == 10 || b == 13) ≡ false) × ((b == 35) ≡ false) = or_parts _ _ (not-true _ clear) in
    let inner : ((b == 10) ≡ false) × ((b == 13) ≡ false) = or_parts _ _ outer.0 in
    record { feed = inner.0; return = inner.1; mark = outer.1 }

-- if a test fails for these three bytes, each byte that passes it stays
pub saved_byte_stays_by_test : (p : ℕ → Bool) → p 10 ≡ false → p 13 ≡ false → p 35 ≡ false → (b : ℕ) → p b ≡ true
    → is_saved_line_byte b ≡ true
saved_byte_stays_by_test p feed return mark b passes = true_from_ne_false (is_saved_line_byte b) never
  where
    apart : (n : ℕ) → p n ≡ false → (b == n) ≡ true → ⊥
    apart n fails same = true≢false (sym passes ∙ ap p (eqb-true b n same) ∙ fails)

    never : is_saved_line_byte b ≡ false → ⊥
    never fails = ⊎_elim
        (λ outer. ⊎_elim (apart 10 feed) (apart 13 return) (or_cases _ _ outer))
        (apart 35 mark)
        (or_cases (b == 10 || b == 13) (b == 35) (not-false _ fails))

-- if a test fails for these three bytes, a text whose bytes pass it stays
pub saved_bytes_stay_by_test : (p : ℕ → Bool) → p 10 ≡ false → p 13 ≡ false → p 35 ≡ false → (text : List ℕ)
    → list_all p text ≡ true
    → list_all is_saved_line_byte text ≡ true
saved_bytes_stay_by_test p feed return mark text all = saved_bytes_all_pass p is_saved_line_byte
    (saved_byte_stays_by_test p feed return mark) text all
