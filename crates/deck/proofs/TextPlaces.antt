-- A search for a text succeeds exactly if the bytes contain the text.
use Rattle.std.proofs.Common.{◌≡◌, ◌∙◌, ◌+◌, ◌<◌, ◌||◌, ℕ, zero, suc, List, [], ◌∷◌, Bool, true, false, Option, Some}
use Rattle.std.proofs.Common.{None, arith, get_or, is_some, length, length-take, nat_eq, refl, sym, ap, take}
use Rattle.std.proofs.lemmas.Bool.{and_from, or_left, or_right}
use Rattle.std.proofs.lemmas.Bool.Decides.{nat_tests}
use Rattle.std.proofs.lemmas.List.{get_or-take}
use Rattle.std.proofs.lemmas.Slice.Eq.{bytes_eq-Decides}
use Rattle.std.specs.List.{starts_with}
use Rattle.memchr.specs.Find.{FindsNeedle, OccursAt}
use Rattle.deck.specs.SubstringKeys.{has_substring}

-- all bytes contain the empty text
pub empty_text_is_substring : (bytes : List ℕ) → has_substring bytes [] ≡ true
empty_text_is_substring [] = refl
empty_text_is_substring (b ∷ bytes) = refl

-- a text at the front of the bytes occurs at place 0
substring_at_front_occurs : (bytes text : List ℕ) → starts_with nat_eq bytes text ≡ true → OccursAt bytes text 0
substring_at_front_occurs bytes text h =
    let same : text ≡ take (length text) bytes = (bytes_eq-Decides text (take (length text) bytes)).0 h in
    record {
      fits = omega (arith, ap length same, length-take (length text) bytes);
      reads = λ j l. reads same j l;
    }
  where
    reads : text ≡ take (length text) bytes → (j : ℕ) → j < length text → get_or bytes (0 + j) 0 ≡ get_or text j 0
    reads same j l =
        let at : 0 + j ≡ j = omega arith in
        ap (λ i. get_or bytes i 0) at ∙ sym (get_or-take (length text) bytes j 0 l)
        ∙ sym (ap (λ xs. get_or xs j 0) same)

-- a text that occurs at place 0 is at the front of the bytes
substring_at_place_zero_starts : (bytes text : List ℕ) → OccursAt bytes text 0 → starts_with nat_eq bytes text ≡ true
substring_at_place_zero_starts [] [] o = refl
substring_at_place_zero_starts (b ∷ bytes) [] o = refl
substring_at_place_zero_starts [] (t ∷ text) o = absurd (omega (arith, o.fits))
substring_at_place_zero_starts (b ∷ bytes) (t ∷ text) o =
    and_from (nat_eq t b) (starts_with nat_eq bytes text) (first (o.reads 0 (omega arith)))
    (substring_at_place_zero_starts bytes text (record {
      fits = omega (arith, o.fits);
      reads = λ j l. later j (o.reads (suc j) (omega (arith, l)));
    }))
  where
    first : b ≡ t → nat_eq t b ≡ true
    first e = grind (arith, nat_tests, e)

    later : (j : ℕ) → get_or (b ∷ bytes) (0 + suc j) 0 ≡ get_or text j 0 → get_or bytes (0 + j) 0 ≡ get_or text j 0
    later j e =
        let at : 0 + suc j ≡ suc (0 + j) = omega arith in
        ap (λ i. get_or (b ∷ bytes) i 0) (sym at) ∙ e

-- with one byte more in front, the text occurs one place later
substring_one_place_later : (b : ℕ) (bytes text : List ℕ) (k : ℕ) → OccursAt bytes text k
    → OccursAt (b ∷ bytes) text (suc k)
substring_one_place_later b bytes text k o = record { fits = omega (arith, o.fits); reads = λ j l. at j ∙ o.reads j l }
  where
    at : (j : ℕ) → get_or (b ∷ bytes) (suc k + j) 0 ≡ get_or bytes (k + j) 0
    at j =
        let next : suc k + j ≡ suc (k + j) = omega arith in
        ap (λ i. get_or (b ∷ bytes) i 0) next

-- with the first byte removed, the text occurs one place earlier
substring_one_place_earlier : (b : ℕ) (bytes text : List ℕ) (k : ℕ) → OccursAt (b ∷ bytes) text (suc k)
    → OccursAt bytes text k
substring_one_place_earlier b bytes text k o =
    record { fits = omega (arith, o.fits); reads = λ j l. at j ∙ o.reads j l }
  where
    at : (j : ℕ) → get_or bytes (k + j) 0 ≡ get_or (b ∷ bytes) (suc k + j) 0
    at j =
        let next : suc k + j ≡ suc (k + j) = omega arith in
        sym (ap (λ i. get_or (b ∷ bytes) i 0) next)

-- a text that the bytes contain occurs at some place
substring_has_place : (bytes text : List ℕ) → has_substring bytes text ≡ true → (k : ℕ) × OccursAt bytes text k
substring_has_place [] text h = (0, substring_at_front_occurs [] text h)
substring_has_place (b ∷ bytes) text h =
    by (starts_with nat_eq (b ∷ bytes) text) (substring_at_front_occurs (b ∷ bytes) text)
    (substring_has_place bytes text) h
  where
    by : (s : Bool) → (s ≡ true → OccursAt (b ∷ bytes) text 0)
        → (has_substring bytes text ≡ true → (k : ℕ) × OccursAt bytes text k) → (s || has_substring bytes text) ≡ true
        → (k : ℕ) × OccursAt (b ∷ bytes) text k
    by true first later g = (0, first refl)
    by false first later g =
        let found = later g in
        (suc found.0, substring_one_place_later b bytes text found.0 found.1)

-- the bytes contain a text that occurs at some place
substring_by_place : (bytes text : List ℕ) (k : ℕ) → OccursAt bytes text k → has_substring bytes text ≡ true
substring_by_place [] text zero o = substring_at_place_zero_starts [] text o
substring_by_place [] text (suc k) o = absurd (omega (arith, o.fits))
substring_by_place (b ∷ bytes) text zero o =
    or_left (starts_with nat_eq (b ∷ bytes) text) (has_substring bytes text)
    (substring_at_place_zero_starts (b ∷ bytes) text o)
substring_by_place (b ∷ bytes) text (suc k) o =
    or_right (starts_with nat_eq (b ∷ bytes) text) (has_substring bytes text)
    (substring_by_place bytes text k (substring_one_place_earlier b bytes text k o))

-- a search finds a text exactly if the bytes contain it
pub substring_is_held_if_found : (bytes text : List ℕ) (place : Option ℕ) → FindsNeedle bytes text 0 place
    → is_some place ≡ has_substring bytes text
substring_is_held_if_found bytes text None none = by (has_substring bytes text) refl
  where
    by : (b : Bool) → has_substring bytes text ≡ b → false ≡ b
    by false e = refl
    by true e =
        let found = substring_has_place bytes text e in
        absurd (none found.0 (omega arith) (omega (arith, found.1.fits)) found.1)
substring_is_held_if_found bytes text (Some k) found = sym (substring_by_place bytes text k found.1)
