-- The places of names in a list of pairs.
use Rattle.std.proofs.Common.{◌≡◌, ◌<◌, ◌++◌, ◌∷◌, ◌∙◌, [], ℕ, zero, suc, List, Bool, true, false, cond, map, set}
use Rattle.std.proofs.Common.{Option, Some, None, Vec, refl, sym, ap, subst, inl, inr, arith, length, slice_get}
use Rattle.std.proofs.Common.{true≢false}
use Rattle.std.specs.Prelude.{OnOk, OnErr, Result, Ok, Err}
use Rattle.std.specs.HashMap.{HashMap, UpdatesBy}
use Rattle.std.specs.Map.{lookup, KeepsOthers, IsKeyTest, AreApart}
use Rattle.std.specs.Cmp.Lexicographic.{nat_list_eq_equiv}
use Rattle.std.specs.Str.{bytes_eq}
use Rattle.std.proofs.lemmas.List.{map-append}
use Rattle.std.proofs.lemmas.Option.{same_Some, slice_get_within}
use Rattle.std.proofs.lemmas.Slice.Eq.{bytes_eq-Decides}
use Rattle.general_lemmas.proofs.Bytes.{ne_bytes_eq}
use Rattle.general_lemmas.proofs.Places.{at_length, get_left, get_pushed}
use Rattle.units_io.specs.NamePlaces.{AreNamePlaces, name_place, pair_names}
use Rattle.units_io.specs.NamedValues.{NamedTexts, named_text, with_named_text, HasNoTextOfName, HasDistinctTextNames}

-- there are as many names as pairs
pub pair_names_count : (pairs : NamedTexts) → length (pair_names pairs) ≡ length pairs
pair_names_count [] = refl
pair_names_count (p ∷ pairs) = ap suc (pair_names_count pairs)

-- the names after one more pair
pair_names-append : (pairs : NamedTexts) (pair : List ℕ × List ℕ) → pair_names (pairs ++ pair ∷ []) ≡ pair_names pairs
    ++ pair.0 ∷ []
pair_names-append pairs pair = map-append (λ (p : List ℕ × List ℕ). p.0) pairs (pair ∷ [])

-- a name that no pair has is at no place
no_place_has_name : (pairs : NamedTexts) (name : List ℕ) (n : ℕ) → HasNoTextOfName pairs name
    → slice_get (pair_names pairs) n ≡ Some name → ⊥
no_place_has_name [] name n none at = absurd (cc)
no_place_has_name (p ∷ pairs) name zero none at = none.0 (same_Some p.0 name at)
no_place_has_name (p ∷ pairs) name (suc n) none at = no_place_has_name pairs name n none.1 at

-- if a name is at no place, no pair has it
HasNoTextOfName-from_places : (pairs : NamedTexts) (name : List ℕ)
    → ((n : ℕ) → slice_get (pair_names pairs) n ≡ Some name → ⊥) → HasNoTextOfName pairs name
HasNoTextOfName-from_places [] name none = tt
HasNoTextOfName-from_places (p ∷ pairs) name none =
    (λ same. none zero (ap Some same), HasNoTextOfName-from_places pairs name (λ n. none (suc n)))

-- a name without a place is the name of no pair
pub HasNoTextOfName-from_place : (place_of : List ℕ → Option ℕ) (pairs : NamedTexts) (name : List ℕ)
    → AreNamePlaces place_of pairs → place_of name ≡ None → HasNoTextOfName pairs name
HasNoTextOfName-from_place place_of pairs name places none =
    HasNoTextOfName-from_places pairs name
    (λ n at. let both : Some n ≡ None = sym ((places name n).1 at) ∙ none in absurd (cc))

-- a name that no pair has has no value
pub named_text-no_pair : (pairs : NamedTexts) (name : List ℕ) → HasNoTextOfName pairs name
    → named_text pairs name ≡ None
named_text-no_pair [] name none = refl
named_text-no_pair (p ∷ pairs) name none =
    ap (λ b. cond b (Some p.1) (named_text pairs name)) (ne_bytes_eq name p.0 (λ same. none.0 (sym same)))
    ∙ named_text-no_pair pairs name none.1

-- an earlier name differs from a name at a place
earlier_pair_name_differs : (pairs : NamedTexts) (earlier name : List ℕ) (n : ℕ) → HasNoTextOfName pairs earlier
    → slice_get (pair_names pairs) n ≡ Some name → bytes_eq name earlier ≡ false
earlier_pair_name_differs pairs earlier name n none at =
    ne_bytes_eq name earlier (λ same. no_place_has_name pairs earlier n none (at ∙ ap Some same))

-- the value of a name is that of the pair at its place
pub named_text-at_place : (pairs : NamedTexts) (name : List ℕ) (n : ℕ) (pair : List ℕ × List ℕ)
    → HasDistinctTextNames pairs → slice_get (pair_names pairs) n ≡ Some name → slice_get pairs n ≡ Some pair
    → named_text pairs name ≡ Some pair.1
named_text-at_place [] name n pair distinct at is = absurd (cc)
named_text-at_place (p ∷ pairs) name zero pair distinct at is =
    ap (λ b. cond b (Some p.1) (named_text pairs name)) ((bytes_eq-Decides name p.0).1 (sym (same_Some p.0 name at)))
    ∙ ap (λ (q : List ℕ × List ℕ). Some q.1) (same_Some p pair is)
named_text-at_place (p ∷ pairs) name (suc n) pair distinct at is =
    ap (λ b. cond b (Some p.1) (named_text pairs name)) (earlier_pair_name_differs pairs p.0 name n distinct.0 at)
    ∙ named_text-at_place pairs name n pair distinct.1 at is

-- a pair with the name at a place sets the value of the name
pub with_named_text-at_place : (pairs : NamedTexts) (name value : List ℕ) (n : ℕ) → HasDistinctTextNames pairs
    → slice_get (pair_names pairs) n ≡ Some name → set pairs n (name, value) ≡ with_named_text pairs name value
with_named_text-at_place [] name value n distinct at = absurd (cc)
with_named_text-at_place (p ∷ pairs) name value zero distinct at =
    ap (λ (x : List ℕ). (x, value) ∷ pairs) (sym (same_Some p.0 name at))
    ∙ sym (ap (λ b. cond b ((p.0, value) ∷ pairs) (p ∷ with_named_text pairs name value))
    ((bytes_eq-Decides name p.0).1 (sym (same_Some p.0 name at))))
with_named_text-at_place (p ∷ pairs) name value (suc n) distinct at =
    ap (λ (ps : NamedTexts). p ∷ ps) (with_named_text-at_place pairs name value n distinct.1 at)
    ∙ sym (ap (λ b. cond b ((p.0, value) ∷ pairs) (p ∷ with_named_text pairs name value))
    (earlier_pair_name_differs pairs p.0 name n distinct.0 at))

-- a pair with the name at a place leaves all names at their places
pair_names-set : (pairs : NamedTexts) (name value : List ℕ) (n : ℕ) → slice_get (pair_names pairs) n ≡ Some name
    → pair_names (set pairs n (name, value)) ≡ pair_names pairs
pair_names-set [] name value n at = refl
pair_names-set (p ∷ pairs) name value zero at =
    ap (λ (x : List ℕ). x ∷ pair_names pairs) (sym (same_Some p.0 name at))
pair_names-set (p ∷ pairs) name value (suc n) at =
    ap (λ (xs : List (List ℕ)). p.0 ∷ xs) (pair_names-set pairs name value n at)

-- a pair with the name at a place leaves the places right
pub AreNamePlaces-set : (place_of : List ℕ → Option ℕ) (pairs : NamedTexts) (name value : List ℕ) (n : ℕ)
    → AreNamePlaces place_of pairs → slice_get (pair_names pairs) n ≡ Some name
    → AreNamePlaces place_of (set pairs n (name, value))
AreNamePlaces-set place_of pairs name value n places at other m =
    rw (pair_names-set pairs name value n at) (places other m)

-- a new name gets the place after the others
pub AreNamePlaces-append : (old new : List ℕ → Option ℕ) (pairs : NamedTexts) (pair : List ℕ × List ℕ)
    → AreNamePlaces old pairs → HasNoTextOfName pairs pair.0
    → ((other : List ℕ) → new other ≡ cond (bytes_eq pair.0 other) (Some (length pairs)) (old other))
    → AreNamePlaces new (pairs ++ pair ∷ [])
AreNamePlaces-append old new pairs pair places absent sets other n =
    rw (pair_names-append pairs pair) (by _ refl)
  where
    names : List (List ℕ)
    names = pair_names pairs

    by : (b : Bool) → bytes_eq pair.0 other ≡ b
        → (new other ≡ Some n → slice_get (names ++ pair.0 ∷ []) n ≡ Some other)
        × (slice_get (names ++ pair.0 ∷ []) n ≡ Some other → new other ≡ Some n)
    by true is =
        let same : pair.0 ≡ other = (bytes_eq-Decides pair.0 other).0 is in
        let put : new other ≡ Some (length names) =
        sets other ∙ ap (λ b. cond b (Some (length pairs)) (old other)) is ∙ ap Some (sym (pair_names_count pairs)) in (
          λ e. subst (λ m. slice_get (names ++ pair.0 ∷ []) m ≡ Some other) (same_Some _ _ (sym put ∙ e))
              (at_length names pair.0 [] ∙ ap Some same),
          λ e. elim (get_pushed names pair.0 n other e) [
            | inl h ↦ absurd (no_place_has_name pairs pair.0 n absent (h ∙ ap Some (sym same)))
            | inr h ↦ put ∙ ap Some (sym h.0)
          ],
        )
    by false is =
        let stays : new other ≡ old other = sets other ∙ ap (λ b. cond b (Some (length pairs)) (old other)) is in (
          λ e. get_left names (pair.0 ∷ []) n other ((places other n).0 (sym stays ∙ e)),
          λ e. elim (get_pushed names pair.0 n other e) [
            | inl h ↦ stays ∙ (places other n).1 h
            | inr h ↦ absurd (true≢false (sym ((bytes_eq-Decides pair.0 other).1 h.1) ∙ is))
          ],
        )

-- without the last pair, the other names have their places
pub AreNamePlaces-front : (old new : List ℕ → Option ℕ) (pairs : NamedTexts) (pair : List ℕ × List ℕ)
    → AreNamePlaces old (pairs ++ pair ∷ [])
    → ((other : List ℕ) → new other ≡ cond (bytes_eq pair.0 other) None (old other))
    → AreNamePlaces new pairs
AreNamePlaces-front old new pairs pair places sets other n = by _ refl
  where
    names : List (List ℕ)
    names = pair_names pairs

    appended : AreNamePlaces old (pairs ++ pair ∷ [])
        → (name : List ℕ) (m : ℕ) → (old name ≡ Some m → slice_get (names ++ pair.0 ∷ []) m ≡ Some name)
        × (slice_get (names ++ pair.0 ∷ []) m ≡ Some name → old name ≡ Some m)
    appended are name m = (
      λ e. ap (λ (xs : List (List ℕ)). slice_get xs m) (sym (pair_names-append pairs pair)) ∙ (are name m).0 e,
      λ e. (are name m).1 (ap (λ (xs : List (List ℕ)). slice_get xs m) (pair_names-append pairs pair) ∙ e),
    )

    last : old pair.0 ≡ Some (length names)
    last = (appended places pair.0 (length names)).1 (at_length names pair.0 [])

    by : (b : Bool) → bytes_eq pair.0 other ≡ b
        → (new other ≡ Some n → slice_get names n ≡ Some other) × (slice_get names n ≡ Some other → new other ≡ Some n)
    by true is =
        let same : pair.0 ≡ other = (bytes_eq-Decides pair.0 other).0 is in
        let removed : new other ≡ None = sets other ∙ ap (λ b. cond b None (old other)) is in (
          λ e. let both : None ≡ Some n = sym removed ∙ e in absurd (cc),
          λ e.
              let at : slice_get names n ≡ Some pair.0 = e ∙ ap Some (sym same) in
              let found : old pair.0 ≡ Some n =
              (appended places pair.0 n).1 (get_left names (pair.0 ∷ []) n pair.0 at) in
              let place : length names ≡ n = same_Some _ _ (sym last ∙ found) in
              let within : n < length names = slice_get_within names n pair.0 at in
              absurd (omega arith),
        )
    by false is =
        let stays : new other ≡ old other = sets other ∙ ap (λ b. cond b None (old other)) is in (
          λ e. elim (get_pushed names pair.0 n other ((appended places other n).0 (sym stays ∙ e))) [
            | inl h ↦ h
            | inr h ↦ absurd (true≢false (sym ((bytes_eq-Decides pair.0 other).1 h.1) ∙ is))
          ],
          λ e. stays ∙ (appended places other n).1 (get_left names (pair.0 ∷ []) n other e),
        )

-- a query for another key finds the same before and after a change
other_name_keeps_lookup : {K X : Type 0} (eq : K → K → Bool) (test : K → Bool) (old new : List (K × X))
    → KeepsOthers eq test old new → (other : K → Bool) → IsKeyTest eq other → AreApart test other
    → lookup other new ≡ lookup other old
unfolding KeepsOthers
other_name_keeps_lookup eq test old new keeps = keeps

-- a change at a key of a map changes the place of its name only
pub name_place-updated : {Y S : Type 0} (old new : HashMap (Vec ℕ Y) ℕ S) (name : List ℕ) (place : Option ℕ)
    → UpdatesBy (λ a b. bytes_eq a.items b.items) (λ key. bytes_eq name key.items) old new place
    → (other : List ℕ) → name_place new other ≡ cond (bytes_eq name other) place (name_place old other)
name_place-updated old new name place updates other = by _ refl
  where
    apart : bytes_eq name other ≡ false → (key : List ℕ) → bytes_eq name key ≡ true → bytes_eq other key ≡ false
    apart differ key is = nat_list_eq_equiv.symm other key
        ∙ sym (nat_list_eq_equiv.congr name key other is)
        ∙ differ

    by : (b : Bool) → bytes_eq name other ≡ b
        → name_place new other ≡ cond (bytes_eq name other) place (name_place old other)
    by true is = rw is (subst (λ t. name_place new t ≡ place) ((bytes_eq-Decides name other).0 is) updates.1)
    by false is =
        rw is (other_name_keeps_lookup _ _ _ _ updates.3 (λ key. bytes_eq other key.items)
        (λ a b. nat_list_eq_equiv.congr other a.items b.items) (λ key. apart is key.items))

-- a fact of the pairs on success and of those on an error is a fact of the pairs after the call
pub fact_of_named_texts : {T E : Type 0} (result : Result T E) (P : NamedTexts → Type 0) (new on_ok on_err : NamedTexts)
    → OnOk result (new ≡ on_ok) → OnErr result (new ≡ on_err) → P on_ok → P on_err → P new
fact_of_named_texts (Ok v) P new on_ok on_err is_ok is_err ok err = subst P (sym is_ok) ok
fact_of_named_texts (Err e) P new on_ok on_err is_ok is_err ok err = subst P (sym is_err) err
