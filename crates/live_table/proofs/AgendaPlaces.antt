-- The places of numbers on an agenda.
use Rattle.std.proofs.Common.{◌≡◌, ◌+◌, ◌-◌, ◌<◌, ◌≤◌, ℕ, zero, suc, Bool, true, false, cond, List, [], ◌∷◌, ◌++◌, Bor}
use Rattle.std.proofs.Common.{Option, Some, None, get_or, set, take, length, replicate, is_some, option_copied, sym}
use Rattle.std.proofs.Common.{◌∙◌, ap, subst, inl, inr, arith, Contains}
use Rattle.std.specs.List.{slice_get}
use Rattle.std.specs.Option.{option_map, unwrap_or}
use Rattle.std.specs.Prelude.{MatchOption, SomeIff}
use Rattle.std.proofs.lemmas.Bool.{cases_eq, false_from_ne_true}
use Rattle.std.proofs.lemmas.List.{take_all}
use Rattle.std.proofs.lemmas.Option.{get_or_from_slice_get, same_Some, slice_get_within}
use Rattle.std.proofs.lemmas.Cmp.{nat_eq_equiv}
use Rattle.std.proofs.lemmas.Map.Keys.{IsDistinct-push}
use Rattle.name_walk.specs.Faults.{is_on_path}
use Rattle.name_walk.proofs.Lists.{distinct_last}
use Rattle.name_walk.proofs.Members.{member_on_path, on_path_member}
use Rattle.live_table.specs.Agendas.{AreAgendaPlaces, AreSameAgendaPlaces}
use Rattle.live_table.proofs.AddedNames.{appending_is_exploration_growth}
use Rattle.live_table.proofs.Places.{get_last, place_in}
use Rattle.general_lemmas.proofs.Places.{get_pushed, get_set_same, get_set_other}
use Rattle.general_lemmas.proofs.Members.{member_at}
use Rattle.general_lemmas.proofs.Properties.{nothing_twice, distinct_front}

-- a place in a longer table was there before
agenda_place_was_there_before : (places : List ℕ) (k m i : ℕ) → slice_get (places ++ replicate k 0) m ≡ Some (i + 1)
    → slice_get places m ≡ Some (i + 1)
agenda_place_was_there_before [] zero m i e = cc
agenda_place_was_there_before [] (suc k) zero i e = absurd (let z : 0 ≡ i + 1 = same_Some 0 (i + 1) e in
    omega (arith, z))
agenda_place_was_there_before [] (suc k) (suc m) i e = agenda_place_was_there_before [] k m i e
agenda_place_was_there_before (p ∷ places) k zero i e = e
agenda_place_was_there_before (p ∷ places) k (suc m) i e = agenda_place_was_there_before places k m i e

-- at the start no number has a place
pub empty_agenda_has_no_places : AreAgendaPlaces [] []
empty_agenda_has_no_places = record { places_match = λ n i. ((λ e. cc), (λ e. cc)); numbers_distinct = nothing_twice }

-- more room for places
resized_agenda_has_same_places : (places : List ℕ) (end : ℕ) → length places ≤ end
    → AreSameAgendaPlaces places (take end places ++ replicate (end - length places) 0)
resized_agenda_has_same_places places end h =
    subst (λ (front : List ℕ). AreSameAgendaPlaces places (front ++ replicate (end - length places) 0))
    (sym (take_all end places h))
    (λ n i. (
      agenda_place_was_there_before places (end - length places) n i,
      appending_is_exploration_growth places (replicate (end - length places) 0) n (i + 1),
    ))

-- a table that is filled up has the same places
pub filled_agenda_has_same_places : (b : Bool) (old new : List ℕ) (end size : ℕ) → size ≡ length old → length old ≤ end
    → new ≡ cond b (take end old ++ replicate (end - size) 0) old → AreSameAgendaPlaces old new
filled_agenda_has_same_places true old new end size s h e =
    subst (AreSameAgendaPlaces old) (sym (e ∙ ap (λ n. take end old ++ replicate (end - n) 0) s))
    (resized_agenda_has_same_places old end h)
filled_agenda_has_same_places false old new end size s h e = subst (AreSameAgendaPlaces old) (sym e)
    (λ n i. ((λ q. q), (λ q. q)))

-- tables with the same places are those of the same numbers
pub same_agenda_places_same_numbers : (old new numbers : List ℕ) → AreSameAgendaPlaces old new
    → AreAgendaPlaces old numbers → AreAgendaPlaces new numbers
same_agenda_places_same_numbers old new numbers s m = record {
  places_match = λ n i. (λ e. (m.places_match n i).0 ((s n i).0 e), λ e. (s n i).1 ((m.places_match n i).1 e));
  numbers_distinct = m.numbers_distinct;
}

-- the entry that is read at a place, or 0 if there is none
pub entry_at_agenda_place : (o : Option (Bor ℕ)) (kept : ℕ) → kept ≡ unwrap_or (option_copied o) 0
    → kept ≡ unwrap_or (option_map (λ p. p.now) o) 0
entry_at_agenda_place None kept e = e
entry_at_agenda_place (Some p) kept e = e

-- an entry that is read and is not 0 is stored
read_agenda_place_is_stored : (places : List ℕ) (n kept : ℕ) → kept ≡ get_or places n 0 → 1 ≤ kept
    → slice_get places n ≡ Some kept
read_agenda_place_is_stored [] n kept e h = absurd (omega (arith, e, h))
read_agenda_place_is_stored (p ∷ places) zero kept e h = ap Some (sym e)
read_agenda_place_is_stored (p ∷ places) (suc n) kept e h = read_agenda_place_is_stored places n kept e h

-- the stored entry of a number determines its place
pub agenda_entry_gives_place : (places numbers : List ℕ) (n kept : ℕ) (r : Option ℕ) → kept ≡ get_or places n 0
    → SomeIff r (1 ≤ kept) (kept - 1) → AreAgendaPlaces places numbers
    → MatchOption r (is_on_path numbers n ≡ false) (λ i. slice_get numbers i ≡ Some n)
agenda_entry_gives_place places numbers n kept None e s m =
    false_from_ne_true (is_on_path numbers n) (λ t. let at = place_in numbers n (on_path_member numbers n t) in
    let k : kept ≡ at.0 + 1 = e ∙ get_or_from_slice_get places n (at.0 + 1) 0 ((m.places_match n at.0).1 at.1) in
    s (omega (arith, k)))
agenda_entry_gives_place places numbers n kept (Some i) e s m =
    let k : kept ≡ i + 1 = (let a : 1 ≤ kept = s.0 in let b : i ≡ kept - 1 = s.1 in omega (arith, a, b)) in
    (m.places_match n i).0 (read_agenda_place_is_stored places n kept e s.0 ∙ ap Some k)

-- a number that has a place is there
pub placed_number_is_on_agenda : (numbers : List ℕ) (n : ℕ) (r : Option ℕ)
    → MatchOption r (is_on_path numbers n ≡ false) (λ i. slice_get numbers i ≡ Some n)
    → is_some r ≡ is_on_path numbers n
placed_number_is_on_agenda numbers n None h = sym h
placed_number_is_on_agenda numbers n (Some i) h = sym (member_on_path numbers n (member_at numbers i n h))

-- one more number is appended
pub agenda_places_after_push : (places numbers : List ℕ) (n kept : ℕ) → kept ≡ length numbers + 1 → n < length places
    → is_on_path numbers n ≡ false → AreAgendaPlaces places numbers
    → AreAgendaPlaces (set places n kept) (numbers ++ n ∷ [])
agenda_places_after_push places numbers n kept k h new m = record {
  places_match = λ q i. (to q i, from q i);
  numbers_distinct = IsDistinct-push nat_eq_equiv numbers n m.numbers_distinct new;
}
  where
    to : (q i : ℕ) → slice_get (set places n kept) q ≡ Some (i + 1) → slice_get (numbers ++ n ∷ []) i ≡ Some q
    to q i e = elim (cases_eq q n) [
      | inl s ↦
          let own : kept ≡ i + 1 = same_Some kept (i + 1)
          (sym (ap (slice_get (set places n kept)) s ∙ get_set_same places n kept h) ∙ e) in
          let last : i ≡ length numbers = omega (arith, own, k) in
          ap (slice_get (numbers ++ n ∷ [])) last ∙ (get_last numbers n ∙ ap Some (sym s))
      | inr ne ↦ appending_is_exploration_growth numbers (n ∷ []) i q
          ((m.places_match q i).0 (sym (get_set_other places n q kept ne) ∙ e))
    ]

    from : (q i : ℕ) → slice_get (numbers ++ n ∷ []) i ≡ Some q → slice_get (set places n kept) q ≡ Some (i + 1)
    from q i e = elim (get_pushed numbers n i q e) [
      | inl at ↦
          get_set_other places n q kept
          (λ s. let z : true ≡ false = sym (member_on_path numbers q (member_at numbers i q at))
          ∙ (ap (is_on_path numbers) s ∙ new) in cc)
          ∙ (m.places_match q i).1 at
      | inr last ↦
          let own : kept ≡ i + 1 = (let a : i ≡ length numbers = last.0 in omega (arith, k, a)) in
          ap (slice_get (set places n kept)) (sym last.1) ∙ (get_set_same places n kept h ∙ ap Some own)
    ]

-- the last number is removed
pub agenda_places_after_pop : (places numbers : List ℕ) (n : ℕ) → n < length places
    → AreAgendaPlaces places (numbers ++ n ∷ [])
    → AreAgendaPlaces (set places n 0) numbers
agenda_places_after_pop places numbers n h m = record {
  places_match = λ q i. (to q i, from q i);
  numbers_distinct = distinct_front numbers (n ∷ []) m.numbers_distinct;
}
  where
    to : (q i : ℕ) → slice_get (set places n 0) q ≡ Some (i + 1) → slice_get numbers i ≡ Some q
    to q i e = elim (cases_eq q n) [
      | inl s ↦
          let z : 0 ≡ i + 1 = same_Some 0 (i + 1)
          (sym (ap (slice_get (set places n 0)) s ∙ get_set_same places n 0 h) ∙ e) in
          absurd (omega (arith, z))
      | inr ne ↦ elim (get_pushed numbers n i q ((m.places_match q i).0 (sym (get_set_other places n q 0 ne) ∙ e))) [
        | inl at ↦ at
        | inr last ↦ absurd (ne (sym last.1))
      ]
    ]

    from : (q i : ℕ) → slice_get numbers i ≡ Some q → slice_get (set places n 0) q ≡ Some (i + 1)
    from q i e =
        get_set_other places n q 0
        (λ s. distinct_last numbers n m.numbers_distinct
        (subst (λ (x : ℕ). Contains numbers x) s (member_at numbers i q e)))
        ∙ (m.places_match q i).1 (appending_is_exploration_growth numbers (n ∷ []) i q e)

-- a number that is there has room for its place
pub agenda_number_has_room : (places numbers : List ℕ) (n : ℕ) → AreAgendaPlaces places (numbers ++ n ∷ [])
    → n < length places
agenda_number_has_room places numbers n m =
    slice_get_within places n (length numbers + 1) ((m.places_match n (length numbers)).1 (get_last numbers n))
