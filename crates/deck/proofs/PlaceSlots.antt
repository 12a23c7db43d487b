-- The places of keys, stored as slots.
use Rattle.std.proofs.Common.{◌≡◌, [], ◌∷◌, ℕ, zero, suc, List, Bool, true, false, cond, map, set, refl, sym, ap, ◌∙◌}
use Rattle.std.proofs.Common.{Option, Some, None, option_map, ◌++◌, ◌+◌, add-one, drop, take}
use Rattle.std.specs.List.{remove}
use Rattle.gap_list.specs.Gaps.{place_without_gaps, with_gap, without_gap}
use Rattle.gap_list.proofs.SlotItems.{place_moved_by_gap}
use Rattle.deck.specs.KindPlaces.{HasSameDefinitionPlaces}
use Rattle.deck.proofs.KindPlacing.{definition_place_count_mapped, definition_place_in_mapped}

-- the place of each number is mapped
module _ (f : ℕ → ℕ) where
  map-set : (ps : List (Option ℕ)) (n : ℕ) (place : Option ℕ)
      → map (option_map f) (set ps n place) ≡ set (map (option_map f) ps) n (option_map f place)
  map-set [] n place = refl
  map-set (p ∷ ps) zero place = refl
  map-set (p ∷ ps) (suc n) place = ap {B = List (Option ℕ)} (λ qs. option_map f p ∷ qs) (map-set ps n place)

  -- a place is stored in one kind only
  pub map-put : (b : Bool) (ps : List (Option ℕ)) (n : ℕ) (place : Option ℕ)
      → map (option_map f) (cond b (set ps n place) ps)
      ≡ cond b (set (map (option_map f) ps) n (option_map f place)) (map (option_map f) ps)
  map-put true ps n place = map-set ps n place
  map-put false ps n place = refl

  -- the places of one kind only may change
  pub map-other : (b : Bool) (new old : List (Option ℕ)) → new ≡ cond b new old
      → map (option_map f) new ≡ cond b (map (option_map f) new) (map (option_map f) old)
  map-other true new old e = refl
  map-other false new old e = ap (map (option_map f)) e

  pub map-same : (old new : List (Option ℕ)) → HasSameDefinitionPlaces old new
      → HasSameDefinitionPlaces (map (option_map f) old) (map (option_map f) new)
  map-same old new same = record {
    place = λ n. definition_place_in_mapped f new n ∙ ap (option_map f) (same.place n)
        ∙ sym (definition_place_in_mapped f old n);
    count = definition_place_count_mapped f new ∙ same.count ∙ sym (definition_place_count_mapped f old);
  }

-- without gaps, slots are places
pub definition_places_map-no_gaps : (ps : List (Option ℕ)) → map (option_map (place_without_gaps [])) ps ≡ ps
definition_places_map-no_gaps [] = refl
definition_places_map-no_gaps (None ∷ ps) = ap {B = List (Option ℕ)} (λ qs. None ∷ qs)
    (definition_places_map-no_gaps ps)
definition_places_map-no_gaps (Some p ∷ ps) = ap {B = List (Option ℕ)} (λ qs. Some p ∷ qs)
    (definition_places_map-no_gaps ps)

-- one more gap moves the places after it
pub definition_places_map-gap : (gap : ℕ) (gaps : List ℕ) (ps : List (Option ℕ))
    → map (option_map (place_without_gaps (with_gap gap gaps))) ps
    ≡ map (option_map (without_gap gap)) (map (option_map (place_without_gaps gaps)) ps)
definition_places_map-gap gap gaps [] = refl
definition_places_map-gap gap gaps (None ∷ ps) = ap {B = List (Option ℕ)} (λ qs. None ∷ qs)
    (definition_places_map-gap gap gaps ps)
definition_places_map-gap gap gaps (Some p ∷ ps) =
    let one : place_without_gaps (with_gap gap gaps) p ≡ without_gap gap (place_without_gaps gaps p) =
    place_moved_by_gap gaps gap p in
    let rest : map (option_map (place_without_gaps (with_gap gap gaps))) ps
    ≡ map (option_map (without_gap gap)) (map (option_map (place_without_gaps gaps)) ps) =
    definition_places_map-gap gap gaps ps in
    λ i. Some (one i) ∷ rest i

module _ (f : ℕ → ℕ) where
  removed : (ps : List (Option ℕ)) (place : ℕ) → map (option_map f) (take place ps ++ drop (suc place) ps)
      ≡ remove (map (option_map f) ps) place
  removed [] zero = refl
  removed [] (suc place) = refl
  removed (p ∷ ps) zero = refl
  removed (p ∷ ps) (suc place) = ap {B = List (Option ℕ)} (λ qs. option_map f p ∷ qs) (removed ps place)

  -- the places are mapped after one is removed
  pub map-removed : (ps : List (Option ℕ)) (place : ℕ) → map (option_map f) (take place ps ++ drop (place + 1) ps)
      ≡ remove (map (option_map f) ps) place
  map-removed ps place =
      ap (λ n. map (option_map f) (take place ps ++ drop n ps)) (add-one place) ∙ removed ps place
