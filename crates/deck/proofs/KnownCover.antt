-- Known covered places, with more or fewer lines.
use Rattle.std.proofs.Common.{◌≡◌, ◌++◌, ◌∷◌, ◌+◌, ◌<◌, [], ℕ, zero, suc, List, Bool, true, false, length}
use Rattle.std.proofs.Common.{map, take, reverse, refl, sym, ap, subst, ◌∙◌, arith}
use Rattle.std.proofs.Common.{Option, Some, None, option_map, slice_get, length-append, length-take}
use Rattle.std.proofs.lemmas.List.{reverse-append}
use Rattle.std.proofs.lemmas.Option.{same_Some, slice_get-map}
use Rattle.def_entry.specs.Entries.{Entry}
use Rattle.def_entry.specs.declared.key.Key.{Key}
use Rattle.deck_lines.specs.Readings.{entry_in_store_line}
use Rattle.deck_lines.specs.declared.line.DeckLine.{DeckLine}
use Rattle.deck.specs.Active.{active_lines}
use Rattle.deck.specs.CoveredLines.{AreCoveredDefinitionPlaces, AreDefinitionPlacesBelow, MayCoverDefinitions}
use Rattle.deck.specs.Tables.{DeckDefinitions, active_definitions, active_definitions_among, active_definitions_from}
use Rattle.deck.specs.Tables.{definition_of_active_line, definition_place_of}
use Rattle.deck.specs.declared.settings.Settings.{Settings}

-- a known place of a list is one of a longer list
covered_place_in_longer_list : {A : Type 0} (xs ys : List A) (i : ℕ) (x : A) → slice_get xs i ≡ Some x
    → slice_get (xs ++ ys) i ≡ Some x
covered_place_in_longer_list [] ys i x e = cc
covered_place_in_longer_list (y ∷ xs) ys zero x e = e
covered_place_in_longer_list (y ∷ xs) ys (suc i) x e = covered_place_in_longer_list xs ys i x e

covered_place_at_list_end : {A : Type 0} (xs : List A) (x : A) → slice_get (xs ++ x ∷ []) (length xs) ≡ Some x
covered_place_at_list_end [] x = refl
covered_place_at_list_end (y ∷ xs) x = covered_place_at_list_end xs x

-- the lines cover the same lines if the covered places of more lines are known
pub covered_definitions_longer : (ds : DeckDefinitions) (covered more : List (Option ℕ))
    → AreCoveredDefinitionPlaces ds covered
    → AreCoveredDefinitionPlaces ds (covered ++ more)
covered_definitions_longer [] covered more are = tt
covered_definitions_longer (d ∷ ds) covered more are = (
  covered_place_in_longer_list covered more d.1.0 (definition_place_of ds d.0) are.0,
  covered_definitions_longer ds covered more are.1,
)

-- one more line covers the last line of its key
pub appended_definition_covers : (ds : DeckDefinitions) (covered new : List (Option ℕ)) (k : Key) (place : ℕ)
    (e : Entry)
    → AreCoveredDefinitionPlaces ds covered → place ≡ length covered → new ≡ covered ++ definition_place_of ds k ∷ []
    → AreCoveredDefinitionPlaces ((k, (place, e)) ∷ ds) new
appended_definition_covers ds covered new k place e are at is =
    subst (AreCoveredDefinitionPlaces ((k, (place, e)) ∷ ds)) (sym is) (
      ap (slice_get (covered ++ definition_place_of ds k ∷ [])) at ∙ covered_place_at_list_end covered
          (definition_place_of ds k),
      covered_definitions_longer ds covered (definition_place_of ds k ∷ []) are,
    )

covered_place_in_list_front : {A : Type 0} (n : ℕ) (xs : List A) (i : ℕ) (x : A) → i < n → slice_get xs i ≡ Some x
    → slice_get (take n xs) i ≡ Some x
covered_place_in_list_front zero xs i x less e = absurd (omega (arith, less))
covered_place_in_list_front (suc n) [] i x less e = e
covered_place_in_list_front (suc n) (y ∷ xs) zero x less e = e
covered_place_in_list_front (suc n) (y ∷ xs) (suc i) x less e = covered_place_in_list_front n xs i x
    (omega (arith, less)) e

-- the first lines cover the same lines without the others
pub covered_definitions_of_front : (n : ℕ) (ds : DeckDefinitions) (covered : List (Option ℕ))
    → AreDefinitionPlacesBelow n ds → AreCoveredDefinitionPlaces ds covered
    → AreCoveredDefinitionPlaces ds (take n covered)
covered_definitions_of_front n [] covered below are = tt
covered_definitions_of_front n (d ∷ ds) covered below are = (
  covered_place_in_list_front n covered d.1.0 (definition_place_of ds d.0) below.0 are.0,
  covered_definitions_of_front n ds covered below.1 are.1,
)

definition_places_below-append : (place : ℕ) (ds es : DeckDefinitions) → AreDefinitionPlacesBelow place ds
    → AreDefinitionPlacesBelow place es → AreDefinitionPlacesBelow place (ds ++ es)
definition_places_below-append place [] es h g = g
definition_places_below-append place (d ∷ ds) es h g = (h.0, definition_places_below-append place ds es h.1 g)

definition_places_below-reverse : (place : ℕ) (ds : DeckDefinitions) → AreDefinitionPlacesBelow place ds
    → AreDefinitionPlacesBelow place (reverse ds)
definition_places_below-reverse place [] h = tt
definition_places_below-reverse place (d ∷ ds) h =
    subst (AreDefinitionPlacesBelow place) (sym (reverse-append (d ∷ []) ds))
    (definition_places_below-append place (reverse ds) (d ∷ []) (definition_places_below-reverse place ds h.1)
    (h.0, tt))

-- the definitions of some lines are of lines before their end
active_definitions_from_below : (fs : List Bool) (lines : List DeckLine) (n : ℕ)
    → AreDefinitionPlacesBelow (n + length lines) (active_definitions_from n fs lines)
active_definitions_from_below [] lines n = tt
active_definitions_from_below (f ∷ fs) [] n = tt
active_definitions_from_below (f ∷ fs) (x ∷ lines) n =
    let end : n + 1 + length lines ≡ n + suc (length lines) = omega arith in
    definition_places_below-append (n + suc (length lines)) (definition_of_active_line n f (entry_in_store_line x))
    (active_definitions_from (n + 1) fs lines)
    (one f (entry_in_store_line x))
    (subst (λ m. AreDefinitionPlacesBelow m (active_definitions_from (n + 1) fs lines)) end
    (active_definitions_from_below fs lines (n + 1)))
  where
    one : (b : Bool) (o : Option (Key × Entry)) → AreDefinitionPlacesBelow (n + suc (length lines))
        (definition_of_active_line n b o)
    one b None = tt
    one true (Some e) = (omega arith, tt)
    one false (Some e) = tt

pub active_definitions_among_below : (fs : List Bool) (lines : List DeckLine) → AreDefinitionPlacesBelow (length lines)
    (active_definitions_among fs lines)
active_definitions_among_below fs lines =
    let end : 0 + length lines ≡ length lines = omega arith in
    subst (λ m. AreDefinitionPlacesBelow m (active_definitions_among fs lines)) end
    (definition_places_below-reverse (0 + length lines) (active_definitions_from 0 fs lines)
    (active_definitions_from_below fs lines 0))

-- known covered places, with one more line
pub may_cover_definitions_more : (count : ℕ) (ds : DeckDefinitions) (covered rest : List (Option ℕ)) (k : Key)
    (e : Entry)
    (place : Option ℕ)
    → MayCoverDefinitions count ds (Some covered) → place ≡ definition_place_of ds k → rest ≡ covered ++ place ∷ []
    → MayCoverDefinitions (count + 1) ((k, (count, e)) ∷ ds) (Some rest)
may_cover_definitions_more count ds covered rest k e place are is more = (
  omega (arith, ap length more, length-append covered (place ∷ []), are.0),
  appended_definition_covers ds covered rest k count e are.1 (sym are.0) (more ∙ ap (λ p. covered ++ p ∷ []) is),
)

-- known covered places, with one more line that defines nothing or is not active
pub may_cover_definitions_longer : (count : ℕ) (ds : DeckDefinitions) (covered rest : List (Option ℕ))
    (place : Option ℕ)
    → MayCoverDefinitions count ds (Some covered) → rest ≡ covered ++ place ∷ [] → MayCoverDefinitions (count + 1) ds
    (Some rest)
may_cover_definitions_longer count ds covered rest place are more = (
  omega (arith, ap length more, length-append covered (place ∷ []), are.0),
  subst (AreCoveredDefinitionPlaces ds) (sym more) (covered_definitions_longer ds covered (place ∷ []) are.1),
)

-- known covered places, with one more line
pub may_cover_definitions_step : (count : ℕ) (ds : DeckDefinitions) (covered rest : List (Option ℕ)) (is_active : Bool)
    (o : Option (Key × Entry)) (over : Option ℕ) → MayCoverDefinitions count ds (Some covered)
    → rest ≡ covered ++ over ∷ []
    → ((k : Key) (e : Entry) → is_active ≡ true → o ≡ Some (k, e) → over ≡ definition_place_of ds k)
    → MayCoverDefinitions (count + 1) (definition_of_active_line count is_active o ++ ds) (Some rest)
may_cover_definitions_step count ds covered rest is_active None over are more is =
    may_cover_definitions_longer count ds covered rest over are more
may_cover_definitions_step count ds covered rest true (Some d) over are more is =
    may_cover_definitions_more count ds covered rest d.0 d.1 over are (is d.0 d.1 refl refl) more
may_cover_definitions_step count ds covered rest false (Some d) over are more is =
    may_cover_definitions_longer count ds covered rest over are more

-- known covered places of the first lines
pub may_cover_definitions_front : (len count : ℕ) (ds : DeckDefinitions) (covered rest : List (Option ℕ)) → len < count
    → AreDefinitionPlacesBelow len ds
    → MayCoverDefinitions count ds (Some covered) → rest ≡ take len covered → MayCoverDefinitions len ds (Some rest)
may_cover_definitions_front len count ds covered rest less below are first = (
  omega (arith, ap length first, length-take len covered, are.0, less),
  subst (AreCoveredDefinitionPlaces ds) (sym first) (covered_definitions_of_front len ds covered below are.1),
)

-- without the last definition, the others cover the same lines
pub may_cover_definitions_others : (count : ℕ) (d : Key × (ℕ × Entry)) (ds : DeckDefinitions)
    (covered : Option (List (Option ℕ)))
    → MayCoverDefinitions count (d ∷ ds) covered → MayCoverDefinitions count ds covered
may_cover_definitions_others count d ds None are = tt
may_cover_definitions_others count d ds (Some covered) are = (are.0, are.1.1)

pub active_definitions_below : (settings : Settings) (lines : List DeckLine)
    → AreDefinitionPlacesBelow (length lines) (active_definitions settings lines)
unfolding active_definitions
active_definitions_below settings lines = active_definitions_among_below (active_lines settings lines) lines

-- the place in a slot of a list of slots
pub covered_definition_place_mapped : (f : ℕ → ℕ) (slots : List (Option ℕ)) (place : ℕ) (slot covered : Option ℕ)
    → slice_get slots place ≡ Some slot → slice_get (map (option_map f) slots) place ≡ Some covered
    → option_map f slot ≡ covered
covered_definition_place_mapped f slots place slot covered at is = same_Some (option_map f slot) covered
    (sym (slice_get-map (option_map f) slots place ∙ ap (option_map (option_map f)) at) ∙ is)

pub no_covered_definition_mapped : (f : ℕ → ℕ) (slots : List (Option ℕ)) (place : ℕ) (covered : Option ℕ)
    → slice_get slots place ≡ None → slice_get (map (option_map f) slots) place ≡ Some covered → ⊥
no_covered_definition_mapped f slots place covered at is = never (sym (slice_get-map (option_map f) slots place
    ∙ ap (option_map (option_map f)) at) ∙ is)
  where
    never : None ≡ Some covered → ⊥
    never h = cc
