-- Storing, adding and changing places.
use Rattle.std.proofs.Common.{◌≡◌, ◌++◌, ◌∷◌, ◌+◌, ◌<◌, ◌≤◌, [], ℕ, zero, suc, List, Bool, true, false, cond, length}
use Rattle.std.proofs.Common.{get_or, take, drop, map, set, refl, sym, ap, ◌∙◌, arith, Option, Some, None, option_map}
use Rattle.std.proofs.Common.{length-append, length-drop, length-take}
use Rattle.std.proofs.lemmas.List.{length-map}
use Rattle.std.specs.Option.{is_some}
use Rattle.deck.specs.KindPlaces.{HasSameDefinitionPlaces, definition_place_count, definition_place_in}

-- after a place, or `None`, is stored at a number, the number has it
pub definition_place_in_set_same : (ps : List (Option ℕ)) (n : ℕ) (place : Option ℕ) → n < length ps
    → definition_place_in (set ps n place) n ≡ place
definition_place_in_set_same [] n place h = absurd (omega arith)
definition_place_in_set_same (x ∷ ps) zero place h = refl
definition_place_in_set_same (x ∷ ps) (suc n) place h = definition_place_in_set_same ps n place (omega arith)

-- storing at one number does not change the place of another
pub definition_place_in_set_other : (ps : List (Option ℕ)) (n : ℕ) (place : Option ℕ) (m : ℕ) → (m ≡ n → ⊥)
    → definition_place_in (set ps n place) m ≡ definition_place_in ps m
definition_place_in_set_other [] n place m h = refl
definition_place_in_set_other (x ∷ ps) zero place zero h = absurd (h refl)
definition_place_in_set_other (x ∷ ps) zero place (suc m) h = refl
definition_place_in_set_other (x ∷ ps) (suc n) place zero h = refl
definition_place_in_set_other (x ∷ ps) (suc n) place (suc m) h = definition_place_in_set_other ps n place m
    (λ e. h (ap suc e))

-- storing a place increases the count exactly if the number had none
pub definition_place_count_set : (ps : List (Option ℕ)) (n p : ℕ) → n < length ps →
    definition_place_count (set ps n (Some p)) ≡ cond (is_some (definition_place_in ps n)) (definition_place_count ps)
    (definition_place_count ps + 1)
definition_place_count_set [] n p h = absurd (omega arith)
definition_place_count_set (None ∷ ps) zero p h = refl
definition_place_count_set (Some q ∷ ps) zero p h = refl
definition_place_count_set (None ∷ ps) (suc n) p h = definition_place_count_set ps n p (omega arith)
definition_place_count_set (Some q ∷ ps) (suc n) p h = ap (λ c. c + 1) (definition_place_count_set ps n p (omega arith))
    ∙ definition_count_cond_more (is_some (definition_place_in ps n)) (definition_place_count ps)
  where
    definition_count_cond_more : (b : Bool) (c : ℕ) → cond b c (c + 1) + 1 ≡ cond b (c + 1) ((c + 1) + 1)
    definition_count_cond_more true c = refl
    definition_count_cond_more false c = refl

-- adding 1 to each branch of a conditional adds 1 to its value
definition_count_cond_more : (b : Bool) (c : ℕ) → cond b (c + 1) c + 1 ≡ cond b ((c + 1) + 1) (c + 1)
definition_count_cond_more true c = refl
definition_count_cond_more false c = refl

-- removing a place decreases the count exactly if the number had one
pub definition_place_count_none : (ps : List (Option ℕ)) (n : ℕ) → n < length ps →
    definition_place_count ps ≡ cond (is_some (definition_place_in ps n)) (definition_place_count (set ps n None) + 1)
    (definition_place_count (set ps n None))
definition_place_count_none [] n h = absurd (omega arith)
definition_place_count_none (None ∷ ps) zero h = refl
definition_place_count_none (Some q ∷ ps) zero h = refl
definition_place_count_none (None ∷ ps) (suc n) h = definition_place_count_none ps n (omega arith)
definition_place_count_none (Some q ∷ ps) (suc n) h =
    ap (λ c. c + 1) (definition_place_count_none ps n (omega arith))
    ∙ definition_count_cond_more (is_some (definition_place_in ps n)) (definition_place_count (set ps n None))

-- overwriting a place decreases the count if the new value is `None`, and otherwise leaves it as it is
pub definition_place_count_other : (ps : List (Option ℕ)) (n : ℕ) (x : Option ℕ)
    → is_some (definition_place_in ps n) ≡ true →
    definition_place_count (set ps n x) + 1 ≡ cond (is_some x) (definition_place_count ps + 1)
    (definition_place_count ps)
definition_place_count_other [] zero x h = cc
definition_place_count_other [] (suc n) x h = cc
definition_place_count_other (None ∷ ps) zero x h = cc
definition_place_count_other (Some q ∷ ps) zero None h = refl
definition_place_count_other (Some q ∷ ps) zero (Some p) h = refl
definition_place_count_other (None ∷ ps) (suc n) x h = definition_place_count_other ps n x h
definition_place_count_other (Some q ∷ ps) (suc n) x h = ap (λ c. c + 1) (definition_place_count_other ps n x h)
    ∙ definition_count_cond_more (is_some x) (definition_place_count ps)

-- room for one more number does not change any place
pub definition_place_in_longer : (ps : List (Option ℕ)) (m : ℕ)
    → definition_place_in (ps ++ None ∷ []) m ≡ definition_place_in ps m
definition_place_in_longer [] zero = refl
definition_place_in_longer [] (suc m) = refl
definition_place_in_longer (x ∷ ps) zero = refl
definition_place_in_longer (x ∷ ps) (suc m) = definition_place_in_longer ps m

-- room for one more number does not change the count
pub definition_place_count_longer : (ps : List (Option ℕ))
    → definition_place_count (ps ++ None ∷ []) ≡ definition_place_count ps
definition_place_count_longer [] = refl
definition_place_count_longer (None ∷ ps) = definition_place_count_longer ps
definition_place_count_longer (Some p ∷ ps) = ap (λ c. c + 1) (definition_place_count_longer ps)

-- a list with room for one more number has the same places as before
pub same_definition_places_longer : (old ps qs : List (Option ℕ)) → HasSameDefinitionPlaces old ps
    → qs ≡ ps ++ None ∷ [] → HasSameDefinitionPlaces old qs
same_definition_places_longer old ps qs h e = record {
  place = λ m. ap (λ t. definition_place_in t m) e ∙ definition_place_in_longer ps m ∙ h.place m;
  count = ap definition_place_count e ∙ definition_place_count_longer ps ∙ h.count;
}

-- mapping the places maps the place of each number
pub definition_place_in_mapped : (f : ℕ → ℕ) (ps : List (Option ℕ)) (m : ℕ)
    → definition_place_in (map (option_map f) ps) m ≡ option_map f (definition_place_in ps m)
definition_place_in_mapped f [] m = refl
definition_place_in_mapped f (x ∷ ps) zero = refl
definition_place_in_mapped f (x ∷ ps) (suc m) = definition_place_in_mapped f ps m

-- mapping the places does not change their count
pub definition_place_count_mapped : (f : ℕ → ℕ) (ps : List (Option ℕ))
    → definition_place_count (map (option_map f) ps) ≡ definition_place_count ps
definition_place_count_mapped f [] = refl
definition_place_count_mapped f (None ∷ ps) = definition_place_count_mapped f ps
definition_place_count_mapped f (Some p ∷ ps) = ap (λ c. c + 1) (definition_place_count_mapped f ps)

-- there are no more places than numbers
pub definition_place_count_bound : (ps : List (Option ℕ)) → definition_place_count ps ≤ length ps
definition_place_count_bound [] = omega arith
definition_place_count_bound (None ∷ ps) = omega (arith, definition_place_count_bound ps)
definition_place_count_bound (Some p ∷ ps) = omega (arith, definition_place_count_bound ps)

-- reading a number within the list gives its place
pub definition_place_in_index : (ps : List (Option ℕ)) (n : ℕ) (x : Option ℕ) → n < length ps → x ≡ get_or ps n x
    → definition_place_in ps n ≡ x
definition_place_in_index [] n x h e = absurd (omega arith)
definition_place_in_index (y ∷ ps) zero x h e = sym e
definition_place_in_index (y ∷ ps) (suc n) x h e = definition_place_in_index ps n x (omega arith) e

-- if the first `i` members are mapped, mapping the next one maps the first `i + 1`
pub mapped_definition_places_step : {A : Type 0} (f : A → A) (xs : List A) (i : ℕ) (x : A) → i < length xs →
    x ≡ get_or (map f (take i xs) ++ drop i xs) i x →
    set (map f (take i xs) ++ drop i xs) i (f x) ≡ map f (take (i + 1) xs) ++ drop (i + 1) xs
mapped_definition_places_step f [] i x h e = absurd (omega arith)
mapped_definition_places_step f (y ∷ xs) zero x h e = ap (λ t. f t ∷ xs) e
mapped_definition_places_step f (y ∷ xs) (suc i) x h e =
    let next : suc (i + 1) ≡ suc i + 1 = omega arith in
    ap (λ t. f y ∷ t) (mapped_definition_places_step f xs i x (omega arith) e)
    ∙ ap (λ j. map f (take j (y ∷ xs)) ++ drop j (y ∷ xs)) next

-- if the first `i` members are mapped and no other member follows, all are mapped
pub mapped_definition_places_all : {A : Type 0} (f : A → A) (xs : List A) (i : ℕ) → length xs ≤ i
    → map f (take i xs) ++ drop i xs ≡ map f xs
mapped_definition_places_all f [] zero h = refl
mapped_definition_places_all f [] (suc i) h = refl
mapped_definition_places_all f (x ∷ xs) zero h = absurd (omega arith)
mapped_definition_places_all f (x ∷ xs) (suc i) h =
    ap (λ t. f x ∷ t) (mapped_definition_places_all f xs i (omega arith))

-- having the same places is transitive
pub same_definition_places_trans : (a b c : List (Option ℕ)) → HasSameDefinitionPlaces a b → HasSameDefinitionPlaces b c
    → HasSameDefinitionPlaces a c
same_definition_places_trans a b c h g = record { place = λ m. g.place m ∙ h.place m; count = g.count ∙ h.count }

-- reading a number gives its place
definition_place_read : (ps : List (Option ℕ)) (n : ℕ) → n < length ps → definition_place_in ps n ≡ get_or ps n
    (definition_place_in ps n)
definition_place_read [] n h = absurd (omega arith)
definition_place_read (x ∷ ps) zero h = refl
definition_place_read (x ∷ ps) (suc n) h = definition_place_read ps n (omega arith)

module _ (f : ℕ → ℕ) (old : List (Option ℕ)) where
  -- moving the first places keeps the length
  pub length-moved : (n : ℕ) → length (map (option_map f) (take n old) ++ drop n old) ≡ length old
  length-moved n =
      omega (
        arith,
        length-append (map (option_map f) (take n old)) (drop n old),
        length-map (take n old) (option_map f),
        length-take n old,
        length-drop n old,
      )

  -- if the first places have moved, so have they and the next one after it is stored
  pub moved_place : (now new : List (Option ℕ)) (n : ℕ) (place : Option ℕ) → n < length old
      → now ≡ map (option_map f) (take n old) ++ drop n old → place ≡ option_map f (definition_place_in now n)
      → new ≡ set now n place
      → new ≡ map (option_map f) (take (n + 1) old) ++ drop (n + 1) old
  moved_place now new n place inside are is stored =
      let within : n < length now = omega (arith, inside, ap length are, length-moved n) in
      let read : definition_place_in now n ≡ get_or (map (option_map f) (take n old) ++ drop n old) n
      (definition_place_in now n) =
      definition_place_read now n within ∙ ap (λ ps. get_or ps n (definition_place_in now n)) are in
      stored ∙ ap (set now n) is ∙ ap (λ ps. set ps n (option_map f (definition_place_in now n))) are
      ∙ mapped_definition_places_step (option_map f) old n (definition_place_in now n) inside read
