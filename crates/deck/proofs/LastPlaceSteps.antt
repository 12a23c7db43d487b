-- Last places after one more definition.
use Rattle.std.proofs.Common.{◌≡◌, ◌++◌, ◌∷◌, ◌+◌, ◌<◌, [], ℕ, suc, List, Bool, true, false, cond, length}
use Rattle.std.proofs.Common.{set, take, reverse, length-take, append_assoc, add-zero, refl, sym, ap, subst, ◌∙◌, arith}
use Rattle.std.proofs.Common.{Option, Some, None, option_map, slice_get}
use Rattle.std.proofs.lemmas.List.{reverse-append}
use Rattle.std.proofs.lemmas.Option.{same_Some, slice_get_within}
use Rattle.std.specs.Map.{lookup}
use Rattle.std.specs.Option.{is_some, option_and_then}
use Rattle.def_entry.specs.declared.key.Key.{Key}
use Rattle.def_entry.specs.declared.key.Kind.{Kind}
use Rattle.def_entry.specs.Entries.{Entry}
use Rattle.def_entry.specs.Keys.{key}
use Rattle.def_entry.specs.SameKeys.{is_same_entry_key, is_same_key_kind}
use Rattle.def_entry.proofs.SameKeys.{same_entry_keys}
use Rattle.deck_lines.specs.Names.{AreKeyNumbersOneToOne, KeyNumberNames, key_number_names_of_kind, key_numbered}
use Rattle.deck_lines.specs.Readings.{entry_in_store_line}
use Rattle.deck_lines.specs.declared.key_number.KeyNumber.{KeyNumber}
use Rattle.deck_lines.specs.declared.line.DeckLine.{DeckLine}
use Rattle.deck.specs.KindPlaces.{HasSameDefinitionPlaces, definition_place_count, definition_place_in}
use Rattle.deck.specs.LastPlaces.{AreLastDefinitionPlaces, HasDefinitionPlaceRoom, deck_key_tally}
use Rattle.deck.specs.LastPlaces.{last_definition_place_at, last_definition_places}
use Rattle.deck.specs.Tables.{DeckDefinitions, active_definitions_among, active_definitions_from}
use Rattle.deck.specs.Tables.{definition_of_active_line, definition_place_of, is_entry_present}
use Rattle.deck.specs.Tables.{table_of_deck_definitions}
use Rattle.deck.specs.declared.places.last_places.LastPlaces.{LastPlaces}
use Rattle.deck.proofs.KeyTallies.{deck_key_tally_push}
use Rattle.deck.proofs.KeyCounts.{same_deck_keys_have_same_tally}
use Rattle.deck.proofs.KindPlacing.{definition_place_count_set}
use Rattle.deck.proofs.OnePlace.{deck_key_numbers_differ, other_place, own_place}
use Rattle.deck.proofs.PlacedDefinitions.{definition_place_if_present}
use Rattle.deck.proofs.Sameness.{same_deck_kinds_are_equal}

-- the kind of a key is that of its number
pub deck_key_kind_by_number : (names : KeyNumberNames) (n : KeyNumber) (k : Key) → key_numbered names n ≡ Some k
    → k.kind ≡ n.kind
deck_key_kind_by_number names n k e = by (slice_get (key_number_names_of_kind names n.kind) n.number) e
  where
    by : (o : Option (List ℕ)) → option_map (key n.kind) o ≡ Some k → k.kind ≡ n.kind
    by None h = cc
    by (Some name) h = sym (ap (λ (j : Key). j.kind) (same_Some (key n.kind name) k h))

module _ (names : KeyNumberNames) (unique : AreKeyNumbersOneToOne names) (ds : DeckDefinitions) (n : KeyNumber)
    (k : Key) (at : ℕ) (e : Entry)
    (old now : LastPlaces)
    (numbered : key_numbered names n ≡ Some k) (room : n.number < length (last_definition_places old n.kind))
    (before : AreLastDefinitionPlaces names ds old)
    (put : (kind : Kind)
    → last_definition_places now kind
    ≡ cond (is_same_key_kind kind n.kind) (set (last_definition_places old kind) n.number (Some at))
    (last_definition_places old kind)) where
  places_more : (m : KeyNumber) → last_definition_place_at now m ≡ option_and_then
      (definition_place_of ((k, (at, e)) ∷ ds)) (key_numbered names m)
  places_more m = by (key_numbered names m) refl
    where
      other : (m ≡ n → ⊥) → last_definition_place_at now m ≡ last_definition_place_at old m
      other differs = other_place n (Some at) old now put m differs

      with_key : (j : Key) → key_numbered names m ≡ Some j → (b : Bool) → is_same_entry_key j k ≡ b
          → last_definition_place_at now m ≡ option_map (λ p. p.0)
          (cond b (Some (at, e)) (lookup (is_same_entry_key j) ds))
      with_key j h true f = ap (last_definition_place_at now)
          (unique m n k (h ∙ ap Some ((same_entry_keys j k).0 f)) numbered)
          ∙ own_place n (Some at) old now put room
      with_key j h false f = other (deck_key_numbers_differ names n m k j numbered h f) ∙ before.place m
          ∙ ap (option_and_then (definition_place_of ds)) h

      by : (o : Option Key) → key_numbered names m ≡ o → last_definition_place_at now m ≡ option_and_then
          (definition_place_of ((k, (at, e)) ∷ ds))
          o
      by None h = other (λ s. none_numbered (sym h ∙ ap (key_numbered names) s ∙ numbered)) ∙ before.place m
          ∙ ap (option_and_then (definition_place_of ds)) h
        where
          none_numbered : None ≡ Some k → ⊥
          none_numbered g = cc
      by (Some j) h = with_key j h (is_same_entry_key j k) refl

  counts_more : (kind : Kind) → definition_place_count (last_definition_places now kind) ≡ deck_key_tally
      (table_of_deck_definitions ((k, (at, e)) ∷ ds)) kind
  counts_more kind =
      ap definition_place_count (put kind) ∙ by (is_same_key_kind kind n.kind) refl
      ∙ ap (λ (a : Kind). cond (is_same_key_kind kind a)
      (cond (is_entry_present (table_of_deck_definitions ds) k) (deck_key_tally (table_of_deck_definitions ds) kind)
      (deck_key_tally (table_of_deck_definitions ds) kind + 1))
      (deck_key_tally (table_of_deck_definitions ds) kind)) (sym (deck_key_kind_by_number names n k numbered))
      ∙ sym (deck_key_tally_push (table_of_deck_definitions ds) k e kind)
    where
      at_kind : n.kind ≡ kind → definition_place_count (set (last_definition_places old kind) n.number (Some at))
          ≡ cond (is_entry_present (table_of_deck_definitions ds) k)
          (deck_key_tally (table_of_deck_definitions ds) kind)
          (deck_key_tally (table_of_deck_definitions ds) kind + 1)
      at_kind s =
          definition_place_count_set (last_definition_places old kind) n.number at
          (subst (λ a. n.number < length (last_definition_places old a)) s room)
          ∙ ap (λ c. cond (is_some (definition_place_in (last_definition_places old kind) n.number)) c (c + 1))
          (before.count kind)
          ∙ ap (λ b. cond b (deck_key_tally (table_of_deck_definitions ds) kind)
          (deck_key_tally (table_of_deck_definitions ds) kind + 1))
          (ap is_some (ap (λ a. definition_place_in (last_definition_places old a) n.number) (sym s) ∙ before.place n
          ∙ ap (option_and_then (definition_place_of ds)) numbered) ∙ definition_place_if_present ds k)

      by : (b : Bool) → is_same_key_kind kind n.kind ≡ b
          → definition_place_count
          (cond b (set (last_definition_places old kind) n.number (Some at)) (last_definition_places old kind)) ≡
          cond b (cond (is_entry_present (table_of_deck_definitions ds) k)
          (deck_key_tally (table_of_deck_definitions ds) kind)
          (deck_key_tally (table_of_deck_definitions ds) kind + 1))
          (deck_key_tally (table_of_deck_definitions ds) kind)
      by true h = at_kind (sym (same_deck_kinds_are_equal kind n.kind h))
      by false h = before.count kind

  pub last_more : AreLastDefinitionPlaces names ((k, (at, e)) ∷ ds) now
  last_more = record { place = places_more; count = counts_more }

-- the number of a key is within the names of its kind
pub deck_key_number_within_names : (names : KeyNumberNames) (n : KeyNumber) (k : Key) → key_numbered names n ≡ Some k
    → n.number < length (key_number_names_of_kind names n.kind)
deck_key_number_within_names names n k e = by (slice_get (key_number_names_of_kind names n.kind) n.number) refl e
  where
    by : (o : Option (List ℕ)) → slice_get (key_number_names_of_kind names n.kind) n.number ≡ o
        → option_map (key n.kind) o ≡ Some k
        → n.number < length (key_number_names_of_kind names n.kind)
    by None h g = cc
    by (Some name) h g = slice_get_within (key_number_names_of_kind names n.kind) n.number name h

-- storing the place of an active line at its number gives the last places with its definition
pub last_definition_place_stored : (names : KeyNumberNames) → AreKeyNumbersOneToOne names
    → (ds : DeckDefinitions) (n : KeyNumber) (place : ℕ) (active : Bool)
    (o : Option (Key × Entry)) (old now : LastPlaces) →
    active ≡ true → HasDefinitionPlaceRoom names old → AreLastDefinitionPlaces names ds old
    → Some (key_numbered names n) ≡ option_map
    (λ d. Some d.0) o →
    ((kind : Kind) → last_definition_places now kind
    ≡ cond (is_same_key_kind kind n.kind) (set (last_definition_places old kind) n.number (Some place))
    (last_definition_places old kind)) →
    AreLastDefinitionPlaces names (definition_of_active_line place active o ++ ds) now
last_definition_place_stored names unique ds n place active None old now a room before e put = cc
last_definition_place_stored names unique ds n place active (Some d) old now a room before e put =
    let numbered : key_numbered names n ≡ Some d.0 = same_Some (key_numbered names n) (Some d.0) e in
    let within = deck_key_number_within_names names n d.0 numbered in
    subst (λ b. AreLastDefinitionPlaces names (cond b ((d.0, (place, d.1)) ∷ []) [] ++ ds) now) (sym a)
    (last_more names unique ds n d.0 place d.1 old now numbered (omega (arith, within, room n.kind)) before put)

-- reversing the definitions of one line changes nothing
line_definition_reversed : (place : ℕ) (active : Bool) (o : Option (Key × Entry))
    → reverse (definition_of_active_line place active o) ≡ definition_of_active_line place active o
line_definition_reversed place active None = refl
line_definition_reversed place true (Some e) = refl
line_definition_reversed place false (Some e) = refl

-- the definitions of concatenated lines are those of both parts, with the places of the second part shifted
pub active_definitions_from-append : (at : ℕ) (fs gs : List Bool) (xs ys : List DeckLine) → length fs ≡ length xs →
    active_definitions_from at (fs ++ gs) (xs ++ ys) ≡ active_definitions_from at fs xs ++ active_definitions_from
    (at + length xs) gs ys
active_definitions_from-append at [] gs [] ys h = ap (λ n. active_definitions_from n gs ys) (sym (add-zero at))
active_definitions_from-append at [] gs (x ∷ xs) ys h = absurd (omega arith)
active_definitions_from-append at (f ∷ fs) gs [] ys h = absurd (omega arith)
active_definitions_from-append at (f ∷ fs) gs (x ∷ xs) ys h =
    let place : at + 1 + length xs ≡ at + suc (length xs) = omega arith in
    ap (λ t. definition_of_active_line at f (entry_in_store_line x) ++ t)
    (active_definitions_from-append (at + 1) fs gs xs ys (omega arith)
    ∙ ap (λ n. active_definitions_from (at + 1) fs xs ++ active_definitions_from n gs ys) place)
    ∙ sym (append_assoc (definition_of_active_line at f (entry_in_store_line x))
    (active_definitions_from (at + 1) fs xs)
    (active_definitions_from (at + suc (length xs)) gs ys))

-- the definitions of a front that is one line longer are those of the front and of that line
pub active_definitions_among_step : (flags : List Bool) (lines : List DeckLine) (i : ℕ) (f : Bool) (x : DeckLine)
    → length flags ≡ length lines → i < length lines →
    take (i + 1) flags ≡ take i flags ++ f ∷ [] → take (i + 1) lines ≡ take i lines ++ x ∷ [] →
    active_definitions_among (take (i + 1) flags) (take (i + 1) lines) ≡ definition_of_active_line i f
    (entry_in_store_line x)
    ++ active_definitions_among (take i flags) (take i lines)
active_definitions_among_step flags lines i f x same h p q =
    let fits : length (take i flags) ≡ length (take i lines) =
    omega (arith, same, length-take i flags, length-take i lines) in
    let place : 0 + length (take i lines) ≡ i = omega (arith, h, length-take i lines) in
    ap (λ fs. active_definitions_among fs (take (i + 1) lines)) p
    ∙ ap (λ ls. active_definitions_among (take i flags ++ f ∷ []) ls) q
    ∙ ap reverse (active_definitions_from-append 0 (take i flags) (f ∷ []) (take i lines) (x ∷ []) fits)
    ∙ ap (λ n. reverse (active_definitions_from 0 (take i flags)
    (take i lines) ++ (definition_of_active_line n f (entry_in_store_line x) ++ [])))
    place
    ∙ reverse-append (active_definitions_from 0 (take i flags) (take i lines))
    (definition_of_active_line i f (entry_in_store_line x) ++ [])
    ∙ ap (λ ds. ds ++ active_definitions_among (take i flags) (take i lines))
    (reverse-append (definition_of_active_line i f (entry_in_store_line x)) []
    ∙ line_definition_reversed i f (entry_in_store_line x))

-- last places stay valid for definitions that give each key the same place
pub last_definition_places_alike : (names : KeyNumberNames) (ds es : DeckDefinitions) (last : LastPlaces)
    → ((k : Key) → definition_place_of ds k ≡ definition_place_of es k) → AreLastDefinitionPlaces names ds last
    → AreLastDefinitionPlaces names es last
last_definition_places_alike names ds es last same before = record {
  place = λ n. before.place n ∙ by (key_numbered names n);
  count = λ kind. before.count kind ∙ same_deck_keys_have_same_tally (table_of_deck_definitions ds)
      (table_of_deck_definitions es)
      (λ k. sym (definition_place_if_present ds k) ∙ ap is_some (same k) ∙ definition_place_if_present es k) kind;
}
  where
    by : (o : Option Key) → option_and_then (definition_place_of ds) o ≡ option_and_then (definition_place_of es) o
    by None = refl
    by (Some k) = same k

-- last places stay valid when keys that are not defined get numbers
pub last_definition_places_extended : (names more : KeyNumberNames) (ds : DeckDefinitions) (last : LastPlaces)
    → AreLastDefinitionPlaces names ds last →
    ((n : KeyNumber) (k : Key) → key_numbered names n ≡ Some k → key_numbered more n ≡ Some k) →
    ((n : KeyNumber) (k : Key) → key_numbered names n ≡ None → key_numbered more n ≡ Some k
    → definition_place_of ds k ≡ None)
    → AreLastDefinitionPlaces more ds last
last_definition_places_extended names more ds last before kept new =
    record {
      place = λ n. before.place n ∙ by n (key_numbered names n) refl (key_numbered more n) refl;
      count =
          before.count;
    }
  where
    by : (n : KeyNumber) (o : Option Key) → key_numbered names n ≡ o → (p : Option Key) → key_numbered more n ≡ p
        → option_and_then (definition_place_of ds) (key_numbered names n) ≡ option_and_then (definition_place_of ds)
        (key_numbered more n)
    by n (Some k) h p g = ap (option_and_then (definition_place_of ds)) (h ∙ sym (kept n k h))
    by n None h None g = ap (option_and_then (definition_place_of ds)) (h ∙ sym g)
    by n None h (Some k) g = ap (option_and_then (definition_place_of ds)) h
        ∙ sym (ap (option_and_then (definition_place_of ds)) g ∙ new n k h g)

-- if no number has a place, the last places are those of no definitions
pub no_last_definition_places : (names : KeyNumberNames) (last : LastPlaces)
    → ((kind : Kind) → HasSameDefinitionPlaces [] (last_definition_places last kind))
    → AreLastDefinitionPlaces names [] last
no_last_definition_places names last same = record {
  place = λ n. (same n.kind).place n.number ∙ by (key_numbered names n);
  count = λ kind. (same kind).count;
}
  where
    by : (o : Option Key) → None ≡ option_and_then (definition_place_of []) o
    by None = refl
    by (Some k) = refl
