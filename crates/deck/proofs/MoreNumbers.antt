-- The numbers of keys after more lines are appended.
use Rattle.std.proofs.Common.{◌≡◌, ◌++◌, ◌∷◌, ◌||◌, [], ℕ, zero, suc, List, Bool, true, false, true≢false, cond, length}
use Rattle.std.proofs.Common.{take, refl, sym, ap, subst, ◌∙◌, Option, Some, None, option_map, slice_get}
use Rattle.std.proofs.lemmas.Option.{same_Some}
use Rattle.std.specs.List.{list_any}
use Rattle.std.specs.Str.{bytes_eq}
use Rattle.std.specs.Map.{lookup}
use Rattle.std.specs.Option.{option_and_then}
use Rattle.std.proofs.lemmas.List.{take_at}
use Rattle.def_entry.specs.declared.key.Key.{Key}
use Rattle.def_entry.specs.declared.key.Kind.{Kind}
use Rattle.def_entry.specs.declared.key.Kind.TheVariants as kind
use Rattle.def_entry.specs.Entries.{Entry}
use Rattle.def_entry.specs.Keys.{key}
use Rattle.def_entry.specs.SameKeys.{is_same_entry_key, is_same_key_kind}
use Rattle.deck_lines.specs.ClosedBlocks.{AreBlocksClosed}
use Rattle.deck_lines.specs.Loads.{ExtendsStore, key_numbers_by_definitions}
use Rattle.deck_lines.specs.Names.{KeyNumberNames, is_key_numbered, key_number_names_of_kind}
use Rattle.deck_lines.specs.Names.{key_number_names_with_kind, key_number_names_with_name, key_numbered}
use Rattle.deck_lines.specs.Names.{key_numbers_with_key}
use Rattle.deck_lines.specs.KeyNumbering.{IsKeyNumbering}
use Rattle.deck_lines.specs.Readings.{entry_in_store_line}
use Rattle.deck_lines.specs.Stores.{LineStoreView, key_numbers_by_definition, store_definition_at}
use Rattle.deck_lines.specs.declared.key_number.KeyNumber.{KeyNumber}
use Rattle.deck_lines.specs.declared.line.DeckLine.{DeckLine}
use Rattle.deck.specs.LastPlaces.{AreLastDefinitionPlaces, IsDeckIndexed}
use Rattle.deck.specs.Numbers.{AreDefinitionsInPlace}
use Rattle.deck.specs.Tables.{DeckDefinitions, active_definitions, definition_place_of}
use Rattle.deck.specs.declared.places.last_places.LastPlaces.{LastPlaces}
use Rattle.deck.specs.declared.settings.Settings.{Settings}
use Rattle.deck.proofs.LastPlaceSteps.{last_definition_places_extended}
use Rattle.deck.proofs.PlacedDefinitions.{active_definitions_in_place}
use Rattle.general_lemmas.proofs.Places.{get_left}

-- if some item of a list passes a test, so does some item of an extension of the list
any_deck_name_more : (p : List ℕ → Bool) (xs ys : List (List ℕ)) → list_any p xs ≡ true → list_any p (xs ++ ys) ≡ true
any_deck_name_more p [] ys h = cc
any_deck_name_more p (x ∷ xs) ys h = by (any_deck_name_more p xs ys) (p x) h
  where
    by : (list_any p xs ≡ true → list_any p (xs ++ ys) ≡ true) → (b : Bool) → (b || list_any p xs) ≡ true
        → (b || list_any p (xs ++ ys)) ≡ true
    by ih true g = refl
    by ih false g = ih g

-- an item that is new in a list with one item appended is the appended item
new_deck_item_is_appended : {A : Type 0} (xs : List A) (y : A) (i : ℕ) (x : A) → slice_get xs i ≡ None
    → slice_get (xs ++ y ∷ []) i ≡ Some x → y ≡ x
new_deck_item_is_appended [] y zero x h g = same_Some y x g
new_deck_item_is_appended [] y (suc i) x h g = cc
new_deck_item_is_appended (z ∷ xs) y zero x h g = cc
new_deck_item_is_appended (z ∷ xs) y (suc i) x h g = new_deck_item_is_appended xs y i x h g

module _ (new : List ℕ) (names : List (List ℕ)) where
  name_stays : (i : ℕ) (name : List ℕ) → slice_get names i ≡ Some name
      → slice_get (key_number_names_with_name new names) i ≡ Some name
  name_stays i name h = by (list_any (bytes_eq new) names)
    where
      by : (b : Bool) → slice_get (cond b names (names ++ new ∷ [])) i ≡ Some name
      by true = h
      by false = get_left names (new ∷ []) i name h

  name_among : (p : List ℕ → Bool) → list_any p names ≡ true → list_any p (key_number_names_with_name new names) ≡ true
  name_among p h = by (list_any (bytes_eq new) names)
    where
      by : (b : Bool) → list_any p (cond b names (names ++ new ∷ [])) ≡ true
      by true = h
      by false = any_deck_name_more p names (new ∷ []) h

  name_new : (i : ℕ) (name : List ℕ) → slice_get names i ≡ None → slice_get (key_number_names_with_name new names)
      i ≡ Some name
      → list_any (bytes_eq name) names ≡ false
  name_new i name h g = by (list_any (bytes_eq new) names) refl g
    where
      by : (b : Bool) → list_any (bytes_eq new) names ≡ b → slice_get (cond b names (names ++ new ∷ [])) i ≡ Some name
          → list_any (bytes_eq name) names ≡ false
      by true e f = cc
      by false e f = ap (λ n. list_any (bytes_eq n) names) (sym (new_deck_item_is_appended names new i name h f)) ∙ e

-- only the names of the kind of the key change when the key gets a number
deck_names_with_key : (names : KeyNumberNames) (k : Key) (a : Kind)
    → key_number_names_of_kind (key_numbers_with_key names k) a
    ≡ cond (is_same_key_kind a k.kind) (key_number_names_with_name k.name (key_number_names_of_kind names a))
    (key_number_names_of_kind names a)
deck_names_with_key names k a = by k.kind a
  where
    by : (b a : Kind) → key_number_names_of_kind
        (key_number_names_with_kind names b (key_number_names_with_name k.name (key_number_names_of_kind names b))) a
        ≡ cond (is_same_key_kind a b) (key_number_names_with_name k.name (key_number_names_of_kind names a))
        (key_number_names_of_kind names a)
    by kind.Unit kind.Unit = refl
    by kind.Unit kind.Prefix = refl
    by kind.Unit kind.Func = refl
    by kind.Unit kind.List = refl
    by kind.Prefix kind.Unit = refl
    by kind.Prefix kind.Prefix = refl
    by kind.Prefix kind.Func = refl
    by kind.Prefix kind.List = refl
    by kind.Func kind.Unit = refl
    by kind.Func kind.Prefix = refl
    by kind.Func kind.Func = refl
    by kind.Func kind.List = refl
    by kind.List kind.Unit = refl
    by kind.List kind.Prefix = refl
    by kind.List kind.Func = refl
    by kind.List kind.List = refl

-- each name keeps its number, and a name that gets a new number was not in the list before
pub record IsMore (old new : List (List ℕ)) : Type 0 where
  pub stays : (i : ℕ) (name : List ℕ) → slice_get old i ≡ Some name → slice_get new i ≡ Some name
  pub among : (p : List ℕ → Bool) → list_any p old ≡ true → list_any p new ≡ true
  pub fresh : (i : ℕ) (name : List ℕ) → slice_get old i ≡ None → slice_get new i ≡ Some name
      → list_any (bytes_eq name) old ≡ false

-- a list of names extends itself
more_deck_names_reflexive : (names : List (List ℕ)) → IsMore names names
more_deck_names_reflexive names = record { stays = λ i name h. h; among = λ p h. h; fresh = λ i name h g. cc }

-- a list with one more name extends the list
more_deck_names_by_one : (new : List ℕ) (names : List (List ℕ)) → IsMore names (key_number_names_with_name new names)
more_deck_names_by_one new names =
    record { stays = name_stays new names; among = name_among new names; fresh = name_new new names }

-- extension is transitive
more_deck_names_trans : (a b c : List (List ℕ)) → IsMore a b → IsMore b c → IsMore a c
more_deck_names_trans a b c f g = record {
  stays = λ i name h. g.stays i name (f.stays i name h);
  among = λ p h. g.among p (f.among p h);
  fresh = λ i name h e. by i name h e (slice_get b i) refl;
}
  where
    not_among : (name : List ℕ) (t : Bool) → list_any (bytes_eq name) a ≡ t → list_any (bytes_eq name) b ≡ false
        → list_any (bytes_eq name) a ≡ false
    not_among name true h e = absurd (both (sym (f.among (bytes_eq name) h) ∙ e))
      where
        both : true ≡ false → ⊥
        both q = cc
    not_among name false h e = h

    by : (i : ℕ) (name : List ℕ) → slice_get a i ≡ None → slice_get c i ≡ Some name → (o : Option (List ℕ))
        → slice_get b i ≡ o → list_any (bytes_eq name) a ≡ false
    by i name h e None q = not_among name (list_any (bytes_eq name) a) refl (g.fresh i name q e)
    by i name h e (Some other) q =
        let same : other ≡ name = same_Some other name (sym (g.stays i other q) ∙ e) in
        f.fresh i name h (q ∙ ap Some same)

-- a number for one more key extends the names of each kind
more_deck_names_by_key : (names : KeyNumberNames) (k : Key) (a : Kind) → IsMore (key_number_names_of_kind names a)
    (key_number_names_of_kind (key_numbers_with_key names k) a)
more_deck_names_by_key names k a = subst (IsMore (key_number_names_of_kind names a))
    (sym (deck_names_with_key names k a)) (by (is_same_key_kind a k.kind))
  where
    by : (b : Bool) → IsMore (key_number_names_of_kind names a)
        (cond b (key_number_names_with_name k.name (key_number_names_of_kind names a))
        (key_number_names_of_kind names a))
    by true = more_deck_names_by_one k.name (key_number_names_of_kind names a)
    by false = more_deck_names_reflexive (key_number_names_of_kind names a)

-- the definition of a line extends the names of each kind
more_deck_names_by_definition : (names : KeyNumberNames) (o : Option (Key × Entry)) (a : Kind)
    → IsMore (key_number_names_of_kind names a) (key_number_names_of_kind (key_numbers_by_definition names o) a)
more_deck_names_by_definition names None a = more_deck_names_reflexive (key_number_names_of_kind names a)
more_deck_names_by_definition names (Some d) a = more_deck_names_by_key names d.0 a

-- the definitions of more lines extend the names of each kind
pub more_deck_names_by_lines : (lines : List DeckLine) (names : KeyNumberNames) (a : Kind)
    → IsMore (key_number_names_of_kind names a) (key_number_names_of_kind (key_numbers_by_definitions names lines) a)
more_deck_names_by_lines [] names a = more_deck_names_reflexive (key_number_names_of_kind names a)
more_deck_names_by_lines (line ∷ lines) names a =
    more_deck_names_trans (key_number_names_of_kind names a)
    (key_number_names_of_kind (key_numbers_by_definition names (entry_in_store_line line)) a)
    (key_number_names_of_kind (key_numbers_by_definitions names (line ∷ lines)) a)
    (more_deck_names_by_definition names (entry_in_store_line line) a)
    (more_deck_names_by_lines lines (key_numbers_by_definition names (entry_in_store_line line)) a)

-- the definition at a place stays the same when lines are appended
definition_at_place_stays : (xs ys : List DeckLine) (place : ℕ) (e : Key × Entry)
    → store_definition_at xs place ≡ Some e
    → store_definition_at (xs ++ ys) place ≡ Some e
definition_at_place_stays xs ys place e h = by (slice_get xs place) refl h
  where
    by : (o : Option DeckLine) → slice_get xs place ≡ o → option_and_then entry_in_store_line o ≡ Some e
        → option_and_then entry_in_store_line (slice_get (xs ++ ys) place) ≡ Some e
    by None q g = cc
    by (Some x) q g = ap (option_and_then entry_in_store_line) (get_left xs ys place x q) ∙ g

-- definitions stay in place when lines are appended
pub definitions_in_place_more : (xs ys : List DeckLine) (ds : DeckDefinitions) → AreDefinitionsInPlace xs ds
    → AreDefinitionsInPlace (xs ++ ys) ds
definitions_in_place_more xs ys ds h = λ k d e. definition_at_place_stays xs ys d.0 (k, d.1) (h k d e)

-- definitions stay in place when the store is extended
pub definitions_in_place_extended : (old new : LineStoreView) (ds : DeckDefinitions)
    → AreDefinitionsInPlace old.lines ds → ExtendsStore old new
    → AreDefinitionsInPlace new.lines ds
definitions_in_place_extended old new ds h e =
    subst (λ (s : LineStoreView). AreDefinitionsInPlace s.lines ds) (sym e.lines_put)
    (definitions_in_place_more old.lines e.lines ds h)

module _ (old new : KeyNumberNames)
    (each : (a : Kind) → IsMore (key_number_names_of_kind old a) (key_number_names_of_kind new a)) where
  key_stays : (n : KeyNumber) (k : Key) → key_numbered old n ≡ Some k → key_numbered new n ≡ Some k
  key_stays n k h = by (slice_get (key_number_names_of_kind old n.kind) n.number) refl h
    where
      by : (o : Option (List ℕ)) → slice_get (key_number_names_of_kind old n.kind) n.number ≡ o
          → option_map (key n.kind) o ≡ Some k
          → key_numbered new n ≡ Some k
      by None q g = cc
      by (Some name) q g = ap (option_map (key n.kind)) ((each n.kind).stays n.number name q) ∙ g

  key_fresh : (n : KeyNumber) (k : Key) → key_numbered old n ≡ None → key_numbered new n ≡ Some k
      → is_key_numbered old k ≡ false
  key_fresh n k h g =
      by (slice_get (key_number_names_of_kind old n.kind) n.number) refl h
      (slice_get (key_number_names_of_kind new n.kind) n.number) refl g
    where
      by : (o : Option (List ℕ)) → slice_get (key_number_names_of_kind old n.kind) n.number ≡ o
          → option_map (key n.kind) o ≡ None
          →
          (p : Option (List ℕ)) → slice_get (key_number_names_of_kind new n.kind) n.number ≡ p
          → option_map (key n.kind) p ≡ Some k
          → is_key_numbered old k ≡ false
      by (Some name) q e p r f = cc
      by None q e None r f = cc
      by None q e (Some name) r f =
          subst (λ j. is_key_numbered old j ≡ false) (same_Some (key n.kind name) k f)
          ((each n.kind).fresh n.number name q r)

-- a key without a number has no last place
pub unnumbered_has_no_definition_place : (store : LineStoreView) (settings : Settings) (k : Key) → IsKeyNumbering store
    → is_key_numbered store.names k ≡ false
    → definition_place_of (active_definitions settings store.lines) k ≡ None
unnumbered_has_no_definition_place store settings k numbering h =
    by (lookup (is_same_entry_key k) (active_definitions settings store.lines)) refl
  where
    by : (o : Option (ℕ × Entry)) → lookup (is_same_entry_key k) (active_definitions settings store.lines) ≡ o
        → option_map (λ p. p.0) o ≡ None
    by None q = refl
    by (Some d) q =
        let numbered : is_key_numbered store.names k ≡ true =
        numbering.definition_numbers d.0 (k, d.1) (active_definitions_in_place settings store.lines k d q) in
        absurd (true≢false (sym numbered ∙ h))

-- the last places stay valid when lines are appended and their keys get numbers
pub last_definition_places_grown : (old new : LineStoreView) (settings : Settings) (last : LastPlaces)
    → IsKeyNumbering old
    → AreLastDefinitionPlaces old.names (active_definitions settings old.lines) last → ExtendsStore old new
    → AreLastDefinitionPlaces new.names (active_definitions settings old.lines) last
last_definition_places_grown old new settings last numbering h e =
    let each : (a : Kind) → IsMore (key_number_names_of_kind old.names a) (key_number_names_of_kind new.names a) =
    λ a. subst (λ (s : LineStoreView). IsMore (key_number_names_of_kind old.names a)
    (key_number_names_of_kind s.names a)) (sym e.lines_put)
    (more_deck_names_by_lines e.lines old.names a) in
    last_definition_places_extended old.names new.names (active_definitions settings old.lines) last h
    (key_stays old.names new.names each)
    (λ n k none some. unnumbered_has_no_definition_place old settings k numbering
    (key_fresh old.names new.names each n k none some))

-- the old lines are the front of the extended store
pub old_deck_lines_are_front : (old new : LineStoreView) (n : ℕ) → n ≡ length old.lines → ExtendsStore old new
    → take n new.lines ≡ old.lines
old_deck_lines_are_front old new n same e = ap (λ m. take m new.lines) same
    ∙ ap (λ (s : LineStoreView). take (length old.lines) s.lines) e.lines_put
    ∙ take_at old.lines e.lines (length old.lines) refl

-- after a refusal removes the appended lines, the last places are still those of the store
pub deck_indexed_after_refusal : (old new store : LineStoreView) (settings : Settings) (last : LastPlaces)
    → IsKeyNumbering old
    → IsDeckIndexed old settings last → ExtendsStore old new → store.lines ≡ old.lines → store.names ≡ new.names
    → IsDeckIndexed store settings last
deck_indexed_after_refusal old new store settings last numbering h e lines names = record {
  blocks_closed = subst AreBlocksClosed (sym lines) h.blocks_closed;
  places =
      subst (λ ls. AreLastDefinitionPlaces store.names (active_definitions settings ls) last) (sym lines)
      (subst (λ ns. AreLastDefinitionPlaces ns (active_definitions settings old.lines) last) (sym names)
      (last_definition_places_grown old new settings last numbering h.places e));
}
