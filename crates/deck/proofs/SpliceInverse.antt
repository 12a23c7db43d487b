-- The result of a splice, and its inverse.
use Rattle.std.proofs.Common.{◌≡◌, ◌++◌, ◌∷◌, ◌+◌, ◌≤◌, [], ℕ, zero, suc, List, Bool, true, false, length, take, drop}
use Rattle.std.proofs.Common.{refl, sym, ap, subst, ◌∙◌, arith, Some, None, option_map}
use Rattle.def_entry.specs.declared.key.Key.{Key}
use Rattle.def_entry.specs.Keys.{key}
use Rattle.deck_lines.specs.ClosedBlocks.{AreBlocksClosed}
use Rattle.deck_lines.specs.StoreEdits.{StoreEdit}
use Rattle.deck_lines.specs.Names.{AreKeyNumbersExtended, KeyNumberNames, is_key_numbered, key_number_names_of_kind}
use Rattle.deck_lines.specs.Names.{key_numbered}
use Rattle.deck_lines.specs.KeyNumbering.{IsKeyNumbering}
use Rattle.deck_lines.specs.Stores.{LineStoreView}
use Rattle.deck_lines.specs.declared.key_number.KeyNumber.{KeyNumber}
use Rattle.deck_lines.specs.declared.line.DeckLine.{DeckLine}
use Rattle.deck.specs.LastPlaces.{AreLastDefinitionPlaces, IsDeckIndexed}
use Rattle.deck.specs.Splices.{DeckSpliceInverseLaw, spliced_deck_lines}
use Rattle.deck.specs.Tables.{active_definitions}
use Rattle.deck.specs.declared.places.last_places.LastPlaces.{LastPlaces}
use Rattle.deck.specs.declared.settings.Settings.{Settings}
use Rattle.deck.specs.declared.splice.Splice.{Splice}
use Rattle.deck.proofs.MoreNumbers.{unnumbered_has_no_definition_place}
use Rattle.deck.proofs.LastPlaceSteps.{last_definition_places_extended}
use Rattle.deck.proofs.NumberedKeys.{deck_name_has_index}
use Rattle.general_lemmas.proofs.Parts.{parts_of}

-- the first `at` items of a spliced list are those of the old list
spliced_deck_front : {A : Type 0} (at : ℕ) (xs ys : List A) → at ≤ length xs → take at (take at xs ++ ys) ≡ take at xs
spliced_deck_front zero xs ys h = refl
spliced_deck_front (suc at) [] ys h = absurd (omega arith)
spliced_deck_front (suc at) (x ∷ xs) ys h = ap (λ t. x ∷ t) (spliced_deck_front at xs ys (omega arith))

-- what follows the first of two lists is the second
drop_first_spliced_part : {A : Type 0} (ys zs : List A) → drop (length ys) (ys ++ zs) ≡ zs
drop_first_spliced_part [] zs = refl
drop_first_spliced_part (y ∷ ys) zs = drop_first_spliced_part ys zs

-- what follows the inserted items is what followed the place
spliced_deck_rest : {A : Type 0} (at : ℕ) (xs ys zs : List A) → at ≤ length xs
    → drop (at + length ys) (take at xs ++ (ys ++ zs)) ≡ zs
spliced_deck_rest zero xs ys zs h = ap (λ n. drop n (ys ++ zs)) (zero_plus (length ys)) ∙ drop_first_spliced_part ys zs
  where
    zero_plus : (n : ℕ) → 0 + n ≡ n
    zero_plus n = omega arith
spliced_deck_rest (suc at) [] ys zs h = absurd (omega arith)
spliced_deck_rest (suc at) (x ∷ xs) ys zs h =
    let next : suc at + length ys ≡ suc (at + length ys) = omega arith in
    ap (λ n. drop n (x ∷ (take at xs ++ (ys ++ zs)))) next ∙ spliced_deck_rest at xs ys zs (omega arith)

-- the law of inverses
pub deck_splice_inverse_law : DeckSpliceInverseLaw
deck_splice_inverse_law s d h =
    let xs : List DeckLine = d.lines in
    let front = spliced_deck_front s.at xs (s.put ++ drop (s.at + s.cut) xs) (omega (arith, h)) in
    let rest = spliced_deck_rest s.at xs s.put (drop (s.at + s.cut) xs) (omega (arith, h)) in
    ap (λ (ls : List DeckLine). record d { lines = ls })
    (ap (λ t. t ++ (take s.cut (drop s.at xs)
    ++ drop (s.at + length s.put) (take s.at xs ++ (s.put ++ drop (s.at + s.cut) xs)))) front
    ∙ ap (λ t. take s.at xs ++ (take s.cut (drop s.at xs) ++ t)) rest
    ∙ parts_of s.at s.cut xs h)

-- a splice of the lines of a store, as an edit
abbrev pub as_edited : Splice → List DeckLine → KeyNumberNames → StoreEdit
as_edited s lines names = record { old_lines = lines; new_lines = spliced_deck_lines s lines; names = names }

-- a key that is numbered has some number
deck_key_has_number : (names : KeyNumberNames) (k : Key) → is_key_numbered names k ≡ true
    → (n : KeyNumber) × (key_numbered names n ≡ Some k)
deck_key_has_number names k e =
    let p = deck_name_has_index (key_number_names_of_kind names k.kind) k.name e in
    (record { kind = k.kind; number = p.0 }, ap (option_map (key k.kind)) p.1)

-- the last places stay valid when more keys get numbers
pub deck_indexed_with_more_numbers : (old new : LineStoreView) (settings : Settings) (last : LastPlaces)
    → IsKeyNumbering old → IsKeyNumbering new
    → new.lines ≡ old.lines → AreKeyNumbersExtended old.names new.names →
    IsDeckIndexed old settings last → IsDeckIndexed new settings last
deck_indexed_with_more_numbers old new settings last numbering more lines wider before = record {
  blocks_closed = subst AreBlocksClosed (sym lines) before.blocks_closed;
  places = subst (λ ls. AreLastDefinitionPlaces new.names (active_definitions settings ls) last) (sym lines)
      (last_definition_places_extended old.names new.names (active_definitions settings old.lines) last before.places
      wider
      (λ n k none some. unnumbered_has_no_definition_place old settings k numbering
      (fresh n k none some (is_key_numbered old.names k) refl)));
}
  where
    fresh : (n : KeyNumber) (k : Key) → key_numbered old.names n ≡ None → key_numbered new.names n ≡ Some k → (b : Bool)
        → is_key_numbered old.names k ≡ b → is_key_numbered old.names k ≡ false
    fresh n k none some false e = e
    fresh n k none some true e =
        let p = deck_key_has_number old.names k e in
        absurd (never (sym none ∙ ap (key_numbered old.names) (more.unique n p.0 k some (wider p.0 k p.1)) ∙ p.1))
      where
        never : None ≡ Some k → ⊥
        never q = cc
