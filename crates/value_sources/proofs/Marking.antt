-- Marks of the lines of visited keys.
use Rattle.std.proofs.Common.{◌≡◌, ◌++◌, ◌∷◌, ◌<◌, [], ℕ, Bool, true, false, true≢false, List, length, set, get_or}
use Rattle.std.proofs.Common.{Option, Some, None, refl, sym, ap, ◌∙◌, ◌||◌, arith, cond}
use Rattle.std.proofs.lemmas.List.{get_or-set_other, get_or-set_same}
use Rattle.std.proofs.lemmas.Option.{same_Some}
use Rattle.def_entry.specs.declared.key.Key.{Key}
use Rattle.def_entry.specs.SameKeys.{is_entry_key_among, is_same_entry_key}
use Rattle.def_entry.proofs.SameKeys.{same_entry_keys}
use Rattle.deck.specs.Decks.{DeckContents}
use Rattle.deck.specs.Tables.{last_definition_place}
use Rattle.value_sources.proofs.Placing.{source_place_has_one_key, source_place_is_in_deck}
use Rattle.value_sources.specs.Visits.{MarksVisitedKeys, is_visit_marked}

or_cond : (b c : Bool) (x y : Bool) → x ≡ cond c true y → (b || x) ≡ cond c true (b || y)
or_cond true true x y h = refl
or_cond true false x y h = refl
or_cond false true x y h = h
or_cond false false x y h = h

or_none : (b : Bool) → (b || false) ≡ cond b true false
or_none true = refl
or_none false = refl

-- a key is among some keys and one more if it is among them or is the additional one
visited_key_among_push : (before : List Key) (n k : Key)
    → is_entry_key_among (before ++ n ∷ []) k ≡ cond (is_same_entry_key k n) true (is_entry_key_among before k)
visited_key_among_push [] n k = or_none (is_same_entry_key k n)
visited_key_among_push (m ∷ before) n k =
    or_cond (is_same_entry_key k m) (is_same_entry_key k n) (is_entry_key_among (before ++ n ∷ []) k)
    (is_entry_key_among before k)
    (visited_key_among_push before n k)

-- once the line of a key is marked, the key is among the visited ones
pub visited_key_is_marked_next : (d : DeckContents) (marks : List Bool) (before : List Key) (n : Key) (place : ℕ)
    → length marks ≡ length d.lines → MarksVisitedKeys d marks before
    → last_definition_place d.settings d.lines n ≡ Some place
    → MarksVisitedKeys d (set marks place true) (before ++ n ∷ [])
visited_key_is_marked_next d marks before n place room h e k = by (last_definition_place d.settings d.lines k) refl
    (is_same_entry_key k n) refl
  where
    inside : place < length marks
    inside = let w = source_place_is_in_deck d n place e in omega (arith, room, w)

    by : (o : Option ℕ) → last_definition_place d.settings d.lines k ≡ o → (b : Bool) → is_same_entry_key k n ≡ b
        → is_visit_marked (set marks place true) o ≡ is_entry_key_among (before ++ n ∷ []) k
    by None q true s =
        let z : None ≡ Some place =
        sym q ∙ ap (last_definition_place d.settings d.lines) ((same_entry_keys k n).0 s) ∙ e in cc
    by None q false s =
        sym (ap (is_visit_marked marks) q) ∙ h k
        ∙ sym (visited_key_among_push before n k ∙ ap (λ b. cond b true (is_entry_key_among before k)) s)
    by (Some p) q true s =
        let same : p ≡ place =
        same_Some p place (sym q ∙ ap (last_definition_place d.settings d.lines) ((same_entry_keys k n).0 s) ∙ e) in
        ap (λ x. get_or (set marks place true) x false) same ∙ get_or-set_same marks place true false inside
        ∙ sym (visited_key_among_push before n k ∙ ap (λ b. cond b true (is_entry_key_among before k)) s)
    by (Some p) q false s =
        get_or-set_other marks place p true false
        (λ same. true≢false (sym ((same_entry_keys k n).1 (source_place_has_one_key d k n place (q ∙ ap Some same) e))
        ∙ s))
        ∙ sym (ap (is_visit_marked marks) q) ∙ h k
        ∙ sym (visited_key_among_push before n k ∙ ap (λ b. cond b true (is_entry_key_among before k)) s)
