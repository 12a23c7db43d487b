-- The places that definitions cover, without the definition of one line.
use Rattle.std.proofs.Common.{◌≡◌, ◌++◌, ◌∷◌, ◌+◌, ◌<◌, ◌≤◌, [], ℕ, zero, suc, List, Bool, true, false, cond, length}
use Rattle.std.proofs.Common.{get_or, map, set, reverse, nat_lt, append_assoc, refl, sym, ap, subst, ◌∙◌, arith}
use Rattle.std.proofs.Common.{Option, Some, None, option_map, slice_get, add-one}
use Rattle.std.proofs.lemmas.Bool.Decides.{nat_tests}
use Rattle.std.proofs.lemmas.List.{reverse-append}
use Rattle.std.proofs.lemmas.Option.{same_Some, slice_get-map}
use Rattle.std.specs.List.{remove}
use Rattle.std.specs.Map.{lookup}
use Rattle.def_entry.specs.Entries.{Entry}
use Rattle.def_entry.specs.SameKeys.{is_same_entry_key}
use Rattle.def_entry.specs.declared.key.Key.{Key}
use Rattle.gap_list.specs.Gaps.{without_gap}
use Rattle.gap_list.proofs.SlotItems.{after_removed, before_removed}
use Rattle.def_entry.proofs.SameKeys.{same_entry_keys}
use Rattle.deck_lines.specs.Readings.{entry_in_store_line}
use Rattle.deck_lines.specs.declared.line.DeckLine.{DeckLine}
use Rattle.deck.specs.CoveredLines.{AreCoveredDefinitionPlaces}
use Rattle.deck.specs.Tables.{DeckDefinitions, active_definitions_among, active_definitions_from}
use Rattle.deck.specs.Tables.{definition_of_active_line, definition_place_of}
use Rattle.deck.proofs.RemovedLine.{DefinesAt, definition_place_moved, moved}
use Rattle.deck.proofs.UncoveredKeys.{found_definition-append, found_first}

-- no definition is of the line at a place
abbrev pub AreApart : (place : ℕ) → DeckDefinitions → Type 0
AreApart place [] = Unit {0}
AreApart place (d ∷ ds) = (d.1.0 ≡ place → ⊥) × AreApart place ds

definition_places_apart-append : (place : ℕ) (ds es : DeckDefinitions) → AreApart place ds → AreApart place es
    → AreApart place (ds ++ es)
definition_places_apart-append place [] es h g = g
definition_places_apart-append place (d ∷ ds) es h g = (h.0, definition_places_apart-append place ds es h.1 g)

definition_places_apart-reverse : (place : ℕ) (ds : DeckDefinitions) → AreApart place ds → AreApart place (reverse ds)
definition_places_apart-reverse place [] h = tt
definition_places_apart-reverse place (d ∷ ds) h = subst (AreApart place) (sym (reverse-append (d ∷ []) ds))
    (definition_places_apart-append place (reverse ds) (d ∷ []) (definition_places_apart-reverse place ds h.1)
    (h.0, tt))

-- no key is found at that place
no_definition_found_at_place : (place : ℕ) (ds : DeckDefinitions) (k : Key) (v : ℕ × Entry) → AreApart place ds
    → lookup (is_same_entry_key k) ds ≡ Some v → v.0 ≡ place → ⊥
no_definition_found_at_place place [] k v h e same = cc
no_definition_found_at_place place (d ∷ ds) k v h e same = by (is_same_entry_key k d.0)
    (λ f. no_definition_found_at_place place ds k v h.1 f same) e
  where
    by : (b : Bool) → (lookup (is_same_entry_key k) ds ≡ Some v → ⊥)
        → cond b (Some d.1) (lookup (is_same_entry_key k) ds) ≡ Some v → ⊥
    by true rest f = h.0 (ap (λ (w : ℕ × Entry). w.0) (same_Some d.1 v f) ∙ same)
    by false rest f = rest f

-- the place of a key that the first definitions do not have
definition_place_past_others : (later earlier : DeckDefinitions) (k : Key) → lookup (is_same_entry_key k) later ≡ None
    → definition_place_of (later ++ earlier) k ≡ definition_place_of earlier k
definition_place_past_others later earlier k none =
    ap (option_map (λ p. p.0)) (found_definition-append (is_same_entry_key k) later earlier
    ∙ ap (λ o. found_first o (lookup (is_same_entry_key k) earlier)) none)

-- a definition does not change the places of other keys
other_definition_places_stay : (later earlier : DeckDefinitions) (j k : Key) (v : ℕ × Entry)
    → is_same_entry_key j k ≡ false
    → definition_place_of (later ++ (k, v) ∷ earlier) j ≡ definition_place_of (later ++ earlier) j
other_definition_places_stay later earlier j k v apart =
    ap (option_map (λ p. p.0)) (found_definition-append (is_same_entry_key j) later ((k, v) ∷ earlier)
    ∙ ap (λ b. found_first (lookup (is_same_entry_key j) later)
    (cond b (Some v) (lookup (is_same_entry_key j) earlier))) apart
    ∙ sym (found_definition-append (is_same_entry_key j) later earlier))

-- different keys differ in either order
different_deck_keys_sym : (j k : Key) → is_same_entry_key k j ≡ false → is_same_entry_key j k ≡ false
different_deck_keys_sym j k h = by (is_same_entry_key j k) refl where
  by : (b : Bool) → is_same_entry_key j k ≡ b → is_same_entry_key j k ≡ false
  by true e =
      let same : j ≡ k = (same_entry_keys j k).0 e in
      absurd (never (sym ((same_entry_keys k k).1 refl) ∙ ap (is_same_entry_key k) (sym same) ∙ h))
    where
      never : true ≡ false → ⊥
      never g = cc
  by false e = e

-- if the last definition of a key is at a place where no later definition is, no later definition has the key
no_later_definition_of_key : (place : ℕ) (later earlier : DeckDefinitions) (k : Key) → AreApart place later
    → definition_place_of (later ++ earlier) k ≡ Some place → lookup (is_same_entry_key k) later ≡ None
no_later_definition_of_key place later earlier k apart h = by (lookup (is_same_entry_key k) later) refl
    (ap (option_map (λ p. p.0)) (sym (found_definition-append (is_same_entry_key k) later earlier)) ∙ h)
  where
    by : (o : Option (ℕ × Entry)) → lookup (is_same_entry_key k) later ≡ o
        → option_map (λ p. p.0) (found_first o (lookup (is_same_entry_key k) earlier)) ≡ Some place
        → lookup (is_same_entry_key k) later ≡ None
    by None e f = e
    by (Some v) e f = absurd (no_definition_found_at_place place later k v apart e (same_Some v.0 place f))

-- the line of a definition covers the last definition of its key before it
definition_covers_last_before : (later earlier : DeckDefinitions) (d : Key × (ℕ × Entry)) (covered : List (Option ℕ))
    → AreCoveredDefinitionPlaces (later ++ d ∷ earlier) covered
    → slice_get covered d.1.0 ≡ Some (definition_place_of earlier d.0)
definition_covers_last_before [] earlier d covered are = are.0
definition_covers_last_before (l ∷ later) earlier d covered are = definition_covers_last_before later earlier d covered
    are.1

-- without a definition, the later ones of other keys cover the same lines
covered_places_without_definition : (later earlier : DeckDefinitions) (k : Key) (v : ℕ × Entry)
    (covered : List (Option ℕ))
    → lookup (is_same_entry_key k) later ≡ None → AreCoveredDefinitionPlaces (later ++ (k, v) ∷ earlier) covered
    → AreCoveredDefinitionPlaces (later ++ earlier) covered
covered_places_without_definition [] earlier k v covered none are = are.1
covered_places_without_definition (l ∷ later) earlier k v covered none are = by (is_same_entry_key k l.0) refl none
    (λ rest. covered_places_without_definition later earlier k v covered rest are.1)
  where
    by : (b : Bool) → is_same_entry_key k l.0 ≡ b → cond b (Some l.1) (lookup (is_same_entry_key k) later) ≡ None
        → (lookup (is_same_entry_key k) later ≡ None → AreCoveredDefinitionPlaces (later ++ earlier) covered)
        → AreCoveredDefinitionPlaces (l ∷ later ++ earlier) covered
    by true e f rest = cc
    by false e f rest = (
      are.0 ∙ ap Some (other_definition_places_stay later earlier l.0 k v (different_deck_keys_sym l.0 k e)),
      rest f,
    )

-- after a line is removed, the other lines cover the same lines at their new places
covered_definitions_moved : (gap : ℕ) (ds : DeckDefinitions) (covered : List (Option ℕ)) → AreApart gap ds
    → AreCoveredDefinitionPlaces ds covered
    → AreCoveredDefinitionPlaces (moved gap ds) (map (option_map (without_gap gap)) (remove covered gap))
covered_definitions_moved gap [] covered apart are = tt
covered_definitions_moved gap (d ∷ ds) covered apart are = (
  slice_get-map (option_map (without_gap gap)) (remove covered gap) (without_gap gap d.1.0)
      ∙ ap (option_map (option_map (without_gap gap))) (by (nat_lt gap d.1.0) refl ∙ are.0)
      ∙ ap Some (sym (definition_place_moved gap ds d.0)),
  covered_definitions_moved gap ds covered apart.1 are.1,
) where
  by : (b : Bool) → nat_lt gap d.1.0 ≡ b
      → slice_get (remove covered gap) (without_gap gap d.1.0) ≡ slice_get covered d.1.0
  by true e =
      let past : gap < d.1.0 = grind (arith, nat_tests, e) in
      let back : without_gap gap d.1.0 + 1 ≡ d.1.0 = grind (arith, nat_tests, e) in
      let from : gap ≤ without_gap gap d.1.0 = omega (arith, past, back) in
      after_removed covered gap (without_gap gap d.1.0) from
      ∙ ap (slice_get covered) (sym (add-one (without_gap gap d.1.0)) ∙ back)
  by false e =
      let stays : without_gap gap d.1.0 ≡ d.1.0 = grind (arith, nat_tests, e) in
      let up_to : d.1.0 ≤ gap = grind (arith, nat_tests, e) in
      let before : d.1.0 < gap = strictly d.1.0 gap up_to apart.0 in
      ap (slice_get (remove covered gap)) stays ∙ before_removed covered gap d.1.0 before
    where
      strictly : (p g : ℕ) → p ≤ g → (p ≡ g → ⊥) → p < g
      strictly p g le ne = less (nat_lt p g) refl where
        less : (b : Bool) → nat_lt p g ≡ b → p < g
        less true f = grind (arith, nat_tests, f)
        less false f =
            let same : p ≡ g = grind (arith, nat_tests, f, le) in
            absurd (ne same)

-- the definitions of some lines with and without that of the line at a place
record IsSplit (place : ℕ) (d : DeckDefinitions) (with without : DeckDefinitions) : Type 0 where
  later : DeckDefinitions
  earlier : DeckDefinitions
  with_is : with ≡ later ++ (d ++ earlier)
  without_is : without ≡ later ++ earlier
  later_apart : AreApart place later
  earlier_apart : AreApart place earlier

-- the definition of one line is at its place
active_definition_is_apart : (n place : ℕ) (f : Bool) (o : Option (Key × Entry)) → n < place
    → AreApart place (definition_of_active_line n f o)
active_definition_is_apart n place f None h = tt
active_definition_is_apart n place true (Some e) h = (λ same. omega (arith, h, same), tt)
active_definition_is_apart n place false (Some e) h = tt

-- the definitions of later lines are at later places
later_definitions_are_apart : (n place : ℕ) (fs : List Bool) (lines : List DeckLine) → place < n
    → AreApart place (active_definitions_from n fs lines)
later_definitions_are_apart n place [] lines h = tt
later_definitions_are_apart n place (f ∷ fs) [] h = tt
later_definitions_are_apart n place (f ∷ fs) (x ∷ lines) h =
    definition_places_apart-append place (definition_of_active_line n f (entry_in_store_line x))
    (active_definitions_from (n + 1) fs lines) (one f (entry_in_store_line x))
    (later_definitions_are_apart (n + 1) place fs lines (omega (arith, h)))
  where
    one : (b : Bool) (o : Option (Key × Entry)) → AreApart place (definition_of_active_line n b o)
    one b None = tt
    one true (Some e) = (λ same. omega (arith, h, same), tt)
    one false (Some e) = tt

-- in the order of the lines
active_definitions_from_split : (fs : List Bool) (lines : List DeckLine) (n place : ℕ) (k : Key) (e : Entry)
    → length fs ≡ length lines
    → DefinesAt lines place (k, e)
    → IsSplit (n + place) (definition_of_active_line (n + place) (get_or fs place false) (Some (k, e)))
    (active_definitions_from n fs lines) (active_definitions_from n (set fs place false) lines)
active_definitions_from_split fs [] n place k e same defines = cc
active_definitions_from_split [] (x ∷ lines) n place k e same defines = absurd (omega (arith, same))
active_definitions_from_split (f ∷ fs) (x ∷ lines) n zero k e same defines =
    let at : n + zero ≡ n = omega arith in
    record {
      later = [];
      earlier = active_definitions_from (n + 1) fs lines;
      with_is = ap (λ o. definition_of_active_line n f o ++ active_definitions_from (n + 1) fs lines) defines
          ∙ ap (λ m. definition_of_active_line m f (Some (k, e)) ++ active_definitions_from (n + 1) fs lines) (sym at);
      without_is = ap (λ o. definition_of_active_line n false o ++ active_definitions_from (n + 1) fs lines) defines;
      later_apart = tt;
      earlier_apart = later_definitions_are_apart (n + 1) (n + zero) fs lines (omega arith);
    }
active_definitions_from_split (f ∷ fs) (x ∷ lines) n (suc place) k e same defines =
    let rest = active_definitions_from_split fs lines (n + 1) place k e (omega (arith, same)) defines in
    let at : n + 1 + place ≡ n + suc place = omega arith in
    let d : DeckDefinitions = definition_of_active_line n f (entry_in_store_line x) in
    let b : Bool = get_or fs place false in
    record {
      later = d ++ rest.later;
      earlier = rest.earlier;
      with_is = ap (λ ds. d ++ ds) rest.with_is
          ∙ ap (λ m. d ++ (rest.later ++ (definition_of_active_line m b (Some (k, e)) ++ rest.earlier))) at
          ∙ sym (append_assoc d rest.later (definition_of_active_line (n + suc place) b (Some (k, e)) ++ rest.earlier));
      without_is = ap (λ ds. d ++ ds) rest.without_is ∙ sym (append_assoc d rest.later rest.earlier);
      later_apart = definition_places_apart-append (n + suc place) d rest.later
          (active_definition_is_apart n (n + suc place) f (entry_in_store_line x) (omega arith))
          (subst (λ m. AreApart m rest.later) at rest.later_apart);
      earlier_apart = subst (λ m. AreApart m rest.earlier) at rest.earlier_apart;
    }

-- reversing the definition of one line changes nothing
definition_of_line_reversed : (place : ℕ) (active : Bool) (o : Option (Key × Entry))
    → reverse (definition_of_active_line place active o) ≡ definition_of_active_line place active o
definition_of_line_reversed place active None = refl
definition_of_line_reversed place true (Some e) = refl
definition_of_line_reversed place false (Some e) = refl

-- the last line first
active_definitions_among_split : (fs : List Bool) (lines : List DeckLine) (place : ℕ) (k : Key) (e : Entry)
    → length fs ≡ length lines
    → DefinesAt lines place (k, e)
    → IsSplit place (definition_of_active_line place (get_or fs place false) (Some (k, e)))
    (active_definitions_among fs lines) (active_definitions_among (set fs place false) lines)
active_definitions_among_split fs lines place k e same defines =
    let at : 0 + place ≡ place = omega arith in
    let b : Bool = get_or fs place false in
    let split = active_definitions_from_split fs lines 0 place k e same defines in
    let d : DeckDefinitions = definition_of_active_line (0 + place) b (Some (k, e)) in
    record {
      later = reverse split.earlier;
      earlier = reverse split.later;
      with_is = ap reverse split.with_is ∙ reverse-append split.later (d ++ split.earlier)
          ∙ ap (λ ds. ds ++ reverse split.later) (reverse-append d split.earlier)
          ∙ append_assoc (reverse split.earlier) (reverse d) (reverse split.later)
          ∙ ap (λ ds. reverse split.earlier ++ (ds ++ reverse split.later))
          (definition_of_line_reversed (0 + place) b (Some (k, e))
          ∙ ap (λ m. definition_of_active_line m b (Some (k, e))) at);
      without_is = ap reverse split.without_is ∙ reverse-append split.later split.earlier;
      later_apart = subst (λ m. AreApart m (reverse split.earlier)) at
          (definition_places_apart-reverse (0 + place) split.earlier split.earlier_apart);
      earlier_apart = subst (λ m. AreApart m (reverse split.later)) at
          (definition_places_apart-reverse (0 + place) split.later split.later_apart);
    }

module _ (fs : List Bool) (lines : List DeckLine) (place : ℕ) (k : Key) (e : Entry) (same : length fs ≡ length lines)
    (defines : DefinesAt lines place (k, e))
    (was : definition_place_of (active_definitions_among fs lines) k ≡ Some place) where
  -- the last line of a key is active
  active : get_or fs place false ≡ true
  active = by (get_or fs place false) refl (active_definitions_among_split fs lines place k e same defines) where
    by : (b : Bool) → get_or fs place false ≡ b
        → IsSplit place (definition_of_active_line place b (Some (k, e))) (active_definitions_among fs lines)
        (active_definitions_among (set fs place false) lines) → get_or fs place false ≡ true
    by true h split = h
    by false h split =
        let all : definition_place_of (split.later ++ split.earlier) k ≡ Some place =
        ap (λ ds. definition_place_of ds k) (sym split.with_is) ∙ was in
        let none : lookup (is_same_entry_key k) split.later ≡ None =
        no_later_definition_of_key place split.later split.earlier k split.later_apart all in
        absurd (elsewhere (lookup (is_same_entry_key k) split.earlier) refl
        (sym (definition_place_past_others split.later split.earlier k none) ∙ all) split.earlier_apart)
      where
        elsewhere : (o : Option (ℕ × Entry)) → lookup (is_same_entry_key k) split.earlier ≡ o
            → option_map (λ p. p.0) o ≡ Some place → AreApart place split.earlier → ⊥
        elsewhere None g f apart = cc
        elsewhere (Some v) g f apart = no_definition_found_at_place place split.earlier k v apart g
            (same_Some v.0 place f)

  split : IsSplit place ((k, (place, e)) ∷ []) (active_definitions_among fs lines)
      (active_definitions_among (set fs place false) lines)
  split = subst (λ b. IsSplit place (definition_of_active_line place b (Some (k, e)))
      (active_definitions_among fs lines)
      (active_definitions_among (set fs place false) lines)) active
      (active_definitions_among_split fs lines place k e same defines)

  none : lookup (is_same_entry_key k) split.later ≡ None
  none = no_later_definition_of_key place split.later ((k, (place, e)) ∷ split.earlier) k split.later_apart
      (ap (λ ds. definition_place_of ds k) (sym split.with_is) ∙ was)

  module _ (covered : List (Option ℕ)) (are : AreCoveredDefinitionPlaces (active_definitions_among fs lines) covered)
    where
      all_covered : AreCoveredDefinitionPlaces (split.later ++ (k, (place, e)) ∷ split.earlier) covered
      all_covered = subst (λ ds. AreCoveredDefinitionPlaces ds covered) split.with_is are

      -- the line covers the last line of the key among the others
      pub covered_last : slice_get covered place ≡ Some
          (definition_place_of (active_definitions_among (set fs place false) lines) k)
      covered_last = definition_covers_last_before split.later split.earlier (k, (place, e)) covered all_covered
          ∙ ap Some (sym (ap (λ ds. definition_place_of ds k) split.without_is
          ∙ definition_place_past_others split.later split.earlier k none))

      -- the others cover the same lines without it
      pub covered_left : AreCoveredDefinitionPlaces (moved place (active_definitions_among (set fs place false) lines))
          (map (option_map (without_gap place)) (remove covered place))
      covered_left = subst (λ ds. AreCoveredDefinitionPlaces (moved place ds)
          (map (option_map (without_gap place)) (remove covered place)))
          (sym split.without_is)
          (covered_definitions_moved place (split.later ++ split.earlier) covered
          (definition_places_apart-append place split.later split.earlier split.later_apart split.earlier_apart)
          (covered_places_without_definition split.later split.earlier k (place, e) covered none all_covered))
