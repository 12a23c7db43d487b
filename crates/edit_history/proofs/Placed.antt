-- The place of the last line in force of a key is that of one of the lines.
use Rattle.std.proofs.Common.{◌≡◌, ◌++◌, ◌∷◌, ◌+◌, ◌<◌, ◌≤◌, [], ℕ, List, Bool, true, false, cond, length, reverse}
use Rattle.std.proofs.Common.{refl, sym, subst, arith, Option, Some, None, option_map}
use Rattle.std.proofs.lemmas.List.{reverse-append}
use Rattle.std.proofs.lemmas.Option.{same_Some}
use Rattle.std.specs.Bool.{⊤}
use Rattle.std.specs.Map.{lookup}
use Rattle.def_entry.specs.declared.key.Key.{Key}
use Rattle.def_entry.specs.Entries.{Entry}
use Rattle.def_entry.specs.SameKeys.{is_same_entry_key}
use Rattle.deck_lines.specs.Readings.{entry_in_store_line}
use Rattle.deck_lines.specs.declared.line.DeckLine.{DeckLine}
use Rattle.deck.specs.Active.{active_lines}
use Rattle.deck.specs.Tables.{DeckDefinitions, active_definitions, active_definitions_from, definition_of_active_line}
use Rattle.deck.specs.Tables.{last_definition_place}
use Rattle.deck.specs.declared.settings.Settings.{Settings}

-- each place is below a limit
abbrev AreBelow : ℕ → DeckDefinitions → Type 0
AreBelow most [] = ⊤
AreBelow most (d ∷ ds) = (d.1.0 < most) × AreBelow most ds

history-places-below-append : (most : ℕ) (ds es : DeckDefinitions) → AreBelow most ds → AreBelow most es
    → AreBelow most (ds ++ es)
history-places-below-append most [] es h g = g
history-places-below-append most (d ∷ ds) es h g = (h.0, history-places-below-append most ds es h.1 g)

history-places-below-reverse : (most : ℕ) (ds : DeckDefinitions) → AreBelow most ds → AreBelow most (reverse ds)
history-places-below-reverse most [] h = tt
history-places-below-reverse most (d ∷ ds) h =
    subst (AreBelow most) (sym (reverse-append (d ∷ []) ds))
    (history-places-below-append most (reverse ds) (d ∷ []) (history-places-below-reverse most ds h.1) (h.0, tt))

history-places-below-by-line : (most place : ℕ) (active : Bool) (o : Option (Key × Entry)) → place < most
    → AreBelow most (definition_of_active_line place active o)
history-places-below-by-line most place active None h = tt
history-places-below-by-line most place true (Some e) h = (h, tt)
history-places-below-by-line most place false (Some e) h = tt

history-places-below-from-lines : (most place : ℕ) (flags : List Bool) (lines : List DeckLine)
    → place + length lines ≤ most
    → AreBelow most (active_definitions_from place flags lines)
history-places-below-from-lines most place [] lines h = tt
history-places-below-from-lines most place (f ∷ flags) [] h = tt
history-places-below-from-lines most place (f ∷ flags) (x ∷ lines) h =
    history-places-below-append most (definition_of_active_line place f (entry_in_store_line x))
    (active_definitions_from (place + 1) flags lines)
    (history-places-below-by-line most place f (entry_in_store_line x) (omega (arith, h)))
    (history-places-below-from-lines most (place + 1) flags lines (omega (arith, h)))

found-history-place-is-below : (most : ℕ) (ds : DeckDefinitions) (k : Key) (v : ℕ × Entry) → AreBelow most ds
    → lookup (is_same_entry_key k) ds ≡ Some v → v.0 < most
found-history-place-is-below most [] k v h e = cc
found-history-place-is-below most (d ∷ ds) k v h e = by (is_same_entry_key k d.0)
    (found-history-place-is-below most ds k v h.1) e
  where
    by : (b : Bool) → (lookup (is_same_entry_key k) ds ≡ Some v → v.0 < most)
        → cond b (Some d.1) (lookup (is_same_entry_key k) ds) ≡ Some v
        → v.0 < most
    by true ih g = subst (λ (w : ℕ × Entry). w.0 < most) (same_Some d.1 v g) h.0
    by false ih g = ih g

pub last_history_place_is_within : (settings : Settings) (lines : List DeckLine) (k : Key) (place : ℕ)
    → last_definition_place settings lines k ≡ Some place → place < length lines
unfolding active_definitions
last_history_place_is_within settings lines k place h = by (lookup (is_same_entry_key k) ds) refl h
  where
    ds : DeckDefinitions
    ds = reverse (active_definitions_from 0 (active_lines settings lines) lines)

    by : (o : Option (ℕ × Entry)) → lookup (is_same_entry_key k) ds ≡ o → option_map (λ p. p.0) o ≡ Some place
        → place < length lines
    by None g f = cc
    by (Some v) g f =
        subst (λ p. p < length lines) (same_Some v.0 place f)
        (found-history-place-is-below (length lines) ds k v
        (history-places-below-reverse (length lines) (active_definitions_from 0 (active_lines settings lines) lines)
        (history-places-below-from-lines (length lines) 0 (active_lines settings lines) lines (omega arith))) g)
