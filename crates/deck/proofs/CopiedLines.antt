-- Copying lines one after another.
use Rattle.std.proofs.Common.{◌≡◌, ◌++◌, ◌∷◌, ◌+◌, ◌-◌, ◌<◌, [], ℕ, zero, suc, List, Bool, false, length, take}
use Rattle.std.proofs.Common.{drop, get_or, append_assoc, length-take, refl, sym, ap, subst, ◌∙◌, arith, Option, Some}
use Rattle.std.proofs.Common.{None, option_map, slice_get}
use Rattle.std.proofs.lemmas.Bool.Decides.{nat_tests}
use Rattle.std.proofs.lemmas.List.Sums.{sum_by-take-drop}
use Rattle.std.proofs.lemmas.Option.{same_Some}
use Rattle.std.specs.Option.{option_and_then}
use Rattle.def_entry.specs.Entries.{Entry}
use Rattle.def_entry.specs.Headings.{entry_text}
use Rattle.def_entry.specs.LineViews.{seen_entry}
use Rattle.def_entry.specs.Views.{entry_definition_view}
use Rattle.def_entry.specs.declared.entry.What.{What as MadeWhat}
use Rattle.def_entry.specs.declared.key.Key.{Key}
use Rattle.deck_lines.specs.Limits.{pass_store_limit}
use Rattle.deck_lines.specs.Readings.{entry_in_store_line}
use Rattle.deck_lines.specs.Stores.{store_definition_at}
use Rattle.deck_lines.specs.declared.line.DeckLine.{DeckLine}
use Rattle.deck_lines.proofs.Entries.{text_of_store_line_entry}
use Rattle.general_lemmas.proofs.Places.{take_at}

-- if a copy and the remaining items make up the whole list, so they do after one more item is copied
pub deck_copy_step : {A : Type 0} (xs rest now copy whole : List A) (x : A) → xs ≡ x ∷ rest → now ≡ copy ++ x ∷ []
    → copy ++ xs ≡ whole → now ++ rest ≡ whole
deck_copy_step xs rest now copy whole x at e h = ap (λ t. t ++ rest) e ∙ append_assoc copy (x ∷ []) rest
    ∙ sym (ap (λ t. copy ++ t) at) ∙ h

-- the line at a place, with a copy of its text
pub deck_line_with_copied_text : (lines : List DeckLine) (place : ℕ) (line : DeckLine) (text : List ℕ)
    → slice_get lines place ≡ Some line
    → text ≡ line.text → slice_get lines place ≡ Some (record { number = line.number; text = text; mark = line.mark })
deck_line_with_copied_text lines place line text at same =
    at ∙ ap (λ t. Some (record { number = line.number; text = t; mark = line.mark })) (sym same)

-- an item of a list is in a front of the list that is long enough
pub item_in_copied_deck_front : {A : Type 0} (n : ℕ) (xs : List A) (i : ℕ) (x : A) → i < n → slice_get xs i ≡ Some x
    → slice_get (take n xs) i ≡ Some x
item_in_copied_deck_front zero xs i x less e = absurd (omega (arith, less))
item_in_copied_deck_front (suc n) [] i x less e = e
item_in_copied_deck_front (suc n) (y ∷ xs) zero x less e = e
item_in_copied_deck_front (suc n) (y ∷ xs) (suc i) x less e = item_in_copied_deck_front n xs i x (omega (arith, less)) e

-- if all lines are within the limits, so is each front of them
pub deck_front_within_limit : (xs : List DeckLine) (n : ℕ) → pass_store_limit xs ≡ false
    → pass_store_limit (take n xs) ≡ false
unfolding pass_store_limit
deck_front_within_limit xs n e =
    grind (arith, nat_tests, e, length-take n xs, sum_by-take-drop (λ (x : DeckLine). length x.text) xs n)

-- a copied front is within the limits after one more line is copied
pub copied_deck_within_limit : (lines copy : List DeckLine) (i : ℕ) (x : DeckLine) → copy ≡ take i lines
    → slice_get lines i ≡ Some x
    → pass_store_limit lines ≡ false → pass_store_limit (copy ++ x ∷ []) ≡ false
copied_deck_within_limit lines copy i x e at within =
    subst (λ t. pass_store_limit t ≡ false) (take_at lines i x at ∙ ap (λ t. t ++ x ∷ []) (sym e))
    (deck_front_within_limit lines (i + 1) within)

-- after one more line is copied, the copy is the front that is one line longer
pub copied_deck_front_longer : (lines copy now : List DeckLine) (i : ℕ) (x : DeckLine) → copy ≡ take i lines
    → slice_get lines i ≡ Some x → now ≡ copy ++ x ∷ [] → now ≡ take (i + 1) lines
copied_deck_front_longer lines copy now i x e at h = h ∙ ap (λ t. t ++ x ∷ []) e ∙ sym (take_at lines i x at)

-- the definition of a line is determined by its text, its key and its `what`
pub deck_definition_by_parts : (lines : List DeckLine) (place : ℕ) (x : DeckLine) (k : Key) (what : MadeWhat)
    (e : Entry)
    → slice_get lines place ≡ Some x →
    Some (Some k) ≡ option_map (λ (d : Key × Entry). Some d.0) (store_definition_at lines place)
    → Some e ≡ option_map (λ (d : Key × Entry). d.1) (store_definition_at lines place)
    → entry_definition_view what ≡ e.what →
    Some (seen_entry x.text (k, what)) ≡ entry_in_store_line x
deck_definition_by_parts lines place x k what e at keyed said same =
    by (entry_in_store_line x) refl (keyed ∙ ap (option_map (λ (d : Key × Entry). Some d.0)) here)
    (said ∙ ap (option_map (λ (d : Key × Entry). d.1)) here)
  where
    here : store_definition_at lines place ≡ entry_in_store_line x
    here = ap (option_and_then entry_in_store_line) at

    by : (o : Option (Key × Entry)) → entry_in_store_line x ≡ o
        → Some (Some k) ≡ option_map (λ (d : Key × Entry). Some d.0) o
        → Some e ≡ option_map (λ (d : Key × Entry). d.1) o → Some (seen_entry x.text (k, what)) ≡ o
    by None is keyed said = cc
    by (Some d) is keyed said =
        let one : k ≡ d.0 = same_Some k d.0 (same_Some (Some k) (Some d.0) keyed) in
        let text : entry_text x.text ≡ d.1.text = sym (text_of_store_line_entry x d is) in
        let what : entry_definition_view what ≡ d.1.what = same ∙ ap (λ (f : Entry). f.what) (same_Some e d.1 said) in
        ap Some (λ i. (one i, record { text = text i; what = what i }))
