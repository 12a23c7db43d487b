-- Changing settings, and undoing the change.
use Rattle.std.proofs.Common.{◌≡◌, ◌++◌, ◌∷◌, ◌+◌, ◌-◌, [], ℕ, zero, suc, List, Bool, true, false, cond, length, take}
use Rattle.std.proofs.Common.{drop, true≢false, refl, sym, ap, subst, ◌∙◌, arith, length-append, slice_get, Some, None}
use Rattle.std.proofs.Math.Seq.{take-append_seam}
use Rattle.std.proofs.lemmas.Option.{same_Some}
use Rattle.std.specs.Str.{bytes_eq}
use Rattle.units_io.specs.NamedValues.{HasDistinctTextNames, NamedTexts, named_text, with_named_text}
use Rattle.units_io.proofs.Names.{HasNoName-before, HasNoName-not_found, with_named_text-new}
use Rattle.def_entry.specs.declared.key.Key.{Key}
use Rattle.deck_lines.specs.declared.line.DeckLine.{DeckLine}
use Rattle.deck.specs.Changes.{IsDeckTableChange}
use Rattle.deck.specs.Decks.{DeckContents}
use Rattle.deck.specs.SettingChanges.{settings_with_variable, settings_without_last_variable}
use Rattle.deck.specs.Tables.{EntryTable}
use Rattle.deck.specs.declared.settings.Settings.{Settings}

-- setting a variable to the value that it has changes nothing
setting_to_same_value : (vars : NamedTexts) (name value : List ℕ) → named_text vars name ≡ Some value
    → with_named_text vars name value ≡ vars
setting_to_same_value [] name value e = cc
setting_to_same_value (p ∷ vars) name value e = by (bytes_eq name p.0) (setting_to_same_value vars name value) e
  where
    by : (b : Bool) → (named_text vars name ≡ Some value → with_named_text vars name value ≡ vars)
        → cond b (Some p.1) (named_text vars name) ≡ Some value
        → cond b ((p.0, value) ∷ vars) (p ∷ with_named_text vars name value) ≡ p ∷ vars
    by true ih h = ap (λ v. (p.0, v) ∷ vars) (sym (same_Some p.1 value h))
    by false ih h = ap (λ (ps : NamedTexts). p ∷ ps) (ih h)

-- setting a variable to its previous value restores the variables
setting_back_to_old_value : (vars : NamedTexts) (name value before : List ℕ) → named_text vars name ≡ Some before
    → with_named_text (with_named_text vars name value) name before ≡ vars
setting_back_to_old_value [] name value before e = cc
setting_back_to_old_value (p ∷ vars) name value before e = by (bytes_eq name p.0) refl
    (setting_back_to_old_value vars name value before) e
  where
    by : (b : Bool) → bytes_eq name p.0 ≡ b
        → (named_text vars name ≡ Some before → with_named_text (with_named_text vars name value) name before ≡ vars)
        → cond b (Some p.1) (named_text vars name) ≡ Some before
        → with_named_text (cond b ((p.0, value) ∷ vars) (p ∷ with_named_text vars name value)) name before ≡ p ∷ vars
    by true is ih h =
        ap (λ b. cond b ((p.0, before) ∷ vars) ((p.0, value) ∷ with_named_text vars name before)) is
        ∙ ap (λ v. (p.0, v) ∷ vars) (sym (same_Some p.1 before h))
    by false is ih h =
        ap (λ b. cond b ((p.0, before) ∷ with_named_text vars name value)
        (p ∷ with_named_text (with_named_text vars name value) name before)) is
        ∙ ap (λ (ps : NamedTexts). p ∷ ps) (ih h)

-- all pairs but the last are the front
setting_pairs_without_last : (front : NamedTexts) (p : List ℕ × List ℕ) → take (length (front ++ p ∷ []) - 1)
    (front ++ p ∷ []) ≡ front
setting_pairs_without_last front p =
    let one_less : length (front ++ p ∷ []) - 1 ≡ length front = omega (arith, length-append front (p ∷ [])) in
    ap (λ n. take n (front ++ p ∷ [])) one_less ∙ take-append_seam front (p ∷ [])

-- a list of pairs consists of all but the last and the last
setting_pairs_split_at_last : (vars : NamedTexts) (p : List ℕ × List ℕ) → slice_get vars (length vars - 1) ≡ Some p
    → vars ≡ take (length vars - 1) vars ++ p ∷ []
setting_pairs_split_at_last [] p e = cc
setting_pairs_split_at_last (q ∷ []) p e = ap (λ x. x ∷ []) (same_Some q p e)
setting_pairs_split_at_last (q ∷ r ∷ vars) p e =
    let at : length (q ∷ r ∷ vars) - 1 ≡ suc (length (r ∷ vars) - 1) = omega arith in
    ap (λ (ps : NamedTexts). q ∷ ps)
    (setting_pairs_split_at_last (r ∷ vars) p (ap (λ n. slice_get (q ∷ r ∷ vars) n) (sym at) ∙ e))
    ∙ ap (λ n. take n (q ∷ r ∷ vars) ++ p ∷ []) (sym at)

pub settings_with_same_variable : (s : Settings) (name value : List ℕ) → named_text s.vars name ≡ Some value
    → settings_with_variable s name value ≡ s
settings_with_same_variable s name value e = ap (λ (ps : NamedTexts). record s { vars = ps })
    (setting_to_same_value s.vars name value e)

pub settings_with_known_variable : (s : Settings) (name value before : List ℕ) → named_text s.vars name ≡ Some before
    → settings_with_variable (settings_with_variable s name value) name before ≡ s
settings_with_known_variable s name value before e =
    ap (λ (ps : NamedTexts). record s { vars = ps }) (setting_back_to_old_value s.vars name value before e)

pub settings_with_new_variable : (s : Settings) (name value : List ℕ) → named_text s.vars name ≡ None
    → settings_without_last_variable (settings_with_variable s name value) ≡ s
settings_with_new_variable s name value e =
    ap (λ (ps : NamedTexts). record s { vars = take (length ps - 1) ps })
    (with_named_text-new s.vars name value (HasNoName-not_found s.vars name None (sym e)))
    ∙ ap (λ (ps : NamedTexts). record s { vars = ps }) (setting_pairs_without_last s.vars (name, value))

pub settings_with_last_variable : (s : Settings) (name value : List ℕ) → slice_get s.vars (length s.vars - 1) ≡ Some
    (name, value)
    → HasDistinctTextNames s.vars → settings_with_variable (settings_without_last_variable s) name value ≡ s
settings_with_last_variable s name value e distinct =
    ap (λ (ps : NamedTexts). record s { vars = ps })
    (with_named_text-new front name value
    (HasNoName-before front (name, value) []
    (subst HasDistinctTextNames (setting_pairs_split_at_last s.vars (name, value) e) distinct))
    ∙ sym (setting_pairs_split_at_last s.vars (name, value) e))
  where
    front : NamedTexts
    front = take (length s.vars - 1) s.vars

-- a list of pairs consists of those before a place, the one there and those after it
pub setting_pairs_split_at_place : (vars : NamedTexts) (i : ℕ) (p : List ℕ × List ℕ) → slice_get vars i ≡ Some p
    → vars ≡ take i vars ++ p ∷ drop (i + 1) vars
setting_pairs_split_at_place [] i p e = absurd (cc)
setting_pairs_split_at_place (q ∷ vars) zero p e = ap (λ x. x ∷ vars) (same_Some q p e)
setting_pairs_split_at_place (q ∷ vars) (suc i) p e =
    let next : suc i + 1 ≡ suc (i + 1) = omega arith in
    ap (λ (ps : NamedTexts). q ∷ ps) (setting_pairs_split_at_place vars i p e)
    ∙ ap (λ j. q ∷ (take i vars ++ p ∷ drop j (q ∷ vars))) (sym next)

-- no key changes if the table is the same
pub edit_changes_no_key : (t : EntryTable) (keys : List Key) → keys ≡ [] → IsDeckTableChange t t keys
edit_changes_no_key t keys none =
    subst (IsDeckTableChange t t) (sym none)
    (record { lists_changed_keys = λ k. (λ never. refl, λ equal m. true≢false (sym m)); keys_distinct = tt })

-- settings with this locale and these variables
abbrev pub settings_of : List ℕ → NamedTexts → Settings
settings_of locale vars = record { locale = locale; vars = vars }

-- a deck with these lines, notices and settings
abbrev pub deck_of : List DeckLine → List (List ℕ) → Settings → DeckContents
deck_of lines notices settings = record { lines = lines; settings = settings; notices = notices }
