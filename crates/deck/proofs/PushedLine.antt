-- Appending a line to a deck.
use Rattle.std.proofs.Common.{◌≡◌, ◌++◌, ◌∷◌, ◌+◌, ◌&&◌, [], ℕ, suc, List, Bool, true, false, not, cond, length, refl}
use Rattle.std.proofs.Common.{ap, ◌∙◌, arith, Some, None, reverse}
use Rattle.std.proofs.lemmas.List.{reverse-append, nil_from_length}
use Rattle.std.proofs.lemmas.Option.{same_Some}
use Rattle.std.specs.Option.{option_and_then}
use Rattle.units_io.specs.NamedValues.{NamedTexts}
use Rattle.def_lines.specs.Kinds.{LineKindWithArguments, kind_of_line}
use Rattle.def_lines.specs.Kinds as line
use Rattle.def_entry.specs.declared.key.Key.{Key}
use Rattle.def_entry.specs.Entries.{Entry}
use Rattle.deck.specs.Active.{DeckSurroundings, active_line_flags, active_lines, is_active_line}
use Rattle.deck.specs.Active.{all_enclosing_blocks_hold, deck_surroundings_after_line, deck_surroundings_after_lines}
use Rattle.deck.specs.Active.{deck_surroundings_after_kind, deck_surroundings_at_start, outer_enclosing_flags}
use Rattle.deck_lines.specs.Blocks.{block_role_of_kind, same_block_ending}
use Rattle.deck_lines.specs.ClosedBlocks.{blocks_without, blocks_past_role, blocks_past, blocks_after, AreBlocksClosed}
use Rattle.deck_lines.specs.Readings.{defined_by, entry_in_store_line, store_line_reading_by_kind}
use Rattle.deck_lines.specs.Readings.{store_line_reading_of}
use Rattle.deck_lines.proofs.ClosedFile.{blocks_after-append}
use Rattle.deck.specs.Tables.{active_definitions, active_definitions_from, definition_of_active_line}
use Rattle.deck.proofs.LastPlaceSteps.{active_definitions_from-append}
use Rattle.deck.proofs.ActiveLineFlags.{length-active_line_flags}
use Rattle.deck_lines.specs.declared.line.DeckLine.{DeckLine}
use Rattle.deck_lines.specs.declared.line.Ending.{Ending}
use Rattle.deck_lines.specs.declared.line.Ending.TheVariants.{ByLocale, ByVar, ByUtf8}
use Rattle.deck_lines.specs.declared.line.Role.TheVariants.{Inside}
use Rattle.deck.specs.declared.settings.Settings.{Settings}
use Rattle.general_lemmas.proofs.Options.{and_then_pair}

-- the flags of concatenated lines are those of the first part and then those of the second part in the state after the
-- first
active_line_flags-append : (locale : List ℕ) (place : DeckSurroundings) (xs ys : List DeckLine)
    → active_line_flags locale place (xs ++ ys) ≡ active_line_flags locale place xs ++ active_line_flags locale
    (deck_surroundings_after_lines locale place xs) ys
active_line_flags-append locale place [] ys = refl
active_line_flags-append locale place (x ∷ xs) ys =
    ap (λ t. is_active_line place x ∷ t)
    (active_line_flags-append locale (deck_surroundings_after_line locale place x) xs ys)

-- without the innermost block, there is one block fewer
outer_enclosing_flags_length : (hs : List Bool) (n : ℕ) → length hs ≡ suc n → length (outer_enclosing_flags hs) ≡ n
outer_enclosing_flags_length [] n h = absurd (omega arith)
outer_enclosing_flags_length (b ∷ hs) n h = omega arith

-- setting a variable does not change which blocks hold
setting_keeps_enclosing_blocks : (c : Bool) (place : DeckSurroundings) (vars : NamedTexts)
    → (cond c (record place { vars = vars }) place).conditions ≡ place.conditions
setting_keeps_enclosing_blocks true place vars = refl
setting_keeps_enclosing_blocks false place vars = refl

-- closing a block leaves an entry for each block that is still open
enclosing_flags_of_closed_block : (ending : Ending) (bs cs : List Ending) (hs : List Bool)
    → blocks_without ending bs ≡ Some cs
    → length hs ≡ length bs → length (outer_enclosing_flags hs) ≡ length cs
enclosing_flags_of_closed_block ending [] cs hs e h = cc
enclosing_flags_of_closed_block ending (b ∷ bs) cs hs e h = by (same_block_ending ending b) e
  where
    by : (t : Bool) → cond t (Some bs) None ≡ Some cs → length (outer_enclosing_flags hs) ≡ length cs
    by true g = outer_enclosing_flags_length hs (length bs) h ∙ ap length (same_Some bs cs g)
    by false g = cc

-- after a line of this kind, the state has an entry for each open block
enclosing_flags_after_kind : (locale : List ℕ) (place : DeckSurroundings) (bs cs : List Ending)
    (kind : LineKindWithArguments)
    → blocks_past_role bs (block_role_of_kind kind) ≡ Some cs → length place.conditions ≡ length bs
    → length (deck_surroundings_after_kind locale place kind).conditions ≡ length cs
enclosing_flags_after_kind locale place bs cs (line.Locale l) e h = ap suc h ∙ ap length (same_Some _ cs e)
enclosing_flags_after_kind locale place bs cs (line.Var v vs) e h = ap suc h ∙ ap length (same_Some _ cs e)
enclosing_flags_after_kind locale place bs cs (line.VarNot v vs) e h = ap suc h ∙ ap length (same_Some _ cs e)
enclosing_flags_after_kind locale place bs cs line.Utf8 e h = ap suc h ∙ ap length (same_Some _ cs e)
enclosing_flags_after_kind locale place bs cs line.EndLocale e h = enclosing_flags_of_closed_block ByLocale bs cs
    place.conditions e h
enclosing_flags_after_kind locale place bs cs line.EndVar e h = enclosing_flags_of_closed_block ByVar bs cs
    place.conditions e h
enclosing_flags_after_kind locale place bs cs line.EndUtf8 e h = enclosing_flags_of_closed_block ByUtf8 bs cs
    place.conditions e h
enclosing_flags_after_kind locale place bs cs (line.Set v x) e h = ap length (setting_keeps_enclosing_blocks _ place _)
    ∙ h ∙ ap length (same_Some bs cs e)
enclosing_flags_after_kind locale place bs cs line.Blank e h = h ∙ ap length (same_Some bs cs e)
enclosing_flags_after_kind locale place bs cs line.Definition e h = h ∙ ap length (same_Some bs cs e)
enclosing_flags_after_kind locale place bs cs (line.Include name) e h = h ∙ ap length (same_Some bs cs e)
enclosing_flags_after_kind locale place bs cs (line.Message t) e h = h ∙ ap length (same_Some bs cs e)
enclosing_flags_after_kind locale place bs cs line.Prompt e h = h ∙ ap length (same_Some bs cs e)
enclosing_flags_after_kind locale place bs cs line.UnitList e h = h ∙ ap length (same_Some bs cs e)
enclosing_flags_after_kind locale place bs cs line.UnknownDirective e h = h ∙ ap length (same_Some bs cs e)
enclosing_flags_after_kind locale place bs cs line.BadDirective e h = h ∙ ap length (same_Some bs cs e)

-- after a line, the state has an entry for each open block
enclosing_flags_after_line : (locale : List ℕ) (place : DeckSurroundings) (bs cs : List Ending) (x : DeckLine)
    → blocks_past bs x ≡ Some cs
    → length place.conditions ≡ length bs → length (deck_surroundings_after_line locale place x).conditions ≡ length cs
unfolding blocks_past deck_surroundings_after_line
enclosing_flags_after_line locale place bs cs x e h = by x.mark e
  where
    by : (m : Bool) → cond m (Some bs) (blocks_past_role bs (block_role_of_kind (kind_of_line x.text))) ≡ Some cs
        → length (cond m place (deck_surroundings_after_kind locale place (kind_of_line x.text))).conditions ≡ length cs
    by true g = h ∙ ap length (same_Some bs cs g)
    by false g = enclosing_flags_after_kind locale place bs cs (kind_of_line x.text) g h

-- after some lines, the state has an entry for each open block
enclosing_flags_after_lines : (locale : List ℕ) (lines : List DeckLine) (place : DeckSurroundings) (bs cs : List Ending)
    → blocks_after bs lines ≡ Some cs → length place.conditions ≡ length bs
    → length (deck_surroundings_after_lines locale place lines).conditions ≡ length cs
enclosing_flags_after_lines locale [] place bs cs e h = h ∙ ap length (same_Some bs cs e)
enclosing_flags_after_lines locale (x ∷ lines) place bs cs e h =
    let p = and_then_pair (λ now. blocks_after now lines) (blocks_past bs x) cs e in
    enclosing_flags_after_lines locale lines (deck_surroundings_after_line locale place x) p.0 cs p.2
    (enclosing_flags_after_line locale place bs p.0 x p.1 h)

-- after a closed deck no block is open
no_enclosing_block_after_deck : (settings : Settings) (lines : List DeckLine) → AreBlocksClosed lines
    → (deck_surroundings_after_lines settings.locale (deck_surroundings_at_start settings) lines).conditions ≡ []
no_enclosing_block_after_deck settings lines closed =
    nil_from_length _ (enclosing_flags_after_lines settings.locale lines (deck_surroundings_at_start settings) [] []
    closed refl)

-- a line that defines a key has no mark
pub defining_deck_line_has_no_mark : (x : DeckLine) (e : Key × Entry) → entry_in_store_line x ≡ Some e → x.mark ≡ false
unfolding entry_in_store_line
defining_deck_line_has_no_mark x e h = by x.mark h
  where
    by : (m : Bool) → cond m None (defined_by (store_line_reading_of x.text)) ≡ Some e → m ≡ false
    by true g = cc
    by false g = refl

-- a line of a kind that defines a key opens and closes no block
defining_kind_encloses_nothing : (text : List ℕ) (e : Key × Entry) (kind : LineKindWithArguments)
    → defined_by (store_line_reading_by_kind text kind) ≡ Some e
    → block_role_of_kind kind ≡ Inside
defining_kind_encloses_nothing text e line.Definition h = refl
defining_kind_encloses_nothing text e line.UnitList h = refl
defining_kind_encloses_nothing text e (line.Include n) h = refl
defining_kind_encloses_nothing text e line.UnknownDirective h = refl
defining_kind_encloses_nothing text e line.BadDirective h = refl
defining_kind_encloses_nothing text e (line.Locale l) h = cc
defining_kind_encloses_nothing text e (line.Var v vs) h = cc
defining_kind_encloses_nothing text e (line.VarNot v vs) h = cc
defining_kind_encloses_nothing text e line.Utf8 h = cc
defining_kind_encloses_nothing text e line.EndLocale h = cc
defining_kind_encloses_nothing text e line.EndVar h = cc
defining_kind_encloses_nothing text e line.EndUtf8 h = cc
defining_kind_encloses_nothing text e line.Blank h = refl
defining_kind_encloses_nothing text e (line.Set v x) h = refl
defining_kind_encloses_nothing text e (line.Message t) h = refl
defining_kind_encloses_nothing text e line.Prompt h = refl

-- a line that defines a key opens and closes no block
pub defining_line_encloses_nothing : (x : DeckLine) (e : Key × Entry) → entry_in_store_line x ≡ Some e
    → block_role_of_kind (kind_of_line x.text) ≡ Inside
unfolding entry_in_store_line store_line_reading_of
defining_line_encloses_nothing x e h = by x.mark h
  where
    by : (m : Bool) → cond m None (defined_by (store_line_reading_by_kind x.text (kind_of_line x.text))) ≡ Some e
        → block_role_of_kind (kind_of_line x.text) ≡ Inside
    by true g = cc
    by false g = defining_kind_encloses_nothing x.text e (kind_of_line x.text) g

module _ (settings : Settings) (lines : List DeckLine) (closed : AreBlocksClosed lines) (x : DeckLine) (e : Key × Entry)
    (defines : entry_in_store_line x ≡ Some e) where
  pub closed_push : AreBlocksClosed (lines ++ x ∷ [])
  unfolding blocks_past
  closed_push =
      blocks_after-append lines (x ∷ []) [] [] closed
      ∙ ap (λ m. option_and_then (λ now. blocks_after now [])
      (cond m (Some []) (blocks_past_role [] (block_role_of_kind (kind_of_line x.text)))))
      (defining_deck_line_has_no_mark x e defines)
      ∙ ap (λ r. option_and_then (λ now. blocks_after now []) (blocks_past_role [] r))
      (defining_line_encloses_nothing x e defines)

  active_push : is_active_line
      (deck_surroundings_after_lines settings.locale (deck_surroundings_at_start settings) lines) x ≡ true
  active_push = ap (λ m. not m && all_enclosing_blocks_hold
      (deck_surroundings_after_lines settings.locale (deck_surroundings_at_start settings) lines))
      (defining_deck_line_has_no_mark x e defines)
      ∙ ap (λ (hs : List Bool). all_enclosing_blocks_hold (record { conditions = hs; vars = [] }))
      (no_enclosing_block_after_deck settings lines closed)

  last_one : (n : ℕ) (active : Bool) → active ≡ true → definition_of_active_line n active (entry_in_store_line x)
      ++ [] ≡ (e.0, (n, e.1)) ∷ []
  last_one n active h = ap (λ a. definition_of_active_line n a (entry_in_store_line x) ++ []) h
      ∙ ap (λ o. definition_of_active_line n true o ++ []) defines

  -- the definition of the appended line comes before all others
  pub placed_push : active_definitions settings (lines ++ x ∷ []) ≡ (e.0, (length lines, e.1)) ∷ active_definitions
      settings lines
  unfolding active_definitions
  placed_push =
      let flags = active_lines settings lines in
      let place = deck_surroundings_after_lines settings.locale (deck_surroundings_at_start settings) lines in
      ap (λ fs. reverse (active_definitions_from 0 fs (lines ++ x ∷ [])))
      (active_line_flags-append settings.locale (deck_surroundings_at_start settings) lines (x ∷ []))
      ∙ ap reverse (active_definitions_from-append 0 flags (is_active_line place x ∷ []) lines (x ∷ [])
      (length-active_line_flags settings.locale (deck_surroundings_at_start settings) lines))
      ∙ ap (λ t. reverse (active_definitions_from 0 flags lines ++ t))
      (last_one (0 + length lines) (is_active_line place x) active_push)
      ∙ ap (λ n. reverse (active_definitions_from 0 flags lines ++ (e.0, (n, e.1)) ∷ [])) (zero_plus (length lines))
      ∙ reverse-append (active_definitions_from 0 flags lines) ((e.0, (length lines, e.1)) ∷ [])
    where
      zero_plus : (n : ℕ) → 0 + n ≡ n
      zero_plus n = omega arith
