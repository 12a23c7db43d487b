-- The definitions of a deck, and those of a deck made of their texts.
use Rattle.std.proofs.Common.{◌≡◌, ◌+◌, ◌++◌, ◌∷◌, [], ◌≤◌, ℕ, suc, List, Bool, true, false, if◌then◌else◌, cond}
use Rattle.std.proofs.Common.{length, map, reverse, Option, Some, None, refl, sym, ap, ◌∙◌, arith, true≢false}
use Rattle.std.specs.Option.{is_some}
use Rattle.std.proofs.lemmas.List.{map-append}
use Rattle.def_lines.specs.Blanks.{trimmed_of_blanks}
use Rattle.def_lines.specs.Kinds as line
use Rattle.def_lines.specs.Kinds.{LineKindWithArguments as LineKind, kind_of_line}
use Rattle.def_entry.specs.declared.key.Key.{Key}
use Rattle.def_entry.specs.Entries.{Entry}
use Rattle.def_entry.specs.EntryGrammar.{EntryLaw}
use Rattle.def_entry.specs.EntryReading.{has_entry}
use Rattle.deck_lines.specs.Marks.{plain_store_line}
use Rattle.deck_lines.specs.Readings.{entry_in_store_line}
use Rattle.deck_lines.specs.declared.line.DeckLine.{DeckLine}
use Rattle.deck.specs.Active.{DeckSurroundings, active_line_flags, active_lines, all_enclosing_blocks_hold}
use Rattle.deck.specs.Active.{deck_surroundings_after_kind, deck_surroundings_after_line, deck_surroundings_at_start}
use Rattle.deck.specs.Messages.{active_lines_by_flags, deck_definition_text, texts_of_deck_lines}
use Rattle.deck.specs.Tables.{active_definitions, active_definitions_from, definition_of_active_line}
use Rattle.deck.specs.Tables.{table_of_deck_definitions}
use Rattle.deck.specs.declared.settings.Settings.{Settings}
use Rattle.deck_save.proofs.LoadedLines.{plain_lines}
use Rattle.deck_save.proofs.ReadLines.{number_behind}
use Rattle.deck_save.proofs.SavedTexts.{AreGiving, saved_line_gives_definition, saved_plain_line_entry}
use Rattle.general_lemmas.proofs.Parts.{map-reverse}

-- the definitions of the lines whose flag is true, in order

abbrev pub entry_by : Bool → Option (Key × Entry) → List (Key × Entry)
entry_by active None = []
entry_by active (Some d) = if active then d ∷ [] else []

abbrev pub entries : List Bool → List DeckLine → List (Key × Entry)
entries (active ∷ flags) (x ∷ lines) = entry_by active (entry_in_store_line x) ++ entries flags lines
entries _ _ = []

-- a table has these definitions, the last one first

saved_entry_of_definition : (place : ℕ) (active : Bool) (d : Option (Key × Entry))
    → table_of_deck_definitions (definition_of_active_line place active d) ≡ entry_by active d
saved_entry_of_definition place active None = refl
saved_entry_of_definition place true (Some d) = refl
saved_entry_of_definition place false (Some d) = refl

saved_entries_of_definitions : (place : ℕ) (flags : List Bool) (lines : List DeckLine)
    → table_of_deck_definitions (active_definitions_from place flags lines) ≡ entries flags lines
saved_entries_of_definitions place [] lines = refl
saved_entries_of_definitions place (active ∷ flags) [] = refl
saved_entries_of_definitions place (active ∷ flags) (x ∷ lines) =
    map-append (λ (p : Key × (ℕ × Entry)). (p.0, p.1.1))
    (definition_of_active_line place active (entry_in_store_line x))
    (active_definitions_from (place + 1) flags lines)
    ∙ (λ i. saved_entry_of_definition place active (entry_in_store_line x) i ++ saved_entries_of_definitions
    (place + 1) flags lines i)

pub saved_table_entries : (settings : Settings) (lines : List DeckLine)
    → table_of_deck_definitions (active_definitions settings lines) ≡ reverse
    (entries (active_lines settings lines) lines)
unfolding active_definitions
saved_table_entries settings lines =
    map-reverse (λ (p : Key × (ℕ × Entry)). (p.0, p.1.1))
    (active_definitions_from 0 (active_lines settings lines) lines)
    ∙ ap reverse (saved_entries_of_definitions 0 (active_lines settings lines) lines)

-- the texts of these lines, without the blanks at their ends, give the same definitions

module _ (law : EntryLaw) (x : DeckLine) (texts : List (List ℕ)) (ds : List (Key × Entry))
    (rest : AreGiving (map trimmed_of_blanks texts) ds) where
  active_gives : (d : Option (Key × Entry)) → entry_in_store_line x ≡ d
      → AreGiving (map trimmed_of_blanks (cond (is_some d) (x.text ∷ []) [] ++ texts)) (entry_by true d ++ ds)
  active_gives None e = rest
  active_gives (Some d) e = (saved_line_gives_definition law x d e, rest)

  passive_gives : (d : Option (Key × Entry)) → AreGiving (map trimmed_of_blanks texts) (entry_by false d ++ ds)
  passive_gives None = rest
  passive_gives (Some d) = rest

pub saved_texts_give_entries : EntryLaw → (flags : List Bool) (lines : List DeckLine)
    → AreGiving (map trimmed_of_blanks (texts_of_deck_lines deck_definition_text (active_lines_by_flags flags lines)))
    (entries flags lines)
saved_texts_give_entries law [] lines = tt
saved_texts_give_entries law (active ∷ flags) [] = tt
saved_texts_give_entries law (active ∷ flags) (x ∷ lines) = go active (saved_texts_give_entries law flags lines)
  where
    go : (t : Bool) → AreGiving
        (map trimmed_of_blanks (texts_of_deck_lines deck_definition_text (active_lines_by_flags flags lines)))
        (entries flags lines)
        → AreGiving (map trimmed_of_blanks
        (texts_of_deck_lines deck_definition_text
        (cond t (x ∷ active_lines_by_flags flags lines) (active_lines_by_flags flags lines))))
        (entry_by t (entry_in_store_line x) ++ entries flags lines)
    go true rest = active_gives law x (texts_of_deck_lines deck_definition_text (active_lines_by_flags flags lines))
        (entries flags lines) rest
        (entry_in_store_line x) refl
    go false rest = passive_gives law x (texts_of_deck_lines deck_definition_text (active_lines_by_flags flags lines))
        (entries flags lines)
        rest
        (entry_in_store_line x)

-- there are at most as many texts as lines

saved_texts_one_more : (x : DeckLine) (texts : List (List ℕ)) → length (deck_definition_text x ++ texts) ≤ suc
    (length texts)
saved_texts_one_more x texts = go (is_some (entry_in_store_line x))
  where
    go : (t : Bool) → length (cond t (x.text ∷ []) [] ++ texts) ≤ suc (length texts)
    go true = omega arith
    go false = omega arith

pub saved_texts_count : (flags : List Bool) (lines : List DeckLine)
    → length (texts_of_deck_lines deck_definition_text (active_lines_by_flags flags lines)) ≤
    length lines
saved_texts_count [] lines = omega arith
saved_texts_count (active ∷ flags) [] = omega arith
saved_texts_count (active ∷ flags) (x ∷ lines) = go active (saved_texts_count flags lines)
  where
    go : (t : Bool) → length (texts_of_deck_lines deck_definition_text (active_lines_by_flags flags lines)) ≤ length
        lines
        → length (texts_of_deck_lines deck_definition_text
        (cond t (x ∷ active_lines_by_flags flags lines) (active_lines_by_flags flags lines))) ≤ suc
        (length lines)
    go true rest = omega (
      arith,
      rest,
      saved_texts_one_more x
          (texts_of_deck_lines deck_definition_text (active_lines_by_flags flags lines)),
    )
    go false rest = omega (arith, rest)

-- a deck made of such texts

saved_kind_keeps_surroundings : (locale : List ℕ) (around : DeckSurroundings) (kind : LineKind) → has_entry kind ≡ true
    → deck_surroundings_after_kind locale around kind ≡ around
saved_kind_keeps_surroundings locale around line.Definition has = refl
saved_kind_keeps_surroundings locale around line.UnitList has = refl
saved_kind_keeps_surroundings locale around _ has = absurd (true≢false (sym has))

saved_line_keeps_surroundings : (locale : List ℕ) (around : DeckSurroundings) (n : ℕ) (text : List ℕ)
    → has_entry (kind_of_line text) ≡ true
    → deck_surroundings_after_line locale around (plain_store_line n text) ≡ around
unfolding deck_surroundings_after_line
saved_line_keeps_surroundings locale around n text has = saved_kind_keeps_surroundings locale around (kind_of_line text)
    has

-- each of its lines is active
saved_lines_are_active : (locale : List ℕ) (around : DeckSurroundings) (n : ℕ) (texts : List (List ℕ))
    (ds : List (Key × Entry))
    → all_enclosing_blocks_hold around ≡ true → AreGiving texts ds
    → active_line_flags locale around (plain_lines n texts) ≡ map (λ t. true) texts
saved_lines_are_active locale around n [] ds holds give = refl
saved_lines_are_active locale around n (text ∷ texts) [] holds give = absurd give
saved_lines_are_active locale around n (text ∷ texts) (d ∷ ds) holds give =
    ap (λ (a : DeckSurroundings). all_enclosing_blocks_hold around ∷ active_line_flags locale a
    (plain_lines (number_behind n text) texts))
    (saved_line_keeps_surroundings locale around n text give.0.has)
    ∙ (λ i. holds i ∷ saved_lines_are_active locale around (number_behind n text) texts ds holds give.1 i)

-- each of its lines defines its key
saved_lines_are_defined : (n : ℕ) (texts : List (List ℕ)) (ds : List (Key × Entry)) → AreGiving texts ds
    → entries (map (λ t. true) texts) (plain_lines n texts) ≡ ds
saved_lines_are_defined n [] [] give = refl
saved_lines_are_defined n [] (d ∷ ds) give = absurd give
saved_lines_are_defined n (text ∷ texts) [] give = absurd give
saved_lines_are_defined n (text ∷ texts) (d ∷ ds) give =
    (λ i. entry_by true (saved_plain_line_entry n text d give.0.reading i) ++ saved_lines_are_defined
    (number_behind n text) texts ds give.1 i)

saved_lines_have_texts : (n : ℕ) (texts : List (List ℕ)) (ds : List (Key × Entry)) → AreGiving texts ds
    → texts_of_deck_lines deck_definition_text (active_lines_by_flags (map (λ t. true) texts) (plain_lines n texts))
    ≡ texts
saved_lines_have_texts n [] ds give = refl
saved_lines_have_texts n (text ∷ texts) [] give = absurd give
saved_lines_have_texts n (text ∷ texts) (d ∷ ds) give =
    (λ i. cond (is_some (saved_plain_line_entry n text d give.0.reading i)) (text ∷ []) [] ++ saved_lines_have_texts
    (number_behind n text)
    texts ds give.1 i)

module _ (settings : Settings) (n : ℕ) (texts : List (List ℕ)) (ds : List (Key × Entry)) (give : AreGiving texts ds)
  where
    flags_are : active_lines settings (plain_lines n texts) ≡ map (λ t. true) texts
    flags_are = saved_lines_are_active settings.locale (deck_surroundings_at_start settings) n texts ds refl give

    pub loaded_entries : entries (active_lines settings (plain_lines n texts)) (plain_lines n texts) ≡ ds
    loaded_entries = ap (λ (f : List Bool). entries f (plain_lines n texts)) flags_are
        ∙ saved_lines_are_defined n texts ds give

    pub loaded_texts : texts_of_deck_lines deck_definition_text
        (active_lines_by_flags (active_lines settings (plain_lines n texts)) (plain_lines n texts)) ≡ texts
    loaded_texts = ap (λ (f : List Bool). texts_of_deck_lines deck_definition_text
        (active_lines_by_flags f (plain_lines n texts))) flags_are
        ∙ saved_lines_have_texts n texts ds give
