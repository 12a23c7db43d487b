-- What stored mentions say about a deck.
use Rattle.std.proofs.Common.{◌≡◌, ◌++◌, ◌∷◌, [], ℕ, Bool, true, List, map, reverse, Option, Some, None, refl, sym, ap}
use Rattle.std.proofs.Common.{◌∙◌, append_assoc}
use Rattle.std.specs.Prelude.{if◌then◌else◌}
use Rattle.std.specs.Str.{bytes_eq}
use Rattle.std.proofs.lemmas.List.{map-append, reverse-append, reverse-reverse}
use Rattle.std.proofs.lemmas.Slice.Eq.{bytes_eq-Decides}
use Rattle.expr_tree.specs.declared.word_list.WordKind.{WordKind}
use Rattle.expr_tree.specs.declared.word_list.WordUse.{WordUse}
use Rattle.def_entry.specs.declared.key.Key.{Key}
use Rattle.def_entry.specs.declared.key.Kind.{Kind}
use Rattle.def_entry.specs.Keys.{key}
use Rattle.deck.specs.Decks.{DeckContents}
use Rattle.deck.specs.Tables.{is_entry_present, last_definition_place, table_of_deck}
use Rattle.value_sources.specs.declared.mention.Location.{Location}
use Rattle.value_sources.specs.declared.mention.StoredMention.{StoredMention}
use Rattle.value_sources.specs.declared.resolution.Resolution.{Resolution}
use Rattle.value_sources.specs.declared.resolution.Resolution.TheVariants.{Name, Plural, Prefix, PrefixedUnit}
use Rattle.value_sources.specs.declared.row.Row.{Row as StoredRow}
use Rattle.value_sources.specs.declared.site.Site.{Site}
use Rattle.value_sources.specs.Mentions.{mention_by, mention_text, sole_mention_resolution}
use Rattle.value_sources.specs.PlacedMentions.{PlacedMention, mention_with_place, placed_mentions_to}
use Rattle.value_sources.specs.StoredMentions.{mention_key_of_place, placed_mention_in, placed_mention_list}
use Rattle.value_sources.specs.StoredMentions.{source_row_in, source_rows_in}
use Rattle.value_sources.specs.Uses.{source_use_at}
use Rattle.value_sources.proofs.Placing.{source_entry_has_place, source_key_is_at_its_place}

-- the line in force for a key defines that key
pub mention_key_in_force : (d : DeckContents) (n : Key) (o : Option ℕ) → o ≡ last_definition_place d.settings d.lines n
    → is_entry_present (table_of_deck d) n ≡ true → mention_key_of_place d o ≡ Some n
mention_key_in_force d n None e p = absurd (source_entry_has_place d n (sym e) p)
mention_key_in_force d n (Some place) e p = source_key_is_at_its_place d n place (sym e)

abbrev placed_parts : ℕ → Site → (text : List ℕ) → WordKind → Resolution → Option Key → (place : Option ℕ)
    → PlacedMention
placed_parts depth s text kind r target place = record {
  mention = record {
    depth = depth;
    site = s;
    word = record { text = text; kind = kind };
    resolution = r;
    target = target;
  };
  place = place;
}

module _ (d : DeckContents) (l : Location) (u : WordUse) (n : Key) (o : Option ℕ)
    (found : mention_key_of_place d o ≡ Some n)
    (is : o ≡ last_definition_place d.settings d.lines n) where
  -- a mention whose word is stored
  pub written_in : (r : Resolution)
      → placed_mention_in d (record { location = l; word = Some u.text; word_kind = u.kind; resolution = r; place = o })
      ≡ mention_with_place d (mention_by r l.depth (source_use_at l.site u) n)
  written_in r = λ i. placed_parts l.depth l.site u.text u.kind r (found i) (is i)

  -- a mention whose word is the name of its key
  pub named_in : bytes_eq u.text n.name ≡ true
      → placed_mention_in d (record { location = l; word = None; word_kind = u.kind; resolution = Name; place = o })
      ≡ mention_with_place d (mention_by (sole_mention_resolution u n) l.depth (source_use_at l.site u) n)
  named_in same =
      let text : mention_text None (mention_key_of_place d o) ≡ u.text =
      ap (mention_text None) found ∙ sym ((bytes_eq-Decides u.text n.name).0 same) in
      let how : Name ≡ sole_mention_resolution u n = ap (λ (b : Bool). if b then Name else Plural) (sym same) in
      λ i. placed_parts l.depth l.site (text i) u.kind (how i) (found i) (is i)

-- the mention of a key by its name is the only mention of a word that leads to this key alone
pub named_mention_is_placed : (d : DeckContents) (l : Location) (u : WordUse) (m : StoredMention) (k : Kind) (place : ℕ)
    (ns : List Key)
    → m ≡ record { location = l; word = None; word_kind = u.kind; resolution = Name; place = Some place }
    → last_definition_place d.settings d.lines (key k u.text) ≡ Some place → ns ≡ key k u.text ∷ []
    → placed_mention_in d m ∷ [] ≡ placed_mentions_to d l.depth (source_use_at l.site u) ns
named_mention_is_placed d l u m k place ns is found led =
    ap (λ (x : StoredMention). placed_mention_in d x ∷ []) is
    ∙ (ap (λ (p : PlacedMention). p ∷ [])
    (named_in d l u (key k u.text) (Some place) (source_key_is_at_its_place d (key k u.text) place found) (sym found)
    ((bytes_eq-Decides u.text u.text).1 refl))
    ∙ ap (placed_mentions_to d l.depth (source_use_at l.site u)) (sym led))

-- ---- lists of stored mentions and rows
map_reversed : {A B : Type 0} (f : A → B) (xs : List A) → map f (reverse xs) ≡ reverse (map f xs)
map_reversed f [] = refl
map_reversed {B = B} f (x ∷ xs) =
    ap (map f) (reverse-append (x ∷ []) xs)
    ∙ (map-append f (reverse xs) (x ∷ [])
    ∙ (ap (λ (ys : List B). ys ++ f x ∷ []) (map_reversed f xs) ∙ sym (reverse-append (f x ∷ []) (map f xs))))

pub mention_pushed : (d : DeckContents) (before now : List StoredMention) (m : StoredMention) → now ≡ before ++ m ∷ []
    → placed_mention_list d now ≡ placed_mention_list d before ++ placed_mention_in d m ∷ []
mention_pushed d before now m e = ap (placed_mention_list d) e ∙ map-append (placed_mention_in d) before (m ∷ [])

pub reversed_mentions_pushed : (d : DeckContents) (before now found : List StoredMention)
    → now ≡ before ++ reverse found
    → placed_mention_list d now ≡ placed_mention_list d before ++ reverse (placed_mention_list d found)
reversed_mentions_pushed d before now found e =
    ap (placed_mention_list d) e
    ∙ (map-append (placed_mention_in d) before (reverse found)
    ∙ ap (λ (ps : List PlacedMention). placed_mention_list d before ++ ps) (map_reversed (placed_mention_in d) found))

-- the mentions of an expression are pushed to an empty stack
pub first_mentions_pushed : (d : DeckContents) (empty found fresh now : List StoredMention) (all : List PlacedMention)
    → empty ≡ []
    → fresh ≡ [] → placed_mention_list d found ≡ placed_mention_list d empty ++ all → now ≡ fresh ++ reverse found
    → reverse (placed_mention_list d now) ≡ all
first_mentions_pushed d empty found fresh now all e f put pushed =
    ap (λ (ms : List StoredMention). reverse (placed_mention_list d ms))
    (pushed ∙ ap (λ (ms : List StoredMention). ms ++ reverse found) f)
    ∙ (ap reverse (map_reversed (placed_mention_in d) found)
    ∙ (reverse-reverse (placed_mention_list d found)
    ∙ (put ∙ ap (λ (ms : List StoredMention). placed_mention_list d ms ++ all) e)))

pub source_row_pushed : (d : DeckContents) (before now : List StoredRow) (r : StoredRow) → now ≡ before ++ r ∷ []
    → source_rows_in d now ≡ source_rows_in d before ++ source_row_in d r ∷ []
source_row_pushed d before now r e = ap (source_rows_in d) e ∙ map-append (source_row_in d) before (r ∷ [])

-- ---- the mentions of a word that leads nowhere, to one key, or to a prefix and a unit

pub both_mentions_pushed : (d : DeckContents) (l : Location) (u : WordUse) (n k : Key) (a b : StoredMention)
    (place other : Option ℕ) (before mid now : List PlacedMention)
    → a ≡ record { location = l; word = Some u.text; word_kind = u.kind; resolution = Prefix; place = place }
    → b ≡ record { location = l; word = Some u.text; word_kind = u.kind; resolution = PrefixedUnit; place = other }
    → place ≡ last_definition_place d.settings d.lines n → other ≡ last_definition_place d.settings d.lines k
    → is_entry_present (table_of_deck d) n ≡ true → is_entry_present (table_of_deck d) k ≡ true
    → mid ≡ before ++ placed_mention_in d a ∷ [] → now ≡ mid ++ placed_mention_in d b ∷ []
    → now ≡ before ++ placed_mentions_to d l.depth (source_use_at l.site u) (n ∷ k ∷ [])
both_mentions_pushed d l u n k a b place other before mid now is_a is_b first second has_n has_k one two =
    let at_n = mention_key_in_force d n place first has_n in
    let at_k = mention_key_in_force d k other second has_k in
    let prefix : placed_mention_in d a ≡ mention_with_place d (mention_by Prefix l.depth (source_use_at l.site u) n) =
    ap (placed_mention_in d) is_a ∙ written_in d l u n place at_n first Prefix in
    let unit : placed_mention_in d b ≡ mention_with_place d (mention_by PrefixedUnit l.depth (source_use_at l.site u) k)
    =
    ap (placed_mention_in d) is_b ∙ written_in d l u k other at_k second PrefixedUnit in
    two
    ∙ (ap (λ (ps : List PlacedMention). ps ++ placed_mention_in d b ∷ []) one
    ∙ (append_assoc before (placed_mention_in d a ∷ []) (placed_mention_in d b ∷ [])
    ∙ (λ i. before ++ prefix i ∷ unit i ∷ [])))
