-- The rows of the units among keys, place by place.
use Rattle.std.proofs.Common.{◌≡◌, ◌∙◌, ◌++◌, ℕ, ap, refl, subst, sym, Bool, true, false, List, [], ◌∷◌, if◌then◌else◌}
use Rattle.std.specs.Prelude.{OnOk, Option, Some, None, option_map, Result, Ok, Err}
use Rattle.std.specs.declared.alloc.AllocError.{AllocError}
use Rattle.std.specs.List.{cons_option, flat_map}
use Rattle.std.proofs.lemmas.List.{append-nil}
use Rattle.def_entry.specs.declared.key.Key.{Key}
use Rattle.def_entry.specs.declared.key.Kind.{Kind}
use Rattle.def_entry.specs.declared.key.Kind.TheVariants as kind
use Rattle.def_entry.specs.SameKeys.{is_same_key_kind}
use Rattle.quantity.specs.Amount.{Amount}
use Rattle.expr_tree.specs.Syntax.{Syntax, Word}
use Rattle.deck.specs.Decks.{DeckContents}
use Rattle.deck.specs.KeyLists.{deck_keys_of_kind}
use Rattle.deck.specs.PlacedKeys.{deck_key_at_place, deck_keys_at_places}
use Rattle.deck.specs.Tables.{EntryTable, table_of_deck}
use Rattle.live_table.specs.declared.fault.QueryFault.{QueryFault}
use Rattle.live_table.specs.declared.fault.QueryFault.TheVariants.{OutOfMemory}
use Rattle.live_table.specs.Calls.{AreLiveQueries}
use Rattle.live_table.specs.TableView.{IsAfterLiveEvents, IsRightLiveView, LiveView}
use Rattle.live_table.proofs.QuerySequence.{no_live_events_keep_view}
use Rattle.reply.specs.declared.fault.ReplyFault.{ReplyFault}
use Rattle.reply.specs.Calls.{IsInquiryAnswered, inquiry_identity, inquiry_result}
use Rattle.reply.specs.Inquiries.{inquiry_answer, tree_value}
use Rattle.survey.specs.Conformable.{conforming_row, is_conformable_result, value_of_unit}
use Rattle.survey.specs.Places.{conformable_unit_at_place, conformable_unit_key, search_hits_of_key}
use Rattle.survey.specs.Rows.{search_hit_row_of_key}
use Rattle.survey.proofs.Findings.{are-made, is-answer}
use Rattle.survey.proofs.Places.{row_at, unit_queries_at}

-- what the units among the keys at places give is what the places give, one after another
pub conformable-units-of-each-place : {A : Type 0} (f : Key → List A) (deck : DeckContents) (places : List ℕ)
    → flat_map f (deck_keys_of_kind kind.Unit (deck_keys_at_places deck.lines places))
    ≡ flat_map (λ place. search_hits_of_key f (conformable_unit_at_place deck place)) places
conformable-units-of-each-place f deck [] = refl
conformable-units-of-each-place {A} f deck (p ∷ ps) = go (deck_key_at_place deck.lines p)
    (conformable-units-of-each-place f deck ps)
  where
    others : List Key
    others = deck_keys_at_places deck.lines ps

    rest : List A
    rest = flat_map (λ place. search_hits_of_key f (conformable_unit_at_place deck place)) ps

    by : (k : Key) (b : Bool) → flat_map f (deck_keys_of_kind kind.Unit others) ≡ rest
        → flat_map f (if b then k ∷ deck_keys_of_kind kind.Unit others else deck_keys_of_kind kind.Unit others)
        ≡ search_hits_of_key f (if b then Some k else None) ++ rest
    by k true e = ap (λ (xs : List A). f k ++ xs) e
    by k false e = e

    go : (o : Option Key) → flat_map f (deck_keys_of_kind kind.Unit others) ≡ rest
        → flat_map f (deck_keys_of_kind kind.Unit (cons_option o others)) ≡ search_hits_of_key f
        (conformable_unit_key o) ++ rest
    go None e = e
    go (Some k) e = by k (is_same_key_kind kind.Unit k.kind) e

-- if a key is found as a unit, it is that key
conformable-unit-is-its-key : (o : Option Key) (k : Key) → conformable_unit_key o ≡ Some k → o ≡ Some k
conformable-unit-is-its-key None k e = cc
conformable-unit-is-its-key (Some j) k e = by (is_same_key_kind kind.Unit j.kind) e
  where
    by : (b : Bool) → (if b then Some j else None) ≡ Some k → Some j ≡ Some k
    by true e = e
    by false e = cc

-- the word of a key that is a unit
pub conformable-unit-has-its-word : (k : Key) (o : Option Key) (tree : Syntax) → k.kind ≡ kind.Unit → Some k ≡ o
    → tree ≡ Word k.name
    → Some tree ≡ option_map (λ k. Word k.name) (conformable_unit_key o)
conformable-unit-has-its-word k o tree unit there is =
    ap Some is
    ∙ ap (λ (c : Kind). option_map (λ k. Word k.name) (if is_same_key_kind kind.Unit c then Some k else None))
    (sym unit)
    ∙ ap (λ (o : Option Key). option_map (λ k. Word k.name) (conformable_unit_key o)) there

-- any other key has no word
pub nonunit-has-no-conformable-word : (k : Key) (o : Option Key) → (k.kind ≡ kind.Unit → ⊥) → Some k ≡ o
    → None ≡ option_map (λ k. Word k.name) (conformable_unit_key o)
nonunit-has-no-conformable-word k o other there =
    go k.kind other ∙ ap (λ (o : Option Key). option_map (λ k. Word k.name) (conformable_unit_key o)) there
  where
    go : (c : Kind) → (c ≡ kind.Unit → ⊥)
        → None ≡ option_map (λ k. Word k.name) (if is_same_key_kind kind.Unit c then Some k else None)
    go kind.Unit h = absurd (h refl)
    go kind.Prefix h = refl
    go kind.Func h = refl
    go kind.List h = refl

-- if there is the word of a unit, there is the unit
conformable-unit-of-its-word : (tree : Syntax) (o : Option Key) → Some tree ≡ option_map (λ k. Word k.name) o
    → (k : Key) × ((o ≡ Some k) × (tree ≡ Word k.name))
conformable-unit-of-its-word tree None e = cc
conformable-unit-of-its-word tree (Some k) e = (k, (refl, cc))

-- if there is no word of a unit, there is no unit
no-conformable-unit-without-word : (o : Option Key) → None ≡ option_map (λ k. Word k.name) o → o ≡ None
no-conformable-unit-without-word None e = refl
no-conformable-unit-without-word (Some k) e = cc

-- the case of a place without the word of a unit
module _ (deck : DeckContents) (place : ℕ)
    (none : None ≡ option_map (λ k. Word k.name) (conformable_unit_at_place deck place)) where
  -- there is no row
  pub no-row : (from : Amount) (rows : List ℕ) → rows ≡ rows ++ row_at deck from place
  no-row from rows =
      sym (append-nil rows)
      ∙ ap (λ (o : Option Key). rows ++ search_hits_of_key (conforming_row (table_of_deck deck) from) o)
      (sym (no-conformable-unit-without-word (conformable_unit_at_place deck place) none))

  -- no query is made
  pub no-query : (a : LiveView) (n : ℕ) → IsRightLiveView a → IsAfterLiveEvents (unit_queries_at deck place) a a n n
  no-query a n right =
      subst (λ (o : Option Key).
      IsAfterLiveEvents (search_hits_of_key (λ k. (value_of_unit (table_of_deck deck) k).events) o) a a n n)
      (sym (no-conformable-unit-without-word (conformable_unit_at_place deck place) none))
      (no_live_events_keep_view a n right)

module _ (deck : DeckContents) (place : ℕ) (a b : LiveView) (n l : ℕ) (found : Result Amount QueryFault)
    (q : Result (Unit {0}) AllocError) (memory : OnOk q (found ≡ Err OutOfMemory → ⊥)) where
  -- the result found is the answer for the value of a tree
  abbrev finds : Syntax → Type 0
  finds tree = IsInquiryAnswered inquiry_identity (tree_value (table_of_deck deck) tree) (inquiry_result found) a b n l

  key-asked : (k : Key) → conformable_unit_at_place deck place ≡ Some k → finds (Word k.name) → b.deck ≡ a.deck
      → AreLiveQueries (unit_queries_at deck place) q a b n l
  key-asked k there h same_deck =
      subst (λ (o : Option Key).
      AreLiveQueries (search_hits_of_key (λ k. (value_of_unit (table_of_deck deck) k).events) o)
      q a b n l)
      (sym there)
      (are-made (value_of_unit (table_of_deck deck) k) a b n l found same_deck h q memory)

  -- the word of the unit was queried, whether or not memory ran out afterwards
  pub word-asked : (tree : Syntax) → Some tree ≡ option_map (λ k. Word k.name) (conformable_unit_at_place deck place)
      → finds tree
      → b.deck ≡ a.deck → AreLiveQueries (unit_queries_at deck place) q a b n l
  word-asked tree is h same_deck =
      let u = conformable-unit-of-its-word tree (conformable_unit_at_place deck place) is in
      key-asked u.0 u.1.0 (subst finds u.1.1 h) same_deck

-- a row, if the value of a unit conforms
abbrev if-conforming : Amount → EntryTable → Key → List ℕ → List ℕ
if-conforming from t k row = if is_conformable_result from (value_of_unit t k).answer then row else []

-- the result found conforms exactly if the value of the unit does
conformable-key-by-unit-value : (from : Amount) (deck : DeckContents) (place : ℕ) (k : Key)
    → conformable_unit_at_place deck place ≡ Some k
    → (a b : LiveView) (n l : ℕ) (found : Result Amount QueryFault)
    → IsInquiryAnswered inquiry_identity (value_of_unit (table_of_deck deck) k) (inquiry_result found) a b n l
    → (seen : DeckContents) → seen ≡ deck → (before after : List ℕ) (q : Result (Unit {0}) AllocError)
    → OnOk q (after ≡ before ++ (if is_conformable_result from (inquiry_answer found)
    then search_hits_of_key (search_hit_row_of_key (table_of_deck seen)) (deck_key_at_place seen.lines place) else []))
    → OnOk q (found ≡ Err OutOfMemory → ⊥) → OnOk q (after ≡ before ++ row_at deck from place)
conformable-key-by-unit-value from deck place k there a b n l found h seen is before after (Err e) row memory = tt
conformable-key-by-unit-value from deck place k there a b n l found h seen is before after (Ok u) row memory =
    row
    ∙ ap (λ (x : Result Amount ReplyFault). before ++ (if is_conformable_result from x
    then search_hits_of_key (search_hit_row_of_key (table_of_deck seen)) (deck_key_at_place seen.lines place) else []))
    (sym (is-answer (value_of_unit (table_of_deck deck) k) a b n l found memory h))
    ∙ ap (λ (d : DeckContents). before
    ++ if-conforming from (table_of_deck deck) k
    (search_hits_of_key (search_hit_row_of_key (table_of_deck d)) (deck_key_at_place d.lines place))) is
    ∙ ap (λ (o : Option Key). before ++ if-conforming from (table_of_deck deck) k
    (search_hits_of_key (search_hit_row_of_key (table_of_deck deck)) o))
    (conformable-unit-is-its-key (deck_key_at_place deck.lines place) k there)
    ∙ ap (λ (o : Option Key). before ++ search_hits_of_key (conforming_row (table_of_deck deck) from) o) (sym there)

-- the result found conforms exactly if the value of the unit does, given the word of the unit
pub conformable-word-by-unit-value : (from : Amount) (deck : DeckContents) (place : ℕ) (tree : Syntax)
    → Some tree ≡ option_map (λ k. Word k.name) (conformable_unit_at_place deck place)
    → (a b : LiveView) (n l : ℕ) (found : Result Amount QueryFault)
    → IsInquiryAnswered inquiry_identity (tree_value (table_of_deck deck) tree) (inquiry_result found) a b n l
    → (seen : DeckContents) → seen ≡ deck → (before after : List ℕ) (q : Result (Unit {0}) AllocError)
    → OnOk q (after ≡ before ++ (if is_conformable_result from (inquiry_answer found)
    then search_hits_of_key (search_hit_row_of_key (table_of_deck seen)) (deck_key_at_place seen.lines place) else []))
    → OnOk q (found ≡ Err OutOfMemory → ⊥) → OnOk q (after ≡ before ++ row_at deck from place)
conformable-word-by-unit-value from deck place tree word a b n l found h =
    let u = conformable-unit-of-its-word tree (conformable_unit_at_place deck place) word in
    conformable-key-by-unit-value from deck place u.0 u.1.0 a b n l found
    (subst (λ (t : Syntax). IsInquiryAnswered inquiry_identity (tree_value (table_of_deck deck) t)
    (inquiry_result found) a b n l) u.1.1 h)
