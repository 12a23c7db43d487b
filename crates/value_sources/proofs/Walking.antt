-- The steps of a walk.
use Rattle.std.proofs.Common.{◌≡◌, ◌++◌, ◌∷◌, ◌+◌, [], ℕ, Bool, true, false, List, reverse, Contains, map, set, Option}
use Rattle.std.proofs.Common.{Result, Ok, Err, IfOk, Some, None, refl, sym, ap, subst, ◌∙◌, inl, inr, append_assoc}
use Rattle.std.specs.List.{cons_option}
use Rattle.std.proofs.lemmas.List.{append-nil, length-set, map-append, reverse-append}
use Rattle.std.proofs.lemmas.List.Elements.{Contains-append_cases}
use Rattle.expr_tree.specs.declared.word_list.WordUse.{WordUse}
use Rattle.def_entry.specs.declared.key.Key.{Key}
use Rattle.def_entry.specs.SameKeys.{is_entry_key_among}
use Rattle.deck.specs.Decks.{DeckContents}
use Rattle.deck.specs.Tables.{is_entry_present, last_definition_place, table_of_deck}
use Rattle.name_lookup.specs.Laws.{LookupTargetsLaw}
use Rattle.table_names.specs.Leads.{TableWordsLeadTo, table_word_targets}
use Rattle.value_sources.specs.PlacedMentions.{PlacedMention, IsMentionFound, IsMentionPlacedRight}
use Rattle.value_sources.specs.PlacedMentions.{mention_target_place, placed_mentions, placed_mentions_to}
use Rattle.value_sources.specs.PlacedMentions.{mention_with_place}
use Rattle.value_sources.specs.declared.site.Site.TheVariants.{Expression}
use Rattle.value_sources.specs.Mentions.{Mention, mentions, mentions_to}
use Rattle.value_sources.specs.Rows.{AreSourceRows, Finished, Skipped, SourceRow, Visited, first_mentions}
use Rattle.value_sources.specs.Rows.{is_key_visit_skipped, skipped_source_row}
use Rattle.value_sources.specs.Rows.{visited_key, visited_keys, visited_source_row}
use Rattle.value_sources.specs.Uses.{SourceUse, key_source_uses, source_uses_at}
use Rattle.value_sources.specs.Visits.{IsUnvisitedKeyPlace, unmarked_mention_place}
use Rattle.value_sources.specs.Walks.{AreSourceRowsUnderway, AreVisitedKeysMarked}
use Rattle.value_sources.proofs.Members.{entry_mentions_cases, first_mentions_cases}
use Rattle.value_sources.proofs.Marking.{visited_key_is_marked_next}
use Rattle.value_sources.proofs.Placing.{unmarked_place_is_unvisited_key}
use Rattle.general_lemmas.proofs.Members.{member_first, member_later, map_member, map_cases, flat_cases}

-- the keys that rows and one more row visit
visited_keys_push : (rows : List SourceRow) (r : SourceRow)
    → visited_keys (rows ++ r ∷ []) ≡ visited_keys rows ++ cons_option (visited_key r) []
visited_keys_push [] r = refl
visited_keys_push (x ∷ rows) r = by (visited_key x) (visited_keys_push rows r)
  where
    by : (o : Option Key) → visited_keys (rows ++ r ∷ []) ≡ visited_keys rows ++ cons_option (visited_key r) []
        → cons_option o (visited_keys (rows ++ r ∷ [])) ≡ cons_option o (visited_keys rows) ++ cons_option
        (visited_key r) []
    by None h = h
    by (Some k) h = ap (λ (ks : List Key). k ∷ ks) h

visited_keys_after_skipped_row : (rows : List SourceRow) (m : Mention)
    → visited_keys (rows ++ skipped_source_row m ∷ []) ≡ visited_keys rows
visited_keys_after_skipped_row rows m = visited_keys_push rows (skipped_source_row m) ∙ append-nil (visited_keys rows)

visited_keys_after_visited_row : (rows : List SourceRow) (m : Mention) (n : Key) → m.target ≡ Some n
    → visited_keys (rows ++ visited_source_row m ∷ []) ≡ visited_keys rows ++ n ∷ []
visited_keys_after_visited_row rows m n e =
    visited_keys_push rows (visited_source_row m) ∙ ap (λ (o : Option Key). visited_keys rows ++ cons_option o []) e

-- the keys that words, and so mentions, lead to have entries
mention_leads_are_found : LookupTargetsLaw → (d : DeckContents) (words : List WordUse) (n : Key)
    → TableWordsLeadTo (table_of_deck d) words n
    → is_entry_present (table_of_deck d) n ≡ true
mention_leads_are_found law d words n (u, i, t) = (law (is_entry_present (table_of_deck d)) u.kind u.text n t).1

pub entry_mentions_are_found : LookupTargetsLaw → (d : DeckContents) (depth : ℕ) (k : Key) (m : Mention)
    → Contains (mentions (table_of_deck d) depth (key_source_uses (table_of_deck d) k)) m
    → IsMentionFound (table_of_deck d) m
entry_mentions_are_found law d depth k m i n e = mention_leads_are_found law d _ n
    (entry_mentions_cases (table_of_deck d) depth k n (m, i, e))

pub first_mentions_are_found : LookupTargetsLaw → (d : DeckContents) (words : List WordUse) (m : Mention)
    → Contains (first_mentions (table_of_deck d) words) m → IsMentionFound (table_of_deck d) m
first_mentions_are_found law d words m i n e = mention_leads_are_found law d words n
    (first_mentions_cases (table_of_deck d) words n (m, i, e))

-- ---- mentions with the places of their keys
abbrev mention_of : PlacedMention → Mention
mention_of p = p.mention

mentions_without_places : (d : DeckContents) (ms : List Mention) → map mention_of (map (mention_with_place d) ms) ≡ ms
mentions_without_places d [] = refl
mentions_without_places d (m ∷ ms) = ap (λ (xs : List Mention). m ∷ xs) (mentions_without_places d ms)

-- without their places they are the mentions
placed_mentions_are_mentions : (d : DeckContents) (depth : ℕ) (uses : List SourceUse)
    → map mention_of (placed_mentions d depth uses) ≡ mentions (table_of_deck d) depth uses
placed_mentions_are_mentions d depth [] = refl
placed_mentions_are_mentions d depth (u ∷ uses) =
    map-append mention_of (placed_mentions_to d depth u (table_word_targets (table_of_deck d) u.word))
    (placed_mentions d depth uses)
    ∙ (λ i. mentions_without_places d (mentions_to depth u (table_word_targets (table_of_deck d) u.word)) i
    ++ placed_mentions_are_mentions d depth uses i)

placed_mention_is_among_mentions : (d : DeckContents) (depth : ℕ) (uses : List SourceUse) (p : PlacedMention)
    → Contains (placed_mentions d depth uses) p
    → Contains (mentions (table_of_deck d) depth uses) p.mention
placed_mention_is_among_mentions d depth uses p i =
    subst (λ (ms : List Mention). Contains ms p.mention) (placed_mentions_are_mentions d depth uses)
    (map_member mention_of (placed_mentions d depth uses) p i)

-- each has the place of its key
placed_mention_has_right_place : (d : DeckContents) (depth : ℕ) (uses : List SourceUse) (p : PlacedMention)
    → Contains (placed_mentions d depth uses) p
    → p.place ≡ mention_target_place d p.mention.target
placed_mention_has_right_place d depth uses p i =
    let of_word = flat_cases
    (λ (u : SourceUse). placed_mentions_to d depth u (table_word_targets (table_of_deck d) u.word)) uses p i in
    let of_mention = map_cases (mention_with_place d)
    (mentions_to depth of_word.0 (table_word_targets (table_of_deck d) of_word.0.word)) p
    of_word.2 in
    subst (λ (q : PlacedMention). q.place ≡ mention_target_place d q.mention.target) (sym of_mention.2) refl

entry_mentions_are_placed_right : LookupTargetsLaw → (d : DeckContents) (depth : ℕ) (k : Key) (p : PlacedMention)
    → Contains (placed_mentions d depth (key_source_uses (table_of_deck d) k)) p → IsMentionPlacedRight d p
entry_mentions_are_placed_right law d depth k p i = (
  entry_mentions_are_found law d depth k p.mention
      (placed_mention_is_among_mentions d depth (key_source_uses (table_of_deck d) k) p i),
  placed_mention_has_right_place d depth (key_source_uses (table_of_deck d) k) p i,
)

first_mentions_are_placed_right : LookupTargetsLaw → (d : DeckContents) (words : List WordUse) (p : PlacedMention)
    → Contains (placed_mentions d 0 (source_uses_at Expression words)) p → IsMentionPlacedRight d p
first_mentions_are_placed_right law d words p i = (
  first_mentions_are_found law d words p.mention
      (placed_mention_is_among_mentions d 0 (source_uses_at Expression words) p i),
  placed_mention_has_right_place d 0 (source_uses_at Expression words) p i,
)

-- the state before the first row
pub source_rows_underway_start : LookupTargetsLaw → (d : DeckContents) (words : List WordUse) (rows : List SourceRow)
    (pending : List PlacedMention)
    → rows ≡ []
    → reverse pending ≡ placed_mentions d 0 (source_uses_at Expression words)
    → AreSourceRowsUnderway d (first_mentions (table_of_deck d) words) rows pending
source_rows_underway_start law d words rows pending none e =
    subst (λ (rs : List SourceRow). AreSourceRowsUnderway d (first_mentions (table_of_deck d) words) rs pending)
    (sym none) (record {
      rows_to_come = λ rest h. subst (λ (ms : List Mention). AreSourceRows (table_of_deck d) [] ms rest)
          (ap (map mention_of) e ∙ placed_mentions_are_mentions d 0 (source_uses_at Expression words)) h;
      sound = λ p i. first_mentions_are_placed_right law d words p
          (subst (λ (ps : List PlacedMention). Contains ps p) e i);
    })

-- the next mention is the last of those that were pending
module _ (d : DeckContents) (start : List Mention) (rows : List SourceRow) (p : PlacedMention)
    (left : List PlacedMention)
    (h : AreSourceRowsUnderway d start rows (left ++ p ∷ [])) where
  reversed : reverse (left ++ p ∷ []) ≡ p ∷ reverse left
  reversed = reverse-append left (p ∷ [])

  pub next_sound : IsMentionPlacedRight d p
  next_sound = h.sound p (subst (λ (ps : List PlacedMention). Contains ps p) (sym reversed)
      (member_first p p (reverse left) refl))

  left_sound : (x : PlacedMention) → Contains (reverse left) x → IsMentionPlacedRight d x
  left_sound x i = h.sound x (subst (λ (ps : List PlacedMention). Contains ps x) (sym reversed)
      (member_later x p (reverse left) i))

  -- rows of the next mention and of those that are left go on from the rows so far
  goes_on : (rest : List SourceRow)
      → AreSourceRows (table_of_deck d) (visited_keys rows) (p.mention ∷ map mention_of (reverse left)) rest
      → AreSourceRows (table_of_deck d) [] start (rows ++ rest)
  goes_on rest q =
      h.rows_to_come rest (subst
      (λ (ps : List PlacedMention). AreSourceRows (table_of_deck d) (visited_keys rows) (map mention_of ps) rest)
      (sym reversed) q)

  -- the state after a row that visits nothing
  pub underway_skipped : is_key_visit_skipped (visited_keys rows) p.mention.target ≡ true
      → AreSourceRowsUnderway d start (rows ++ skipped_source_row p.mention ∷ []) left
  underway_skipped s = record {
    rows_to_come = λ rest q.
        subst (AreSourceRows (table_of_deck d) [] start)
        (sym (append_assoc rows (skipped_source_row p.mention ∷ []) rest))
        (goes_on (skipped_source_row p.mention ∷ rest) (Skipped s
        (subst (λ (ks : List Key). AreSourceRows (table_of_deck d) ks (map mention_of (reverse left)) rest)
        (visited_keys_after_skipped_row rows p.mention) q)));
    sound = left_sound;
  }

  -- the state after a row that visits a key
  pub underway_visited : LookupTargetsLaw → (n : Key) → p.mention.target ≡ Some n
      → is_entry_key_among (visited_keys rows) n ≡ false → (now : List PlacedMention)
      → reverse now ≡ placed_mentions d (p.mention.depth + 1) (key_source_uses (table_of_deck d) n) ++ reverse left
      → AreSourceRowsUnderway d start (rows ++ visited_source_row p.mention ∷ []) now
  underway_visited law n e new now put =
      let put_mentions : map mention_of (reverse now)
      ≡ mentions (table_of_deck d) (p.mention.depth + 1) (key_source_uses (table_of_deck d) n) ++ map mention_of
      (reverse left) =
      ap (map mention_of) put
      ∙ (map-append mention_of (placed_mentions d (p.mention.depth + 1) (key_source_uses (table_of_deck d) n))
      (reverse left)
      ∙ ap (λ (ms : List Mention). ms ++ map mention_of (reverse left))
      (placed_mentions_are_mentions d (p.mention.depth + 1) (key_source_uses (table_of_deck d) n))) in
      record {
        rows_to_come = λ rest q.
            subst (AreSourceRows (table_of_deck d) [] start)
            (sym (append_assoc rows (visited_source_row p.mention ∷ []) rest))
            (goes_on (visited_source_row p.mention ∷ rest) (Visited e new
            (subst (λ (ms : List Mention). AreSourceRows (table_of_deck d) (visited_keys rows ++ n ∷ []) ms rest)
            put_mentions
            (subst (λ (ks : List Key). AreSourceRows (table_of_deck d) ks (map mention_of (reverse now)) rest)
            (visited_keys_after_visited_row rows p.mention n e) q))));
        sound = λ x i.
            elim (Contains-append_cases (placed_mentions d (p.mention.depth + 1) (key_source_uses (table_of_deck d) n))
            (reverse left)
            x (subst (λ (ps : List PlacedMention). Contains ps x) put i)) [
              | inl a ↦ entry_mentions_are_placed_right law d (p.mention.depth + 1) n x a
              | inr b ↦ left_sound x b
            ];
      }

-- the state after the last row
pub source_rows_underway_end : (d : DeckContents) (start : List Mention) (rows : List SourceRow)
    (pending : List PlacedMention) → pending ≡ []
    → AreSourceRowsUnderway d start rows pending → AreSourceRows (table_of_deck d) [] start rows
source_rows_underway_end d start rows pending none h =
    subst (AreSourceRows (table_of_deck d) [] start) (append-nil rows)
    (h.rows_to_come [] (subst
    (λ (ps : List PlacedMention). AreSourceRows (table_of_deck d) (visited_keys rows) (map mention_of (reverse ps)) [])
    (sym none) Finished))

-- the marks after a row that visits nothing
pub marks_after_skipped_source_row : (d : DeckContents) (marks : List Bool) (rows : List SourceRow) (m : Mention)
    → AreVisitedKeysMarked d marks rows
    → AreVisitedKeysMarked d marks (rows ++ skipped_source_row m ∷ [])
marks_after_skipped_source_row d marks rows m h = record {
  mark_per_line = h.mark_per_line;
  visits_marked = λ n. h.visits_marked n ∙ ap (λ (ks : List Key). is_entry_key_among ks n)
      (sym (visited_keys_after_skipped_row rows m));
}

-- the marks after a row that visits a key, whose line was marked
pub marks_after_visited_source_row : (d : DeckContents) (marks : List Bool) (rows : List SourceRow) (m : Mention)
    (n : Key) (place : ℕ)
    → AreVisitedKeysMarked d marks rows → m.target ≡ Some n → last_definition_place d.settings d.lines n ≡ Some place
    → AreVisitedKeysMarked d (set marks place true) (rows ++ visited_source_row m ∷ [])
marks_after_visited_source_row d marks rows m n place h e p = record {
  mark_per_line = length-set marks place true ∙ h.mark_per_line;
  visits_marked = λ k. visited_key_is_marked_next d marks (visited_keys rows) n place h.mark_per_line h.visits_marked p
      k
      ∙ ap (λ (ks : List Key). is_entry_key_among ks k) (sym (visited_keys_after_visited_row rows m n e));
}

-- ---- the results of calls

pub if_ok : {A E : Type 0} {P Q : A → Type 0} (r : Result A E) → ((x : A) → P x → Q x) → IfOk r P → IfOk r Q
if_ok (Ok x) f p = f x p
if_ok (Err e) f p = p

-- the place that is found for the key of a mention, given values equal to the marks and the place
pub mention_place_is_found : (d : DeckContents) (marks flags : List Bool) (rows : List SourceRow) (p : PlacedMention)
    (answer place : Option ℕ)
    → AreVisitedKeysMarked d marks rows → flags ≡ marks → IsMentionPlacedRight d p
    → answer ≡ unmarked_mention_place flags p.place
    → answer ≡ place
    → IsUnvisitedKeyPlace d (visited_keys rows) p.mention.target place
mention_place_is_found d marks flags rows p answer place h f sound found is =
    subst (λ (o : Option ℕ). IsUnvisitedKeyPlace d (visited_keys rows) p.mention.target o)
    (ap (λ (ms : List Bool). unmarked_mention_place ms p.place) (sym f) ∙ (sym found ∙ is))
    (unmarked_place_is_unvisited_key d marks (visited_keys rows) h.visits_marked p.mention.target p.place sound.0
    sound.1)
