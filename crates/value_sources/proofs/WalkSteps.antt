-- The steps of a walk over stored mentions.
use Rattle.std.proofs.Common.{◌≡◌, ◌++◌, ◌∷◌, ◌+◌, [], ℕ, Bool, true, List, Option, Some, None, reverse, set, sym, ap}
use Rattle.std.proofs.Common.{subst, ◌∙◌}
use Rattle.expr_tree.specs.declared.word_list.WordUse.{WordUse}
use Rattle.def_entry.specs.declared.key.Key.{Key}
use Rattle.deck.specs.Decks.{DeckContents}
use Rattle.deck.specs.Tables.{table_of_deck}
use Rattle.name_lookup.specs.Laws.{LookupTargetsLaw}
use Rattle.value_sources.specs.declared.mention.StoredMention.{StoredMention}
use Rattle.value_sources.specs.PlacedMentions.{PlacedMention, placed_mentions}
use Rattle.value_sources.specs.Rows.{SourceRow, first_mentions, skipped_source_row, visited_keys, visited_source_row}
use Rattle.value_sources.specs.StoredMentions.{mention_in, placed_mention_in, placed_mention_list}
use Rattle.value_sources.specs.Uses.{key_source_uses}
use Rattle.value_sources.specs.Visits.{IsUnvisitedKeyPlace, unmarked_mention_place}
use Rattle.value_sources.specs.Walks.{AreSourceRowsUnderway, AreVisitedKeysMarked}
use Rattle.value_sources.proofs.Reversing.{pushed_all}
use Rattle.value_sources.proofs.Stored.{mention_pushed, reversed_mentions_pushed}
use Rattle.value_sources.proofs.Walking.{marks_after_skipped_source_row, marks_after_visited_source_row}
use Rattle.value_sources.proofs.Walking.{mention_place_is_found, next_sound, underway_skipped, underway_visited}

-- a walk whose last pending mention is taken
module _ (d : DeckContents) (words : List WordUse) (rows : List SourceRow) (marks : List Bool)
    (before left : List StoredMention) (m : StoredMention) (popped : before ≡ left ++ m ∷ [])
    (marked : AreVisitedKeysMarked d marks rows)
    (underway : AreSourceRowsUnderway d (first_mentions (table_of_deck d) words) rows (placed_mention_list d before))
  where
    next_underway : AreSourceRowsUnderway d (first_mentions (table_of_deck d) words) rows
        (placed_mention_list d left ++ placed_mention_in d m ∷ [])
    next_underway = subst
        (λ (ps : List PlacedMention). AreSourceRowsUnderway d (first_mentions (table_of_deck d) words) rows ps)
        (mention_pushed d left before m popped) underway

    -- the place of its key, given values equal to the marks and the place
    next_place : (flags : List Bool) (answer place : Option ℕ) → flags ≡ marks
        → answer ≡ unmarked_mention_place flags m.place → answer ≡ place
        → IsUnvisitedKeyPlace d (visited_keys rows) (mention_in d m).target place
    next_place flags answer place same found is =
        mention_place_is_found d marks flags rows (placed_mention_in d m) answer place marked same
        (next_sound d (first_mentions (table_of_deck d) words) rows (placed_mention_in d m) (placed_mention_list d left)
        next_underway) found is

    pub walk_skipped : (flags : List Bool) (answer : Option ℕ) → flags ≡ marks
        → answer ≡ unmarked_mention_place flags m.place
        → answer ≡ None
        → AreVisitedKeysMarked d marks (rows ++ skipped_source_row (mention_in d m) ∷ [])
        × AreSourceRowsUnderway d (first_mentions (table_of_deck d) words)
        (rows ++ skipped_source_row (mention_in d m) ∷ []) (placed_mention_list d left)
    walk_skipped flags answer same found is = (
      marks_after_skipped_source_row d marks rows (mention_in d m) marked,
      underway_skipped d (first_mentions (table_of_deck d) words) rows (placed_mention_in d m)
          (placed_mention_list d left) next_underway
          (next_place flags answer None same found is),
    )

    pub walk_visited : LookupTargetsLaw → (flags : List Bool) (answer : Option ℕ) (place : ℕ) → flags ≡ marks
        → answer ≡ unmarked_mention_place flags m.place → answer ≡ Some place
        → (now_marks : List Bool) → now_marks ≡ set marks place true
        → (inner now : List StoredMention)
        → ((n : Key) → (mention_in d m).target ≡ Some n
        → placed_mention_list d inner ≡ placed_mentions d (m.location.depth + 1) (key_source_uses (table_of_deck d) n))
        → now ≡ left ++ reverse inner
        → AreVisitedKeysMarked d now_marks (rows ++ visited_source_row (mention_in d m) ∷ [])
        × AreSourceRowsUnderway d (first_mentions (table_of_deck d) words)
        (rows ++ visited_source_row (mention_in d m) ∷ []) (placed_mention_list d now)
    walk_visited law flags answer place same found is now_marks set_is inner now put pushed =
        let at = next_place flags answer (Some place) same found is in
        let put_all : reverse (placed_mention_list d now)
        ≡ placed_mentions d (m.location.depth + 1) (key_source_uses (table_of_deck d) at.0) ++ reverse
        (placed_mention_list d left) =
        pushed_all (placed_mention_list d left) (placed_mention_list d now) (placed_mention_list d inner)
        (reversed_mentions_pushed d left now inner pushed)
        ∙ ap (λ (ps : List PlacedMention). ps ++ reverse (placed_mention_list d left)) (put at.0 at.1) in (
          subst (λ (ms : List Bool). AreVisitedKeysMarked d ms (rows ++ visited_source_row (mention_in d m) ∷ []))
              (sym set_is)
              (marks_after_visited_source_row d marks rows (mention_in d m) at.0 place marked at.1 at.3),
          underway_visited d (first_mentions (table_of_deck d) words) rows (placed_mention_in d m)
              (placed_mention_list d left) next_underway law
              at.0 at.1 at.2 (placed_mention_list d now) put_all,
        )
