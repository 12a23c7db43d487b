-- The cached outcome of a key, by its number.
use Rattle.std.proofs.Common.{◌≡◌, ℕ, false, Option, Some, None, sym, ◌∙◌, ap}
use Rattle.std.specs.FinMap as map_of
use Rattle.std.specs.List.{slice_get}
use Rattle.std.proofs.lemmas.Option.{same_Some}
use Rattle.deck.specs.Decks.{DeckContents}
use Rattle.deck.specs.Tables.{table_of_deck as deck_table}
use Rattle.def_entry.specs.declared.key.Key.{Key}
use Rattle.def_entry.specs.SameKeys.{is_entry_key_among}
use Rattle.def_entry.specs.Tables.{EntryTable}
use Rattle.tree_eval.specs.declared.outcome.Outcome.{Outcome}
use Rattle.table_names.specs.Meanings.{outcome}
use Rattle.live_table.specs.TableView.{IsRightLiveView}
use Rattle.live_table.specs.Sound.{AreSoundNodes}
use Rattle.live_table.specs.TableContents.{NodeLists, cached_outcomes_of, live_view_of_nodes}
use Rattle.live_table.proofs.AddedNames.{found_key_is_node_key}
use Rattle.live_table.proofs.OutcomesByKey.{cached_outcome_at_number, key_without_node_is_not_cached}
use Rattle.live_table.proofs.LastName.{absent_node_key_has_no_place}

module _ (table : EntryTable) (l : NodeLists) (nodes : AreSoundNodes table l) (k : Key) where
  -- the outcome at the number of a key is stored for the key
  pub stored_for_key : (n : ℕ) (o : Option Outcome) → slice_get l.keys n ≡ Some k → slice_get l.outcomes n ≡ Some o
      → o ≡ map_of.get (cached_outcomes_of l.keys l.outcomes) k
  stored_for_key n o e f =
      let p = found_key_is_node_key l.keys n k e in
      same_Some o (map_of.get (cached_outcomes_of l.keys l.outcomes) k)
      (sym f ∙ (cached_outcome_at_number l.keys l.outcomes n nodes.numbers_apart p.0 nodes.outcome_count
      ∙ ap (λ (x : Key). Some (map_of.get (cached_outcomes_of l.keys l.outcomes) x)) (sym p.1)))

  -- no outcome is stored for a key without a number
  pub missing : is_entry_key_among l.keys k ≡ false → None ≡ map_of.get (cached_outcomes_of l.keys l.outcomes) k
  missing e = sym (key_without_node_is_not_cached l.keys l.outcomes k
      (λ n lt q. absent_node_key_has_no_place l.keys k e n lt (sym q)))

-- the outcome that is stored for a key is right
pub cached_outcome_is_right : (deck : DeckContents) (l : NodeLists) (r : ℕ)
    → IsRightLiveView (live_view_of_nodes deck l r)
    → (k : Key) (x : Option Outcome)
    → x ≡ map_of.get (cached_outcomes_of l.keys l.outcomes) k → (o : Outcome) → x ≡ Some o
    → o ≡ outcome (deck_table deck) k
cached_outcome_is_right deck l r right k x e o f = right.outcomes_right k o (sym e ∙ f)
