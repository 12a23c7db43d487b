-- The state after an edit, by names.
use Rattle.std.proofs.Common.{◌≡◌, ℕ, Bool, not, List, ◌∷◌, sym, ◌∙◌, subst, inl, inr}
use Rattle.std.specs.FinMap as map_of
use Rattle.std.specs.List.{list_any}
use Rattle.std.specs.Prelude.{◌||◌}
use Rattle.std.proofs.lemmas.Bool.{cases_Bool, true≢false}
use Rattle.def_entry.specs.declared.key.Key.{Key}
use Rattle.def_entry.specs.SameKeys.{is_entry_key_among}
use Rattle.def_entry.specs.Tables.{EntryTable}
use Rattle.deck.specs.Changes.{KeysChangedByEditLaw, keys_changed_by_edit}
use Rattle.deck.specs.Decks.{DeckContents}
use Rattle.deck.specs.Tables.{table_of_deck}
use Rattle.table_names.specs.AffectedKeys.{is_affected_table_name}
use Rattle.table_names.specs.Edits.{AreKeysOfChangedEntries}
use Rattle.table_names.specs.Reach.{key_looked_keys, key_reach}
use Rattle.live_table.specs.Calls.{IsAcceptedLiveEdit}
use Rattle.live_table.specs.Right.{IsRightLiveState}
use Rattle.live_table.specs.TableView.{IsRightLiveView, LiveView, live_state_with_steps}
use Rattle.live_table.specs.States.{Becomes, live_state_after_event}
use Rattle.live_table.proofs.Events.{event_keeps_live_state_right}

-- the visible state without the outcomes of the names that a change of these keys affects
abbrev pub left_in : LiveView → DeckContents → List Key → LiveView
left_in s deck keys = record {
  deck = deck;
  kept_outcomes = map_of.retain_keys s.kept_outcomes (λ n. not (is_affected_table_name (table_of_deck s.deck) keys n));
  reductions = s.reductions;
}

-- the set of affected names depends only on which keys have changed
abbrev by_test : EntryTable → (Key → Bool) → Key → Bool
by_test t among n = among n || list_any (λ m. list_any among (key_looked_keys t m)) (n ∷ key_reach t n)

module _ (before after : EntryTable) (keys others : List Key) (changed : AreKeysOfChangedEntries before after keys)
    (same : AreKeysOfChangedEntries before after others) where
  same_among : (k : Key) → is_entry_key_among keys k ≡ is_entry_key_among others k
  same_among k = elim (cases_Bool (is_entry_key_among keys k)) [
    | inl e ↦ elim (cases_Bool (is_entry_key_among others k)) [
      | inl f ↦ e ∙ sym f
      | inr f ↦ absurd ((changed k).1 ((same k).0 (λ g. true≢false (sym g ∙ f))) e)
    ]
    | inr e ↦ elim (cases_Bool (is_entry_key_among others k)) [
      | inl f ↦ absurd ((same k).1 ((changed k).0 (λ g. true≢false (sym g ∙ e))) f)
      | inr f ↦ e ∙ sym f
    ]
  ]

  pub same_affected : (t : EntryTable) (n : Key) → is_affected_table_name t keys n ≡ is_affected_table_name t others n
  same_affected t n = λ i. by_test t (λ k. same_among k i) n

module _ (law : KeysChangedByEditLaw) (before : LiveView) (deck : DeckContents) (keys : List Key)
    (changed : AreKeysOfChangedEntries (table_of_deck before.deck) (table_of_deck deck) keys)
    (right : IsRightLiveView before) where
  stands : (steps : ℕ) → live_state_with_steps (left_in before deck keys) steps ≡ live_state_after_event
      (Becomes (table_of_deck deck))
      (live_state_with_steps before steps)
  stands steps = λ i. record (live_state_with_steps before steps) {
    table = table_of_deck deck;
    kept_outcomes = map_of.retain_keys before.kept_outcomes
        (λ n. not (same_affected (table_of_deck before.deck) (table_of_deck deck) keys
        (keys_changed_by_edit (table_of_deck before.deck) (table_of_deck deck)) changed
        (law before.deck deck).lists_changed_keys
        (table_of_deck before.deck) n
        i));
  }

  -- an accepted edit meets its definition
  pub edit_follows : IsAcceptedLiveEdit before (left_in before deck keys)
  edit_follows steps = record {
    state_after_events = stands steps;
    is_right = subst IsRightLiveState (sym (stands 0))
        (event_keeps_live_state_right (Becomes (table_of_deck deck)) (live_state_with_steps before 0)
        (law before.deck deck).lists_changed_keys right);
  }
