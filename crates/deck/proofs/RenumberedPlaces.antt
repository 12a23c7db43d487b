-- Last places under new numbers of the keys.
use Rattle.std.proofs.Common.{◌≡◌, [], Bool, List, ap, length, subst, sym, ◌∙◌}
use Rattle.deck_lines.specs.ClosedBlocks.{AreBlocksClosed}
use Rattle.deck_lines.specs.StoreEdits.{StoreEdit, store_unedited}
use Rattle.deck_lines.specs.Loads.{key_numbers_by_definitions, store_with_lines}
use Rattle.deck_lines.specs.Names.{KeyNumberNames, no_key_number_names}
use Rattle.deck_lines.specs.Stores.{LineStoreView, store_without_lines}
use Rattle.deck.specs.Active.{active_lines}
use Rattle.deck.specs.LastPlaces.{AreLastDefinitionPlaces, HasDefinitionPlaceRoom, IsDeckIndexed}
use Rattle.deck.specs.Tables.{active_definitions, active_definitions_among}
use Rattle.deck.specs.declared.places.last_places.LastPlaces.{LastPlaces}
use Rattle.deck.specs.declared.settings.Settings.{Settings}
use Rattle.deck.proofs.ActiveLineFlags.{length-active_line_flags}

module _ (store new : LineStoreView) (names : KeyNumberNames) (edited : StoreEdit)
    (numbers : names ≡ key_numbers_by_definitions no_key_number_names store.lines)
    (put : new ≡ store_with_lines store_without_lines store.lines)
    (view : edited ≡ store_unedited new) where
  names_are : edited.names ≡ names
  names_are = ap (λ (e : StoreEdit). e.names) view ∙ ap (λ (s : LineStoreView). s.names) put ∙ sym numbers

  lines_are : edited.new_lines ≡ store.lines
  lines_are = ap (λ (e : StoreEdit). e.new_lines) view ∙ ap (λ (s : LineStoreView). s.lines) put

  -- there is room for the new numbers
  pub room_there : (last : LastPlaces) → HasDefinitionPlaceRoom names last → HasDefinitionPlaceRoom edited.names last
  room_there last room = subst (λ n. HasDefinitionPlaceRoom n last) (sym names_are) room

  -- before the first line no key has a place
  pub none_there : (last : LastPlaces) → AreLastDefinitionPlaces names [] last
      → AreLastDefinitionPlaces edited.names [] last
  none_there last none = subst (λ n. AreLastDefinitionPlaces n [] last) (sym names_are) none

  module _ (settings : Settings) (flags : List Bool) (active : flags ≡ active_lines settings store.lines) where
    -- there is a flag for each line
    pub flags_long : length flags ≡ length edited.new_lines
    flags_long = ap length active ∙ length-active_line_flags _ _ store.lines ∙ sym (ap length lines_are)

    -- the last places under the new numbers are those of the store
    pub indexed_again : (last : LastPlaces) → AreBlocksClosed store.lines
        → AreLastDefinitionPlaces edited.names (active_definitions_among flags edited.new_lines) last
        → IsDeckIndexed new settings last
    unfolding active_definitions
    indexed_again last closed are = record {
      blocks_closed = subst AreBlocksClosed (sym (ap (λ (s : LineStoreView). s.lines) put)) closed;
      places =
          subst (λ (e : StoreEdit). AreLastDefinitionPlaces e.names
          (active_definitions_among (active_lines settings e.new_lines) e.new_lines)
          last)
          view
          (subst (λ fs. AreLastDefinitionPlaces edited.names (active_definitions_among fs edited.new_lines) last)
          (active ∙ sym (ap (active_lines settings) lines_are)) are);
    }
