-- The lines that active lines cover.
use Rattle.std.specs.Prelude.{◌≡◌, ◌<◌, ℕ, List, [], ◌∷◌, length, Option, Some, None, slice_get, ⊤}
use Rattle.deck_lines.specs.Stores.{LineStoreView}
use Rattle.deck.specs.LastPlaces.{IsDeckIndexed}
use Rattle.deck.specs.Tables.{DeckDefinitions, active_definitions, definition_place_of}
use Rattle.deck.specs.declared.places.last_places.LastPlaces.{LastPlaces}
use Rattle.deck.specs.declared.settings.Settings.{Settings}

-- at the place of each definition is the place of the last definition of its key before it, if there is one; the last
-- definition comes first
abbrev pub AreCoveredDefinitionPlaces : DeckDefinitions → (covered : List (Option ℕ)) → Type 0
AreCoveredDefinitionPlaces [] covered = ⊤
AreCoveredDefinitionPlaces (d ∷ ds) covered = (slice_get covered d.1.0 ≡ Some (definition_place_of ds d.0))
    × AreCoveredDefinitionPlaces ds covered

-- all definitions are of lines before a place
abbrev pub AreDefinitionPlacesBelow : (place : ℕ) → DeckDefinitions → Type 0
AreDefinitionPlacesBelow place [] = ⊤
AreDefinitionPlacesBelow place (d ∷ ds) = (d.1.0 < place) × AreDefinitionPlacesBelow place ds

-- the covered places of so many lines with these definitions, if they are known
abbrev pub MayCoverDefinitions : (count : ℕ) → DeckDefinitions → (covered : Option (List (Option ℕ))) → Type 0
MayCoverDefinitions count ds None = ⊤
MayCoverDefinitions count ds (Some covered) = (length covered ≡ count) × AreCoveredDefinitionPlaces ds covered

-- the last places are those of the lines, and the covered places too, if they are known
pub record AreDeckPlaces (store : LineStoreView) (settings : Settings) (last : LastPlaces)
    (covered : Option (List (Option ℕ)))
    : Type 0 where
  pub indexed : IsDeckIndexed store settings last
  pub covers : MayCoverDefinitions (length store.lines) (active_definitions settings store.lines) covered
