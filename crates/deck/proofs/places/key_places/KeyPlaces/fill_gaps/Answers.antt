use Rattle.std.proofs.Common.{◌≡◌, map, option_map}
use Rattle.gap_list.specs.Gaps.{place_without_gaps}
use Rattle.def_entry.specs.declared.key.Kind.{Kind}
use Rattle.def_entry.specs.declared.key.Kind.TheVariants as kind
use Rattle.deck.specs.LastPlaces.{definition_places_of_kind}
use Rattle.deck.specs.declared.places.key_places.KeyPlaces.{KeyPlaces}
use Rattle.deck.proofs.places.key_places.KeyPlaces.fill_gaps.Goals as goal

pub returns : goal.returns
returns c = by
  where
    now : KeyPlaces
    now = record {
      units = c.fill_gaps.new.self;
      prefixes = c.fill_gaps-2.new.self;
      functions = c.fill_gaps-3.new.self;
      lists = c.fill_gaps-4.new.self;
    }

    by : (k : Kind) → definition_places_of_kind now k ≡ map (option_map (place_without_gaps c.args.gaps.now))
        (definition_places_of_kind c.args.self.now k)
    by kind.Unit = c.fill_gaps.ensures
    by kind.Prefix = c.fill_gaps-2.ensures
    by kind.Func = c.fill_gaps-3.ensures
    by kind.List = c.fill_gaps-4.ensures
