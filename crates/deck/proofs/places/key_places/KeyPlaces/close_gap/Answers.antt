use Rattle.std.proofs.Common.{◌≡◌, map, option_map}
use Rattle.gap_list.specs.Gaps.{without_gap}
use Rattle.def_entry.specs.declared.key.Kind.{Kind}
use Rattle.def_entry.specs.declared.key.Kind.TheVariants as kind
use Rattle.deck.specs.LastPlaces.{definition_places_of_kind}
use Rattle.deck.specs.declared.places.key_places.KeyPlaces.{KeyPlaces}
use Rattle.deck.proofs.places.key_places.KeyPlaces.close_gap.Goals as goal

pub returns : goal.returns
returns c = by
  where
    now : KeyPlaces
    now = record {
      units = c.close_gap.new.self;
      prefixes = c.close_gap-2.new.self;
      functions = c.close_gap-3.new.self;
      lists = c.close_gap-4.new.self;
    }

    by : (k : Kind) → definition_places_of_kind now k ≡ map (option_map (without_gap c.args.gap))
        (definition_places_of_kind c.args.self.now k)
    by kind.Unit = c.close_gap.ensures
    by kind.Prefix = c.close_gap-2.ensures
    by kind.Func = c.close_gap-3.ensures
    by kind.List = c.close_gap-4.ensures
