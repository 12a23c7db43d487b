use Rattle.std.proofs.Common.{◌≡◌, ◌++◌, drop, map, option_map, take}
use Rattle.gap_list.specs.Gaps.{place_without_gaps}
use Rattle.deck.proofs.places.kind_places.KindPlaces.fill_gaps.Given as goal

-- the places before the next number have moved
abbrev pub invariant-loop-number : goal.invariant-loop-number
invariant-loop-number l =
    l.self ≡ map (option_map (place_without_gaps l.gaps)) (take l.number l.fn.self) ++ drop l.number l.fn.self
