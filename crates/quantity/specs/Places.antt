-- The position of a name in a list of powers in the byte order of their names.
use Rattle.std.specs.Prelude.{ℕ, suc, List, [], ◌∷◌}
use Rattle.std.specs.Cmp.Lexicographic.{slice_cmp}
use Rattle.std.specs.Ordering.{match_ordering, nat_cmp}
use Rattle.quantity.specs.Merges.{UnitPowers}
use Rattle.quantity.specs.declared.power_merge.Place.{Place}
use Rattle.quantity.specs.declared.power_merge.Place.TheVariants.{At, Before}

-- the position of the name if n names come before these: after all lower names, at the name itself or before a higher
-- one
abbrev pub power_place : ℕ → List ℕ → UnitPowers → Place
power_place n name [] = Before n
power_place n name (p ∷ ps) =
    match_ordering (slice_cmp nat_cmp p.0 name) (power_place (suc n) name ps) (At n) (Before n)
