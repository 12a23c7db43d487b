-- The powers in a list or in a search tree as a plain list, and those that remain in a walk.
use Rattle.std.specs.Prelude.{◌≡◌, ℕ, List, [], ◌∷◌, Option, Some, None}
use Rattle.frac128.specs.Fraction.{Fraction}
use Rattle.quantity.specs.Merges.{UnitPowers}
use Rattle.quantity.specs.declared.store.Store.{Store}
use Rattle.quantity.specs.declared.store.Store.TheVariants.{Few, Many}
use Rattle.quantity.specs.declared.walk.Entry.{Entry}
use Rattle.quantity.specs.declared.walk.Walk.{Walk}
use Rattle.quantity.specs.declared.walk.Walk.TheVariants.{Slice, Entries}

-- the stored powers
abbrev pub stored_powers : Store → UnitPowers
stored_powers (Few items) = items.items
stored_powers (Many tree) = tree.entries

-- the remaining powers
abbrev pub remaining_powers : Walk → UnitPowers
remaining_powers (Slice powers) = powers.now
remaining_powers (Entries entries) = entries

-- the power that a walk returns
abbrev pub power_of_walk_entry : Entry → List ℕ × Fraction
power_of_walk_entry entry = (entry.name.now, entry.exponent)

-- the first power is taken and the others remain; no power is taken only if none remains
abbrev pub TakesFirstPower : UnitPowers → Option Entry → UnitPowers → Type 0
TakesFirstPower old (Some entry) new = old ≡ power_of_walk_entry entry ∷ new
TakesFirstPower old None new = old ≡ []
