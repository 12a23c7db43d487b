-- Rings of names.
use Rattle.std.specs.Prelude.{◌≡◌, ◌<◌, ℕ, List, [], ◌∷◌, length, nat_eq, Contains}
use Rattle.std.specs.List.{IsDistinct}
use Rattle.name_walk.specs.declared.step.Step.TheVariants.{To}
use Rattle.name_walk.specs.Trails.{Faults, GoesByFaultyStep}

-- from the name `here`, the faulty steps lead through these names and then to `last`
abbrev pub IsFaultyWalkWay : Faults → (last here : ℕ) → List ℕ → Type 0
IsFaultyWalkWay fs last here [] = here ≡ last
IsFaultyWalkWay fs last here (n ∷ ns) =
    (here ≡ n) × (n ≡ last → ⊥) × ((m : ℕ) × GoesByFaultyStep fs n (To m) × IsFaultyWalkWay fs last m ns)

-- from `here` the faulty steps lead back to `name`, through no name twice
pub record IsWalkFaultRing (fs : Faults) (name here : ℕ) (rest : List ℕ) : Type 0 where
  pub way : IsFaultyWalkWay fs name here rest
  pub names_differ : IsDistinct nat_eq (name ∷ rest)
  pub names_in_faults : (n : ℕ) → Contains (name ∷ rest) n → n < length fs
