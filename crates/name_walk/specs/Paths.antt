-- Paths of names.
use Rattle.std.specs.Prelude.{◌≡◌, ◌<◌, ◌≤◌, ℕ, true, false, List, [], ◌∷◌, ◌++◌, length, nat_eq}
use Rattle.std.specs.List.{IsDistinct}
use Rattle.name_walk.specs.Faults.{is_on_path}
use Rattle.name_walk.specs.Steps.{Graph}

-- a path consists of distinct names of the graph
pub record IsNamePath (g : Graph) (p : List ℕ) : Type 0 where
  pub names_differ : IsDistinct nat_eq p
  pub names_in_graph : (n : ℕ) → is_on_path p n ≡ true → n < length g

-- law: the empty list is a path, a path can be extended by each name of the graph that is not on it, and no path has
-- more names than the graph
pub record NamePathLaw : Type 0 where
  pub empty_path : (g : Graph) → IsNamePath g []
  pub longer_path : (g : Graph) (p : List ℕ) (n : ℕ) → IsNamePath g p → is_on_path p n ≡ false → n < length g
      → IsNamePath g (p ++ n ∷ [])
  pub path_bound : (g : Graph) (p : List ℕ) → IsNamePath g p → length p ≤ length g
