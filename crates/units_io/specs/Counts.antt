-- What contracts see of the files of the system: only counts.
use Rattle.std.specs.Prelude.{ℕ}

-- the number of failed fetches, and of failed stores
pub record FilesCounts : Type 0 where
  pub faults : ℕ
  pub store_faults : ℕ
