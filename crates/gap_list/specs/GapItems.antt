-- The view of a list with gaps.
use Rattle.std.specs.Prelude.{ℕ, List, refl}
use Rattle.std.specs.Coded.{Coded, code_by, coded×, coded_ℕ, coded_list}

-- the items, and the number of items that can be appended without an allocation
pub record GapItems (T : Type 0) : Type 0 where
  pub listed : List T
  pub spare : ℕ

-- the view is stored as the pair of its fields
abbrev pub gap_items_code : {T : Type 0} → Coded T → Coded (GapItems T)
gap_items_code {T} code =
    code_by (List T × ℕ) (coded× (coded_list code) coded_ℕ) (λ l. (l.listed, l.spare))
    (λ p. record { listed = p.0; spare = p.1 }) (λ _. refl)
