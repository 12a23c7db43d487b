-- Replacement of a part of a list.
use Rattle.std.specs.Prelude.{◌≡◌, ◌≤◌, ◌+◌, ◌++◌, ℕ, List, [], take, drop, vec_capacity}
use Rattle.deck_lines.specs.declared.store.line_replacement.ExchangeRoom.{ExchangeRoom}

-- the list `new` is `old` with the `cut` items from `at` on replaced by `put`
abbrev pub IsStoreExchanged : {A : Type 0} → ℕ → ℕ → List A → List A → List A → Type 0
IsStoreExchanged at cut put old new = new ≡ take at old ++ (put ++ drop (at + cut) old)

-- the vectors are empty, and have room for replacing `cut` lines by `put` others
pub record HasStoreExchangeRoom (put cut : ℕ) (room : ExchangeRoom) : Type 0 where
  pub put_lines : (room.put_lines.items ≡ []) × (put ≤ vec_capacity room.put_lines)
  pub put_marks : (room.put_marks.items ≡ []) × (put ≤ vec_capacity room.put_marks)
  pub gone_lines : (room.gone_lines.items ≡ []) × (cut ≤ vec_capacity room.gone_lines)
  pub gone_marks : (room.gone_marks.items ≡ []) × (cut ≤ vec_capacity room.gone_marks)
  pub removed_room : (room.gone.items ≡ []) × (cut ≤ vec_capacity room.gone)
