-- The invariant of the numbers of keys in every store of lines.
use Rattle.std.specs.Prelude.{◌≡◌, ℕ, true, Some}
use Rattle.def_entry.specs.declared.key.Key.{Key}
use Rattle.def_entry.specs.Entries.{Entry}
use Rattle.deck_lines.specs.Names.{AreKeyNumbersOneToOne, is_key_numbered}
use Rattle.deck_lines.specs.Stores.{LineStoreView, store_definition_at}

-- each key that a line defines has a number, and no key has two numbers
pub record IsKeyNumbering (store : LineStoreView) : Type 0 where
  pub definition_numbers : (place : ℕ) (d : Key × Entry) → store_definition_at store.lines place ≡ Some d
      → is_key_numbered store.names d.0 ≡ true
  pub unique : AreKeyNumbersOneToOne store.names
