-- The names that a few queries and edits leave stored. The expected lists were found by hand.
use Rattle.std.specs.Prelude.{◌≡◌, ℕ, List, [], ◌∷◌, codes, pos}
use Rattle.expr_tree.specs.Syntax.{Number, Word}
use Rattle.def_entry.specs.declared.key.Key.{Key}
use Rattle.def_entry.specs.declared.key.Kind.TheVariants as kind
use Rattle.def_entry.specs.Entries.{Entry, What, Body, Primitive}
use Rattle.def_entry.specs.Keys.{key}
use Rattle.def_entry.specs.Tables.{EntryTable}
use Rattle.table_names.specs.Examples.{name_fault_one_word}
use Rattle.deck.specs.Changes.{each_deck_key_once}
use Rattle.live_table.specs.States.{AsksWords, Becomes, LiveEvent}
use Rattle.live_table.specs.KeptLists.{cached_names_by_events}

abbrev pub live_example_entry : List ℕ → What → Entry
live_example_entry text what = record { text = text; what = what }

abbrev pub live_example_key_m : Key
live_example_key_m = key kind.Unit (codes "m")

abbrev pub live_example_key_k : Key
live_example_key_k = key kind.Prefix (codes "k")

abbrev pub live_example_key_c : Key
live_example_key_c = key kind.Unit (codes "c")

abbrev pub live_example_key_km : Key
live_example_key_km = key kind.Unit (codes "km")

-- the lines `m !`, `k- 2` and `c km`
abbrev pub live_example_table : EntryTable
live_example_table =
    (live_example_key_c, live_example_entry (codes "c km") (Body (Word (codes "km"))))
    ∷ (
      live_example_key_k,
      live_example_entry (codes "k- 2")
          (Body (Number (record { coefficient = 2; scale = pos 0 }))),
    )
    ∷ (live_example_key_m, live_example_entry (codes "m !") Primitive) ∷ []

-- the lines with `km m` added: the unit `km` is tried before the prefix `k-` and the unit `m`
abbrev pub live_example_shadowed_table : EntryTable
live_example_shadowed_table = (live_example_key_km, live_example_entry (codes "km m") (Body (Word (codes "m")))) ∷
    live_example_table

-- the lines with `m c` added, which closes a cycle
abbrev pub live_example_cyclic_table : EntryTable
live_example_cyclic_table = (live_example_key_m, live_example_entry (codes "m c") (Body (Word (codes "c")))) ∷
    live_example_table

abbrev pub live_example_query_of_c : LiveEvent
live_example_query_of_c = AsksWords (name_fault_one_word (codes "c"))

-- the names that are stored after events, if none was stored before
abbrev pub cached_names_after : List LiveEvent → List Key
cached_names_after es = each_deck_key_once (cached_names_by_events es live_example_table [])

pub record LiveEventExamples : Type 0 where
  -- a query stores the names that it reaches
  pub after_query_alone : cached_names_after (live_example_query_of_c ∷ []) ≡ live_example_key_c ∷ live_example_key_k ∷
      live_example_key_m ∷ []
  -- `km` is defined: `c` is forgotten, since its word `km` looked for that unit, although no name below `c` has changed
  pub came : cached_names_after (live_example_query_of_c ∷ Becomes live_example_shadowed_table ∷ [])
      ≡ live_example_key_k ∷ live_example_key_m ∷ []
  -- the same query then reaches `km`, which shadows the prefix
  pub kept_after_shadowing : cached_names_after
      (live_example_query_of_c ∷ Becomes live_example_shadowed_table ∷ live_example_query_of_c ∷ [])
      ≡ live_example_key_k ∷ live_example_key_c ∷ live_example_key_km ∷ live_example_key_m
      ∷ []
  -- the edit is undone: `c` and `km` are forgotten
  pub after_undo : cached_names_after
      (live_example_query_of_c ∷ Becomes live_example_shadowed_table ∷ live_example_query_of_c ∷ Becomes
      live_example_table ∷ []) ≡ live_example_key_k ∷ live_example_key_m ∷ []
  -- an edit makes a cycle: the names on it are forgotten, and a query of one of them stores nothing
  pub after_cycle : cached_names_after
      (live_example_query_of_c ∷ Becomes live_example_cyclic_table ∷ live_example_query_of_c ∷ []) ≡ live_example_key_k
      ∷ []
  -- the cycle is broken, and the query stores all three names again
  pub broken : cached_names_after
      (live_example_query_of_c ∷ Becomes live_example_cyclic_table ∷ live_example_query_of_c ∷ Becomes
      live_example_table ∷ live_example_query_of_c ∷ []) ≡ live_example_key_c ∷ live_example_key_k ∷ live_example_key_m
      ∷ []
