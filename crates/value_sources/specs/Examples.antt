-- The rows of a small table, found by hand.
use Rattle.std.specs.Prelude.{◌≡◌, ℕ, List, [], ◌∷◌, Some, None, codes, pos}
use Rattle.expr_tree.specs.declared.word_list.WordUse.{WordUse}
use Rattle.expr_tree.specs.declared.word_list.WordKind.{WordKind}
use Rattle.expr_tree.specs.declared.word_list.WordKind.TheVariants as word_kind
use Rattle.expr_tree.specs.Syntax.{Number, Word}
use Rattle.def_entry.specs.declared.key.Key.{Key}
use Rattle.def_entry.specs.declared.key.Kind.TheVariants as kind
use Rattle.def_entry.specs.Entries.{Alias, Body, Function, Primitive}
use Rattle.def_entry.specs.Keys.{key}
use Rattle.def_entry.specs.Tables.{EntryTable}
use Rattle.value_sources.specs.declared.resolution.Resolution.{Resolution}
use Rattle.value_sources.specs.declared.resolution.Resolution.TheVariants.{Unknown, Name, Plural, Prefix, PrefixedUnit}
use Rattle.value_sources.specs.declared.site.Site.{Site}
use Rattle.value_sources.specs.declared.site.Site.TheVariants.{AliasTarget, Expression, Forward, Inverse}
use Rattle.value_sources.specs.declared.site.Site.TheVariants.{Body as InBody}
use Rattle.value_sources.specs.Mentions.{Mention}
use Rattle.value_sources.specs.Rows.{AreSourceRowsOf, SourceRow, skipped_source_row, visited_source_row}
use Rattle.value_sources.specs.Values.{source_value_syntax}

abbrev pub metre_source_key : Key
metre_source_key = key kind.Unit (codes "m")

abbrev pub kilo_source_key : Key
kilo_source_key = key kind.Prefix (codes "k")

abbrev pub mile_source_key : Key
mile_source_key = key kind.Unit (codes "mile")

abbrev pub loop_source_key : Key
loop_source_key = key kind.Unit (codes "loop")

-- the lines `m !`, `k- 1000`, `mile_source_key km` and `loop_source_key loop_source_key`
abbrev pub source_table : EntryTable
source_table =
    (loop_source_key, record { text = codes "loop"; what = Body (Word (codes "loop")) })
    ∷ (mile_source_key, record { text = codes "km"; what = Body (Word (codes "km")) })
    ∷ (
      kilo_source_key,
      record {
        text = codes "1000";
        what = Body (Number (record { coefficient = 1; scale = pos 3 }));
      },
    )
    ∷ (metre_source_key, record { text = codes "!"; what = Primitive })
    ∷ []

abbrev pub one_source_word_use : List ℕ → WordUse
one_source_word_use text = record { text = text; kind = word_kind.Plain }

-- a word of the expression, and a word of the entry of a key of the expression
abbrev pub outer_mention : List ℕ → Resolution → Key → Mention
outer_mention text resolution n =
    record { depth = 0; site = Expression; word = one_source_word_use text; resolution = resolution; target = Some n }

abbrev pub inner_mention : List ℕ → Resolution → Key → Mention
inner_mention text resolution n =
    record { depth = 1; site = InBody; word = one_source_word_use text; resolution = resolution; target = Some n }

abbrev pub unknown_mention : List ℕ → Mention
unknown_mention text =
    record { depth = 0; site = Expression; word = one_source_word_use text; resolution = Unknown; target = None }

abbrev pub second_source_key : Key
second_source_key = key kind.Unit (codes "s")

abbrev pub f_source_key : Key
f_source_key = key kind.Func (codes "f")

abbrev pub g_source_key : Key
g_source_key = key kind.Func (codes "g")

-- the function f, whose result is m and whose inverse is s, and the alias `g() f`
abbrev pub function_source_table : EntryTable
function_source_table =
    (g_source_key, record { text = codes "() f"; what = Alias (codes "f") })
    ∷ (
      f_source_key,
      record {
        text = codes "(x) m; s";
        what = Function (record {
          in_unit = None;
          out_unit = None;
          domain = None;
          range = None;
          forward = Word (codes "m");
          inverse = Some (Word (codes "s"));
        });
      },
    )
    ∷ (second_source_key, record { text = codes "!"; what = Primitive })
    ∷ (metre_source_key, record { text = codes "!"; what = Primitive })
    ∷ []

-- a word that is the name of its key
abbrev pub mention_by_name : ℕ → Site → WordKind → Key → Mention
mention_by_name depth at word_kind n = record {
  depth = depth;
  site = at;
  word = record { text = n.name; kind = word_kind };
  resolution = Name;
  target = Some n;
}

-- the rows of `m m` and of `loop_source_key`
abbrev pub repeated_source_rows : List SourceRow
repeated_source_rows = visited_source_row (outer_mention (codes "m") Name metre_source_key) ∷ skipped_source_row
    (outer_mention (codes "m") Name metre_source_key) ∷ []

abbrev pub loop_source_rows : List SourceRow
loop_source_rows = visited_source_row (outer_mention (codes "loop") Name loop_source_key) ∷ skipped_source_row
    (inner_mention (codes "loop") Name loop_source_key)
    ∷ []

-- law: the rows of `miles`, a plural, with the prefix and the unit of its entry below; of `m m`, whose second row
-- visits nothing; of `x`, which is unknown; of `loop_source_key`, which is on a cycle; and of `~g(..)`, an alias of a
-- function with an inverse. The expression whose value is that of a prefix is its definition, that of a primitive unit
-- is its name, and a function has none.
pub record SourceExamplesLaw : Type 0 where
  pub plural : AreSourceRowsOf source_table (one_source_word_use (codes "miles") ∷ [])
      (visited_source_row (outer_mention (codes "miles") Plural mile_source_key) ∷ visited_source_row
      (inner_mention (codes "km") Prefix kilo_source_key)
      ∷ visited_source_row (inner_mention (codes "km") PrefixedUnit metre_source_key) ∷ [])
  pub word_twice : AreSourceRowsOf source_table (one_source_word_use (codes "m") ∷ one_source_word_use (codes "m") ∷ [])
      repeated_source_rows
  pub unknown_word : AreSourceRowsOf source_table (one_source_word_use (codes "x") ∷ [])
      (skipped_source_row (unknown_mention (codes "x")) ∷ [])
  pub cycle : AreSourceRowsOf source_table (one_source_word_use (codes "loop") ∷ []) loop_source_rows
  pub function : AreSourceRowsOf function_source_table (record { text = codes "g"; kind = word_kind.Inverse } ∷ [])
      (visited_source_row (mention_by_name 0 Expression word_kind.Inverse g_source_key) ∷ visited_source_row
      (mention_by_name 1 AliasTarget word_kind.Inverse f_source_key)
      ∷ visited_source_row (mention_by_name 2 Forward word_kind.Plain metre_source_key) ∷ visited_source_row
      (mention_by_name 2 Inverse word_kind.Plain second_source_key) ∷ [])
  pub prefix_value : source_value_syntax source_table kilo_source_key ≡ Some
      (Number (record { coefficient = 1; scale = pos 3 }))
  pub unit_value : source_value_syntax source_table metre_source_key ≡ Some (Word (codes "m"))
  pub function_value : source_value_syntax function_source_table f_source_key ≡ None
