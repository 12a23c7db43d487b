-- Words together with the keys that they lead to.
use Rattle.std.specs.Prelude.{ℕ, List, [], ◌∷◌, map, flat_map, if◌then◌else◌, Option, Some, None}
use Rattle.std.specs.Str.{bytes_eq}
use Rattle.expr_tree.specs.declared.word_list.WordUse.{WordUse}
use Rattle.def_entry.specs.declared.key.Key.{Key}
use Rattle.def_entry.specs.Tables.{EntryTable}
use Rattle.table_names.specs.Leads.{table_word_targets}
use Rattle.value_sources.specs.declared.resolution.Resolution.{Resolution}
use Rattle.value_sources.specs.declared.resolution.Resolution.TheVariants.{Unknown, Name, Plural, Prefix, PrefixedUnit}
use Rattle.value_sources.specs.declared.site.Site.{Site}
use Rattle.value_sources.specs.Uses.{SourceUse}

-- a word with one of the keys that it leads to, or with none if it is unknown: the number of entries that contain it,
-- the tree that contains it, and how it leads to the key
pub record Mention : Type 0 where
  pub depth : ℕ
  pub site : Site
  pub word : WordUse
  pub resolution : Resolution
  pub target : Option Key

-- the text of a word that is not stored if it is the name of its key
abbrev pub mention_text : (word : Option (List ℕ)) → Option Key → List ℕ
mention_text (Some word) key = word
mention_text None (Some n) = n.name
mention_text None None = []

abbrev pub unknown_mention : ℕ → SourceUse → Mention
unknown_mention depth u =
    record { depth = depth; site = u.site; word = u.word; resolution = Unknown; target = None }

abbrev pub mention_by : Resolution → ℕ → SourceUse → Key → Mention
mention_by resolution depth u n =
    record { depth = depth; site = u.site; word = u.word; resolution = resolution; target = Some n }

-- how a word leads to the only key that it leads to: `m` to the unit `m` as its name, `miles` to `mile` as a plural
abbrev pub sole_mention_resolution : WordUse → Key → Resolution
sole_mention_resolution u n = if bytes_eq u.text n.name then Name else Plural

-- a word with each of the keys that it leads to. Of two keys the first is a prefix and the second its unit
abbrev pub mentions_to : ℕ → SourceUse → List Key → List Mention
mentions_to depth u [] = unknown_mention depth u ∷ []
mentions_to depth u (n ∷ []) = mention_by (sole_mention_resolution u.word n) depth u n ∷ []
mentions_to depth u (n ∷ ns) = mention_by Prefix depth u n ∷ map (mention_by PrefixedUnit depth u) ns

-- words at this depth, each with the keys that it leads to
abbrev pub mentions : EntryTable → ℕ → List SourceUse → List Mention
mentions table depth uses = flat_map (λ u. mentions_to depth u (table_word_targets table u.word)) uses
