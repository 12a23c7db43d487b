-- The words of an entry, each with the tree that contains it.
use Rattle.std.specs.Prelude.{◌≡◌, ◌++◌, ℕ, List, [], ◌∷◌, map, Option, Some, None}
use Rattle.expr_tree.specs.declared.word_list.WordUse.{WordUse}
use Rattle.expr_tree.specs.Words.{words_in}
use Rattle.def_entry.specs.declared.key.Key.{Key}
use Rattle.def_entry.specs.Entries as what
use Rattle.def_entry.specs.Entries.{Entry, FunctionDef, What}
use Rattle.def_entry.specs.Tables.{EntryTable, entry_at}
use Rattle.tree_eval.specs.Entries.{eval_tree_words_if}
use Rattle.tree_eval.specs.Expansion.{inverted_eval_word}
use Rattle.table_names.specs.Words.{table_words_of_key}
use Rattle.value_sources.specs.declared.site.Site.{Site}
use Rattle.value_sources.specs.declared.site.Site.TheVariants as site

-- a word and the tree that contains it
pub record SourceUse : Type 0 where
  pub site : Site
  pub word : WordUse

abbrev pub source_use_at : Site → WordUse → SourceUse
source_use_at s u = record { site = s; word = u }

-- the words of one tree
abbrev pub source_uses_at : Site → List WordUse → List SourceUse
source_uses_at s words = map (source_use_at s) words

abbrev pub function_source_uses : FunctionDef → List SourceUse
function_source_uses d =
    source_uses_at site.InUnit (eval_tree_words_if d.in_unit) ++ source_uses_at site.OutUnit
    (eval_tree_words_if d.out_unit)
    ++ source_uses_at site.Forward (words_in d.forward) ++ source_uses_at site.Inverse (eval_tree_words_if d.inverse)

-- the word of an alias, which is the function that it names
abbrev pub alias_source_uses : List ℕ → List SourceUse
alias_source_uses target = source_uses_at site.AliasTarget (inverted_eval_word target ∷ [])

-- the words of a definition, tree after tree
abbrev pub what_source_uses : What → List SourceUse
what_source_uses what.Primitive = []
what_source_uses what.Dimensionless = []
what_source_uses (what.Body e) = source_uses_at site.Body (words_in e)
what_source_uses (what.Function d) = function_source_uses d
what_source_uses (what.Alias target) = alias_source_uses target
what_source_uses (what.Table d) = source_uses_at site.TableUnit (words_in d.unit)
what_source_uses (what.ListOf parts) = []

abbrev pub entry_source_uses : Option Entry → List SourceUse
entry_source_uses None = []
entry_source_uses (Some e) = what_source_uses e.what

-- the words of the entry of a key, or none if it has no entry
abbrev pub key_source_uses : EntryTable → Key → List SourceUse
key_source_uses table n = entry_source_uses (entry_at table n)

-- the words without their trees
abbrev pub source_use_words : List SourceUse → List WordUse
source_use_words uses = map (λ u. u.word) uses

-- law: without their trees the uses of a key are its words
abbrev pub SourceUsesLaw : Type 0
SourceUsesLaw = (table : EntryTable) (n : Key) → source_use_words (key_source_uses table n) ≡ table_words_of_key table n
