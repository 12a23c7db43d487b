-- The keys that a word leads to, as the code represents them.
use Rattle.std.specs.Prelude.{List, [], ◌∷◌}
use Rattle.expr_tree.specs.declared.word_list.WordKind.{WordKind}
use Rattle.expr_tree.specs.declared.word_list.WordKind.TheVariants as word_kind
use Rattle.def_entry.specs.declared.key.Key.{Key}
use Rattle.def_entry.specs.declared.key.Kind.{Kind}
use Rattle.def_entry.specs.declared.key.Kind.TheVariants as kind
use Rattle.value_sources.specs.declared.word_keys.Destination.{Destination}
use Rattle.value_sources.specs.declared.word_keys.Destination.TheVariants.{Nowhere, One, Two}

abbrev pub source_destination_keys : Destination → List Key
source_destination_keys Nowhere = []
source_destination_keys (One n) = n ∷ []
source_destination_keys (Two n m) = n ∷ m ∷ []

-- the kind of the key that the lookup of a word tries first
abbrev pub first_kind_of_mentioned_word : WordKind → Kind
first_kind_of_mentioned_word word_kind.Plain = kind.Unit
first_kind_of_mentioned_word word_kind.Call = kind.Func
first_kind_of_mentioned_word word_kind.Inverse = kind.Func
