-- The order in which the keys of a word are looked up, as a plan.
use Rattle.std.specs.Prelude.{ℕ, zero, suc, Bool, true, false, List, [], ◌∷◌, ◌++◌, length, take, drop, codes}
use Rattle.expr_tree.specs.declared.word_list.WordKind.{WordKind}
use Rattle.expr_tree.specs.declared.word_list.WordKind.TheVariants as place
use Rattle.def_entry.specs.declared.key.Key.{Key}
use Rattle.def_entry.specs.declared.key.Kind.{Kind}
use Rattle.def_entry.specs.declared.key.Kind.TheVariants as kind
use Rattle.def_entry.specs.Keys.{key}
use Rattle.name_lookup.specs.Plans.{LookupPlan, Gives, Asks}
pub use Rattle.name_lookup.specs.Plurals.{has_plural_ending, stem_without_end}

-- looks up a key, which is the target if it is present
abbrev pub try_key : Key → LookupPlan → LookupPlan
try_key k next = Asks k (Gives (k ∷ [])) next

-- the plan after a prefix was found: the prefix is the target if nothing is left of the word; otherwise the prefix
-- and the unit of the rest are the targets if that unit is present
abbrev pub with_prefix : Key → List ℕ → LookupPlan → LookupPlan
with_prefix prefix [] next = Gives (prefix ∷ [])
with_prefix prefix (b ∷ bs) next =
    Asks (key kind.Unit (b ∷ bs)) (Gives (prefix ∷ key kind.Unit (b ∷ bs) ∷ [])) next

-- tries the first k bytes of a word as a prefix
abbrev pub try_prefix : ℕ → List ℕ → LookupPlan → LookupPlan
try_prefix k word next =
    Asks (key kind.Prefix (take k word)) (with_prefix (key kind.Prefix (take k word)) (drop k word) next) next

-- tries the prefixes of at most k bytes, the longest first
abbrev pub try_prefixes : ℕ → List ℕ → LookupPlan → LookupPlan
try_prefixes zero word next = next
try_prefixes (suc k) word next = try_prefix (suc k) word (try_prefixes k word next)

-- tries a stem as a unit, and then its prefixes
abbrev pub try_stem : List ℕ → LookupPlan → LookupPlan
try_stem stem next = try_key (key kind.Unit stem) (try_prefixes (length stem) stem next)

-- tries a stem if the word has it
abbrev pub try_stem_if : Bool → List ℕ → LookupPlan → LookupPlan
try_stem_if true stem next = try_stem stem next
try_stem_if false stem next = next

-- tries the words of which the word may be the plural
abbrev pub try_stems : List ℕ → LookupPlan → LookupPlan
try_stems word next =
    try_stem_if (has_plural_ending 2 (codes "s") word) (stem_without_end 1 word)
    (try_stem_if (has_plural_ending 3 (codes "es") word) (stem_without_end 2 word)
    (try_stem_if (has_plural_ending 4 (codes "ies") word) (stem_without_end 3 word ++ codes "y") next))

-- tries the stems of a word, and then the prefixes of the word itself
abbrev pub try_parts : List ℕ → LookupPlan → LookupPlan
try_parts word next = try_stems word (try_prefixes (length word) word next)

-- tries the word as a key of the first kind, then of the second kind, and then its parts
abbrev pub try_kinds : Kind → Kind → List ℕ → LookupPlan → LookupPlan
try_kinds first second word next = try_key (key first word) (try_key (key second word) (try_parts word next))

-- tries a word alone as a unit before a function, a word before an argument as a function before a unit, and a word
-- after a `~` only as a function
abbrev pub try_word : WordKind → List ℕ → LookupPlan → LookupPlan
try_word place.Plain word next = try_kinds kind.Unit kind.Func word next
try_word place.Call word next = try_kinds kind.Func kind.Unit word next
try_word place.Inverse word next = try_key (key kind.Func word) next

-- the plan of a word
abbrev pub lookup_plan : WordKind → List ℕ → LookupPlan
lookup_plan at word = try_word at word (Gives [])
