-- Lookup as a list of candidates. A candidate is one key, or a prefix and a unit; a word refers to the first candidate
-- whose keys are all present.
use Rattle.std.specs.Prelude.{◌≡◌, ℕ, zero, suc, Bool, List, [], ◌∷◌, ◌++◌, length, take, drop, flat_map, if◌then◌else◌}
use Rattle.std.specs.List.{list_all}
use Rattle.expr_tree.specs.declared.word_list.WordKind.{WordKind}
use Rattle.expr_tree.specs.declared.word_list.WordKind.TheVariants as place
use Rattle.def_entry.specs.declared.key.Key.{Key}
use Rattle.def_entry.specs.declared.key.Kind.TheVariants as kind
use Rattle.def_entry.specs.Keys.{key}
use Rattle.name_lookup.specs.Plurals.{singulars}

-- the keys that a word refers to (one key, a prefix and a unit, or no key if the word is unknown), and the keys that
-- were looked at, in order, including absent ones
pub record LookupResult : Type 0 where
  pub targets : List Key
  pub keys_looked_at : List Key

-- the candidate for a word split in two: the first part is a prefix, the second a unit unless it is empty
abbrev pub prefix_candidate : List ℕ → List ℕ → List Key
prefix_candidate front [] = key kind.Prefix front ∷ []
prefix_candidate front (b ∷ bs) = key kind.Prefix front ∷ key kind.Unit (b ∷ bs) ∷ []

-- the candidates with a prefix of at most k bytes, the longest prefix first
abbrev pub prefix_candidates_within : ℕ → List ℕ → List (List Key)
prefix_candidates_within zero word = []
prefix_candidates_within (suc k) word =
    prefix_candidate (take (suc k) word) (drop (suc k) word) ∷ prefix_candidates_within k word

-- all candidates of a word that begin with a prefix
abbrev pub prefix_candidates : List ℕ → List (List Key)
prefix_candidates word = prefix_candidates_within (length word) word

-- the candidates of a singular: the unit of that name, and then those that begin with a prefix
abbrev pub singular_candidates : List ℕ → List (List Key)
singular_candidates word = (key kind.Unit word ∷ []) ∷ prefix_candidates word

-- the candidates of each singular of a word, and then those of the word itself that begin with a prefix
abbrev pub part_candidates : List ℕ → List (List Key)
part_candidates word = flat_map singular_candidates (singulars word) ++ prefix_candidates word

-- the candidates of a word, in order of preference: a word alone is a unit rather than a function, a word before an
-- argument in parentheses is a function rather than a unit, and a word after a `~` can only be a function
abbrev pub candidates : WordKind → List ℕ → List (List Key)
candidates place.Plain word = (key kind.Unit word ∷ []) ∷ (key kind.Func word ∷ []) ∷ part_candidates word
candidates place.Call word = (key kind.Func word ∷ []) ∷ (key kind.Unit word ∷ []) ∷ part_candidates word
candidates place.Inverse word = (key kind.Func word ∷ []) ∷ []

module _ (has : Key → Bool) where
  -- the first candidate whose keys are all present, or no key if there is no such candidate
  abbrev pub first_present : List (List Key) → List Key
  first_present [] = []
  first_present (c ∷ cs) = if list_all has c then c else first_present cs

  -- the keys of one candidate that are looked at: those up to and including the first absent one
  abbrev pub keys_looked_at : List Key → List Key
  keys_looked_at [] = []
  keys_looked_at (k ∷ ks) = k ∷ (if has k then keys_looked_at ks else [])

  -- the keys that are looked at in a list of candidates, up to and including the first whose keys are all present
  abbrev pub all_looked_at : List (List Key) → List Key
  all_looked_at [] = []
  all_looked_at (c ∷ cs) = keys_looked_at c ++ (if list_all has c then [] else all_looked_at cs)

  -- the targets of a list of candidates, and the keys that are looked at to find them
  abbrev pub found_targets : List (List Key) → LookupResult
  found_targets cs = record { targets = first_present cs; keys_looked_at = all_looked_at cs }
