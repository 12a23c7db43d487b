-- Laws of lookup.
use Rattle.std.specs.Prelude.{◌≡◌, ℕ, Bool, true, List, Contains}
use Rattle.expr_tree.specs.declared.word_list.WordKind.{WordKind}
use Rattle.def_entry.specs.declared.key.Key.{Key}
use Rattle.name_lookup.specs.Candidates.{candidates, found_targets}
use Rattle.name_lookup.specs.Order.{lookup_plan}
use Rattle.name_lookup.specs.Plans.{run_lookup_plan}

-- law: whichever keys are present, the search for a word finds the first candidate whose keys are all present, and
-- looks at the keys of the candidates up to that one
abbrev pub CandidatesLaw : Type 0
CandidatesLaw = (has : Key → Bool) (kind : WordKind) (word : List ℕ)
    → run_lookup_plan has (lookup_plan kind word) ≡ found_targets has (candidates kind word)

-- law: every target is a key that was looked at and is present
abbrev pub LookupTargetsLaw : Type 0
LookupTargetsLaw = (has : Key → Bool) (kind : WordKind) (word : List ℕ) (k : Key)
    → Contains (found_targets has (candidates kind word)).targets k
    → Contains (found_targets has (candidates kind word)).keys_looked_at k × (has k ≡ true)

-- law: if two tables agree on the keys that a lookup looks at in the first, then the lookup has the same result in
-- both
abbrev pub SameLookupLaw : Type 0
SameLookupLaw = (has had : Key → Bool) (kind : WordKind) (word : List ℕ)
    → ((k : Key) → Contains (found_targets has (candidates kind word)).keys_looked_at k → has k ≡ had k)
    → found_targets has (candidates kind word) ≡ found_targets had (candidates kind word)
