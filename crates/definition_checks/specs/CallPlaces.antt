-- Words before an argument in parentheses, as `km` in `km(2)`. A unit there may be a plural or have a prefix, as
-- elsewhere, since it is multiplied; a function may not.
use Rattle.std.specs.Prelude.{◌≡◌, ℕ, List, [], ◌∷◌, codes}
use Rattle.expr_tree.specs.declared.word_list.WordKind.TheVariants as place
use Rattle.def_entry.specs.declared.key.Key.{Key}
use Rattle.def_entry.specs.SameKeys.{is_entry_key_among}
use Rattle.name_lookup.specs.Candidates.{candidates, found_targets}
use Rattle.name_lookup.specs.Examples.{lookup_function, lookup_prefix, lookup_unit}

-- the keys that a word before an argument refers to if exactly these keys are present
abbrev pub call_targets_among : List Key → List ℕ → List Key
call_targets_among keys word = (found_targets (is_entry_key_among keys) (candidates place.Call word)).targets

pub record CallPlaceExamples : Type 0 where
  pub plural_unit : call_targets_among (lookup_unit (codes "mile") ∷ []) (codes "miles")
      ≡ lookup_unit (codes "mile") ∷ []
  pub plural_function : call_targets_among (lookup_function (codes "mile") ∷ []) (codes "miles") ≡ []
  pub prefixed_unit : call_targets_among (lookup_prefix (codes "k") ∷ lookup_unit (codes "m") ∷ []) (codes "km")
      ≡ lookup_prefix (codes "k") ∷ lookup_unit (codes "m") ∷ []
  pub prefixed_function : call_targets_among (lookup_prefix (codes "k") ∷ lookup_function (codes "m") ∷ []) (codes "km")
      ≡ []
  pub function_before_plural : call_targets_among (lookup_unit (codes "mile") ∷ lookup_function (codes "miles") ∷ [])
      (codes "miles") ≡ lookup_function (codes "miles") ∷ []
