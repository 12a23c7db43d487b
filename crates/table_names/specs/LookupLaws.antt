-- The number of targets of a word.
use Rattle.std.specs.Prelude.{◌≡◌, ◌≢◌, ⊤, List, [], ◌∷◌}
use Rattle.expr_tree.specs.declared.word_list.WordUse.{WordUse}
use Rattle.def_entry.specs.declared.key.Key.{Key}
use Rattle.def_entry.specs.declared.key.Kind.TheVariants as kind
use Rattle.def_entry.specs.Tables.{EntryTable}
use Rattle.table_names.specs.Leads.{table_word_targets}

-- there is no key, one key, or a prefix and a unit, which are different keys
abbrev pub AreFewNumberedTargets : List Key → Type 0
AreFewNumberedTargets [] = ⊤
AreFewNumberedTargets (n ∷ []) = ⊤
AreFewNumberedTargets (n ∷ m ∷ []) = (n.kind ≡ kind.Prefix) × (m.kind ≡ kind.Unit) × (n ≢ m)
AreFewNumberedTargets (n ∷ m ∷ k ∷ ks) = ⊥

-- law: each word in any table has no target, one target, or a prefix and a unit
abbrev pub FewNumberedTargetsLaw : Type 0
FewNumberedTargetsLaw = (table : EntryTable) (u : WordUse) → AreFewNumberedTargets (table_word_targets table u)
