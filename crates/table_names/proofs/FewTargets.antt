-- The number of targets of a word.
use Rattle.std.proofs.Common.{◌≡◌, ◌≢◌, List, [], ◌∷◌, sym, ◌∙◌, ap}
use Rattle.def_entry.specs.declared.key.Key.{Key}
use Rattle.def_entry.specs.declared.key.Kind.TheVariants as kind
use Rattle.table_names.specs.Leads.{table_word_targets}
use Rattle.table_names.proofs.TargetKinds.{AreTargets, table_word_targets_have_kinds}
use Rattle.table_names.specs.LookupLaws.{AreFewNumberedTargets, FewNumberedTargetsLaw}

-- a prefix and a unit are different keys
numbered_prefix_and_unit_differ : (n m : Key) → n.kind ≡ kind.Prefix → m.kind ≡ kind.Unit → n ≢ m
numbered_prefix_and_unit_differ n m p u e = let q : kind.Prefix ≡ kind.Unit = sym p
    ∙ (ap (λ (k : Key). k.kind) e ∙ u) in cc

-- the targets of a plan are few
numbered_targets_are_few : (ks : List Key) → AreTargets ks → AreFewNumberedTargets ks
numbered_targets_are_few [] h = tt
numbered_targets_are_few (n ∷ []) h = tt
numbered_targets_are_few (n ∷ m ∷ []) h = (h.0, h.1, numbered_prefix_and_unit_differ n m h.0 h.1)
numbered_targets_are_few (n ∷ m ∷ k ∷ ks) h = h

-- the law of targets
pub few_numbered_targets_law : FewNumberedTargetsLaw
few_numbered_targets_law table u = numbered_targets_are_few (table_word_targets table u)
    (table_word_targets_have_kinds table u)
