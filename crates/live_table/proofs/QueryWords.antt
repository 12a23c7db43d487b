-- The name fault of a query that is cut before a word that leads nowhere.
use Rattle.std.proofs.Common.{◌≡◌, ◌-◌, ◌++◌, ◌∷◌, [], Bool, true, false, cond, List, length, Option, Some, None}
use Rattle.std.proofs.Common.{refl, sym, ◌∙◌, ap}
use Rattle.std.specs.Option.{option_or}
use Rattle.expr_tree.specs.declared.word_list.WordUse.{WordUse}
use Rattle.expr_tree.specs.Names.{is_refused}
use Rattle.def_entry.specs.declared.key.Key.{Key}
use Rattle.def_entry.specs.Tables.{EntryTable}
use Rattle.table_names.specs.declared.fault.NameFault.{NameFault}
use Rattle.table_names.specs.declared.fault.NameFault.TheVariants.{Refused, Unknown}
use Rattle.name_walk.specs.Lists.{first_some}
use Rattle.table_names.specs.Faults.{DeeperNameFault, key_fault_within, name_fault, targets_fault, word_fault}
use Rattle.table_names.specs.Leads.{table_word_targets}
use Rattle.live_table.specs.declared.dead_end.DeadEnd.{DeadEnd}
use Rattle.live_table.specs.ExploredNames.{explored_dead_end_fault}
use Rattle.live_table.specs.QueryWords.{IsExplorationDeadEnd, explored_fault_before}

-- ---- the first of two lists
or_assoc : {A : Type 0} (a b c : Option A) → option_or (option_or a b) c ≡ option_or a (option_or b c)
or_assoc None b c = refl
or_assoc (Some x) b c = refl

first_of_both : {A B : Type 0} (f : A → Option B) (xs ys : List A)
    → first_some f (xs ++ ys) ≡ option_or (first_some f xs) (first_some f ys)
first_of_both f [] ys = refl
first_of_both f (x ∷ xs) ys =
    ap (option_or (f x)) (first_of_both f xs ys) ∙ sym (or_assoc (f x) (first_some f xs) (first_some f ys))

-- ---- a word that leads nowhere has its own fault
module _ (t : EntryTable) (deeper : DeeperNameFault) (u : WordUse) where
  by_flag : (refused : Bool) (ns : List Key) → (refused ≡ false → ns ≡ [])
      → cond refused (Some (Refused u.text None)) (targets_fault t deeper [] u ns)
      ≡ Some (cond refused (Refused u.text None) (Unknown u.text None))
  by_flag true ns h = refl
  by_flag false ns h = ap (targets_fault t deeper [] u) (h refl)

  its_fault : (end : DeadEnd) → IsExplorationDeadEnd t u end → word_fault t deeper [] u ≡ Some
      (explored_dead_end_fault (Some end) None)
  its_fault end d =
      by_flag (is_refused u.text) (table_word_targets t u) d.no_targets
      ∙ (λ i. Some (cond (sym d.refused_word i) (Refused (sym d.text i) None) (Unknown (sym d.text i) None)))

-- the words after a word that leads nowhere do not matter
pub words_after_explored_dead_end : (t : EntryTable) (front rest : List WordUse) (u : WordUse) (end : DeadEnd)
    → IsExplorationDeadEnd t u end
    → explored_fault_before (name_fault t front) end ≡ name_fault t (front ++ u ∷ rest)
words_after_explored_dead_end t front rest u end d =
    sym (first_of_both f front (u ∷ rest) ∙ ap (option_or (first_some f front)) own)
  where
    f : WordUse → Option NameFault
    f = word_fault t (key_fault_within t (length t - 0)) []

    own : first_some f (u ∷ rest) ≡ Some (explored_dead_end_fault (Some end) None)
    own = ap (λ (o : Option NameFault). option_or o (first_some f rest))
        (its_fault t (key_fault_within t (length t - 0)) u end d)
