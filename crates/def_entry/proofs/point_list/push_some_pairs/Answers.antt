use Rattle.std.proofs.Common.{sym, ap, subst, inr, ◌∙◌}
use Rattle.def_entry.specs.declared.fault.EntryFault.TheVariants.{BadTable}
use Rattle.def_entry.specs.Outcomes.{GivesEntry, or_entry_fault}
use Rattle.def_entry.specs.PointLists.{within_point_pair_limit}
use Rattle.def_entry.proofs.PointWords.{onto, some_point_pairs-none, some_point_pairs-some}
use Rattle.def_entry.proofs.point_list.push_some_pairs.Goals as goal

pub returns-then-is_empty : goal.returns-then-is_empty
returns-then-is_empty c =
    inr (ap (λ found. or_entry_fault BadTable (within_point_pair_limit found))
    (some_point_pairs-none c.args.points.now.items c.args.text.now c.trim_front.result.now c.trim_front.ensures
    (sym c.is_empty.ensures ∙ c.if-is_empty.true)))

pub returns : goal.returns
returns c =
    subst (λ pairs. GivesEntry (λ done. c.push_pairs.new.points.items) c.push_pairs.result
    (or_entry_fault BadTable (within_point_pair_limit (onto c.args.points.now.items pairs))))
    (sym (some_point_pairs-some c.args.text.now c.trim_front.result.now c.trim_front.ensures
    (sym c.is_empty.ensures ∙ c.if-is_empty.false))) c.push_pairs.ensures
