use Rattle.std.proofs.Common.{◌∷◌, [], ◌-◌, length, refl, sym, ap, ◌∙◌, subst}
use Rattle.def_entry.specs.declared.key.Key.{Key}
use Rattle.def_entry.specs.SameKeys.{is_entry_key_among}
use Rattle.def_entry.specs.Tables.{keys_of_entries}
use Rattle.deck.specs.Tables.{table_of_deck}
use Rattle.name_lookup.specs.declared.targets.Targets.{Targets}
use Rattle.name_lookup.specs.declared.targets.Targets.TheVariants as which
use Rattle.name_lookup.specs.Order.{lookup_plan}
use Rattle.name_lookup.specs.Plans.{run_lookup_plan}
use Rattle.name_lookup.specs.Targets.{AreLookupTargetsFound}
use Rattle.value_sources.proofs.Leads.{none_found, one_found, source_targets_found}
use Rattle.value_sources.proofs.lookup.Lookup.keys_of_word.Goals as goal

pub returns-in-Nowhere : goal.returns-in-Nowhere
returns-in-Nowhere c =
    let t = table_of_deck c.args.self.now.deck.now in
    let u = c.args.word.now in
    let tried = c.find_targets.new.looking in
    none_found t u tried (source_targets_found t u c.lookup_law.ensures which.Nowhere c.clear.new.self tried
    c.kind.result
    c.text.result.now c.clear.ensures c.kind.ensures c.text.ensures
    (subst (λ (w : Targets). AreLookupTargetsFound w c.clear.new.self tried
    (run_lookup_plan (is_entry_key_among (keys_of_entries t)) (lookup_plan c.kind.result c.text.result.now)))
    c.in-Nowhere.is
    c.in_ok-find_targets.ensures.found))

pub returns-in_ok-last_key-in-Last : goal.returns-in_ok-last_key-in-Last
returns-in_ok-last_key-in-Last c =
    let t = table_of_deck c.args.self.now.deck.now in
    let u = c.args.word.now in
    let tried = c.find_targets.new.looking in
    one_found t u tried (source_targets_found t u c.lookup_law.ensures which.Last c.clear.new.self tried c.kind.result
    c.text.result.now c.clear.ensures c.kind.ensures c.text.ensures
    (subst (λ (w : Targets). AreLookupTargetsFound w c.clear.new.self tried
    (run_lookup_plan (is_entry_key_among (keys_of_entries t)) (lookup_plan c.kind.result c.text.result.now)))
    c.in-Last.is
    c.in_ok-find_targets.ensures.found))
    (length tried - 1) refl
    ∙ ap (λ (k : Key). k ∷ []) (sym c.in_ok-last_key-in-Last.ensures)
