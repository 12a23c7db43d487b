use Rattle.std.proofs.Common.{◌≡◌, ◌∙◌, sym, None, Some}
use Rattle.std.specs.BTreeMap.{get}
use Rattle.quantity.specs.Stores.{power_of_walk_entry}
use Rattle.quantity.proofs.Joins.{joined_fault, joined_new, joined_sum, joined_zero, lone_power_in_order}
use Rattle.quantity.proofs.Names.{by_bytes}
use Rattle.quantity.proofs.Trees.{sorted_power_keys, tree_lookup_finds_power, updated_tree_power}
use Rattle.quantity.proofs.power_join.join.Goals as goal

pub returns-in_default : goal.returns-in_default
returns-in_default c =
    let old = c.args.tree.now in
    let new = c.set_exponent.new.tree in
    let name = c.args.power.name.now in
    let x = c.exponent-exponent.result in
    let none : get by_bytes old name ≡ None = sym c.in_default.ensures.value in
    joined_new c.reduced_law.ensures c.args.factor old.entries (power_of_walk_entry c.args.power) c.requires.tree
    (lone_power_in_order (power_of_walk_entry c.args.power) c.requires.power) new.entries x c.exponent-exponent.ensures
    (sym (tree_lookup_finds_power old name) ∙ none) (sorted_power_keys new.entries c.in_ok-set_exponent.ensures.ordered)
    (updated_tree_power old new name (Some x) c.in_ok-set_exponent.ensures.updates)

pub returns-in_default-add : goal.returns-in_default-add
returns-in_default-add c =
    let old = c.args.tree.now in
    let name = c.args.power.name.now in
    let there : get by_bytes old name ≡ Some c.in-Some.old.now = sym c.in-Some.ensures.value in
    joined_fault c.reduced_law.ensures c.args.factor old.entries (power_of_walk_entry c.args.power) c.requires.tree
    (lone_power_in_order (power_of_walk_entry c.args.power) c.requires.power) c.in-Some.old.now
    c.exponent-exponent.result
    c.exponent-exponent.ensures (sym (tree_lookup_finds_power old name) ∙ there) c.in_default-add.ensures

pub returns-then-is_zero : goal.returns-then-is_zero
returns-then-is_zero c =
    let old = c.args.tree.now in
    let new = c.remove.new.self in
    let name = c.args.power.name.now in
    let there : get by_bytes old name ≡ Some c.in-Some.old.now = sym c.in-Some.ensures.value in
    joined_zero c.reduced_law.ensures c.args.factor old.entries (power_of_walk_entry c.args.power) c.requires.tree
    (lone_power_in_order (power_of_walk_entry c.args.power) c.requires.power) new.entries c.in-Some.old.now
    c.exponent-exponent.result c.in-Some-add.sum c.exponent-exponent.ensures
    (sym (tree_lookup_finds_power old name) ∙ there)
    c.in-Some-add.ensures (sym c.if-is_zero.ensures.value) (sorted_power_keys new.entries c.remove.ensures.ordered)
    (updated_tree_power old new name None c.remove.ensures.updates)

pub returns-in_ok-set_exponent-2 : goal.returns-in_ok-set_exponent-2
returns-in_ok-set_exponent-2 c =
    let old = c.args.tree.now in
    let new = c.set_exponent-else-is_zero.new.tree in
    let name = c.args.power.name.now in
    let sum = c.in-Some-add.sum in
    let there : get by_bytes old name ≡ Some c.in-Some.old.now = sym c.in-Some.ensures.value in
    joined_sum c.reduced_law.ensures c.args.factor old.entries (power_of_walk_entry c.args.power) c.requires.tree
    (lone_power_in_order (power_of_walk_entry c.args.power) c.requires.power) new.entries c.in-Some.old.now
    c.exponent-exponent.result sum c.exponent-exponent.ensures (sym (tree_lookup_finds_power old name) ∙ there)
    c.in-Some-add.ensures (sym c.if-is_zero.ensures.value)
    (sorted_power_keys new.entries c.in_ok-set_exponent-2.ensures.ordered)
    (updated_tree_power old new name (Some sum) c.in_ok-set_exponent-2.ensures.updates)
