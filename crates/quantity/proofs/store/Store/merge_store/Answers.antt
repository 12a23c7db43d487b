use Rattle.std.proofs.Common.{◌∙◌, sym}
use Rattle.quantity.specs.Factors.{exponent_in}
use Rattle.quantity.specs.Stores.{stored_powers}
use Rattle.quantity.proofs.Copies.{no_powers_by_test, powers_merged_into_empty, powers_merged_with_empty}
use Rattle.quantity.proofs.store.Store.merge_store.Goals as goal

pub returns-then-is_empty : goal.returns-then-is_empty
returns-then-is_empty c =
    let none = no_powers_by_test (stored_powers c.args.other.now) (sym c.is_empty.ensures ∙ c.if-is_empty.true) in
    powers_merged_with_empty (exponent_in c.args.factor) (stored_powers c.args.self) (stored_powers c.args.other.now)
    c.requires.left.powers_right
    none

pub returns-then-is_empty-2 : goal.returns-then-is_empty-2
returns-then-is_empty-2 c =
    let none = no_powers_by_test (stored_powers c.args.self) (sym c.is_empty-2.ensures ∙ c.if-is_empty-2.true) in
    powers_merged_into_empty c.args.factor (stored_powers c.args.self) (stored_powers c.args.other.now)
    (stored_powers c.in_ok-copy_powers.field-0)
    c.requires.right.powers_right none c.in_ok-copy_powers.ensures
