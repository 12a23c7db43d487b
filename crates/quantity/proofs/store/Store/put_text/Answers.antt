use Rattle.std.proofs.Common.{◌≡◌, ◌++◌, ◌∙◌, OnOk, ap, subst, sym}
use Rattle.quantity.specs.Merges.{UnitPowers}
use Rattle.quantity.specs.Stores.{stored_powers}
use Rattle.quantity.specs.Text.{listed_powers_text}
use Rattle.quantity.proofs.Copies.{plain_step_keeps_powers}
use Rattle.quantity.proofs.store.Store.put_text.Goals as goal

pub returns-in_ok-items-in-Many : goal.returns-in_ok-items-in-Many
returns-in_ok-items-in-Many c =
    let same = c.as_slice-in-Many.ensures ∙ c.in_ok-items-in-Many.ensures ∙ plain_step_keeps_powers _
    ∙ sym (ap stored_powers c.in-Many.is) in
    subst (λ (es : UnitPowers). OnOk c.put_powers-in-Many.result
    (c.put_powers-in-Many.new.text.items ≡ c.args.text.now.items ++ listed_powers_text es)) same
    c.put_powers-in-Many.ensures
