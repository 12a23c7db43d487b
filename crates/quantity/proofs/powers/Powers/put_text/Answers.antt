use Rattle.std.proofs.Common.{◌≡◌, ◌++◌, OnOk, refl, subst}
use Rattle.quantity.specs.Text.{listed_powers_text}
use Rattle.quantity.specs.Stores.{stored_powers}
use Rattle.quantity.proofs.Single.{ordered_powers_list_of_map}
use Rattle.quantity.proofs.powers.Powers.put_text.Goals as goal

pub returns : goal.returns
returns c =
    let list = ordered_powers_list_of_map (stored_powers c.self.inside.store) _ _ c.self.invariant c.self.view_is refl
    in
    subst (λ es. OnOk c.put_text.result (c.put_text.new.text.items ≡ c.args.text.now.items ++ listed_powers_text es))
    list.same c.put_text.ensures
