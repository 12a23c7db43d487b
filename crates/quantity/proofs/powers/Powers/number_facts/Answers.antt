use Rattle.quantity.specs.declared.factor.Factor.TheVariants.{Inverse, Plain}
use Rattle.quantity.specs.Stores.{stored_powers}
use Rattle.quantity.proofs.Copies.{exponents_with_number, number_with_exponents}
use Rattle.quantity.proofs.powers.Powers.number_facts.Goals as goal

pub returns-clause-product : goal.returns-clause-product
returns-clause-product c =
    exponents_with_number c.reduced_law.ensures Plain _ (stored_powers c.self.inside.store) c.self.invariant
    c.self.view_is

pub returns-clause-factor : goal.returns-clause-factor
returns-clause-factor c =
    number_with_exponents c.reduced_law.ensures _ (stored_powers c.self.inside.store) c.self.invariant c.self.view_is

pub returns-clause-quotient : goal.returns-clause-quotient
returns-clause-quotient c =
    exponents_with_number c.reduced_law.ensures Inverse _ (stored_powers c.self.inside.store) c.self.invariant
    c.self.view_is
