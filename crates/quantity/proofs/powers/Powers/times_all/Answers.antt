use Rattle.std.proofs.Common.{◌≡◌, ◌∙◌, ap, sym}
use Rattle.std.specs.FinMap as map_of
use Rattle.quantity.specs.Exponents.{Exponents}
use Rattle.quantity.specs.Products.{product_exponents}
use Rattle.quantity.proofs.Copies.{no_names_no_exponents}
use Rattle.quantity.proofs.powers.Powers.times_all.Goals as goal

pub returns-then-is_empty : goal.returns-then-is_empty
returns-then-is_empty c =
    let none : c.args.self ≡ map_of.empty = no_names_no_exponents c.args.self
    (sym c.is_empty.ensures ∙ c.if-is_empty.true) in
    sym (ap (λ (p : Exponents). product_exponents p c.args.other) none ∙ c.number_facts.ensures.factor)
