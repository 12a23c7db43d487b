use Rattle.column_convert.proofs.Products.{cell_product_is_parsed}
use Rattle.column_convert.proofs.laws.product_law.Goals as goal

pub returns : goal.returns
returns c = λ negative text x from f a d. cell_product_is_parsed negative x d.decimal text d.number from f a.spelt
    a.reading_is
    d.number_is_numeral.spelt d.number_is_numeral.reading_is d.tree d.no_product_fault
