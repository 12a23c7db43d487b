use Rattle.column_convert.proofs.Replies.{product_converting}
use Rattle.column_convert.proofs.laws.cell_value_law.Goals as goal

pub returns : goal.returns
returns c = λ table options negative text x from f to a d. product_converting table options negative x d.decimal text
    d.number from to f a.spelt a.reading_is d.number_is_numeral.spelt d.number_is_numeral.reading_is d.tree
    d.no_product_fault
