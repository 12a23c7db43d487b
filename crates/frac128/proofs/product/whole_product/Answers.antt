use Rattle.std.proofs.Common.{◌*◌, arith, inl, lit<}
use Rattle.frac128.proofs.Lowest.{coprime_ratio_is_lowest_terms}
use Rattle.frac128.proofs.TenPowers.{coprime_one}
use Rattle.frac128.proofs.product.whole_product.Goals as goal

pub returns-clause-found : goal.returns-clause-found
returns-clause-found c =
    let n = c.args.a * c.args.c in
    let low = coprime_ratio_is_lowest_terms n 1 (lit< tt) (coprime_one n) in
    rw c.in_ok-checked_mul.ensures.1 low

pub returns-in_err-checked_mul-clause-wide : goal.returns-in_err-checked_mul-clause-wide
returns-in_err-checked_mul-clause-wide c =
    let n = c.args.a * c.args.c in
    let low = coprime_ratio_is_lowest_terms n 1 (lit< tt) (coprime_one n) in
    rw c.from_residual.ensures (inl (rw low.top_is (omega (arith, c.in_err-checked_mul.ensures))))
