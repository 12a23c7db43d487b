use Rattle.std.proofs.Common.{◌≡◌, ◌%◌, true, false, sym, subst, ◌∙◌}
use Rattle.frac128.specs.Roots.{IsFractionRootAnswer}
use Rattle.frac128.proofs.Powers.{IsMade}
use Rattle.frac128.proofs.Roots.{fraction_root_fits, roots_are_coprime, whole_root_some}
use Rattle.frac128.proofs.fraction.Frac.root_by_parts.Goals.{else-negative-via-then-negative+else-q-eq0}
use Rattle.frac128.proofs.fraction.Frac.root_by_parts.Goals.{else-negative-via-else-negative}
use Rattle.frac128.proofs.fraction.Frac.root_by_parts.Goals as goal

differs : true ≡ false → ⊥
differs e = cc

pub of_lowest_terms-requires-clause-some : goal.of_lowest_terms-requires-clause-some
of_lowest_terms-requires-clause-some c = whole_root_some _ _ _ c.requires c.in-Some-Some.ensures' c.bottom.ensures.some

pub of_lowest_terms-requires-clause-lowest : goal.of_lowest_terms-requires-clause-lowest
of_lowest_terms-requires-clause-lowest c =
    roots_are_coprime _ _ _ _ _ c.requires c.in-Some-Some.ensures c.in-Some-Some.ensures'
    (rw c.bottom.ensures.is c.top.ensures.lowest)

pub returns-in-Some-Some : goal.returns-in-Some-Some
returns-in-Some-Some c =
    let made : IsMade c.args.self.now c.is_negative-negative.result c.top.result c.bottom.result = record {
      s_is = c.is_negative-negative.ensures;
      a_is = c.top.ensures.is;
      b_is = c.bottom.ensures.is;
      some = c.bottom.ensures.some;
      lowest = c.top.ensures.lowest;
    } in
    let odd : c.is_negative-negative.result ≡ true → c.args.q % 2 ≡ 0 → ⊥ = elim c.else-negative.branch [
      | else-negative-via-then-negative+else-q-eq0 w ↦ λ e h. w.if-q-eq0.false h
      | else-negative-via-else-negative w ↦ λ e h. differs (sym e ∙ w.if-negative.false)
    ] in
    subst (IsFractionRootAnswer c.args.self.now c.args.q) (sym c.of_lowest_terms.ensures)
    (fraction_root_fits _ _ _ _ _ _ _ made c.requires c.in-Some-Some.ensures c.in-Some-Some.ensures' c.top.ensures.fits
    c.bottom.ensures.fits odd)
