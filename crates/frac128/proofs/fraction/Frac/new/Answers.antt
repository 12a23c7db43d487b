use Rattle.std.proofs.Common.{◌≡◌, ◌<◌, ℤ, pos, refl, sym, ap, ◌∙◌, unsigned_abs, of_z}
use mir.Syntax.{w128}
use Rattle.std.proofs.lemmas.Int.{to_z-of_z}
use Rattle.frac128.specs.Sign.{signed_numerator, whole_signs_differ}
use Rattle.frac128.specs.Steps.{ratio}
use Rattle.frac128.proofs.Signs.{nonzero_numerator_abs, ratio-signed_numerator, ratio_from_signs}
use Rattle.frac128.proofs.fraction.Frac.new.Goals as goal

-- a ratio, computed from its sign and magnitudes
by_signs : (n d : ℤ) → 0 < unsigned_abs d
    → ratio n d ≡ ratio (signed_numerator (whole_signs_differ n d) (unsigned_abs n)) (pos (unsigned_abs d))
by_signs n d some =
    ratio_from_signs n d _ _ some (record { top_is = refl; bottom_is = refl })
    ∙ sym (ratio-signed_numerator _ (unsigned_abs n) (unsigned_abs d) _ _ some
    (record { top_is = refl; bottom_is = refl }))

pub reduce_by-requires-clause-some : goal.reduce_by-requires-clause-some
reduce_by-requires-clause-some c =
    let fits_d = c.ranges.d in
    rw (simp to_z-of_z at c.unsigned_abs-bottom.ensures.value)
    (nonzero_numerator_abs c.args.d (λ e. c.if-d-eq0.false (ap (of_z w128) e)))

pub returns : goal.returns
returns c =
    let fits_n = c.ranges.n in
    let fits_d = c.ranges.d in
    let top = simp to_z-of_z at c.unsigned_abs-top.ensures.value in
    let bottom = simp to_z-of_z at c.unsigned_abs-bottom.ensures.value in
    let signs = simp to_z-of_z at c.differ.ensures in
    c.reduce_by.ensures
    ∙ ap (λ s. ratio (signed_numerator s c.unsigned_abs-top.result) (pos c.unsigned_abs-bottom.result)) signs
    ∙ ap (λ k. ratio (signed_numerator (whole_signs_differ c.args.n c.args.d) k) (pos c.unsigned_abs-bottom.result)) top
    ∙ ap (λ k. ratio (signed_numerator (whole_signs_differ c.args.n c.args.d) (unsigned_abs c.args.n)) (pos k)) bottom
    ∙ sym (by_signs c.args.n c.args.d (nonzero_numerator_abs c.args.d (λ e. c.if-d-eq0.false (ap (of_z w128) e))))
