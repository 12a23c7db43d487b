use Rattle.std.proofs.Common.{◌++◌, ◌∷◌, ◌∙◌, [], ap, ap₂, map, sym}
use Rattle.std.proofs.lemmas.List.{append-nil}
use Rattle.quantity.specs.Factors.{exponent_in}
use Rattle.quantity.specs.Merges.{UnitPowers, unit_power_by}
use Rattle.quantity.proofs.Alone.{copied_powers_next}
use Rattle.quantity.proofs.store.list_powers.Goals as goal

pub loop-name-preserved : goal.loop-name-preserved
loop-name-preserved c =
    let out : UnitPowers = c.loop-name.items.items in
    let power = c.new.ensures ∙ ap₂ (λ n e. (n, e)) c.in_ok-copy.ensures c.exponent.ensures in
    copied_powers_next (exponent_in c.args.factor) out c.loop-name.name-iterator _ _ c.push.new.self.items
    (c.in-Some.name.now, c.in-Some.exponent.now) c.loop-name.invariant c.in-Some.ensures.steps
    (c.in_ok-push.ensures.ok ∙ ap (λ p. out ++ p ∷ []) power)

pub returns : goal.returns
returns c =
    let out : UnitPowers = c.loop-name.items.items in
    let step = unit_power_by (exponent_in c.args.factor) in
    sym (append-nil out) ∙ ap (λ (es : UnitPowers). out ++ map step es) (sym c.in-None.ensures.steps.0)
    ∙ c.loop-name.invariant ∙ ap (map step) c.into_iter-name-iterator.ensures.into_iter_gives.0
