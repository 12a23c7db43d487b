use Rattle.std.proofs.Common.{◌++◌, ◌∷◌, [], Bool, List, Result, Ok, Err, refl, ap, ◌∙◌}
use Rattle.std.specs.Prelude.{OnOk}
use Rattle.deck_lines.specs.declared.line.DeckLine.{DeckLine}
use Rattle.deck.proofs.force.flags.push_flag.Goals as goal

on_ok : {A E P : Type 0} (r : Result A E) → P → OnOk r P
on_ok (Ok x) p = p
on_ok (Err e) p = tt

pub returns-clause-flags : goal.returns-clause-flags
returns-clause-flags c = λ number.
    let line : DeckLine =
    record { number = number; text = c.args.line.text.now; mark = c.args.line.mark } in
    on_ok c.pass.result
    (◌∙◌ {A = List Bool} c.in_ok-push.ensures.items (ap (λ active. c.args.flags.now.items ++ active ∷ []) (c.is_active.ensures line refl)))
