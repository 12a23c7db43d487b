use Rattle.std.proofs.Common.{◌++◌, ◌∷◌, ◌+◌, [], List, ℕ, drop, take, sym, ap, subst, ◌∙◌, arith}
use Rattle.units_io.specs.NamedValues.{HasDistinctTextNames, HasNoTextOfName, NamedTexts}
use Rattle.units_io.proofs.Names.{HasNoName-before}
use Rattle.deck.proofs.SettingChanges.{setting_pairs_split_at_place}
use Rattle.deck.proofs.deck.setting_change.all_but_last.Goals as goal
use Rattle.general_lemmas.proofs.Places.{take_at}

pub push-requires : goal.push-requires
push-requires c =
    let all = c.args.vars.now in
    let i = c.loop-i.i in
    let p : List ℕ × List ℕ = c.in_ok-variable.variable in
    subst (λ (ps : NamedTexts). HasNoTextOfName ps p.0) (sym c.loop-i.invariant.0)
    (HasNoName-before (take i all) p (drop (i + 1) all)
    (subst HasDistinctTextNames (setting_pairs_split_at_place all i p c.in_ok-variable.ensures) c.len.ensures.distinct))

pub loop-i-preserved : goal.loop-i-preserved
loop-i-preserved c =
    let all = c.args.vars.now in
    let i = c.loop-i.i in
    let p : List ℕ × List ℕ = c.in_ok-variable.variable in (
      c.in_ok-push.ensures.ok
          ∙ ap (λ (ps : NamedTexts). ps ++ p ∷ []) c.loop-i.invariant.0 ∙ sym (take_at all i p c.in_ok-variable.ensures),
      omega (arith, c.loop-i-test.true),
    )
