use Rattle.std.proofs.Common.{◌≡◌, ◌∙◌, ◌<◌, ap, sym, subst, rules, arith, None, Some, length}
use Rattle.std.proofs.lemmas.Option.{slice_get_within}
use Rattle.std.proofs.lemmas.Result.{on_ok_weaker}
use Rattle.units_io.specs.NamePlaces.{name_place, pair_names}
use Rattle.units_io.specs.NamedValues.{NamedTexts, with_named_text, SetsNamedText, HasNoTextOfName}
use Rattle.units_io.specs.NamedValues.{HasDistinctTextNames}
use Rattle.units_io.proofs.Names.{with_named_text-new, with_named_text-Sets, HasDistinctNames-with_value}
use Rattle.units_io.proofs.NamePlaceLemmas.{AreNamePlaces-set, HasNoTextOfName-from_place, fact_of_named_texts}
use Rattle.units_io.proofs.NamePlaceLemmas.{pair_names_count, with_named_text-at_place}
use Rattle.units_io.proofs.vars.Vars.set.Goals as goal

pub invariant_of-self : goal.invariant_of-self
invariant_of-self c =
    let pairs = c.self.inside.pairs.items in
    let found : name_place c.self.inside.places c.args.name ≡ Some c.in-Some.place = search rules in
    let at = (c.self.invariant.1 c.args.name c.in-Some.place).0 found in (
      subst HasDistinctTextNames
          (sym (with_named_text-at_place pairs c.args.name c.args.value c.in-Some.place c.self.invariant.0 at))
          (HasDistinctNames-with_value pairs c.args.name c.args.value c.self.invariant.0),
      AreNamePlaces-set (name_place c.self.inside.places) pairs c.args.name c.args.value c.in-Some.place
          c.self.invariant.1 at,
    )

pub index_mut-requires : goal.index_mut-requires
index_mut-requires c =
    let pairs = c.self.inside.pairs.items in
    let found : name_place c.self.inside.places c.args.name ≡ Some c.in-Some.place = search rules in
    let at = (c.self.invariant.1 c.args.name c.in-Some.place).0 found in
    let within : c.in-Some.place < length (pair_names pairs) = slice_get_within (pair_names pairs) _ c.args.name at in
    let count = pair_names_count pairs in
    let listed = c.self.inside.pairs.ok.0 in
    omega (arith, within, count, listed)

pub push-requires : goal.push-requires
push-requires c =
    let none : name_place c.self.inside.places c.args.name ≡ None = search rules in
    subst (λ (pairs : NamedTexts). HasNoTextOfName pairs c.args.name) c.self.view_is
    (HasNoTextOfName-from_place _ c.self.inside.pairs.items c.args.name c.self.invariant.1 none)

pub returns-in-Some-clause-ok : goal.returns-in-Some-clause-ok
returns-in-Some-clause-ok c =
    let pairs = c.self.inside.pairs.items in
    let found : name_place c.self.inside.places c.args.name ≡ Some c.in-Some.place = search rules in
    let at = (c.self.invariant.1 c.args.name c.in-Some.place).0 found in
    with_named_text-at_place pairs c.args.name c.args.value c.in-Some.place c.self.invariant.0 at
    ∙ ap (λ (pairs : NamedTexts). with_named_text pairs c.args.name c.args.value) c.self.view_is

pub returns-in-Some-clause-values : goal.returns-in-Some-clause-values
returns-in-Some-clause-values c =
    subst (λ (pairs : NamedTexts). SetsNamedText c.args.self.now pairs c.args.name c.args.value)
    (sym (returns-in-Some-clause-ok c))
    (with_named_text-Sets _ _ _)

pub returns-in-Some-clause-distinct : goal.returns-in-Some-clause-distinct
returns-in-Some-clause-distinct c = (invariant_of-self c).0

pub returns-in-None-clause-ok : goal.returns-in-None-clause-ok
returns-in-None-clause-ok c =
    let absent : name_place c.self.inside.places c.args.name ≡ None = search rules in
    let none : HasNoTextOfName c.args.self.now c.args.name =
    subst (λ (pairs : NamedTexts). HasNoTextOfName pairs c.args.name) c.self.view_is
    (HasNoTextOfName-from_place _ c.self.inside.pairs.items c.args.name c.self.invariant.1 absent) in
    on_ok_weaker c.push.result (λ pushed. pushed ∙ sym (with_named_text-new _ _ _ none)) c.push.ensures.ok

pub returns-in-None-clause-values : goal.returns-in-None-clause-values
returns-in-None-clause-values c =
    on_ok_weaker c.push.result (λ pairs_are.
    subst (λ (pairs : NamedTexts). SetsNamedText c.args.self.now pairs c.args.name c.args.value) (sym pairs_are)
    (with_named_text-Sets _ _ _)) (returns-in-None-clause-ok c)

pub returns-in-None-clause-distinct : goal.returns-in-None-clause-distinct
returns-in-None-clause-distinct c =
    let distinct : HasDistinctTextNames c.args.self.now = subst HasDistinctTextNames c.self.view_is c.self.invariant.0
    in
    fact_of_named_texts c.push.result HasDistinctTextNames c.push.new.self _ _ (returns-in-None-clause-ok c)
    c.push.ensures.err (HasDistinctNames-with_value _ _ _ distinct) distinct
