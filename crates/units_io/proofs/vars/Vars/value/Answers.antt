use Rattle.std.proofs.Common.{◌≡◌, ◌∙◌, ◌<◌, ap, sym, rules, arith, Some, None, length, slice_get}
use Rattle.std.proofs.lemmas.Option.{slice_get_within, slice_get-get_or}
use Rattle.units_io.specs.NamePlaces.{name_place, pair_names}
use Rattle.units_io.specs.NamedValues.{NamedTexts, named_text}
use Rattle.units_io.proofs.Names.{HasNoName-not_found}
use Rattle.units_io.proofs.NamePlaceLemmas.{HasNoTextOfName-from_place, named_text-at_place, named_text-no_pair}
use Rattle.units_io.proofs.NamePlaceLemmas.{pair_names_count}
use Rattle.units_io.proofs.vars.Vars.value.Goals as goal

pub returns-in_err-place-clause-value : goal.returns-in_err-place-clause-value
returns-in_err-place-clause-value c =
    let pairs = c.self.inside.pairs.items in
    let absent : name_place c.self.inside.places c.args.name.now ≡ None = search rules in
    let result : c.from_residual.result ≡ None = search rules in
    rw result (sym (named_text-no_pair pairs c.args.name.now
    (HasNoTextOfName-from_place _ pairs c.args.name.now c.self.invariant.1 absent))
    ∙ ap (λ (pairs : NamedTexts). named_text pairs c.args.name.now) c.self.view_is)

pub returns-in_err-place-clause-absent : goal.returns-in_err-place-clause-absent
returns-in_err-place-clause-absent c = HasNoName-not_found _ _ _ (returns-in_err-place-clause-value c)

pub index-requires : goal.index-requires
index-requires c =
    let pairs = c.self.inside.pairs.items in
    let place = c.in_ok-place.place in
    let found : name_place c.self.inside.places c.args.name.now ≡ Some place = search rules in
    let at = (c.self.invariant.1 c.args.name.now place).0 found in
    let within : place < length (pair_names pairs) = slice_get_within (pair_names pairs) place c.args.name.now at in
    let count = pair_names_count pairs in
    let listed = c.self.inside.pairs.ok.0 in
    omega (arith, within, count, listed)

pub returns-clause-value : goal.returns-clause-value
returns-clause-value c =
    let pairs = c.self.inside.pairs.items in
    let place = c.in_ok-place.place in
    let found : name_place c.self.inside.places c.args.name.now ≡ Some place = search rules in
    let at = (c.self.invariant.1 c.args.name.now place).0 found in
    let within : place < length (pair_names pairs) = slice_get_within (pair_names pairs) place c.args.name.now at in
    let count = pair_names_count pairs in
    let pair : slice_get pairs place ≡ Some c.index.result.now =
    slice_get-get_or pairs place c.index.result.now (omega (arith, within, count)) ∙ ap Some (sym c.index.ensures) in
    sym (named_text-at_place pairs c.args.name.now place c.index.result.now c.self.invariant.0 at pair)
    ∙ ap (λ (pairs : NamedTexts). named_text pairs c.args.name.now) c.self.view_is
