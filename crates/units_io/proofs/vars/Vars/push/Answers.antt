use Rattle.std.proofs.Common.{◌≡◌, ◌∙◌, ◌++◌, ◌∷◌, [], ap, sym, subst, rules, Some, length, cond}
use Rattle.std.specs.Str.{bytes_eq}
use Rattle.units_io.specs.NamedValues.{NamedTexts, HasNoTextOfName, HasDistinctTextNames}
use Rattle.units_io.specs.NamePlaces.{name_place}
use Rattle.units_io.proofs.NamePlaceLemmas.{AreNamePlaces-append, name_place-updated}
use Rattle.units_io.proofs.Names.{HasDistinctNames-with_value, with_named_text-new}
use Rattle.units_io.proofs.vars.Vars.push.Goals as goal

pub invariant_of-self-2 : goal.invariant_of-self-2
invariant_of-self-2 c =
    let old = c.self.inside.pairs.items in
    let places = c.self.inside.places in
    let item = c.args.item in
    let pairs : c.push_reserved.new.self.items ≡ old ++ item ∷ [] = search rules in
    let none : HasNoTextOfName old item.0 =
    subst (λ (pairs : NamedTexts). HasNoTextOfName pairs item.0) (sym c.self.view_is) c.requires in
    let name : c.in_ok-name.name.items ≡ item.0 = search rules in
    let place : c.len.result ≡ length old = search rules in
    rw pairs (
      subst HasDistinctTextNames (with_named_text-new old item.0 item.1 none)
          (HasDistinctNames-with_value old item.0 item.1 c.self.invariant.0),
      AreNamePlaces-append (name_place places) (name_place c.insert.new.self) old item c.self.invariant.1 none (λ other.
          name_place-updated places c.insert.new.self c.in_ok-name.name.items _ c.in_ok-insert.ensures.updates other
          ∙ ap (λ text. cond (bytes_eq text other) (Some c.len.result) (name_place places other)) name
          ∙ ap (λ n. cond (bytes_eq item.0 other) (Some n) (name_place places other)) place),
    )
