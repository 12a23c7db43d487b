use Rattle.std.proofs.Common.{◌≡◌, ◌∙◌, ◌++◌, ◌∷◌, [], ap, subst, cond, None}
use Rattle.std.specs.Option.{option_to_list}
use Rattle.std.specs.Str.{bytes_eq}
use Rattle.units_io.specs.NamePlaces.{AreNamePlaces, name_place}
use Rattle.units_io.proofs.NamePlaceLemmas.{AreNamePlaces-front, name_place-updated}
use Rattle.units_io.proofs.Names.{HasDistinctNames-take}
use Rattle.units_io.proofs.vars.Vars.remove_last.Goals as goal

pub invariant_of-self : goal.invariant_of-self
invariant_of-self c =
    let places = c.self.inside.places in
    let pairs : c.self.inside.pairs.items ≡ c.pop.new.self.items ++ c.in-Some.pair ∷ [] =
    c.pop.ensures.items ∙ ap (λ pair. c.pop.new.self.items ++ option_to_list pair) c.in-Some.is in (
      rw c.pop.ensures.rest (HasDistinctNames-take _ _ c.self.invariant.0),
      AreNamePlaces-front (name_place places) (name_place c.remove.new.self) c.pop.new.self.items c.in-Some.pair
          (subst (AreNamePlaces (name_place places)) pairs c.self.invariant.1)
          (λ other. name_place-updated places c.remove.new.self c.as_bytes.result.now _ c.remove.ensures.updates other
          ∙ ap (λ name. cond (bytes_eq name other) None (name_place places other)) c.as_bytes.ensures),
    )
