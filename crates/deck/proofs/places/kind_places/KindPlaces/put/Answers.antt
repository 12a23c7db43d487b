use Rattle.std.proofs.Common.{◌≡◌, ◌<◌, ◌+◌, ℕ, List, cond, get_or, set, length, sym, ap, ◌∙◌, arith, Option, Some}
use Rattle.std.specs.Option.{is_some}
use Rattle.deck.specs.KindPlaces.{definition_place_count}
use Rattle.deck.specs.declared.places.kind_places.KindPlaces.TheInside.{Inside}
use Rattle.deck.proofs.KindPlacing.{definition_place_count_bound, definition_place_count_set, definition_place_in_index}
use Rattle.deck.proofs.places.kind_places.KindPlaces.put.Goals as goal
use Rattle.deck.proofs.places.kind_places.KindPlaces.put.Goals.{then-is_none, else-is_none}

pub overflow_add-self : goal.overflow_add-self
overflow_add-self c =
    omega (
      arith,
      c.self.invariant,
      definition_place_count_bound c.self.inside.places.items,
      c.self.inside.places.ok.0,
      c.self.inside.places.small,
    )

counted : (n m : ℕ) (ps : List (Option ℕ)) (number place : ℕ) (o : Option ℕ) → number < length ps
    → o ≡ get_or ps number o →
    n ≡ definition_place_count ps → m ≡ cond (is_some o) n (n + 1)
    → m ≡ definition_place_count (set ps number (Some place))
counted n m ps number place o h e f g =
    g ∙ ap (λ c. cond (is_some o) c (c + 1)) f
    ∙ ap (λ t. cond (is_some t) (definition_place_count ps) (definition_place_count ps + 1))
    (sym (definition_place_in_index ps number o h e))
    ∙ sym (definition_place_count_set ps number place h)

pub invariant_of-self : goal.invariant_of-self
invariant_of-self c =
    let within : c.args.number < length c.self.inside.places.items =
    omega (arith, c.requires, ap length c.self.view_is) in
    elim c.if-is_none.branch [
      | then-is_none w ↦
          counted c.self.inside.count c.if-is_none.self-inside.count c.self.inside.places.items c.args.number
          c.args.place c.index.result.now within c.index.ensures c.self.invariant
          (ap (λ (s : Inside). s.count) w.self-inside-is
          ∙ ap (λ b. cond b c.self.inside.count (c.self.inside.count + 1)) (sym w.if-is_none.ensures))
          ∙ ap (λ (s : Inside). definition_place_count (set s.places.items c.args.number (Some c.args.place)))
          (sym w.self-inside-is)
      | else-is_none w ↦
          counted c.self.inside.count c.if-is_none.self-inside.count c.self.inside.places.items c.args.number
          c.args.place c.index.result.now within c.index.ensures c.self.invariant
          (ap (λ (s : Inside). s.count) w.self-inside-is
          ∙ ap (λ b. cond b c.self.inside.count (c.self.inside.count + 1)) (sym w.if-is_none.ensures))
          ∙ ap (λ (s : Inside). definition_place_count (set s.places.items c.args.number (Some c.args.place)))
          (sym w.self-inside-is)
    ]
