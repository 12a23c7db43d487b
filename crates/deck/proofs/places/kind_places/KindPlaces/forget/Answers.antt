use Rattle.std.proofs.Common.{◌≡◌, ◌<◌, ◌≤◌, ◌+◌, ◌-◌, ℕ, List, Bool, true, false, cond, get_or, set, length, sym, ap}
use Rattle.std.proofs.Common.{◌∙◌, arith, Option, None}
use Rattle.std.specs.Option.{is_some}
use Rattle.deck.specs.KindPlaces.{definition_place_count}
use Rattle.deck.specs.declared.places.kind_places.KindPlaces.TheInside.{Inside}
use Rattle.deck.proofs.KindPlacing.{definition_place_count_none, definition_place_in_index}
use Rattle.deck.proofs.places.kind_places.KindPlaces.forget.Goals as goal
use Rattle.deck.proofs.places.kind_places.KindPlaces.forget.Goals.{then-is_some, else-is_some}

-- the count before exceeds the count after by one if the number had a place, and otherwise equals it
before : (n number : ℕ) (ps : List (Option ℕ)) (o : Option ℕ) → number < length ps → o ≡ get_or ps number o
    → n ≡ definition_place_count ps →
    n ≡ cond (is_some o) (definition_place_count (set ps number None) + 1) (definition_place_count (set ps number None))
before n number ps o h e f =
    f ∙ definition_place_count_none ps number h
    ∙ ap (λ x. cond (is_some x) (definition_place_count (set ps number None) + 1)
    (definition_place_count (set ps number None)))
    (definition_place_in_index ps number o h e)

one_there : (n c : ℕ) (b : Bool) → n ≡ cond b (c + 1) c → b ≡ true → 1 ≤ n
one_there n c true e h = omega (arith, e)
one_there n c false e h = cc

one_less : (n m c : ℕ) (b : Bool) → n ≡ cond b (c + 1) c → m ≡ cond b (n - 1) n → m ≡ c
one_less n m c true e f = omega (arith, e, f)
one_less n m c false e f = f ∙ e

pub overflow_sub-self : goal.overflow_sub-self
overflow_sub-self c =
    let within : c.args.number < length c.self.inside.places.items = omega (arith, c.requires, ap length c.self.view_is)
    in
    one_there c.self.inside.count _ _
    (before c.self.inside.count c.args.number c.self.inside.places.items c.index.result.now within c.index.ensures
    c.self.invariant)
    (sym c.is_some.ensures ∙ c.if-is_some.true)

pub invariant_of-self : goal.invariant_of-self
invariant_of-self c =
    let within : c.args.number < length c.self.inside.places.items = omega (arith, c.requires, ap length c.self.view_is)
    in
    let is = before c.self.inside.count c.args.number c.self.inside.places.items c.index.result.now within
    c.index.ensures c.self.invariant in
    elim c.if-is_some.branch [
      | then-is_some w ↦
          one_less c.self.inside.count c.if-is_some.self-inside.count _ _ is
          (ap (λ (s : Inside). s.count) w.self-inside-is
          ∙ ap (λ b. cond b (c.self.inside.count - 1) c.self.inside.count) w.if-is_some.ensures)
          ∙ ap (λ (s : Inside). definition_place_count (set s.places.items c.args.number None)) (sym w.self-inside-is)
      | else-is_some w ↦
          one_less c.self.inside.count c.if-is_some.self-inside.count _ _ is
          (ap (λ (s : Inside). s.count) w.self-inside-is
          ∙ ap (λ b. cond b (c.self.inside.count - 1) c.self.inside.count) w.if-is_some.ensures)
          ∙ ap (λ (s : Inside). definition_place_count (set s.places.items c.args.number None)) (sym w.self-inside-is)
    ]
