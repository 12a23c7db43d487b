use Rattle.std.proofs.Common.{◌≡◌, rules}
use Rattle.std.specs.Ordering.{is_lt}
use Rattle.std.proofs.lemmas.List.Sorted.{answers_always, ranks_by}
use Rattle.def_entry.specs.KeyOrder.{key_cmp}
use Rattle.deck.specs.PlacedKeys.{placed_deck_key}
use Rattle.deck.proofs.deck.placed_keys.in_order.Goals as goal

pub returns-clause-sorted : goal.returns-clause-sorted
returns-clause-sorted c = λ law.
    c.sort_unstable_by.ensures.sorted (λ x y. is_lt (key_cmp (placed_deck_key x) (placed_deck_key y)))
    (ranks_by law.total_order placed_deck_key)
    (answers_always _ (λ a r. is_lt r ≡ is_lt (key_cmp (placed_deck_key a.0.now) (placed_deck_key a.1.0.now))) _
    (λ f a r q k. search rules))
