-- Blocks that hold and blocks that fail.
use Rattle.std.proofs.Common.{◌≡◌, ◌==◌, ◌∷◌, ◌+◌, ◌≤◌, [], ℕ, List, length, Bool, true, false, refl, arith}
use Rattle.std.proofs.lemmas.Bool.Decides.{nat_tests}
use Rattle.std.specs.List.{list_all}
use Rattle.deck.specs.FailingBlocks.{failing_enclosing_count}

-- all blocks hold exactly if the number of failing ones is 0
pub enclosing_hold_if_none_fails : (holds : List Bool) → (failing_enclosing_count holds == 0) ≡ list_all (λ h. h) holds
enclosing_hold_if_none_fails [] = refl
enclosing_hold_if_none_fails (true ∷ holds) = enclosing_hold_if_none_fails holds
enclosing_hold_if_none_fails (false ∷ holds) = one_more (failing_enclosing_count holds)
  where
    one_more : (n : ℕ) → (n + 1 == 0) ≡ false
    one_more n = grind (arith, nat_tests)

-- at most as many blocks fail as there are
pub failing_enclosing_count_bound : (holds : List Bool) → failing_enclosing_count holds ≤ length holds
failing_enclosing_count_bound [] = omega arith
failing_enclosing_count_bound (true ∷ holds) = omega (arith, failing_enclosing_count_bound holds)
failing_enclosing_count_bound (false ∷ holds) = omega (arith, failing_enclosing_count_bound holds)
