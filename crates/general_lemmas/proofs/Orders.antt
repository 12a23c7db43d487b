-- The answers of a comparison.
use Rattle.std.proofs.Common.{◌≡◌, true, Ordering, Less, Equal, Greater, is_lt, refl}

-- an answer that passes the test for less is `Less`
pub less_is : (o : Ordering) → is_lt o ≡ true → o ≡ Less
less_is Less h = refl
less_is Equal h = cc
less_is Greater h = cc
