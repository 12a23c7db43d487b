-- The results of calls that can fail.
use Rattle.std.specs.Prelude.{◌≡◌, ◌⊎◌, Result, Ok, Err, MatchResult}

-- a step followed by another on its result; the first fault is the result of both
infixl 10 ◌>>=◌
abbrev pub ◌>>=◌ : {A B E : Type 0} → Result A E → (A → Result B E) → Result B E
(Ok x) >>= step = step x
(Err fault) >>= step = Err fault

-- a call gives the expected result, as seen by this function, or this fault if memory runs out
abbrev pub GivesIoResult : {A B E : Type 0} → E → (A → B) → Result A E → Result B E → Type 0
GivesIoResult wanting seen given expected =
    MatchResult given (λ x. expected ≡ Ok (seen x)) (λ fault. (fault ≡ wanting) ⊎ (expected ≡ Err fault))
