-- Results that are equal.
use Rattle.std.proofs.Common.{◌≡◌, Result, Ok, Err}

-- equal results have equal values
pub same_Ok : {A E : Type 0} (x y : A) → ◌≡◌ {A = Result A E} (Ok x) (Ok y) → x ≡ y
same_Ok x y e = cc

-- equal results have equal errors
pub same_Err : {A E : Type 0} (x y : E) → ◌≡◌ {A = Result A E} (Err x) (Err y) → x ≡ y
same_Err x y e = cc

-- an error is no value
pub err-ok : {A E : Type 0} (fault : E) (y : A) → ◌≡◌ {A = Result A E} (Err fault) (Ok y) → ⊥
err-ok fault y e = cc
