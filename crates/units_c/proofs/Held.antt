-- Options without a value.
use Rattle.std.proofs.Common.{◌≡◌, false, Option, Some, None, refl}
use Rattle.std.specs.Prelude.{is_some}

-- an option without a value is `None`
pub c_value_is_absent : {A : Type 0} (o : Option A) → is_some o ≡ false → o ≡ None
c_value_is_absent None none = refl
c_value_is_absent (Some x) none = cc
