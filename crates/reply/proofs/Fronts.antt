-- Items before a list, or a fault.
use Rattle.std.proofs.Common.{◌≡◌, refl, List, [], ◌++◌}
use Rattle.std.specs.Prelude.{Result, Ok, Err}
use Rattle.reply.specs.declared.fault.ReplyFault.{ReplyFault}

-- a result with some items before it
abbrev pub with_front : {A : Type 0} → List A → Result (List A) ReplyFault → Result (List A) ReplyFault
with_front xs (Ok ys) = Ok (xs ++ ys)
with_front xs (Err fault) = Err fault

-- no items leave a result unchanged
pub inquiry_front-none : {A : Type 0} (r : Result (List A) ReplyFault) → with_front [] r ≡ r
inquiry_front-none (Ok ys) = refl
inquiry_front-none (Err fault) = refl
