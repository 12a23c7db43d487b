-- What an error exit ensures.
use Rattle.std.specs.Prelude.{Result, Ok, Err, OnErr}

-- a fact that holds at an error exit is what the exit ensures of errors
pub link_error_exit : {T E P : Type 0} (r : Result T E) → P → OnErr r P
link_error_exit (Ok x) p = tt
link_error_exit (Err e) p = p
