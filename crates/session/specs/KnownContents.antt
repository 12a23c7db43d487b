-- Files and input whose contents are known, and those whose contents are not.
use Rattle.std.specs.Prelude.{◌≡◌, Bool, false, Some, None, ⊤}
use Rattle.std.specs.declared.option.Option.{Option}

-- the value is the known one; if none is known, it may be anything, as long as it is not needed
abbrev pub IsSessionValueIfKnown : {X : Type 0} → (needed : Bool) → Option X → X → Type 0
IsSessionValueIfKnown needed (Some files_if_known) x = files_if_known ≡ x
IsSessionValueIfKnown needed None x = needed ≡ false

-- a value that is needed is known
abbrev pub IsSessionValueKnownIfNeeded : {X : Type 0} → (needed : Bool) → Option X → Type 0
IsSessionValueKnownIfNeeded needed (Some files_if_known) = ⊤
IsSessionValueKnownIfNeeded needed None = needed ≡ false

-- the new value, if the old one was known
abbrev pub next_session_value_if_known : {X : Type 0} → Option X → X → Option X
next_session_value_if_known None x = None
next_session_value_if_known (Some old) x = Some x
