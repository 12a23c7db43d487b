-- The results of operations.
use Rattle.std.specs.Prelude.{◌≡◌, ℕ, List, Option, Some, None, Result, Ok, Err, ⊤, if◌then◌else◌}
use Rattle.std.specs.List.{list_all}
use Rattle.units_io.specs.Outcomes.{GivesIoResult}
use Rattle.frac128.specs.Fraction.{Fraction}
use Rattle.frac128.specs.declared.fault.FracFault.{FracFault}
use Rattle.quantity.specs.Amount.{Amount}
use Rattle.quantity.specs.Exponents.{Exponents, exponents_by, is_exponent}
use Rattle.quantity.specs.declared.fault.ExponentFault.{ExponentFault}
use Rattle.quantity.specs.declared.fault.ExponentFault.TheVariants as exponent
use Rattle.quantity.specs.declared.fault.QuantityFault.{QuantityFault}
use Rattle.quantity.specs.declared.fault.QuantityFault.TheVariants.{Number, ExponentRange, OutOfMemory}

-- the answer is the expected result, or an out-of-memory fault
abbrev pub IsQuantityAnswer : Result Amount QuantityFault → Result Amount QuantityFault → Type 0
IsQuantityAnswer answer expected = GivesIoResult OutOfMemory (λ x. x) answer expected

-- the answer is the expected result, and its only faults are those of numbers
abbrev pub IsQuantityStepOnNumbers : Result Amount FracFault → Result Amount QuantityFault → Type 0
IsQuantityStepOnNumbers (Ok x) expected = expected ≡ Ok x
IsQuantityStepOnNumbers (Err fault) expected = expected ≡ Err (Number fault)

-- the exponents are the expected ones, or out of range if none are expected, or memory ran out
abbrev pub AreExpectedExponents : Result Exponents ExponentFault → Option Exponents → Type 0
AreExpectedExponents (Ok exponents) expected = Some exponents ≡ expected
AreExpectedExponents (Err exponent.Range) expected = None ≡ expected
AreExpectedExponents (Err exponent.OutOfMemory) expected = ⊤

-- the fault of an operation on exponents as one of an operation on quantities
abbrev pub exponent_fault : ExponentFault → QuantityFault
exponent_fault exponent.Range = ExponentRange
exponent_fault exponent.OutOfMemory = OutOfMemory

-- the exponents that f gives to these names, or `None` if one of them is out of range
unfoldable pub exponents_in_range : (List ℕ → Fraction) → List (List ℕ) → Option Exponents
exponents_in_range f names =
    if list_all (λ name. is_exponent (f name)) names
    then Some (exponents_by f names)
    else None

-- a number and exponents combined: the fault of the number takes precedence over exponents out of range
abbrev pub quantity_from : Result Fraction FracFault → Option Exponents → Result Amount QuantityFault
quantity_from (Err fault) exponents = Err (Number fault)
quantity_from (Ok value) None = Err ExponentRange
quantity_from (Ok value) (Some exponents) = Ok (record { value = value; exponents = exponents })
