-- The faults of operations.
use Rattle.std.specs.Prelude.{◌≢◌, Result, Err}
use Rattle.quantity.specs.Amount.{Amount}
use Rattle.quantity.specs.Powers.{quantity_power}
use Rattle.quantity.specs.Products.{quantity_product, quantity_quotient}
use Rattle.quantity.specs.Sums.{quantity_difference, quantity_sum}
use Rattle.quantity.specs.declared.fault.QuantityFault.{QuantityFault}
use Rattle.quantity.specs.declared.fault.QuantityFault.TheVariants.{OutOfMemory}

-- the answer is not an out-of-memory fault
abbrev pub IsReportableQuantity : Result Amount QuantityFault → Type 0
IsReportableQuantity answer = answer ≢ Err OutOfMemory

-- law: the result of an operation is never an out-of-memory fault
pub record AreQuantityAnswersReportable (x y : Amount) : Type 0 where
  pub sum : IsReportableQuantity (quantity_sum x y)
  pub difference : IsReportableQuantity (quantity_difference x y)
  pub product : IsReportableQuantity (quantity_product x y)
  pub quotient : IsReportableQuantity (quantity_quotient x y)
  pub power : IsReportableQuantity (quantity_power x y)

abbrev pub QuantityMemoryLaw : Type 0
QuantityMemoryLaw = (x y : Amount) → AreQuantityAnswersReportable x y
