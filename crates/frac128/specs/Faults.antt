-- The texts of faults.
use Rattle.std.specs.Prelude.{ℕ, List, codes}
use Rattle.frac128.specs.declared.fault.FracFault.{FracFault}
use Rattle.frac128.specs.declared.fault.FracFault.TheVariants.{Overflow, DivisionByZero, NoExactRoot}

-- the text of a fault
abbrev pub frac_fault_text : FracFault → List ℕ
frac_fault_text Overflow = codes "overflow"
frac_fault_text DivisionByZero = codes "division by zero"
frac_fault_text NoExactRoot = codes "no exact root"
