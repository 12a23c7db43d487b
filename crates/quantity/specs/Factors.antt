-- The way in which the second of two factors is used.
use Rattle.std.specs.Prelude.{Option}
use Rattle.frac128.specs.Fraction.{Fraction, opposite_fraction}
use Rattle.quantity.specs.Exponents.{Exponents}
use Rattle.quantity.specs.Products.{product_exponents, quotient_exponents}
use Rattle.quantity.specs.declared.factor.Factor.{Factor}
use Rattle.quantity.specs.declared.factor.Factor.TheVariants.{Plain, Inverse}

-- an exponent of the factor, or of its inverse
abbrev pub exponent_in : Factor → Fraction → Fraction
exponent_in Plain e = e
exponent_in Inverse e = opposite_fraction e

-- the exponents of the product with the factor, or with its inverse
abbrev pub exponents_with : Factor → Exponents → Exponents → Option Exponents
exponents_with Plain p o = product_exponents p o
exponents_with Inverse p o = quotient_exponents p o
