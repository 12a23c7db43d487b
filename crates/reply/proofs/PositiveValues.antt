-- The value of an expansion has a denominator above 0.
use Rattle.std.proofs.Common.{◌≡◌, arith, refl, subst, ℕ, pos, not, nat_lt, Bool, true, false, if◌then◌else◌}
use Rattle.std.proofs.Common.{List, Option, Some, None, Result, Ok, Err}
use Rattle.std.specs.List.{AllByRecursion as Each}
use Rattle.units_io.specs.Outcomes.{◌>>=◌}
use Rattle.expr_tree.specs.declared.operator.RootKind.{RootKind}
use Rattle.expr_tree.specs.Syntax.{degree}
use Rattle.def_entry.specs.declared.entry.Span.{Span}
use Rattle.frac128.specs.declared.fault.FracFault.{FracFault}
use Rattle.frac128.specs.Decimals.{NumeralDecimal, fraction_of_decimal}
use Rattle.frac128.specs.Fraction.{Fraction}
use Rattle.frac128.specs.Steps.{ReducedFractionLaw, fraction_product, fraction_quotient, ratio}
use Rattle.frac128.specs.Sums.{fraction_difference, fraction_sum}
use Rattle.piecewise.specs.declared.fault.TableFault.{TableFault}
use Rattle.piecewise.specs.declared.fault.TableFault.TheVariants as table
use Rattle.piecewise.specs.Tables.{x_at_y_on_points, y_at_x_on_points}
use Rattle.quantity.specs.declared.fault.QuantityFault.TheVariants.{ExponentNotNumber, ExponentRange, NotConformable}
use Rattle.quantity.specs.Amount.{Amount, exponents_conform, has_no_exponents}
use Rattle.quantity.specs.Answers.{quantity_from}
use Rattle.quantity.specs.Degrees.{is_power_degree}
use Rattle.quantity.specs.Exponents.{Exponents}
use Rattle.quantity.specs.Powers.{power_exponents, quantity_number_power, quantity_power}
use Rattle.quantity.specs.Products.{product_exponents, quotient_exponents}
use Rattle.quantity.specs.Sums.{conforming_quantity_step}
use Rattle.unit_list.specs.Amounts.{HasUnitDenominator}
use Rattle.tree_eval.specs.declared.fault.ValueFault.{ValueFault}
use Rattle.tree_eval.specs.declared.step.Step.{Step}
use Rattle.tree_eval.specs.declared.step.Step.TheVariants.{Add, Divide, Multiply, Subtract}
use Rattle.tree_eval.specs.Expansions.{Expanded, Number, Bar, Argument, Primitive, Dimensionless, Named, Prefixed}
use Rattle.tree_eval.specs.Expansions.{Uncalled, Applied, Unapplied, Root, Group, Negated, Power, Chain}
use Rattle.tree_eval.specs.Expansions.{Links, NoLink, Link, Callable, Function, Alias, Table, Given, Absent, Present}
use Rattle.tree_eval.specs.Steps.{ValueOrFault, negative_value, numeral_quotient_value, plain_number_value, root_value}
use Rattle.tree_eval.specs.Steps.{value_of_quantity_step, value_of_number, operand_step_value}
use Rattle.tree_eval.specs.Tests.{is_value_within_span, value_inside_span, value_number_in_unit}
use Rattle.tree_eval.specs.Tests.{value_tested_by_unit_and_span, value_unit_check}
use Rattle.tree_eval.specs.Value.{chain_value, most_rank, table_lookup_value, value_as_number, value_at}
use Rattle.tree_eval.specs.Value.{value_if_rank_allowed, value_in_table_unit}
use Rattle.tree_eval.specs.Value.{inverse_value_at, optional_unit_value, value}
use Rattle.reply.proofs.PositiveSteps.{HasPositive, IsPositive, minus-positive, over-positive, reply-denominator-of-err}
use Rattle.reply.proofs.PositiveSteps.{plus-positive, powered-positive, times-positive, value-positive, x-positive}

-- the denominator of an optional quantity is above 0
abbrev pub HasDenominatorIf : Option Amount → Type 0
HasDenominatorIf None = Unit {0}
HasDenominatorIf (Some x) = HasUnitDenominator x

-- the denominator of a value, if there is one, is above 0
abbrev pub GivesPositive : ValueOrFault → Type 0
GivesPositive w = (x : Amount) → w ≡ Ok x → HasUnitDenominator x

-- the points of all tables have an x whose denominator is above 0
abbrev mutual
  pub IsSound : Expanded → Type 0
  IsSound (Named x) = IsSound x
  IsSound (Prefixed x y) = IsSound x × IsSound y
  IsSound (Uncalled f) = IsSoundCall f
  IsSound (Applied f x) = IsSoundCall f × IsSound x
  IsSound (Unapplied f x) = IsSoundCall f × IsSound x
  IsSound (Root kind x) = IsSound x
  IsSound (Group x) = IsSound x
  IsSound (Negated x) = IsSound x
  IsSound (Power x y) = IsSound x × IsSound y
  IsSound (Chain x links) = IsSound x × AreSound links
  IsSound _ = Unit {0}

  pub AreSound : Links → Type 0
  AreSound NoLink = Unit {0}
  AreSound (Link step x links) = IsSound x × AreSound links

  pub IsSoundCall : Callable → Type 0
  IsSoundCall (Function name rank in_unit out_unit domain range forward inverse) =
      IsSound forward × IsSoundIf inverse
  IsSoundCall (Alias name rank target) = IsSoundCall target
  IsSoundCall (Table name rank unit points) = Each HasPositive points

  pub IsSoundIf : Given → Type 0
  IsSoundIf Absent = Unit {0}
  IsSoundIf (Present x) = IsSound x

-- ---- steps
reply-value-denominator-of-ok : (x : Amount) → HasUnitDenominator x → GivesPositive (Ok x)
reply-value-denominator-of-ok x h y e = let same : x ≡ y = cc in subst HasUnitDenominator same h

reply-value-denominator-of-err : (f : ValueFault) → GivesPositive (Err f)
reply-value-denominator-of-err f y e = absurd (cc)

reply-value-denominator-of-then : {A : Type 0} (r : Result A ValueFault) (f : A → ValueOrFault)
    → ((x : A) → r ≡ Ok x → GivesPositive (f x))
    → GivesPositive (r >>= f)
reply-value-denominator-of-then (Ok x) f h = h x refl
reply-value-denominator-of-then (Err e) f h = reply-value-denominator-of-err e

reply-value-denominator-of-branch : (b : Bool) (r s : ValueOrFault) → GivesPositive r → GivesPositive s
    → GivesPositive (if b then r else s)
reply-value-denominator-of-branch true r s h k = h
reply-value-denominator-of-branch false r s h k = k

reply-value-denominator-of-number : (r : Result Fraction FracFault) → IsPositive r → GivesPositive (value_of_number r)
reply-value-denominator-of-number (Ok x) h = reply-value-denominator-of-ok (plain_number_value x) (h x refl)
reply-value-denominator-of-number (Err f) h = reply-value-denominator-of-err _

reply-value-denominator-of-amount : (r : Result Fraction FracFault) (exponents : Option Exponents) → IsPositive r
    → GivesPositive (value_of_quantity_step (quantity_from r exponents))
reply-value-denominator-of-amount (Ok x) None h = reply-value-denominator-of-err _
reply-value-denominator-of-amount (Ok x) (Some exponents) h = reply-value-denominator-of-ok
    (record { value = x; exponents = exponents }) (h x refl)
reply-value-denominator-of-amount (Err f) exponents h = reply-value-denominator-of-err _

reply-value-denominator-of-point : (name : List ℕ) (r : Result Fraction TableFault) → IsPositive r
    → GivesPositive (table_lookup_value name r)
reply-value-denominator-of-point name (Ok x) h = reply-value-denominator-of-ok (plain_number_value x) (h x refl)
reply-value-denominator-of-point name (Err table.OutsideTable) h = reply-value-denominator-of-err _
reply-value-denominator-of-point name (Err (table.Number f)) h = reply-value-denominator-of-err _

reply-value-denominator-at-rank : (rank : ℕ) (name : List ℕ) (w : ValueOrFault) → GivesPositive w
    → GivesPositive (value_if_rank_allowed rank name w)
reply-value-denominator-at-rank rank name w h = reply-value-denominator-of-branch (nat_lt most_rank rank) _ w
    (reply-value-denominator-of-err _) h

-- a test returns the quantity itself
reply-value-denominator-inside : (outside : ValueFault) (unit : Option Amount) (span : Option Span) (q : Amount)
    → HasUnitDenominator q
    → GivesPositive (value_inside_span outside unit span q)
reply-value-denominator-inside outside unit None q h = reply-value-denominator-of-ok q h
reply-value-denominator-inside outside unit (Some span) q h =
    reply-value-denominator-of-then (value_number_in_unit unit q) _
    (λ x e. reply-value-denominator-of-branch (is_value_within_span span x) (Ok q) _
    (reply-value-denominator-of-ok q h) (reply-value-denominator-of-err _))

reply-value-denominator-tested : (wrong outside : ValueFault) (unit : Result (Option Amount) ValueFault)
    (span : Option Span) (q : Amount)
    → HasUnitDenominator q → GivesPositive (value_tested_by_unit_and_span wrong outside unit span q)
reply-value-denominator-tested wrong outside unit span q h =
    reply-value-denominator-of-then unit _
    (λ u e. reply-value-denominator-of-then (value_unit_check wrong u span q) _
    (λ x i. reply-value-denominator-inside outside u span q h))

module _ (law : ReducedFractionLaw) where
  gives-power : (x by : Amount) → GivesPositive (value_of_quantity_step (quantity_power x by))
  gives-power x by = go (not (has_no_exponents by)) (not (is_power_degree by.value))
    where
      go : (a b : Bool) → GivesPositive
          (value_of_quantity_step (if a then Err ExponentNotNumber else (if b then Err ExponentRange
          else quantity_from (quantity_number_power x.value by.value) (power_exponents x.exponents by.value))))
      go true b = reply-value-denominator-of-err _
      go false true = reply-value-denominator-of-err _
      go false false = reply-value-denominator-of-amount (quantity_number_power x.value by.value)
          (power_exponents x.exponents by.value)
          (powered-positive law x.value by.value)

  gives-conforming : (r : Result Fraction FracFault) (x y : Amount) → IsPositive r
      → GivesPositive (value_of_quantity_step (conforming_quantity_step r x y))
  gives-conforming r x y h = go (exponents_conform x.exponents y.exponents)
    where
      go : (b : Bool) → GivesPositive
          (value_of_quantity_step (if b then quantity_from r (Some x.exponents) else Err (NotConformable x y)))
      go true = reply-value-denominator-of-amount r (Some x.exponents) h
      go false = reply-value-denominator-of-err _

  gives-step : (step : Step) (x y : Amount) → HasUnitDenominator x → HasUnitDenominator y
      → GivesPositive (operand_step_value step x y)
  gives-step Multiply x y h k = reply-value-denominator-of-amount (fraction_product x.value y.value)
      (product_exponents x.exponents y.exponents)
      (times-positive law x.value y.value)
  gives-step Divide x y h k = reply-value-denominator-of-amount (fraction_quotient x.value y.value)
      (quotient_exponents x.exponents y.exponents)
      (over-positive law x.value y.value)
  gives-step Add x y h k = gives-conforming (fraction_sum x.value y.value) x y (plus-positive law x.value y.value h k)
  gives-step Subtract x y h k = gives-conforming (fraction_difference x.value y.value) x y
      (minus-positive law x.value y.value h k)

  gives-quotient : (x y : NumeralDecimal) → GivesPositive (value_of_number (numeral_quotient_value x y))
  gives-quotient x y = reply-value-denominator-of-number (numeral_quotient_value x y)
      (go (fraction_of_decimal x) (fraction_of_decimal y))
    where
      go : (p q : Result Fraction FracFault) → IsPositive (p >>= (λ a. q >>= (λ b. fraction_quotient a b)))
      go (Ok a) (Ok b) = over-positive law a b
      go (Ok a) (Err f) = reply-denominator-of-err f
      go (Err f) q = reply-denominator-of-err f

  gives-root : (kind : RootKind) (x : Amount) → GivesPositive (root_value kind x)
  gives-root kind x = reply-value-denominator-of-then (value_of_number (ratio (pos 1) (pos (degree kind)))) _
      (λ exponent e. gives-power x exponent)

  -- ---- values
  mutual
    pub gives-value : (e : Expanded) (a : Option Amount) → IsSound e → HasDenominatorIf a → GivesPositive (value e a)
    gives-value (Number d) a s h = reply-value-denominator-of-number (fraction_of_decimal d) (value-positive law d)
    gives-value (Bar x y) a s h = gives-quotient x y
    gives-value Argument (Some x) s h = reply-value-denominator-of-ok x h
    gives-value Argument None s h = reply-value-denominator-of-ok _ (omega arith)
    gives-value (Primitive name) a s h = reply-value-denominator-of-ok _ (omega arith)
    gives-value Dimensionless a s h = reply-value-denominator-of-ok _ (omega arith)
    gives-value (Named x) a s h = gives-value x None s tt
    gives-value (Prefixed x y) a s h =
        reply-value-denominator-of-then (value x None) _
        (λ p e. reply-value-denominator-of-then (value y None) _ (λ u i.
        reply-value-denominator-of-amount (fraction_product p.value u.value) (product_exponents p.exponents u.exponents)
        (times-positive law p.value u.value)))
    gives-value (Uncalled f) a s h = reply-value-denominator-of-err _
    gives-value (Applied f x) a s h =
        reply-value-denominator-of-then (value x a) _ (λ b e. gives-applied f b s.0 (gives-value x a s.1 h b e))
    gives-value (Unapplied f x) a s h =
        reply-value-denominator-of-then (value x a) _ (λ b e. gives-unapplied f b s.0 (gives-value x a s.1 h b e))
    gives-value (Root kind x) a s h = reply-value-denominator-of-then (value x a) _ (λ v e. gives-root kind v)
    gives-value (Group x) a s h = gives-value x a s h
    gives-value (Negated x) a s h =
        reply-value-denominator-of-then (value x a) _
        (λ v e. reply-value-denominator-of-ok (negative_value v) (gives-value x a s h v e))
    gives-value (Power x y) a s h =
        reply-value-denominator-of-then (value x a) _
        (λ base e. reply-value-denominator-of-then (value y a) _ (λ exponent i. gives-power base exponent))
    gives-value (Chain x links) a s h =
        reply-value-denominator-of-then (value x a) _ (λ v e. gives-chained v links a (gives-value x a s.0 h v e) s.1 h)

    gives-chained : (v : Amount) (links : Links) (a : Option Amount) → HasUnitDenominator v → AreSound links
        → HasDenominatorIf a
        → GivesPositive (chain_value v links a)
    gives-chained v NoLink a p s h = reply-value-denominator-of-ok v p
    gives-chained v (Link step x links) a p s h =
        reply-value-denominator-of-then (value x a) _
        (λ w e. reply-value-denominator-of-then (operand_step_value step v w) _ (λ next i.
        gives-chained next links a (gives-step step v w p (gives-value x a s.0 h w e) next i) s.1 h))

    gives-applied : (f : Callable) (a : Amount) → IsSoundCall f → HasUnitDenominator a → GivesPositive (value_at f a)
    gives-applied (Function name rank in_unit out_unit domain range forward inverse) a s h =
        reply-value-denominator-at-rank rank name _
        (reply-value-denominator-of-then (value_tested_by_unit_and_span _ _ (optional_unit_value in_unit) domain a)
        _ (λ t e.
        reply-value-denominator-of-then (value forward (Some a)) _ (λ result i.
        reply-value-denominator-tested _ _ (optional_unit_value out_unit) range result
        (gives-value forward (Some a) s.0 h result i))))
    gives-applied (Alias name rank target) a s h = reply-value-denominator-at-rank rank name _
        (gives-applied target a s h)
    gives-applied (Table name rank unit points) a s h =
        reply-value-denominator-at-rank rank name _
        (reply-value-denominator-of-then (value_as_number name a) _
        (λ x e. reply-value-denominator-of-then (value unit None) _ (λ u i.
        reply-value-denominator-of-then (table_lookup_value name (y_at_x_on_points points x.value)) _ (λ y j.
        reply-value-denominator-of-amount (fraction_product y.value u.value) (product_exponents y.exponents u.exponents)
        (times-positive law y.value u.value)))))

    gives-unapplied : (f : Callable) (b : Amount) → IsSoundCall f → HasUnitDenominator b
        → GivesPositive (inverse_value_at f b)
    gives-unapplied (Function name rank in_unit out_unit domain range forward Absent) b s h =
        reply-value-denominator-at-rank rank name _ (reply-value-denominator-of-err _)
    gives-unapplied (Function name rank in_unit out_unit domain range forward (Present inverse)) b s h =
        reply-value-denominator-at-rank rank name _
        (reply-value-denominator-of-then (value_tested_by_unit_and_span _ _ (optional_unit_value out_unit) range b)
        _ (λ t e.
        reply-value-denominator-of-then (value inverse (Some b)) _ (λ result i.
        reply-value-denominator-tested _ _ (optional_unit_value in_unit) domain result
        (gives-value inverse (Some b) s.1 h result i))))
    gives-unapplied (Alias name rank target) b s h = reply-value-denominator-at-rank rank name _
        (gives-unapplied target b s h)
    gives-unapplied (Table name rank unit points) b s h =
        reply-value-denominator-at-rank rank name _ (reply-value-denominator-of-then (value unit None) _ (λ u e.
        reply-value-denominator-of-then (value_in_table_unit name u b) _ (λ y i.
        reply-value-denominator-of-point name (x_at_y_on_points points y.value) (x-positive law points y.value s))))
