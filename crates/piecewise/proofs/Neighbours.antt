-- Neighbouring points.
use Rattle.std.proofs.Common.{◌≡◌, ◌+◌, ◌-◌, ◌<◌, ◌≤◌, ◌*ℤ◌, ℕ, pos, suc, zero, List, [], ◌∷◌, length, get_or, drop}
use Rattle.std.proofs.Common.{arith, refl, sym, ap, ◌∙◌}
use Rattle.std.specs.Prelude.{◌&&◌, ◌||◌, Bool, true, false, IsTrue, nat_le}
use Rattle.std.specs.declared.cmp.Ordering.{Ordering}
use Rattle.std.specs.declared.cmp.Ordering.TheVariants.{Less, Equal, Greater}
use Rattle.std.specs.Ordering.{is_le, is_lt, ordering_reverse}
use Rattle.std.proofs.lemmas.List.{drop_more}
use Rattle.std.proofs.lemmas.Bool.Decides.{nat_tests}
use Rattle.std.proofs.lemmas.Cmp.{int_cmp_total}
use Rattle.frac128.specs.Fraction.{Fraction}
use Rattle.frac128.specs.Order.{fraction_order}
use Rattle.piecewise.specs.Lines.{Point}
use Rattle.piecewise.specs.Points.{is_table_of_points, points_rise}
use Rattle.piecewise.specs.Tables.{are_coordinates_around, is_coordinate_between}

-- if a conjunction holds, so do both of its tests
pub and_both_hold : (a b : Bool) → IsTrue (a && b) → IsTrue a × IsTrue b
and_both_hold true b h = (refl, h)
and_both_hold false b h = absurd (cc)

-- p and q are the points at the indices i - 1 and i
pub record AreNeighbours (points : List Point) (i : ℕ) (p q : Point) : Type 0 where
  pub some : 0 < i
  pub within : i < length points
  pub left : p ≡ get_or points (i - 1) p
  pub right : q ≡ get_or points i q

-- the points from the right neighbour on
pub drop-right_point : (points : List Point) (i : ℕ) (p q : Point) → AreNeighbours points i p q
    → drop i points ≡ q ∷ drop (i + 1) points
drop-right_point points i p q are = drop_more points i q are.within ∙ ap (λ x. x ∷ drop (i + 1) points) (sym are.right)

-- the points from the left neighbour on
pub drop-left_point : (points : List Point) (i : ℕ) (p q : Point) → AreNeighbours points i p q
    → drop (i - 1) points ≡ p ∷ q ∷ drop (i + 1) points
drop-left_point points i p q are =
    let before : i - 1 < length points = before_within i (length points) are.within in
    let next : i - 1 + 1 ≡ i = next_is i are.some in
    drop_more points (i - 1) p before ∙ ap (λ x. x ∷ drop (i - 1 + 1) points) (sym are.left)
    ∙ ap (λ k. p ∷ drop k points) next ∙ ap (λ xs. p ∷ xs) (drop-right_point points i p q are)
  where
    before_within : (i n : ℕ) → i < n → i - 1 < n
    before_within i n h = omega arith

    next_is : (i : ℕ) → 0 < i → i - 1 + 1 ≡ i
    next_is i h = omega arith

-- the points are increasing from a point on if it is less than the next and they are increasing from there on
pub points_rise-left : (points : List Point) (i : ℕ) (p q : Point) → AreNeighbours points i p q
    → points_rise (drop (i - 1) points) ≡ (is_lt (fraction_order p.0 q.0) && points_rise (drop i points))
unfolding points_rise
points_rise-left points i p q are =
    ap points_rise (drop-left_point points i p q are)
    ∙ sym (ap (λ xs. is_lt (fraction_order p.0 q.0) && points_rise xs) (drop-right_point points i p q are))

-- the order of the neighbours is that of the points at their indices
neighbour_points_order : {points : List Point} {i : ℕ} {p q : Point} → AreNeighbours points i p q
    → fraction_order p.0 q.0 ≡ fraction_order (get_or points (i - 1) p).0 (get_or points i q).0
neighbour_points_order {points} {i} {p} {q} are = ap (λ r. fraction_order r.0 q.0) are.left
    ∙ ap (λ r. fraction_order (get_or points (i - 1) p).0 r.0) are.right

-- if a point is not less than the next one, the points are not increasing
pub points_rise-stop : (points : List Point) (i : ℕ) (p q : Point) (less : Bool) → AreNeighbours points i p q
    → less ≡ is_lt (fraction_order (get_or points (i - 1) p).0 (get_or points i q).0)
    → less ≡ false → points_rise (drop (i - 1) points) ≡ points_rise points → false ≡ points_rise points
points_rise-stop points i p q less are less_is none rest =
    ap (λ b. b && points_rise (drop i points)) (sym none ∙ less_is ∙ sym (ap is_lt (neighbour_points_order are)))
    ∙ sym (points_rise-left points i p q are) ∙ rest

-- if a point is less than the next one, the points are increasing if they are from the next one on
pub points_rise-on : (points : List Point) (i : ℕ) (p q : Point) (less : Bool) → AreNeighbours points i p q
    → less ≡ is_lt (fraction_order (get_or points (i - 1) p).0 (get_or points i q).0)
    → less ≡ true → points_rise (drop (i - 1) points) ≡ points_rise points
    → points_rise (drop (i + 1 - 1) points) ≡ points_rise points
points_rise-on points i p q less are less_is some rest =
    ap (λ k. points_rise (drop k points)) (back i)
    ∙ ap (λ b. b && points_rise (drop i points)) (sym some ∙ less_is ∙ sym (ap is_lt (neighbour_points_order are)))
    ∙ sym (points_rise-left points i p q are) ∙ rest
  where
    back : (i : ℕ) → i + 1 - 1 ≡ i
    back i = omega arith

-- a single point is increasing
pub points_rise-last : (points : List Point) (i : ℕ) → length points ≡ i + 1 → points_rise (drop i points) ≡ true
unfolding points_rise
points_rise-last [] i h = absurd (omega arith)
points_rise-last (p ∷ []) zero h = refl
points_rise-last (p ∷ []) (suc i) h = absurd (omega arith)
points_rise-last (p ∷ q ∷ points) zero h = absurd (omega arith)
points_rise-last (p ∷ q ∷ points) (suc i) h = points_rise-last (q ∷ points) i (omega arith)

-- exchanging two numbers reverses their order
pub coordinates_compared-reverse : (a b : Fraction) → fraction_order a b ≡ ordering_reverse (fraction_order b a)
coordinates_compared-reverse a b = int_cmp_total.antisymm (a.num *ℤ pos b.den) (b.num *ℤ pos a.den)

-- a number is between two others if and only if they are around it
pub coordinate_between-around : (a b y : Fraction)
    → (is_coordinate_between a b y || is_coordinate_between b a y) ≡ are_coordinates_around (fraction_order a y)
    (fraction_order b y)
coordinate_between-around a b y = rw (coordinates_compared-reverse y b, coordinates_compared-reverse y a)
    (by_order (fraction_order a y) (fraction_order b y))
  where
    by_order : (left right : Ordering)
        → (is_le left && is_le (ordering_reverse right) || is_le right && is_le (ordering_reverse left))
        ≡ are_coordinates_around left right
    by_order Less Less = refl
    by_order Less Equal = refl
    by_order Less Greater = refl
    by_order Equal Less = refl
    by_order Equal Equal = refl
    by_order Equal Greater = refl
    by_order Greater Less = refl
    by_order Greater Equal = refl
    by_order Greater Greater = refl

-- a table has two points or more
pub table_has_two_points : (points : List Point) → IsTrue (is_table_of_points points) → 2 ≤ length points
table_has_two_points points h =
    least (length points)
    (and_both_hold (nat_le 2 (length points)) (nat_le (length points) 1000)
    (and_both_hold _ (points_rise points) h).0).0
  where
    least : (n : ℕ) → nat_le 2 n ≡ true → 2 ≤ n
    least n e = grind (arith, nat_tests)
