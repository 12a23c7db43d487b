-- The first segment that contains a number.
use Rattle.std.proofs.Common.{◌≡◌, ◌+◌, ◌-◌, ◌<◌, ◌≤◌, ℕ, suc, zero, List, [], ◌∷◌, length, get_or, drop, take, arith}
use Rattle.std.proofs.Common.{refl, sym, ap, ◌∙◌}
use Rattle.std.specs.Prelude.{◌&&◌, Bool, true, false, not, cond, max, IsTrue, Some, None, Err, find, All}
use Rattle.std.specs.declared.cmp.Ordering.{Ordering}
use Rattle.std.specs.declared.cmp.Ordering.TheVariants.{Less, Equal, Greater}
use Rattle.std.specs.List.Sorted.{IsPartitionPoint, IsPartitionedBy}
use Rattle.std.specs.Ordering.{is_le, is_lt, ordering_reverse}
use Rattle.std.proofs.lemmas.List.Elements.{All-get_or, All-head, All-more, All-nil, All-tail}
use Rattle.frac128.specs.Fraction.{Fraction}
use Rattle.frac128.specs.Order.{FractionOrderLaw, fraction_order}
use Rattle.piecewise.specs.Lines.{Point}
use Rattle.piecewise.specs.Points.{ArePoints, points_rise}
use Rattle.piecewise.specs.Tables.{are_coordinates_around, point_segment_holds_x, point_segment_holds_y}
use Rattle.piecewise.specs.Tables.{segments_of_points, x_at_y_on_points, x_on_point_segment, y_at_x_on_points}
use Rattle.piecewise.specs.Tables.{y_on_point_segment, point_table_number_or_fault, value_on_point_segment}
use Rattle.piecewise.specs.declared.fault.TableFault.TheVariants.{OutsideTable}
use Rattle.std.proofs.lemmas.List.{get_or_default, get_or_read}
use Rattle.std.proofs.lemmas.Bool.{and_right}
use Rattle.piecewise.proofs.Neighbours.{AreNeighbours, and_both_hold, coordinate_between-around}
use Rattle.piecewise.proofs.Neighbours.{coordinates_compared-reverse, drop-left_point, drop-right_point}
use Rattle.general_lemmas.proofs.Orders.{less_is}

-- the segments from the left neighbour on start with the segment of the neighbours
pub point_segments-left : (points : List Point) (i : ℕ) (p q : Point) → AreNeighbours points i p q
    → segments_of_points (drop (i - 1) points) ≡ record { left_end = p; right_end = q } ∷ segments_of_points
    (drop i points)
point_segments-left points i p q are =
    ap segments_of_points (drop-left_point points i p q are)
    ∙ sym (ap (λ xs. record { left_end = p; right_end = q } ∷ segments_of_points xs)
    (drop-right_point points i p q are))

-- a single point has no segment
pub point_segments-last : (points : List Point) (i : ℕ) → length points ≡ i + 1
    → segments_of_points (drop i points) ≡ []
point_segments-last [] i h = absurd (omega arith)
point_segments-last (p ∷ []) zero h = refl
point_segments-last (p ∷ []) (suc i) h = absurd (omega arith)
point_segments-last (p ∷ q ∷ points) zero h = absurd (omega arith)
point_segments-last (p ∷ q ∷ points) (suc i) h = point_segments-last (q ∷ points) i (omega arith)

-- the search for y continues after neighbours that are not around it
pub find-point_y_more : (points : List Point) (i : ℕ) (p q : Point) (y : Fraction) → AreNeighbours points i p q
    → are_coordinates_around (fraction_order p.1 y) (fraction_order q.1 y) ≡ false
    → find (point_segment_holds_y y) (segments_of_points (drop (i - 1) points)) ≡ find (point_segment_holds_y y)
    (segments_of_points (drop i points))
find-point_y_more points i p q y are other =
    ap (find (point_segment_holds_y y)) (point_segments-left points i p q are)
    ∙ ap (λ b. cond b (Some (record { left_end = p; right_end = q }))
    (find (point_segment_holds_y y) (segments_of_points (drop i points))))
    (coordinate_between-around p.1 q.1 y ∙ other)

-- the search for y ends at neighbours that are around it
pub find-point_y_here : (points : List Point) (i : ℕ) (p q : Point) (y : Fraction) → AreNeighbours points i p q
    → are_coordinates_around (fraction_order p.1 y) (fraction_order q.1 y) ≡ true
    → find (point_segment_holds_y y) (segments_of_points (drop (i - 1) points)) ≡ Some
    (record { left_end = p; right_end = q })
find-point_y_here points i p q y are around =
    ap (find (point_segment_holds_y y)) (point_segments-left points i p q are)
    ∙ ap (λ b. cond b (Some (record { left_end = p; right_end = q }))
    (find (point_segment_holds_y y) (segments_of_points (drop i points))))
    (coordinate_between-around p.1 q.1 y ∙ around)

-- the test for at most is the negation of the test for less with the numbers exchanged
coordinate_le-less : (a b : Fraction) (t : Bool) → is_lt (fraction_order b a) ≡ not t → is_le (fraction_order a b) ≡ t
coordinate_le-less a b t h = ap is_le (coordinates_compared-reverse a b) ∙ by_order (fraction_order b a) t h
  where
    by_order : (o : Ordering) (t : Bool) → is_lt o ≡ not t → is_le (ordering_reverse o) ≡ t
    by_order Less true h = absurd (cc)
    by_order Less false h = refl
    by_order Equal true h = refl
    by_order Equal false h = absurd (cc)
    by_order Greater true h = refl
    by_order Greater false h = absurd (cc)

-- the denominator of the x of a point is above 0
abbrev pub IsKnown : Point → Type 0
IsKnown p = 0 < p.0.den

-- the denominators up to the right neighbour are above 0 if those before it are
pub known_points_more : (points : List Point) (i : ℕ) (p q : Point) → AreNeighbours points i p q
    → (1 < i → All IsKnown (take i points))
    → IsKnown (get_or points (i - 1) p) × IsKnown (get_or points i q) → All IsKnown (take (i + 1) points)
known_points_more points zero p q are before known = let h = are.some in absurd (omega arith)
known_points_more points (suc zero) p q are before known =
    let h = are.within in
    All-more IsKnown points 1 q h (All-more IsKnown points 0 p (omega arith) (All-nil IsKnown) known.0) known.1
known_points_more points (suc (suc i)) p q are before known =
    All-more IsKnown points (suc (suc i)) q are.within (before (omega arith)) known.1

-- the points are increasing, and their denominators are above 0
pub record AreRising (points : List Point) : Type 0 where
  pub rise : IsTrue (points_rise points)
  pub denominators : All IsKnown points

-- the points of a table are increasing, with denominators above 0
pub points_of_table_rise : (points : List Point) → ArePoints points → AreRising points
points_of_table_rise points are =
    record { rise = (and_both_hold _ (points_rise points) are.table).1; denominators = are.denominators }

-- if points are increasing, so are those after the first one
rising_points-tail : (p : Point) (points : List Point) → AreRising (p ∷ points) → AreRising points
unfolding points_rise
rising_points-tail p [] are = record { rise = refl; denominators = All-tail IsKnown p [] are.denominators }
rising_points-tail p (q ∷ points) are =
    record { rise = (and_both_hold _ _ are.rise).1; denominators = All-tail IsKnown p (q ∷ points) are.denominators }

-- if points are increasing, the first is less than the second
rising_points-next : (p q : Point) (points : List Point) → AreRising (p ∷ q ∷ points) → fraction_order p.0 q.0 ≡ Less
unfolding points_rise
rising_points-next p q points are = less_is _ (and_both_hold _ _ are.rise).0

-- if points are increasing, the first is less than each other one
rising_points-first : FractionOrderLaw → (p : Point) (points : List Point) → AreRising (p ∷ points)
    → (j : ℕ) (d : Point)
    → j < length points
    → fraction_order p.0 (get_or points j d).0 ≡ Less
rising_points-first law p [] are j d h = absurd (omega arith)
rising_points-first law p (q ∷ points) are zero d h = rising_points-next p q points are
rising_points-first law p (q ∷ points) are (suc j) d h =
    let rest = rising_points-tail p (q ∷ points) are in
    let inside : j < length points = omega arith in
    law.1 p.0 q.0 (get_or points j d).0
    (All-head IsKnown p (q ∷ points) are.denominators)
    (All-head IsKnown q points rest.denominators)
    (All-get_or IsKnown points j d inside (All-tail IsKnown q points rest.denominators))
    (rising_points-next p q points are) (rising_points-first law q points rest j d inside)

-- the x of a point is less than x
abbrev pub is_left : Fraction → Point → Bool
is_left x p = is_lt (fraction_order p.0 x)

-- the points with a lesser x precede all others
pub rising_points-partitioned : FractionOrderLaw → (x : Fraction) → 0 < x.den → (points : List Point) → AreRising points
    → IsPartitionedBy (is_left x) points
rising_points-partitioned law x some [] are i j d low within left = absurd (omega arith)
rising_points-partitioned law x some (p ∷ points) are zero zero d low within left = left
rising_points-partitioned law x some (p ∷ points) are zero (suc j) d low within left =
    let inside : j < length points = omega arith in
    ap is_lt (law.1 p.0 (get_or points j d).0 x
    (All-head IsKnown p points are.denominators)
    (All-get_or IsKnown points j d inside (All-tail IsKnown p points are.denominators))
    some (rising_points-first law p points are j d inside) (less_is _ left))
rising_points-partitioned law x some (p ∷ points) are (suc i) zero d low within left = absurd (omega arith)
rising_points-partitioned law x some (p ∷ points) are (suc i) (suc j) d low within left =
    rising_points-partitioned law x some points (rising_points-tail p points are) i j d (omega arith) (omega arith) left

-- no segment contains a number below the first x
find-point_x_before : FractionOrderLaw → (x : Fraction) → 0 < x.den → (p : Point) (points : List Point)
    → AreRising (p ∷ points)
    → fraction_order x p.0 ≡ Less → find (point_segment_holds_x x) (segments_of_points (p ∷ points)) ≡ None
find-point_x_before law x some p [] are h = refl
find-point_x_before law x some p (q ∷ points) are h =
    let rest = rising_points-tail p (q ∷ points) are in
    let low : is_le (fraction_order p.0 x) ≡ false = coordinate_le-less p.0 x false (ap is_lt h) in
    let next =
    law.1 x p.0 q.0 some (All-head IsKnown p (q ∷ points) are.denominators)
    (All-head IsKnown q points rest.denominators) h (rising_points-next p q points are) in
    ap (λ b. cond (b && is_le (fraction_order x q.0)) (Some (record { left_end = p; right_end = q }))
    (find (point_segment_holds_x x) (segments_of_points (q ∷ points)))) low
    ∙ find-point_x_before law x some q points rest next

-- a segment whose right end is less does not contain the number
find-point_x_more : (x : Fraction) (p q : Point) (points : List Point) → is_left x q ≡ true
    → find (point_segment_holds_x x) (segments_of_points (p ∷ q ∷ points)) ≡ find (point_segment_holds_x x)
    (segments_of_points (q ∷ points))
find-point_x_more x p q points left =
    ap (λ b. cond b (Some (record { left_end = p; right_end = q }))
    (find (point_segment_holds_x x) (segments_of_points (q ∷ points))))
    (and_right (is_le (fraction_order p.0 x)) (is_le (fraction_order x q.0)) (coordinate_le-less x q.0 false left))

-- if all x but the first are less than a number, no segment contains it
find-point_x_past : (x : Fraction) (d : Point) (points : List Point)
    → ((k : ℕ) → 0 < k → k < length points → is_left x (get_or points k d) ≡ true)
    → find (point_segment_holds_x x) (segments_of_points points) ≡ None
find-point_x_past x d [] left = refl
find-point_x_past x d (p ∷ []) left = refl
find-point_x_past x d (p ∷ q ∷ points) left =
    find-point_x_more x p q points (left 1 (omega arith) (omega arith))
    ∙ find-point_x_past x d (q ∷ points) (λ k some within. left (suc k) (omega arith) (omega arith))

-- r and the next index are those of the first segment that contains x
record IsFirst (x : Fraction) (d : Point) (points : List Point) (r : ℕ) : Type 0 where
  within : suc r < length points
  left : (k : ℕ) → 0 < k → k < suc r → is_left x (get_or points k d) ≡ true
  low : is_lt (fraction_order x (get_or points r d).0) ≡ false
  high : is_left x (get_or points (suc r) d) ≡ false

-- the search finds the segment of the points at r and r + 1 if it is the first that contains x
find-point_x_here : (x : Fraction) (d : Point) (points : List Point) (r : ℕ) → IsFirst x d points r
    → find (point_segment_holds_x x) (segments_of_points points) ≡ Some
    (record { left_end = get_or points r d; right_end = get_or points (suc r) d })
find-point_x_here x d [] r is = let h = is.within in absurd (omega arith)
find-point_x_here x d (p ∷ []) r is = let h = is.within in absurd (omega arith)
find-point_x_here x d (p ∷ q ∷ points) zero is =
    ap (λ b. cond (b && is_le (fraction_order x q.0)) (Some (record { left_end = p; right_end = q }))
    (find (point_segment_holds_x x) (segments_of_points (q ∷ points)))) (coordinate_le-less p.0 x true is.low)
    ∙ ap (λ b. cond b (Some (record { left_end = p; right_end = q }))
    (find (point_segment_holds_x x) (segments_of_points (q ∷ points))))
    (coordinate_le-less x q.0 true is.high)
find-point_x_here x d (p ∷ q ∷ points) (suc r) is =
    let h = is.within in
    find-point_x_more x p q points (is.left 1 (omega arith) (omega arith))
    ∙ find-point_x_here x d (q ∷ points) r (record {
      within = omega arith;
      left = λ k some within. is.left (suc k) (omega arith) (omega arith);
      low = is.low;
      high = is.high;
    })

-- the result of a binary search
pub record IsPlace (x : Fraction) (points : List Point) (count place : ℕ) : Type 0 where
  pub many : 2 ≤ length points
  pub parted : IsPartitionPoint (λ p. is_left x p ≡ true) (λ p. is_left x p ≡ false) points count
  pub place_is : place ≡ max count 1

-- if all points are less, the number is outside the table
pub y_at_x_on_points-past : (x : Fraction) (points : List Point) (count place : ℕ) → IsPlace x points count place
    → place ≡ length points
    → Err OutsideTable ≡ y_at_x_on_points points x
unfolding y_at_x_on_points
y_at_x_on_points-past x [] count place is last = absurd (omega arith)
y_at_x_on_points-past x (p ∷ points) count place is last =
    sym (ap (value_on_point_segment (y_on_point_segment x))
    (find-point_x_past x p (p ∷ points) (λ k some within. is.parted.0 k p (omega arith) (omega arith))))

-- if the number is less than the x of the left point, it is outside the table
pub y_at_x_on_points-before : FractionOrderLaw → (x : Fraction) → 0 < x.den → (points : List Point) (count place : ℕ)
    (left : Point)
    → AreRising points → IsPlace x points count place
    → left ≡ get_or points (place - 1) left → is_lt (fraction_order x left.0) ≡ true → place ≤ length points
    → Err OutsideTable ≡ y_at_x_on_points points x
unfolding y_at_x_on_points
y_at_x_on_points-before law x some [] count place left are is left_is h within = absurd (omega arith)
y_at_x_on_points-before law x some (p ∷ points) zero place left are is left_is h within =
    let first : left ≡ p = left_is ∙ ap (λ k. get_or (p ∷ points) k left) (zero_is place is.place_is) in
    sym (ap (value_on_point_segment (y_on_point_segment x))
    (find-point_x_before law x some p points are (ap (λ q. fraction_order x q.0) (sym first) ∙ less_is _ h)))
  where
    zero_is : (place : ℕ) → place ≡ max 0 1 → place - 1 ≡ 0
    zero_is place e = omega arith
y_at_x_on_points-before law x some (p ∷ points) (suc count) place left are is left_is h within =
    let at : is_left x left ≡ true = ap (is_left x) left_is
    ∙ is.parted.0 (place - 1) left (omega arith) (omega arith) in
    absurd (clash (fraction_order x left.0) (less_is _ h)
    (coordinates_compared-reverse x left.0 ∙ ap ordering_reverse (less_is _ at)))
  where
    clash : (o : Ordering) → o ≡ Less → o ≡ Greater → ⊥
    clash o a b = cc

-- the segment at the index found contains the number
pub y_at_x_on_points-here : (x : Fraction) (points : List Point) (count place : ℕ) (left right : Point)
    → IsPlace x points count place
    → AreNeighbours points place left right
    → is_lt (fraction_order x left.0) ≡ false → y_at_x_on_points points x ≡ point_table_number_or_fault
    (y_on_point_segment x (record { left_end = left; right_end = right }))
unfolding y_at_x_on_points
y_at_x_on_points-here x points count place left right is are low =
    let shift : suc (place - 1) ≡ place = shifted place are.some in
    let left_is : left ≡ get_or points (place - 1) right =
    get_or_read points (place - 1) left (before place (length points) are.within) are.left right in
    let right_is : right ≡ get_or points (suc (place - 1)) right =
    are.right ∙ ap (λ k. get_or points k right) (sym shift) in
    let found = find-point_x_here x right points (place - 1) (record {
      within = rw shift are.within;
      left = λ k some within. is.parted.0 k right (omega arith) (omega arith);
      low = ap (λ p. is_lt (fraction_order x p.0)) (sym left_is) ∙ low;
      high = ap (is_left x) (sym right_is) ∙ ap (is_left x) are.right
          ∙ is.parted.1 place right (omega arith) (omega arith);
    }) in
    ap (value_on_point_segment (y_on_point_segment x))
    (found ∙ ap (λ p. Some (record { left_end = p; right_end = get_or points (suc (place - 1)) right })) (sym left_is)
    ∙ ap (λ p. Some (record { left_end = left; right_end = p })) (sym right_is))
  where
    shifted : (place : ℕ) → 0 < place → suc (place - 1) ≡ place
    shifted place h = omega arith

    before : (place n : ℕ) → place < n → place - 1 < n
    before place n h = omega arith

-- the search for y has reached the index i, and its result from there on is that of all points
pub record IsSearched (points : List Point) (y : Fraction) (i : ℕ) (before : Ordering) : Type 0 where
  pub before_is : (p : Point) → before ≡ fraction_order (get_or points (i - 1) p).1 y
  pub rest : find (point_segment_holds_y y) (segments_of_points (drop (i - 1) points)) ≡ find (point_segment_holds_y y)
      (segments_of_points points)

-- the search continues after neighbours that are not around y
pub x_at_y_on_points-more : (points : List Point) (y : Fraction) (i : ℕ) (before after : Ordering) (right : Point)
    → IsSearched points y i before → 0 < i → i < length points
    → right ≡ get_or points i right → after ≡ fraction_order right.1 y → are_coordinates_around before after ≡ false
    → IsSearched points y (i + 1) after
x_at_y_on_points-more points y i before after right is some within right_is after_is other =
    let left = get_or points (i - 1) right in
    let are : AreNeighbours points i left right = record {
      some = some;
      within = within;
      left = get_or_default points (i - 1) right left (before_within i (length points) within);
      right = right_is;
    } in
    let same : are_coordinates_around before after ≡ are_coordinates_around (fraction_order left.1 y)
    (fraction_order right.1 y) =
    ap (λ o. are_coordinates_around o after) (is.before_is right)
    ∙ ap (are_coordinates_around (fraction_order left.1 y)) after_is in
    record {
      before_is = λ p. after_is ∙ ap (λ r. fraction_order r.1 y) (get_or_read points i right within right_is p)
          ∙ ap (λ k. fraction_order (get_or points k p).1 y) (sym (back i));
      rest = ap (λ k. find (point_segment_holds_y y) (segments_of_points (drop k points))) (back i)
          ∙ sym (find-point_y_more points i left right y are (sym same ∙ other)) ∙ is.rest;
    }
  where
    before_within : (i n : ℕ) → i < n → i - 1 < n
    before_within i n h = omega arith

    back : (i : ℕ) → i + 1 - 1 ≡ i
    back i = omega arith

-- the search ends at neighbours that are around y
pub x_at_y_on_points-here : (points : List Point) (y : Fraction) (i : ℕ) (before after : Ordering) (left right : Point)
    → IsSearched points y i before → AreNeighbours points i left right
    → after ≡ fraction_order right.1 y → are_coordinates_around before after ≡ true
    → x_at_y_on_points points y ≡ point_table_number_or_fault
    (x_on_point_segment y (record { left_end = left; right_end = right }))
unfolding x_at_y_on_points
x_at_y_on_points-here points y i before after left right is are after_is around =
    let same : are_coordinates_around before after ≡ are_coordinates_around (fraction_order left.1 y)
    (fraction_order right.1 y) =
    ap (λ o. are_coordinates_around o after) (is.before_is left ∙ ap (λ p. fraction_order p.1 y) (sym are.left))
    ∙ ap (are_coordinates_around (fraction_order left.1 y)) after_is in
    ap (value_on_point_segment (x_on_point_segment y))
    (sym is.rest ∙ find-point_y_here points i left right y are (sym same ∙ around))

-- the search ends after the last point
pub x_at_y_on_points-past : (points : List Point) (y : Fraction) (i : ℕ) (before : Ordering)
    → IsSearched points y i before
    → length points ≡ i - 1 + 1 → Err OutsideTable ≡ x_at_y_on_points points y
unfolding x_at_y_on_points
x_at_y_on_points-past points y i before is last =
    ap (value_on_point_segment (x_on_point_segment y))
    (ap (find (point_segment_holds_y y)) (sym (point_segments-last points (i - 1) last)) ∙ is.rest)
