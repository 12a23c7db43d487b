-- The points of a table that a line defines have an x whose denominator is above 0.
use Rattle.std.proofs.Common.{◌≡◌, ◌<◌, ◌++◌, ◌==◌, refl, ap, subst, ℕ, Bool, true, false, cond, if◌then◌else◌}
use Rattle.std.proofs.Common.{List, [], ◌∷◌, Option, Some, None, option_map, Result, Ok, Err}
use Rattle.std.specs.List.{AllByRecursion as Each, slice_split}
use Rattle.std.specs.Result.{result_ok}
use Rattle.std.proofs.lemmas.Option.{same_Some}
use Rattle.units_io.specs.Outcomes.{◌>>=◌}
use Rattle.frac128.specs.declared.fault.FracFault.{FracFault}
use Rattle.frac128.specs.declared.numeral.NumeralFault.{NumeralFault}
use Rattle.frac128.specs.Decimals.{NumeralDecimal, fraction_of_decimal, numeral_reading}
use Rattle.frac128.specs.Fraction.{Fraction, opposite_fraction}
use Rattle.frac128.specs.Steps.{ReducedFractionLaw, fraction_quotient}
use Rattle.piecewise.specs.Lines.{Point}
use Rattle.piecewise.specs.Points.{is_table_of_points}
use Rattle.def_lines.specs.Blanks.{after_blanks, trimmed_of_blanks}
use Rattle.def_lines.specs.Words.{words_between_blanks}
use Rattle.def_entry.specs.declared.fault.EntryFault.{EntryFault}
use Rattle.def_entry.specs.declared.fault.EntryFault.TheVariants.{BadForm, BadTable}
use Rattle.def_entry.specs.declared.key.Key.{Key}
use Rattle.def_entry.specs.declared.key.Kind.{Kind}
use Rattle.def_entry.specs.declared.key.Kind.TheVariants as kind
use Rattle.def_entry.specs.Cuts.{cut_at}
use Rattle.def_entry.specs.Entries as what
use Rattle.def_entry.specs.Entries.{Entry, What}
use Rattle.def_entry.specs.Forms.{form_of}
use Rattle.def_entry.specs.Headings.{Heading, heading_of_line}
use Rattle.def_entry.specs.Keys.{key}
use Rattle.def_entry.specs.Marks.{entry_bar, entry_minus, entry_plus}
use Rattle.def_entry.specs.Numbers.{entry_text_number, numeral_value, parted_entry_number, quotient_value}
use Rattle.def_entry.specs.Numbers.{unsigned_value, entry_number_read}
use Rattle.def_entry.specs.Outcomes.{entry_tree, name_or_entry_fault, or_entry_fault}
use Rattle.def_entry.specs.PointLists.{behind_no_error, is_point_pair_comma, point_pairs_between_commas}
use Rattle.def_entry.specs.PointLists.{point_pairs_of_words, points_of, some_point_pairs, table_points}
use Rattle.def_entry.specs.EntryReading as read
use Rattle.def_entry.specs.EntryReading.{entry_definition_in, entry_of, what_of}
use Rattle.def_entry.specs.Steps as option
use Rattle.reply.proofs.PositiveSteps.{HasPositive, IsPositive, over-positive, value-positive}

-- ---- numbers
abbrev IsPositiveIf : Option Fraction → Type 0
IsPositiveIf o = (x : Fraction) → o ≡ Some x → 0 < x.den

reply-denominator-of-none : IsPositiveIf None
reply-denominator-of-none x e = absurd (cc)

reply-denominator-of-some : (r : Result Fraction FracFault) → IsPositive r → IsPositiveIf (result_ok r)
reply-denominator-of-some (Ok x) h y e = h y (ap Ok (same_Some x y e))
reply-denominator-of-some (Err fault) h y e = absurd (cc)

reply-denominator-of-negative : (o : Option Fraction) → IsPositiveIf o → IsPositiveIf (option_map opposite_fraction o)
reply-denominator-of-negative None h y e = absurd (cc)
reply-denominator-of-negative (Some x) h y e = subst (λ (z : Fraction). 0 < z.den) (same_Some (opposite_fraction x) y e)
    (h x refl)

reply-denominator-of-either : (b : Bool) (o p : Option Fraction) → IsPositiveIf o → IsPositiveIf p
    → IsPositiveIf (if b then o else p)
reply-denominator-of-either true o p h k = h
reply-denominator-of-either false o p h k = k

module _ (law : ReducedFractionLaw) where
  positive-read : (r : Result NumeralDecimal NumeralFault) → IsPositiveIf (entry_number_read r)
  positive-read (Ok d) = reply-denominator-of-some (fraction_of_decimal d) (value-positive law d)
  positive-read (Err fault) = reply-denominator-of-none

  positive-numeral : (bytes : List ℕ) → IsPositiveIf (numeral_value bytes)
  positive-numeral bytes = positive-read (numeral_reading bytes)

  positive-quotient : (above below : List ℕ) → IsPositiveIf (quotient_value above below)
  positive-quotient above below = go (numeral_value above) (numeral_value below)
    where
      go : (a b : Option Fraction)
          → IsPositiveIf (option.◌>>=◌ a (λ x. option.◌>>=◌ b (λ y. result_ok (fraction_quotient x y))))
      go (Some x) (Some y) = reply-denominator-of-some (fraction_quotient x y) (over-positive law x y)
      go (Some x) None = reply-denominator-of-none
      go None b = reply-denominator-of-none

  positive-parted : (parts : Option (List ℕ × List ℕ)) (text : List ℕ) → IsPositiveIf (parted_entry_number parts text)
  positive-parted None text = positive-numeral text
  positive-parted (Some parts) text = positive-quotient parts.0 parts.1

  positive-unsigned : (text : List ℕ) → IsPositiveIf (unsigned_value text)
  positive-unsigned text = positive-parted (cut_at entry_bar text) text

  positive-number : (text : List ℕ) → IsPositiveIf (entry_text_number text)
  unfolding entry_text_number
  positive-number [] = reply-denominator-of-none
  positive-number (b ∷ text) =
      reply-denominator-of-either (b == entry_minus) (option_map opposite_fraction (unsigned_value text))
      (if b == entry_plus then unsigned_value text else unsigned_value (b ∷ text))
      (reply-denominator-of-negative (unsigned_value text) (positive-unsigned text))
      (reply-denominator-of-either (b == entry_plus) (unsigned_value text) (unsigned_value (b ∷ text))
      (positive-unsigned text) (positive-unsigned (b ∷ text)))

-- ---- points
abbrev ArePositiveIf : Option (List Point) → Type 0
ArePositiveIf o = (points : List Point) → o ≡ Some points → Each HasPositive points

reply-denominators-of-no-points : ArePositiveIf None
reply-denominators-of-no-points points e = absurd (cc)

reply-denominators-of-points : (points : List Point) → Each HasPositive points → ArePositiveIf (Some points)
reply-denominators-of-points points h other e = subst (Each HasPositive) (same_Some points other e) h

reply-denominators-append : (front points : List Point) → Each HasPositive front → Each HasPositive points
    → Each HasPositive (front ++ points)
reply-denominators-append [] points h k = k
reply-denominators-append (p ∷ front) points h k = (h.0, reply-denominators-append front points h.1 k)

module _ (law : ReducedFractionLaw) where
  pair-points : (x y : List ℕ) (rest : Option (List Point)) → ArePositiveIf rest
      → ArePositiveIf (option.◌>>=◌ (entry_text_number x)
      (λ a. option.◌>>=◌ (entry_text_number y) (λ b. option.◌>>=◌ rest
      (λ points. Some ((a, b) ∷ points)))))
  pair-points x y rest h = go (entry_text_number x) (positive-number law x) (entry_text_number y) rest h
    where
      go : (m : Option Fraction) → IsPositiveIf m → (n : Option Fraction) (o : Option (List Point)) → ArePositiveIf o
          → ArePositiveIf (option.◌>>=◌ m
          (λ a. option.◌>>=◌ n (λ b. option.◌>>=◌ o (λ points. Some ((a, b) ∷ points)))))
      go (Some a) h (Some b) (Some points) k = reply-denominators-of-points ((a, b) ∷ points) (h a refl, k points refl)
      go (Some a) h (Some b) None k = reply-denominators-of-no-points
      go (Some a) h None o k = reply-denominators-of-no-points
      go None h n o k = reply-denominators-of-no-points

  pairs-points : (words : List (List ℕ)) → ArePositiveIf (point_pairs_of_words words)
  pairs-points [] = reply-denominators-of-points [] tt
  pairs-points (x ∷ []) = reply-denominators-of-no-points
  pairs-points (x ∷ y ∷ words) = pair-points x y (point_pairs_of_words words) (pairs-points words)

  some_pairs-points : (words : List (List ℕ)) → ArePositiveIf (some_point_pairs words)
  some_pairs-points [] = reply-denominators-of-no-points
  some_pairs-points (x ∷ words) = pairs-points (x ∷ words)

  between-points : (runs : List (List ℕ)) → ArePositiveIf (point_pairs_between_commas runs)
  between-points [] = reply-denominators-of-points [] tt
  between-points (run ∷ []) = pairs-points (words_between_blanks run)
  between-points (run ∷ next ∷ runs) =
      go (some_point_pairs (words_between_blanks run)) (some_pairs-points (words_between_blanks run))
      (point_pairs_between_commas (next ∷ runs))
      (between-points (next ∷ runs))
    where
      go : (m : Option (List Point)) → ArePositiveIf m → (n : Option (List Point)) → ArePositiveIf n
          → ArePositiveIf (option.◌>>=◌ m (λ front. option.◌>>=◌ n (λ points. Some (front ++ points))))
      go (Some front) h (Some points) k =
          reply-denominators-of-points (front ++ points)
          (reply-denominators-append front points (h front refl) (k points refl))
      go (Some front) h None k = reply-denominators-of-no-points
      go None h n k = reply-denominators-of-no-points

  text-points : (text : List ℕ) → ArePositiveIf (points_of text)
  unfolding points_of
  text-points text = between-points (slice_split is_point_pair_comma (behind_no_error (after_blanks text)))

-- ---- entries
-- the points of the tables in a definition
abbrev pub HasTablePoints : What → Type 0
HasTablePoints (what.Table d) = Each HasPositive d.points
HasTablePoints _ = Unit {0}

abbrev Says : Result What EntryFault → Type 0
Says r = (w : What) → r ≡ Ok w → HasTablePoints w

reply-denominators-of-good-body : (w : What) → HasTablePoints w → Says (Ok w)
reply-denominators-of-good-body w h x e = let same : w ≡ x = cc in subst HasTablePoints same h

reply-denominators-of-faulty-body : (fault : EntryFault) → Says (Err fault)
reply-denominators-of-faulty-body fault x e = absurd (cc)

reply-denominators-of-then : {A : Type 0} (r : Result A EntryFault) (f : A → Result What EntryFault)
    → ((x : A) → r ≡ Ok x → Says (f x))
    → Says (r >>= f)
reply-denominators-of-then (Ok x) f h = h x refl
reply-denominators-of-then (Err fault) f h = reply-denominators-of-faulty-body fault

reply-denominators-of-branch : (b : Bool) (r s : Result What EntryFault) → Says r → Says s → Says (cond b r s)
reply-denominators-of-branch true r s h k = h
reply-denominators-of-branch false r s h k = k

reply-denominators-of-body : (text : List ℕ) → Says (read.body_in text)
reply-denominators-of-body text =
    reply-denominators-of-then (read.nonempty_entry_text text) _
    (λ body e. reply-denominators-of-then (entry_tree None body) _
    (λ tree i. reply-denominators-of-good-body (what.Body tree) tt))

reply-denominators-of-unit : (text : List ℕ) → Says (read.unit_body_in text)
reply-denominators-of-unit text =
    reply-denominators-of-branch _ _ _ (reply-denominators-of-good-body what.Primitive tt)
    (reply-denominators-of-branch _ _ _ (reply-denominators-of-good-body what.Dimensionless tt)
    (reply-denominators-of-body text))

reply-denominators-of-alias : (text : List ℕ) → Says (read.alias_in text)
reply-denominators-of-alias text =
    reply-denominators-of-then (read.nonempty_entry_text (read.without_call (trimmed_of_blanks text))) _ (λ target e.
    reply-denominators-of-then (name_or_entry_fault target) _
    (λ name i. reply-denominators-of-good-body (what.Alias name) tt))

reply-denominators-of-call : (name inside rest : List ℕ) → Says (read.function_or_alias_in name inside rest)
reply-denominators-of-call name [] rest = reply-denominators-of-alias rest
reply-denominators-of-call name (b ∷ bytes) rest =
    reply-denominators-of-then (name_or_entry_fault (b ∷ bytes)) _ (λ parameter e.
    reply-denominators-of-then (or_entry_fault BadForm (form_of rest)) _ (λ form i.
    reply-denominators-of-then (read.option_units_in form.options.units) _ (λ units j.
    reply-denominators-of-then (entry_tree (Some parameter) form.forward) _ (λ forward k.
    reply-denominators-of-then (read.inverse_body_in name form.inverse) _ (λ inverse l.
    reply-denominators-of-good-body (read.function_entry_definition form units forward inverse) tt)))))

module _ (law : ReducedFractionLaw) where
  in-points : (text : List ℕ) (points : List Point) → read.point_pairs_in text ≡ Ok points
      → Each HasPositive points
  in-points text points h = go (points_of text) (text-points law text) h
    where
      of-table : (all : List Point) → Each HasPositive all → (b : Bool)
          → or_entry_fault BadTable (if b then Some all else None) ≡ Ok points → Each HasPositive points
      of-table all k true e = let same : all ≡ points = cc in subst (Each HasPositive) same k
      of-table all k false e = absurd (cc)

      go : (o : Option (List Point)) → ArePositiveIf o
          → (or_entry_fault BadTable o >>= (λ all. or_entry_fault BadTable (table_points all))) ≡ Ok points
          → Each HasPositive points
      go None k e = absurd (cc)
      go (Some all) k e = of-table all (k all refl) (is_table_of_points all) e

  table-says : (text rest : List ℕ) → Says (read.table_entry_in text rest)
  table-says text rest =
      reply-denominators-of-then (read.nonempty_entry_text text) _
      (λ unit e. reply-denominators-of-then (read.point_pairs_in rest) _ (λ points i.
      reply-denominators-of-then (entry_tree None unit) _ (λ tree j.
      reply-denominators-of-good-body (what.Table (record { unit = tree; points = points }))
      (in-points rest points i))))

  func-says : (name text : List ℕ) → Says (read.function_or_table_entry_in name text)
  func-says name [] = reply-denominators-of-faulty-body _
  func-says name (b ∷ text) =
      reply-denominators-of-branch _ _ _
      (reply-denominators-of-then (or_entry_fault BadForm (cut_at _ text)) _
      (λ parts e. reply-denominators-of-call name (trimmed_of_blanks parts.0) parts.1))
      (reply-denominators-of-then (or_entry_fault BadForm (cut_at _ text)) _
      (λ parts e. table-says (trimmed_of_blanks parts.0) parts.1))

  list-says : (text : List ℕ) → Says (read.list_entry_in text)
  list-says text =
      reply-denominators-of-then (read.nonempty_entry_text text) _ (λ parts e.
      reply-denominators-of-then (read.entry_trees (slice_split read.is_entry_semicolon parts)) _
      (λ trees i. reply-denominators-of-good-body (what.ListOf trees) tt))

  kind-says : (k : Kind) (name text : List ℕ) → Says (entry_definition_in k name text)
  kind-says kind.Unit name text = reply-denominators-of-unit text
  kind-says kind.Prefix name text = reply-denominators-of-body text
  kind-says kind.Func name text = func-says name text
  kind-says kind.List name text = list-says text

  heading-says : (h : Heading) → Says (what_of h)
  unfolding what_of
  heading-says h = reply-denominators-of-then (read.heading_name_in h.kind h.name) _
      (λ name e. kind-says h.kind name h.text)

  -- the key and the entry of a heading that says this
  abbrev entry_for : Heading → What → Key × Entry
  entry_for h w = (key h.kind h.name, record { text = h.text; what = w })

  pub line-says : (line : List ℕ) (k : Key) (e : Entry) → entry_of line ≡ Ok (k, e) → HasTablePoints e.what
  line-says line k e h = go (what_of (heading_of_line line)) (heading-says (heading_of_line line)) h
    where
      go : (r : Result What EntryFault) → Says r → (r >>= (λ w. Ok (entry_for (heading_of_line line) w))) ≡ Ok (k, e)
          → HasTablePoints e.what
      go (Ok w) s i =
          let same : entry_for (heading_of_line line) w ≡ (k, e) = cc in
          subst (λ (p : Key × Entry). HasTablePoints p.1.what) same (s w refl)
      go (Err fault) s i = absurd (cc)
