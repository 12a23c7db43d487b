-- The points of a list, taken from the texts between its commas.
use Rattle.std.proofs.Common.{◌≡◌, ◌<◌, ◌++◌, ℕ, List, [], ◌∷◌, Bool, true, false, cond, length, Option, Some, None}
use Rattle.std.proofs.Common.{Err, refl, sym, ap, ◌∙◌, arith, append_assoc, length-append}
use Rattle.std.specs.Prelude.{nat_le}
use Rattle.std.proofs.lemmas.Bool.{leb-false}
use Rattle.std.specs.List.{slice_split}
use Rattle.def_lines.specs.Blanks.{after_blanks}
use Rattle.def_lines.specs.Words.{words_between_blanks}
use Rattle.piecewise.specs.Lines.{Point}
use Rattle.def_entry.specs.declared.fault.EntryFault.{EntryFault}
use Rattle.def_entry.specs.declared.fault.EntryFault.TheVariants.{BadTable}
use Rattle.def_entry.specs.Cuts.{cut_at}
use Rattle.def_entry.specs.Outcomes.{or_entry_fault}
use Rattle.def_entry.specs.PointLists.{behind_no_error, is_point_pair_comma, most_point_pairs}
use Rattle.def_entry.specs.PointLists.{point_pairs_between_commas, points_of, within_point_pair_limit}
use Rattle.def_entry.specs.PointLists.{point_pairs_of_words, some_point_pairs}
use Rattle.def_entry.specs.Steps.{◌>>=◌}
use Rattle.def_entry.proofs.CutParts.{entry_parts-some, entry_parts-none}
use Rattle.def_entry.proofs.PointWords.{few_point_pairs-none, onto}

-- the points of a text between its commas
abbrev pub points_in_runs : List ℕ → Option (List Point)
points_in_runs text = point_pairs_between_commas (slice_split is_point_pair_comma text)

-- the concatenation of some points and others
abbrev pub both : Option (List Point) → Option (List Point) → Option (List Point)
both front points = front >>= (λ f. points >>= (λ ps. Some (f ++ ps)))

-- prepending no points does not change a run
point_pairs-onto-nil : (given : Option (List Point)) → onto [] given ≡ given
point_pairs-onto-nil None = refl
point_pairs-onto-nil (Some points) = refl

-- the state before the first point
pub point_pairs-init : (items : List Point) (text front rest : List ℕ) → items ≡ [] → front ≡ after_blanks text
    → rest ≡ behind_no_error front
    → onto items (points_in_runs rest) ≡ points_of text
unfolding points_of
point_pairs-init items text front rest none is from =
    ap (λ t. onto t (points_in_runs rest)) none ∙ point_pairs-onto-nil (points_in_runs rest) ∙ ap points_in_runs from
    ∙ ap (λ t. points_in_runs (behind_no_error t)) is

-- the points of several runs are those of the first and those of the others
point_pairs-after-comma : (run : List ℕ) (runs : List (List ℕ)) (next : List ℕ) (more : List (List ℕ))
    → runs ≡ next ∷ more
    → point_pairs_between_commas (run ∷ runs) ≡ both (some_point_pairs (words_between_blanks run))
    (point_pairs_between_commas runs)
point_pairs-after-comma run runs next more is =
    ap (λ rs. point_pairs_between_commas (run ∷ rs)) is
    ∙ sym (ap (λ rs. both (some_point_pairs (words_between_blanks run)) (point_pairs_between_commas rs)) is)

-- the points of a text with a comma are those before and those after the comma
pub point_pairs-cut : (text run behind : List ℕ) → cut_at 44 text ≡ Some (run, behind)
    → points_in_runs text ≡ both (some_point_pairs (words_between_blanks run)) (points_in_runs behind)
point_pairs-cut text run behind cut = ap point_pairs_between_commas (entry_parts-some 44 text run behind cut)
    ∙ go (cut_at 44 behind) refl
  where
    go : (found : Option (List ℕ × List ℕ)) → cut_at 44 behind ≡ found
        → point_pairs_between_commas (run ∷ slice_split is_point_pair_comma behind) ≡ both
        (some_point_pairs (words_between_blanks run)) (points_in_runs behind)
    go None e = point_pairs-after-comma run (slice_split is_point_pair_comma behind) behind []
        (entry_parts-none 44 behind e)
    go (Some parts) e =
        point_pairs-after-comma run (slice_split is_point_pair_comma behind) parts.0
        (slice_split is_point_pair_comma parts.1)
        (entry_parts-some 44 behind parts.0 parts.1 e)

-- the points of one run come before those of the next
point_pair-run-joined : (front new : List Point) (found given : Option (List Point)) → onto front found ≡ Some new
    → onto new given ≡ onto front (both found given)
point_pair-run-joined front new None given made = cc
point_pair-run-joined front new (Some points) None made = refl
point_pair-run-joined front new (Some points) (Some more) made =
    let is : new ≡ front ++ points = cc in
    ap Some (ap (λ t. t ++ more) is ∙ append_assoc front points more)

-- one more run is read
pub point_pairs-more-runs : (front new : List Point) (text run behind : List ℕ) → cut_at 44 text ≡ Some (run, behind)
    → onto front (some_point_pairs (words_between_blanks run)) ≡ Some new
    → onto new (points_in_runs behind) ≡ onto front (points_in_runs text)
point_pairs-more-runs front new text run behind cut made =
    point_pair-run-joined front new (some_point_pairs (words_between_blanks run)) (points_in_runs behind) made
    ∙ ap (onto front) (sym (point_pairs-cut text run behind cut))

-- if the points so far are too many, so are all points
too_many_point_pairs_in_front : (front points : List Point) (given : Option (List Point)) (t : Bool)
    → nat_le (length (front ++ points)) most_point_pairs ≡ t
    → (fault : EntryFault) → or_entry_fault BadTable (cond t (Some (front ++ points)) None) ≡ Err fault
    → or_entry_fault BadTable (within_point_pair_limit (onto front (both (Some points) given))) ≡ Err fault
too_many_point_pairs_in_front front points given true e fault said = cc
too_many_point_pairs_in_front front points None false e fault said = said
too_many_point_pairs_in_front front points (Some more) false e fault said =
    let long : most_point_pairs < length (front ++ points) = above (length (front ++ points)) e in
    let longer : most_point_pairs < length (front ++ (points ++ more)) =
    omega (arith, long, length-append front points, length-append front (points ++ more), length-append points more)
    in
    ap (or_entry_fault BadTable) (few_point_pairs-none (front ++ (points ++ more)) longer) ∙ said
  where
    above : (n : ℕ) → nat_le n most_point_pairs ≡ false → most_point_pairs < n
    above n e = leb-false n most_point_pairs e

-- a run without points, or with too many, makes the whole list a fault
lost-point_pair-run : (front : List Point) (found given : Option (List Point)) (fault : EntryFault)
    → or_entry_fault BadTable (within_point_pair_limit (onto front found)) ≡ Err fault
    → or_entry_fault BadTable (within_point_pair_limit (onto front (both found given))) ≡ Err fault
lost-point_pair-run front None given fault said = said
lost-point_pair-run front (Some points) given fault said =
    too_many_point_pairs_in_front front points given (nat_le (length (front ++ points)) most_point_pairs) refl fault
    said

-- the fault of a run without points, or with too many, is the fault of the list
pub point_pairs-fault : (front : List Point) (text run behind : List ℕ) (fault : EntryFault)
    → cut_at 44 text ≡ Some (run, behind)
    → or_entry_fault BadTable (within_point_pair_limit (onto front (some_point_pairs (words_between_blanks run)))) ≡ Err
    fault
    → or_entry_fault BadTable (within_point_pair_limit (onto front (points_in_runs text))) ≡ Err fault
point_pairs-fault front text run behind fault cut said =
    ap (λ points. or_entry_fault BadTable (within_point_pair_limit (onto front points)))
    (point_pairs-cut text run behind cut)
    ∙ lost-point_pair-run front (some_point_pairs (words_between_blanks run)) (points_in_runs behind) fault said

-- the last run is read
pub point_pairs-last-run : (front : List Point) (text : List ℕ) → cut_at 44 text ≡ None
    → or_entry_fault BadTable (within_point_pair_limit (onto front (points_in_runs text)))
    ≡ or_entry_fault BadTable (within_point_pair_limit (onto front (point_pairs_of_words (words_between_blanks text))))
point_pairs-last-run front text cut =
    ap (λ runs. or_entry_fault BadTable (within_point_pair_limit (onto front (point_pairs_between_commas runs))))
    (entry_parts-none 44 text cut)
