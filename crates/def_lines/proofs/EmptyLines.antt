-- Empty physical lines at the front of a file.
use Rattle.std.proofs.Common.{◌≡◌, ◌≤◌, ◌==◌, ◌+◌, ◌∷◌, [], ℕ, suc, List, Bool, true, false, cond, length, drop, map}
use Rattle.std.proofs.Common.{refl, sym, ap, subst, ◌∙◌, arith, one-add}
use Rattle.std.specs.List.{prefix_len}
use Rattle.def_lines.specs.declared.line.Line.{Line}
use Rattle.def_lines.specs.Lines.{logical_lines_after, nonblank_lines, numbered_logical_lines, onto_physical_line}
use Rattle.def_lines.specs.Lines.{physical_lines, trimmed_logical_line}

-- the number of leading line feeds
abbrev feeds : List ℕ → ℕ
feeds bytes = prefix_len (λ b. b == 10) bytes

-- the new lines are the old ones without some blank ones
pub record AreSkipped (old new : List Line) : Type 0 where
  pub same : nonblank_lines new ≡ nonblank_lines old
  pub fewer : length new ≤ length old

-- an empty line is blank and can be skipped
blank_line_is_skipped : (number : ℕ) (bytes : List ℕ) (new : List Line)
    → AreSkipped (logical_lines_after (number + 1) bytes) new
    → AreSkipped (map trimmed_logical_line (numbered_logical_lines (number + 1) ([] ∷ physical_lines bytes))) new
blank_line_is_skipped number bytes new h = record { same = h.same; fewer = omega (arith, h.fewer) }

-- the leading line feeds are lines that are skipped, and each is counted
pub line_feeds_are_skipped_lines : (bytes : List ℕ) (number : ℕ) → AreSkipped (logical_lines_after number bytes)
    (logical_lines_after (number + feeds bytes) (drop (feeds bytes) bytes))
line_feeds_are_skipped_lines [] number = record { same = refl; fewer = omega arith }
line_feeds_are_skipped_lines (b ∷ bytes) number = go (b == 10) refl (line_feeds_are_skipped_lines bytes (number + 1))
  where
    old_by : Bool → List Line
    old_by t = map trimmed_logical_line
        (numbered_logical_lines (number + 1)
        (cond t ([] ∷ physical_lines bytes) (onto_physical_line b (physical_lines bytes))))

    new_by : ℕ → List Line
    new_by n = logical_lines_after (number + n) (drop n (b ∷ bytes))

    more : number + 1 + feeds bytes ≡ number + suc (feeds bytes)
    more = omega arith

    deeper : logical_lines_after (number + 1 + feeds bytes) (drop (feeds bytes) bytes) ≡ new_by (1 + feeds bytes)
    deeper = ap (λ n. logical_lines_after n (drop (feeds bytes) bytes)) more ∙ ap new_by (sym (one-add (feeds bytes)))

    nothing : number ≡ number + 0
    nothing = omega arith

    go : (t : Bool) → (b == 10) ≡ t → AreSkipped (logical_lines_after (number + 1) bytes)
        (logical_lines_after (number + 1 + feeds bytes) (drop (feeds bytes) bytes))
        → AreSkipped (logical_lines_after number (b ∷ bytes)) (new_by (feeds (b ∷ bytes)))
    go true e rest =
        subst (λ t. AreSkipped (old_by t) (new_by (cond t (1 + feeds bytes) 0))) (sym e)
        (blank_line_is_skipped number bytes (new_by (1 + feeds bytes))
        (subst (AreSkipped (logical_lines_after (number + 1) bytes)) deeper rest))
    go false e rest =
        subst (λ t. AreSkipped (logical_lines_after number (b ∷ bytes)) (new_by (cond t (1 + feeds bytes) 0))) (sym e)
        (subst (λ n. AreSkipped (logical_lines_after number (b ∷ bytes)) (logical_lines_after n (b ∷ bytes))) nothing
        (record { same = refl; fewer = omega arith }))
