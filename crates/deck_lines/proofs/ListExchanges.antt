-- Replacement of a part of a list.
use Rattle.std.proofs.Common.{◌≡◌, ◌++◌, ◌∷◌, ◌+◌, ◌-◌, ◌<◌, ◌≤◌, [], ℕ, zero, suc, List, Bool, length, take, drop}
use Rattle.std.proofs.Common.{refl, ap, ◌∙◌, arith, length-append, length-drop, length-take, Some, slice_get}
use Rattle.std.proofs.lemmas.List.Sums.{sum_by-append}
use Rattle.def_lines.specs.declared.line.Line.{Line}
use Rattle.deck_lines.specs.Limits.{most_store_bytes, most_store_lines, stored_bytes_in}
use Rattle.deck_lines.specs.Marks.{store_lines_with_marks}
use Rattle.deck_lines.specs.Within.{IsWithinStoreLimit}
use Rattle.deck_lines.proofs.MarkLimits.{store_marks_append, store_marks_bytes, store_marks_drop, store_marks_take}
use Rattle.general_lemmas.proofs.Parts.{parts_of}

-- the range of length 1 at a place has only the item there
pub one_store_line_at_place : {A : Type 0} (place : ℕ) (xs : List A) (x : A) → slice_get xs place ≡ Some x
    → take 1 (drop place xs) ≡ x ∷ []
one_store_line_at_place place [] x e = absurd (cc)
one_store_line_at_place zero (y ∷ ys) x e =
    let same : y ≡ x = cc in
    ap (λ t. t ∷ []) same
one_store_line_at_place (suc n) (y ∷ ys) x e = one_store_line_at_place n ys x e

module _ (ls put : List Line) (ms more : List Bool) (at cut : ℕ) (each : length ms ≡ length ls)
    (with : length more ≡ length put) where
  -- marking lines after a replacement is the same as replacing marked lines
  pub marks_exchange : store_lines_with_marks (take at ls ++ (put ++ drop (at + cut) ls))
      (take at ms ++ (more ++ drop (at + cut) ms))
      ≡ take at (store_lines_with_marks ls ms)
      ++ (store_lines_with_marks put more ++ drop (at + cut) (store_lines_with_marks ls ms))
  marks_exchange =
      store_marks_append (take at ls) (put ++ drop (at + cut) ls) (take at ms) (more ++ drop (at + cut) ms)
      (omega (arith, each, length-take at ls, length-take at ms))
      ∙ ap (λ t. t ++ store_lines_with_marks (put ++ drop (at + cut) ls) (more ++ drop (at + cut) ms))
      (store_marks_take at ls ms)
      ∙ ap (λ t. take at (store_lines_with_marks ls ms) ++ t)
      (store_marks_append put (drop (at + cut) ls) more (drop (at + cut) ms) with
      ∙ ap (λ t. store_lines_with_marks put more ++ t) (store_marks_drop (at + cut) ls ms each))

  pub long : length (take at ms ++ (more ++ drop (at + cut) ms)) ≡ length (take at ls ++ (put ++ drop (at + cut) ls))
  long = omega (
    arith,
    each,
    with,
    length-append (take at ms) (more ++ drop (at + cut) ms),
    length-append more (drop (at + cut) ms),
    length-take at ms,
    length-drop (at + cut) ms,
    length-append (take at ls) (put ++ drop (at + cut) ls),
    length-append put (drop (at + cut) ls),
    length-take at ls,
    length-drop (at + cut) ls,
  )

  bytes_after : at + cut ≤ length ls
      → stored_bytes_in (take at ls ++ (put ++ drop (at + cut) ls)) + stored_bytes_in (take cut (drop at ls))
      ≡ stored_bytes_in ls + stored_bytes_in put
  bytes_after h =
      omega (
        arith,
        ap stored_bytes_in (parts_of at cut ls h),
        sum_by-append (λ (l : Line). length l.text) (take at ls) (put ++ drop (at + cut) ls),
        sum_by-append (λ (l : Line). length l.text) put (drop (at + cut) ls),
        sum_by-append (λ (l : Line). length l.text) (take at ls) (take cut (drop at ls) ++ drop (at + cut) ls),
        sum_by-append (λ (l : Line). length l.text) (take cut (drop at ls)) (drop (at + cut) ls),
      )

  -- the lines after a replacement are within the limits if their number and their bytes are
  pub within_exchange : (bytes less : ℕ) → IsWithinStoreLimit ls ms bytes → at + cut ≤ length ls
      → less + stored_bytes_in (take cut (drop at ls)) ≡ bytes + stored_bytes_in put →
      length (take at ls ++ (put ++ drop (at + cut) ls)) ≤ most_store_lines → less ≤ most_store_bytes →
      IsWithinStoreLimit (take at ls ++ (put ++ drop (at + cut) ls)) (take at ms ++ (more ++ drop (at + cut) ms)) less
  within_exchange bytes less kept h e few small = record {
    mark_count = long;
    byte_total = omega (
      arith,
      e,
      kept.byte_total,
      bytes_after h,
      store_marks_bytes ls ms each,
      store_marks_bytes (take at ls ++ (put ++ drop (at + cut) ls)) (take at ms ++ (more ++ drop (at + cut) ms)) long,
    );
    line_bound = few;
    small = small;
  }

-- removing the line at a place
module _ (ls : List Line) (ms : List Bool) (bytes place : ℕ) (kept : IsWithinStoreLimit ls ms bytes) (line : Line)
    (at : slice_get ls place ≡ Some line) (within : place < length ls) where
  one_byte : stored_bytes_in (take 1 (drop place ls)) ≡ length line.text
  one_byte = ap stored_bytes_in (one_store_line_at_place place ls line at) ∙ zero_plus (length line.text)
    where
      zero_plus : (n : ℕ) → 0 + n ≡ n
      zero_plus n = omega arith

  pub bytes_at : length line.text ≤ bytes
  bytes_at = omega (
    arith,
    one_byte,
    kept.byte_total,
    store_marks_bytes ls ms kept.mark_count,
    bytes_after ls [] ms [] place 1 kept.mark_count refl (omega (arith, within)),
  )

  pub within_without : (less : ℕ) → less + length line.text ≡ bytes
      → IsWithinStoreLimit (take place ls ++ drop (place + 1) ls) (take place ms ++ drop (place + 1) ms) less
  within_without less e =
      within_exchange ls [] ms [] place 1 kept.mark_count refl bytes less kept (omega (arith, within))
      (omega (arith, e, one_byte))
      (omega (
        arith,
        kept.line_bound,
        within,
        length-append (take place ls) (drop (place + 1) ls),
        length-take place ls,
        length-drop (place + 1) ls,
      )) (omega (arith, e, kept.small))

  -- the lines without the line at a place are within the limits, given both lists and the length of the text
  pub within_removed : (n : ℕ) (ls' : List Line) (ms' : List Bool) → n ≡ length line.text
      → ls' ≡ take place ls ++ drop (place + 1) ls → ms' ≡ take place ms ++ drop (place + 1) ms
      → IsWithinStoreLimit ls' ms' (bytes - n)
  within_removed n ls' ms' e p q = rw (p, q) (within_without (bytes - n) (omega (arith, e, bytes_at)))
