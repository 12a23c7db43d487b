-- Replacing lines with their marks, within the limits.
use Rattle.std.proofs.Common.{◌≡◌, ◌++◌, ◌+◌, ◌-◌, ◌≤◌, ℕ, List, Bool, false, length, map, take, drop, sym, ap, ◌∙◌}
use Rattle.std.proofs.Common.{arith, subst}
use Rattle.std.proofs.lemmas.Bool.Decides.{nat_tests}
use Rattle.std.proofs.lemmas.List.{length-map}
use Rattle.std.proofs.lemmas.List.Sums.{sum_by-append}
use Rattle.def_lines.specs.declared.line.Line.{Line}
use Rattle.deck_lines.specs.Limits.{pass_store_limit, stored_text_len}
use Rattle.deck_lines.specs.Marks.{mark_of_store_line, store_line_without_mark, store_lines_with_marks}
use Rattle.deck_lines.specs.Within.{IsWithinStoreLimit}
use Rattle.deck_lines.specs.declared.line.DeckLine.{DeckLine}
use Rattle.deck_lines.proofs.ListExchanges.{long, marks_exchange}
use Rattle.deck_lines.proofs.MarkLimits.{store_marks_drop, store_marks_len, store_marks_on, store_marks_take}
use Rattle.general_lemmas.proofs.Parts.{parts_of}

-- lines within the limits are at most 100,000 lines
pub store_limit_of_lines : (lines : List DeckLine) → pass_store_limit lines ≡ false → length lines ≤ 100000
unfolding pass_store_limit
store_limit_of_lines lines e = grind (arith, nat_tests, e)

-- lines within the limits have at most 67,108,864 bytes in their texts
pub store_limit_of_bytes : (lines : List DeckLine) → pass_store_limit lines ≡ false → stored_text_len lines ≤ 67108864
unfolding pass_store_limit
store_limit_of_bytes lines e = grind (arith, nat_tests, e)

-- the bytes after a replacement plus the removed ones are the bytes before plus the new ones
stored_bytes_exchange : (lines put : List DeckLine) (at cut : ℕ) → at + cut ≤ length lines →
    stored_text_len (take at lines ++ (put ++ drop (at + cut) lines)) + stored_text_len (take cut (drop at lines))
    ≡ stored_text_len lines + stored_text_len put
stored_bytes_exchange lines put at cut h =
    omega (
      arith,
      ap stored_text_len (parts_of at cut lines h),
      sum_by-append (λ (l : DeckLine). length l.text) (take at lines) (put ++ drop (at + cut) lines),
      sum_by-append (λ (l : DeckLine). length l.text) put (drop (at + cut) lines),
      sum_by-append (λ (l : DeckLine). length l.text) (take at lines)
          (take cut (drop at lines) ++ drop (at + cut) lines),
      sum_by-append (λ (l : DeckLine). length l.text) (take cut (drop at lines)) (drop (at + cut) lines),
    )

-- the new lines have at most as many bytes as the lines after the replacement
stored_bytes_of_part : (lines put : List DeckLine) (at cut : ℕ)
    → stored_text_len put ≤ stored_text_len (take at lines ++ (put ++ drop (at + cut) lines))
stored_bytes_of_part lines put at cut =
    omega (
      arith,
      sum_by-append (λ (l : DeckLine). length l.text) (take at lines) (put ++ drop (at + cut) lines),
      sum_by-append (λ (l : DeckLine). length l.text) put (drop (at + cut) lines),
    )

-- the bytes of the new lines are within the limit if the lines after the replacement are
pub put_lines_fit_store_limit : (lines put : List DeckLine) (at cut : ℕ)
    → pass_store_limit (take at lines ++ (put ++ drop (at + cut) lines))
    ≡ false → stored_text_len put ≤ 67108864
put_lines_fit_store_limit lines put at cut within =
    omega (
      arith,
      stored_bytes_of_part lines put at cut,
      store_limit_of_bytes
          (take at lines ++ (put ++ drop (at + cut) lines)) within,
    )

module _ (ls : List Line) (ms : List Bool) (bytes : ℕ) (kept : IsWithinStoreLimit ls ms bytes) (put : List DeckLine)
    (at cut : ℕ)
    (h : at + cut ≤ length ls)
    (within : pass_store_limit
    (take at (store_lines_with_marks ls ms) ++ (put ++ drop (at + cut) (store_lines_with_marks ls ms))) ≡ false) where
  same : length (map mark_of_store_line put) ≡ length (map store_line_without_mark put)
  same = length-map put mark_of_store_line ∙ sym (length-map put store_line_without_mark)

  pub places : at + cut ≤ length (store_lines_with_marks ls ms)
  places = omega (arith, h, store_marks_len ls ms kept.mark_count)

  pub gone_marked : store_lines_with_marks (take cut (drop at ls)) (take cut (drop at ms)) ≡ take cut
      (drop at (store_lines_with_marks ls ms))
  gone_marked = store_marks_take cut (drop at ls) (drop at ms)
      ∙ ap (take cut) (store_marks_drop at ls ms kept.mark_count)

  pub gone_small : stored_text_len (take cut (drop at (store_lines_with_marks ls ms))) ≤ bytes
  gone_small = omega (
    arith,
    kept.byte_total,
    stored_bytes_of_part (store_lines_with_marks ls ms) (take cut (drop at (store_lines_with_marks ls ms))) at cut,
    ap stored_text_len (parts_of at cut (store_lines_with_marks ls ms) places),
  )

  pub exchanged : (ls' : List Line) (ms' : List Bool)
      → ls' ≡ take at ls ++ (map store_line_without_mark put ++ drop (at + cut) ls)
      → ms' ≡ take at ms ++ (map mark_of_store_line put ++ drop (at + cut) ms) →
      store_lines_with_marks ls' ms' ≡ take at (store_lines_with_marks ls ms)
      ++ (put ++ drop (at + cut) (store_lines_with_marks ls ms))
  exchanged ls' ms' p q =
      ap (λ t. store_lines_with_marks t ms') p
      ∙ ap (store_lines_with_marks (take at ls ++ (map store_line_without_mark put ++ drop (at + cut) ls))) q
      ∙ marks_exchange ls (map store_line_without_mark put) ms (map mark_of_store_line put) at cut kept.mark_count same
      ∙ ap (λ t. take at (store_lines_with_marks ls ms) ++ (t ++ drop (at + cut) (store_lines_with_marks ls ms)))
      (store_marks_on put)

  pub within_exchanged : (ls' : List Line) (ms' : List Bool) (len some : ℕ)
      → ls' ≡ take at ls ++ (map store_line_without_mark put ++ drop (at + cut) ls)
      → ms' ≡ take at ms ++ (map mark_of_store_line put ++ drop (at + cut) ms) →
      len ≡ stored_text_len put → some ≡ stored_text_len (take cut (drop at (store_lines_with_marks ls ms)))
      → IsWithinStoreLimit ls' ms' (bytes + len - some)
  within_exchanged ls' ms' len some p q e f = record {
    mark_count = each;
    byte_total = omega (
      arith,
      e,
      f,
      gone_small,
      kept.byte_total,
      ap stored_text_len (exchanged ls' ms' p q),
      stored_bytes_exchange (store_lines_with_marks ls ms) put at cut places,
    );
    line_bound = omega (
      arith,
      store_marks_len ls' ms' each,
      ap length (exchanged ls' ms' p q),
      store_limit_of_lines (take at (store_lines_with_marks ls ms)
          ++ (put ++ drop (at + cut) (store_lines_with_marks ls ms))) within,
    );
    small = omega (
      arith,
      e,
      f,
      gone_small,
      kept.byte_total,
      stored_bytes_exchange (store_lines_with_marks ls ms) put at cut places,
      store_limit_of_bytes (take at (store_lines_with_marks ls ms)
          ++ (put ++ drop (at + cut) (store_lines_with_marks ls ms))) within,
    );
  }
    where
      each : length ms' ≡ length ls'
      each = ap length q ∙ long ls (map store_line_without_mark put) ms (map mark_of_store_line put) at cut
          kept.mark_count same
          ∙ sym (ap length p)

-- a replacement in lines that are given with their marks
module _ (ls : List Line) (ms : List Bool) (bytes : ℕ) (kept : IsWithinStoreLimit ls ms bytes)
    (lines put : List DeckLine)
    (at cut : ℕ) (are : store_lines_with_marks ls ms ≡ lines) (h : at + cut ≤ length lines)
    (within : pass_store_limit (take at lines ++ (put ++ drop (at + cut) lines)) ≡ false) where
  pub places_within : at + cut ≤ length ls
  places_within = omega (arith, h, ap length are, store_marks_len ls ms kept.mark_count)

  within_store_limit : pass_store_limit
      (take at (store_lines_with_marks ls ms) ++ (put ++ drop (at + cut) (store_lines_with_marks ls ms))) ≡ false
  within_store_limit = ap (λ (t : List DeckLine). pass_store_limit (take at t ++ (put ++ drop (at + cut) t))) are
      ∙ within

  -- the replaced lines
  pub gone_are_marked : (gone : List DeckLine) → gone ≡ store_lines_with_marks (take cut (drop at ls))
      (take cut (drop at ms))
      → gone ≡ take cut (drop at lines)
  gone_are_marked gone is =
      is ∙ gone_marked ls ms bytes kept put at cut places_within within_store_limit
      ∙ ap (λ (t : List DeckLine). take cut (drop at t)) are

  pub gone_text_is_small : stored_text_len (take cut (drop at lines)) ≤ bytes
  gone_text_is_small =
      subst (λ (t : List DeckLine). stored_text_len (take cut (drop at t)) ≤ bytes) are
      (gone_small ls ms bytes kept put at cut places_within within_store_limit)

  -- the marked lines after the replacement are the lines after the replacement
  pub exchanged_are_marked : (ls' : List Line) (ms' : List Bool)
      → ls' ≡ take at ls ++ (map store_line_without_mark put ++ drop (at + cut) ls)
      → ms' ≡ take at ms ++ (map mark_of_store_line put ++ drop (at + cut) ms) →
      store_lines_with_marks ls' ms' ≡ take at lines ++ (put ++ drop (at + cut) lines)
  exchanged_are_marked ls' ms' p q =
      exchanged ls ms bytes kept put at cut places_within within_store_limit ls' ms' p q
      ∙ ap (λ (t : List DeckLine). take at t ++ (put ++ drop (at + cut) t)) are

  -- the lines after the replacement are within the limits
  pub rest_is_marked : (ls' : List Line) (ms' : List Bool) (len some : ℕ) (gone : List DeckLine)
      → ls' ≡ take at ls ++ (map store_line_without_mark put ++ drop (at + cut) ls)
      → ms' ≡ take at ms ++ (map mark_of_store_line put ++ drop (at + cut) ms) →
      len ≡ stored_text_len put → gone ≡ store_lines_with_marks (take cut (drop at ls)) (take cut (drop at ms))
      → some ≡ stored_text_len gone
      → IsWithinStoreLimit ls' ms' (bytes + len - some)
  rest_is_marked ls' ms' len some gone p q e is f =
      within_exchanged ls ms bytes kept put at cut places_within within_store_limit ls' ms' len some p q e
      (f ∙ ap stored_text_len (is ∙ gone_marked ls ms bytes kept put at cut places_within within_store_limit))
