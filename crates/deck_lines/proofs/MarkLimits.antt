-- Lines with their marks, within the limits.
use Rattle.std.proofs.Common.{◌≡◌, ◌++◌, ◌∷◌, ◌+◌, ◌-◌, ◌<◌, ◌≤◌, [], ℕ, zero, suc, List, Bool, true, false, not}
use Rattle.std.proofs.Common.{length, map, take, drop, reverse, refl, append_assoc, sym, ap, ◌∙◌, arith, length-append}
use Rattle.std.proofs.Common.{length-take, None, Some, option_map, slice_get}
use Rattle.std.specs.Prelude.{nat_le}
use Rattle.std.proofs.lemmas.Bool.Decides.{nat_tests}
use Rattle.std.proofs.lemmas.List.{reverse-append}
use Rattle.std.proofs.lemmas.Option.{same_Some, slice_get-map}
use Rattle.std.proofs.lemmas.List.Sums.{sum_by-append, sum_by-cons, sum_by-take-drop}
use Rattle.def_lines.specs.declared.line.Line.{Line}
use Rattle.deck_lines.specs.Limits.{pass_store_limit, stored_bytes_in, stored_text_len}
use Rattle.deck_lines.specs.Marks.{mark_of_store_line, store_line_with_mark, store_line_without_mark}
use Rattle.deck_lines.specs.Marks.{store_lines_with_marks}
use Rattle.deck_lines.specs.declared.line.DeckLine.{DeckLine}
use Rattle.deck_lines.specs.Within.{IsWithinStoreLimit}

-- appending a line and its mark appends the marked line
pub store_marks_push : (ls : List Line) (ms : List Bool) (l : Line) (m : Bool) → length ms ≡ length ls
    → store_lines_with_marks (ls ++ l ∷ []) (ms ++ m ∷ []) ≡ store_lines_with_marks ls ms ++ store_line_with_mark m l ∷
    []
store_marks_push [] [] l m h = refl
store_marks_push [] (n ∷ ms) l m h = absurd (omega arith)
store_marks_push (k ∷ ls) [] l m h = absurd (omega arith)
store_marks_push (k ∷ ls) (n ∷ ms) l m h = ap (λ t. store_line_with_mark n k ∷ t)
    (store_marks_push ls ms l m (omega arith))

-- there are as many lines with marks as without
pub store_marks_len : (ls : List Line) (ms : List Bool) → length ms ≡ length ls
    → length (store_lines_with_marks ls ms) ≡ length ls
store_marks_len [] ms h = refl
store_marks_len (k ∷ ls) [] h = absurd (omega arith)
store_marks_len (k ∷ ls) (n ∷ ms) h = ap suc (store_marks_len ls ms (omega arith))

-- removing the marks gives the lines again
pub store_marks_off : (ls : List Line) (ms : List Bool) → length ms ≡ length ls
    → map store_line_without_mark (store_lines_with_marks ls ms) ≡ ls
store_marks_off [] ms h = refl
store_marks_off (k ∷ ls) [] h = absurd (omega arith)
store_marks_off (k ∷ ls) (n ∷ ms) h = ap (λ t. k ∷ t) (store_marks_off ls ms (omega arith))

-- lines with marks have as many bytes as without
pub store_marks_bytes : (ls : List Line) (ms : List Bool) → length ms ≡ length ls
    → stored_text_len (store_lines_with_marks ls ms) ≡ stored_bytes_in ls
store_marks_bytes [] ms h = refl
store_marks_bytes (k ∷ ls) [] h = absurd (omega arith)
store_marks_bytes (k ∷ ls) (n ∷ ms) h =
    sum_by-cons (λ (x : DeckLine). length x.text) (store_line_with_mark n k) (store_lines_with_marks ls ms)
    ∙ ap (λ t. length k.text + t) (store_marks_bytes ls ms (omega arith))
    ∙ sym (sum_by-cons (λ (x : Line). length x.text) k ls)

-- the first marked lines are the first lines with their marks
pub store_marks_take : (n : ℕ) (ls : List Line) (ms : List Bool)
    → store_lines_with_marks (take n ls) (take n ms) ≡ take n (store_lines_with_marks ls ms)
store_marks_take zero ls ms = refl
store_marks_take (suc n) [] ms = refl
store_marks_take (suc n) (k ∷ ls) [] = refl
store_marks_take (suc n) (k ∷ ls) (m ∷ ms) = ap (λ t. store_line_with_mark m k ∷ t) (store_marks_take n ls ms)

-- the marked lines after the first ones are the other lines with their marks
pub store_marks_drop : (n : ℕ) (ls : List Line) (ms : List Bool) → length ms ≡ length ls
    → store_lines_with_marks (drop n ls) (drop n ms) ≡ drop n (store_lines_with_marks ls ms)
store_marks_drop zero ls ms h = refl
store_marks_drop (suc n) [] [] h = refl
store_marks_drop (suc n) [] (m ∷ ms) h = absurd (omega arith)
store_marks_drop (suc n) (k ∷ ls) [] h = absurd (omega arith)
store_marks_drop (suc n) (k ∷ ls) (m ∷ ms) h = store_marks_drop n ls ms (omega arith)

-- the marked lines of two joined lists are those of the first followed by those of the second
pub store_marks_append : (ls rest : List Line) (ms more : List Bool) → length ms ≡ length ls
    → store_lines_with_marks (ls ++ rest) (ms ++ more) ≡ store_lines_with_marks ls ms ++ store_lines_with_marks rest
    more
store_marks_append [] rest [] more h = refl
store_marks_append [] rest (m ∷ ms) more h = absurd (omega arith)
store_marks_append (k ∷ ls) rest [] more h = absurd (omega arith)
store_marks_append (k ∷ ls) rest (m ∷ ms) more h = ap (λ t. store_line_with_mark m k ∷ t)
    (store_marks_append ls rest ms more (omega arith))

module _ (ls : List Line) (ms : List Bool) (bytes : ℕ) (kept : IsWithinStoreLimit ls ms bytes) where
  -- the lines are within the limits
  pub kept_within : pass_store_limit (store_lines_with_marks ls ms) ≡ false
  unfolding pass_store_limit
  kept_within = grind (
    arith,
    nat_tests,
    kept.line_bound,
    kept.small,
    kept.byte_total,
    store_marks_len ls ms
        kept.mark_count,
  )

  -- with fewer than 100,000 lines, one more is within the limits exactly if its text fits the bytes that are left
  pub room_test : (line : DeckLine) (n : ℕ) → length line.text ≡ n → length ls < 100000
      → pass_store_limit (store_lines_with_marks ls ms ++ line ∷ []) ≡ not (nat_le n (67108864 - bytes))
  unfolding pass_store_limit
  room_test line n e few =
      grind (
        arith,
        nat_tests,
        e,
        few,
        kept.small,
        kept.byte_total,
        store_marks_len ls ms kept.mark_count,
        length-append (store_lines_with_marks ls ms) (line ∷ []),
        sum_by-append (λ (x : DeckLine). length x.text) (store_lines_with_marks ls ms) (line ∷ []),
      )

  pub full_lines : (line : DeckLine) → 100000 ≤ length ls
      → pass_store_limit (store_lines_with_marks ls ms ++ line ∷ []) ≡ true
  unfolding pass_store_limit
  full_lines line many =
      grind (
        arith,
        nat_tests,
        many,
        store_marks_len ls ms kept.mark_count,
        length-append (store_lines_with_marks ls ms)
            (line ∷ []),
      )

  -- if one more line is within the limits, there are fewer than 100,000 lines
  pub room_lines : (line : DeckLine) → pass_store_limit (store_lines_with_marks ls ms ++ line ∷ []) ≡ false
      → length ls < 100000
  unfolding pass_store_limit
  room_lines line e =
      grind (
        arith,
        nat_tests,
        e,
        store_marks_len ls ms kept.mark_count,
        length-append (store_lines_with_marks ls ms)
            (line ∷ []),
      )

  pub room_bytes : (line : DeckLine) → pass_store_limit (store_lines_with_marks ls ms ++ line ∷ []) ≡ false
      → length line.text ≤ 67108864 - bytes
  unfolding pass_store_limit
  room_bytes line e =
      grind (
        arith,
        nat_tests,
        e,
        kept.small,
        kept.byte_total,
        sum_by-append (λ (x : DeckLine). length x.text) (store_lines_with_marks ls ms) (line ∷ []),
      )

  -- after one more line within the limits is appended, the lines are within the limits
  pub within_push : (l : Line) (m : Bool) (n : ℕ) (ls' : List Line) (ms' : List Bool)
      → pass_store_limit (store_lines_with_marks ls ms ++ store_line_with_mark m l ∷ []) ≡ false →
      n ≡ length l.text → ls' ≡ ls ++ l ∷ [] → ms' ≡ ms ++ m ∷ [] → IsWithinStoreLimit ls' ms' (bytes + n)
  within_push l m n ls' ms' within e p q = rw (p, q, e) (record {
    mark_count = omega (arith, kept.mark_count, length-append ls (l ∷ []), length-append ms (m ∷ []));
    byte_total = omega (
      arith,
      kept.byte_total,
      ap stored_text_len (store_marks_push ls ms l m kept.mark_count),
      sum_by-append (λ (x : DeckLine). length x.text) (store_lines_with_marks ls ms) (store_line_with_mark m l ∷ []),
    );
    line_bound = omega (arith, room_lines (store_line_with_mark m l) within, length-append ls (l ∷ []));
    small = omega (arith, room_bytes (store_line_with_mark m l) within, kept.small);
  })

  -- the first lines are within the limits
  pub within_take : (n less : ℕ) → less + stored_bytes_in (drop n ls) ≡ bytes
      → IsWithinStoreLimit (take n ls) (take n ms) less
  within_take n less e = record {
    mark_count = long;
    byte_total = omega (
      arith,
      e,
      kept.byte_total,
      store_marks_bytes ls ms kept.mark_count,
      store_marks_bytes (take n ls) (take n ms) long,
      sum_by-take-drop (λ (x : Line). length x.text) ls n,
    );
    line_bound = omega (arith, kept.line_bound, length-take n ls);
    small = omega (arith, e, kept.small);
  }
    where
      long : length (take n ms) ≡ length (take n ls)
      long = omega (arith, kept.mark_count, length-take n ms, length-take n ls)

  -- the lines after the first ones have at most as many bytes as all lines
  pub bytes_behind : (n : ℕ) → stored_bytes_in (drop n ls) ≤ bytes
  bytes_behind n =
      omega (
        arith,
        kept.byte_total,
        store_marks_bytes ls ms kept.mark_count,
        sum_by-take-drop (λ (x : Line). length x.text)
            ls n,
      )

  -- the first lines are within the limits, given both lists and the number of removed bytes
  pub within_took : (n some : ℕ) (ls' : List Line) (ms' : List Bool) → some ≡ stored_bytes_in (drop n ls)
      → ls' ≡ take n ls
      → ms' ≡ take n ms → IsWithinStoreLimit ls' ms' (bytes - some)
  within_took n some ls' ms' e p q = rw (p, q) (within_take n (bytes - some) (omega (arith, e, bytes_behind n)))

-- moving the last marked line to the end of a reversed list leaves all lines in order
pub store_marks_pop : (ls ls' : List Line) (ms ms' : List Bool) (l : Line) (m : Bool) (into into' all : List DeckLine)
    → ls ≡ ls' ++ l ∷ [] → ms ≡ ms' ++ m ∷ [] → length ms ≡ length ls →
    into' ≡ into ++ store_line_with_mark m l ∷ [] → store_lines_with_marks ls ms ++ reverse into ≡ all
    → store_lines_with_marks ls' ms' ++ reverse into' ≡ all
store_marks_pop ls ls' ms ms' l m into into' all p q h e is =
    let long : length ms' ≡ length ls' =
    omega (arith, h, ap length p, ap length q, length-append ls' (l ∷ []), length-append ms' (m ∷ [])) in
    ap (λ t. store_lines_with_marks ls' ms' ++ reverse t) e
    ∙ ap (λ t. store_lines_with_marks ls' ms' ++ t) (reverse-append into (store_line_with_mark m l ∷ []))
    ∙ sym (append_assoc (store_lines_with_marks ls' ms') (store_line_with_mark m l ∷ []) (reverse into))
    ∙ ap (λ t. t ++ reverse into) (sym (store_marks_push ls' ms' l m long))
    ∙ ap (λ t. store_lines_with_marks t (ms' ++ m ∷ []) ++ reverse into) (sym p)
    ∙ ap (λ t. store_lines_with_marks ls t ++ reverse into) (sym q)
    ∙ is

-- removing the marks of deck lines and adding them again gives the same lines
pub store_marks_on : (put : List DeckLine) → store_lines_with_marks (map store_line_without_mark put)
    (map mark_of_store_line put) ≡ put
store_marks_on [] = refl
store_marks_on (l ∷ put) = ap (λ t. l ∷ t) (store_marks_on put)

-- a place within a list has an item
pub store_item_inside : {A : Type 0} → (xs : List A) (place : ℕ) → place < length xs → None ≡ slice_get xs place → ⊥
store_item_inside [] place h e = omega (arith, h)
store_item_inside (x ∷ xs) zero h e = cc
store_item_inside (x ∷ xs) (suc place) h e = store_item_inside xs place (omega (arith, h)) e

-- a line and its mark at the same place are the marked line at that place
pub store_marks_there : (ls : List Line) (ms : List Bool) (place : ℕ) (l : Line) (m : Bool)
    → slice_get ls place ≡ Some l
    → slice_get ms place ≡ Some m → slice_get (store_lines_with_marks ls ms) place ≡ Some (store_line_with_mark m l)
store_marks_there [] ms place l m e f = cc
store_marks_there (k ∷ ls) [] zero l m e f = cc
store_marks_there (k ∷ ls) [] (suc place) l m e f = cc
store_marks_there (k ∷ ls) (n ∷ ms) zero l m e f =
    ap (λ x. Some (store_line_with_mark x k)) (same_Some n m f) ∙ ap (λ x. Some (store_line_with_mark m x))
    (same_Some k l e)
store_marks_there (k ∷ ls) (n ∷ ms) (suc place) l m e f = store_marks_there ls ms place l m e f

-- the line at the place of a marked line is that line without its mark
pub store_line_of_marked : (ls : List Line) (ms : List Bool) (place : ℕ) (x : DeckLine) → length ms ≡ length ls
    → slice_get (store_lines_with_marks ls ms) place ≡ Some x → slice_get ls place ≡ Some (store_line_without_mark x)
store_line_of_marked ls ms place x h e =
    ap (λ (l : List Line). slice_get l place) (sym (store_marks_off ls ms h))
    ∙ slice_get-map store_line_without_mark (store_lines_with_marks ls ms) place
    ∙ ap (option_map store_line_without_mark) e

-- the bytes from a line on are those of the line and those of the lines after it
pub stored_bytes_from_line : (ls : List Line) (place : ℕ) (l : Line) → slice_get ls place ≡ Some l
    → stored_bytes_in (drop place ls) ≡ length l.text + stored_bytes_in (drop (place + 1) ls)
stored_bytes_from_line [] place l e = cc
stored_bytes_from_line (k ∷ ls) zero l e =
    sum_by-cons (λ (x : Line). length x.text) k ls
    ∙ ap (λ (x : Line). length x.text + stored_bytes_in ls) (same_Some k l e)
stored_bytes_from_line (k ∷ ls) (suc place) l e =
    let next : suc (place + 1) ≡ suc place + 1 = omega arith in
    stored_bytes_from_line ls place l e ∙ ap (λ n. length l.text + stored_bytes_in (drop n (k ∷ ls))) next
