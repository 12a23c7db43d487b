-- Lines that may be exchanged for others.
use Rattle.std.proofs.Common.{◌≡◌, ◌∷◌, ◌+◌, ◌-◌, ◌<◌, ◌≤◌, ◌↔◌, [], ℕ, Bool, true, false, List, length, reverse, eqb}
use Rattle.std.proofs.Common.{eq-eqb, refl, sym, ap, ◌∙◌, arith, Some, None, Result, Ok, Err}
use Rattle.std.specs.Prelude.{IfOk}
use Rattle.std.proofs.lemmas.Bool.{eqb-true, false≢true}
use Rattle.std.proofs.lemmas.Bool.Decides.{nat_tests}
use Rattle.std.proofs.lemmas.List.{length-reverse, nil_from_length}
use Rattle.std.proofs.lemmas.List.Sums.{sum_by-cons}
use Rattle.std.proofs.lemmas.Option.{same_Some}
use Rattle.std.specs.Option.{option_and_then}
use Rattle.deck_lines.specs.ClosedBlocks.{AreBlocksClosed, blocks_after, blocks_past}
use Rattle.deck_lines.specs.Exchangeable.{CanExchangeStoredLines}
use Rattle.deck_lines.specs.Limits.{most_store_bytes, most_store_lines, pass_store_limit, stored_text_len}
use Rattle.deck_lines.specs.Origins.{exchanged_store_lines}
use Rattle.deck_lines.specs.declared.line.DeckLine.{DeckLine}
use Rattle.deck_lines.specs.declared.line.Ending.{Ending}
use Rattle.deck_lines.proofs.ExchangedItems.{exchanged_len}
use Rattle.deck_lines.proofs.MarkReplacement.{store_limit_of_bytes, store_limit_of_lines}

module _ (all xs rest : List DeckLine) (x : DeckLine) (e : xs ≡ x ∷ rest) where
  texts : stored_text_len xs ≡ length x.text + stored_text_len rest
  texts = ap stored_text_len e ∙ sum_by-cons (λ (l : DeckLine). length l.text) x rest

  -- if the room left by the lines before a line is too small for it, the lines pass the limit on bytes
  pub too_long : (len room : ℕ) → len ≡ length x.text → stored_text_len xs + most_store_bytes ≡ stored_text_len all
      + room → room < len
      → stored_text_len all ≤ most_store_bytes → ⊥
  too_long len room f h l m = omega (arith, f, h, l, m, texts)

  -- otherwise the line reduces the room by the length of its text
  pub texts_more : (len room : ℕ) → len ≡ length x.text → stored_text_len xs + most_store_bytes ≡ stored_text_len all
      + room → len ≤ room
      → stored_text_len rest + most_store_bytes ≡ stored_text_len all + (room - len)
  texts_more len room f h l = omega (arith, f, h, l, texts)

  -- if `blocks_past` gives `None` for a line, the lines are not closed
  pub not_closed : (blocks : List Ending) → blocks_after blocks xs ≡ blocks_after [] all → blocks_past blocks x ≡ None
      → AreBlocksClosed all → ⊥
  not_closed blocks h f closed =
      let none : None ≡ Some [] =
      sym (ap (blocks_after blocks) e ∙ ap (option_and_then (λ now. blocks_after now rest)) f) ∙ h ∙ closed in
      cc

  -- otherwise the blocks after all lines are computed from those after this line
  pub blocks_more : (blocks now : List Ending) → blocks_after blocks xs ≡ blocks_after [] all
      → blocks_past blocks x ≡ Some now → blocks_after now rest ≡ blocks_after [] all
  blocks_more blocks now h f = sym (ap (blocks_after blocks) e ∙ ap (option_and_then (λ bs. blocks_after bs rest)) f)
      ∙ h

-- if the reversed list of open blocks is empty, so is the list
pub no_open_block_reversed : (items : List Ending) → Some (reverse items) ≡ Some [] → items ≡ []
no_open_block_reversed [] e = refl
no_open_block_reversed (i ∷ items) e =
    absurd (omega (arith, length-reverse (i ∷ items), ap length (same_Some (reverse (i ∷ items)) [] e)))

-- at the end, no block is open exactly if the lines are closed and within the limit on bytes
pub no_block_open_at_end : (all : List DeckLine) (items : List Ending) (count room : ℕ) (empty : Bool)
    → empty ≡ eqb count 0
    → count ≡ length items →
    blocks_after (reverse items) [] ≡ blocks_after [] all → stored_text_len [] + most_store_bytes ≡ stored_text_len all
    + room →
    (empty ≡ true) ↔ (AreBlocksClosed all × (stored_text_len all ≤ most_store_bytes))
no_block_open_at_end all items count room empty e c h t = (
  λ y. (
    sym h ∙ ap (λ bs. Some (reverse bs)) (nil_from_length items (sym c ∙ eqb-true count 0 (sym e ∙ y))),
    omega
        (arith, t),
  ),
  λ r. e ∙ eq-eqb count 0 (c ∙ ap length (no_open_block_reversed items (h ∙ r.0))),
)

-- lines are within the limits if their number and the length of their texts are
pub store_limit_by_count_and_bytes : (lines : List DeckLine) → length lines ≤ most_store_lines
    → stored_text_len lines ≤ most_store_bytes
    → pass_store_limit lines ≡ false
unfolding pass_store_limit
store_limit_by_count_and_bytes lines few small = grind (arith, nat_tests, few, small)

module _ (at cut : ℕ) (put lines : List DeckLine) where
  pub exchangeable : (can : Bool) → at + cut ≤ length lines → length (exchanged_store_lines at cut put lines) ≤
      most_store_lines →
      (can ≡ true) ↔ (AreBlocksClosed (exchanged_store_lines at cut put lines)
      × (stored_text_len (exchanged_store_lines at cut put lines) ≤ most_store_bytes))
      → (can ≡ true) ↔ CanExchangeStoredLines at cut put lines
  exchangeable can places few is = (
    λ y. record {
      range_within = places;
      blocks_closed_after = (is.0 y).0;
      within_limit =
          store_limit_by_count_and_bytes (exchanged_store_lines at cut put lines) few (is.0 y).1;
    },
    λ c. is.1 (c.blocks_closed_after, store_limit_of_bytes (exchanged_store_lines at cut put lines) c.within_limit),
  )

  -- if the lines to be replaced do not all exist, the lines cannot be exchanged
  pub not_there : (length lines < at + cut) → (false ≡ true) ↔ CanExchangeStoredLines at cut put lines
  not_there past = (λ t. absurd (false≢true t), λ c. absurd (omega (arith, past, c.range_within)))

  -- if the result has too many lines, the lines cannot be exchanged
  pub too_many : at + cut ≤ length lines → most_store_lines < length lines - cut + length put
      → (false ≡ true) ↔ CanExchangeStoredLines at cut put lines
  too_many places many = (
    λ t. absurd (false≢true t),
    λ c. absurd (omega (
      arith,
      many,
      exchanged_len lines put at cut places,
      store_limit_of_lines (exchanged_store_lines at cut put lines) c.within_limit,
    )),
  )

-- if a property of a successful result implies another, the result has that one as well
pub if_ok : {A E : Type 0} (r : Result A E) {P Q : A → Type 0} → IfOk r P → ((x : A) → P x → Q x) → IfOk r Q
if_ok (Ok x) h f = f x h
if_ok (Err e) h f = tt
