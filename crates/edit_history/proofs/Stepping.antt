-- Exchanges of lines, and back.
use Rattle.std.proofs.Common.{◌≡◌, ◌++◌, ◌+◌, ◌-◌, ◌≤◌, [], ℕ, List, false, length, take, drop, refl, sym, ap}
use Rattle.std.proofs.Common.{subst, ◌∙◌, arith, length-append, length-take}
use Rattle.std.proofs.lemmas.List.{append-nil, drop_all, take_at}
use Rattle.deck_lines.specs.ClosedBlocks.{AreBlocksClosed}
use Rattle.deck_lines.specs.Exchangeable.{CanExchangeStoredLines}
use Rattle.deck_lines.specs.Limits.{pass_store_limit}
use Rattle.deck_lines.specs.Origins.{exchanged_store_lines}
use Rattle.deck_lines.specs.declared.line.DeckLine.{DeckLine}
use Rattle.deck.specs.Decks.{DeckContents}
use Rattle.deck.specs.Splices.{DeckSpliceInverseLaw, deck_after_splicing, lines_from_deck_place}
use Rattle.deck.specs.declared.settings.Settings.{Settings}
use Rattle.deck.specs.declared.splice.Splice.{Splice}

-- an exchange that cuts everything from a place on leaves the lines before it
pub undo_cut_leaves_lines_before : (at cut : ℕ) (xs ys zs : List DeckLine) → zs ≡ xs ++ ys → at ≡ length xs
    → at + cut ≡ length zs
    → exchanged_store_lines at cut [] zs ≡ xs
undo_cut_leaves_lines_before at cut xs ys zs is here all =
    ap (λ t. take at zs ++ t) (drop_all (at + cut) zs (omega (arith, all))) ∙ append-nil (take at zs)
    ∙ ap (λ n. take n zs) here ∙ ap (take (length xs)) is ∙ take_at xs ys (length xs) refl

-- lines can be exchanged if the result is closed and within the limits
pub undo_lines_can_be_exchanged : (at cut : ℕ) (put lines given : List DeckLine) → at + cut ≤ length lines
    → exchanged_store_lines at cut put lines ≡ given →
    AreBlocksClosed given → pass_store_limit given ≡ false → CanExchangeStoredLines at cut put lines
undo_lines_can_be_exchanged at cut put lines given places is closed within =
    record {
      range_within = places;
      blocks_closed_after = subst AreBlocksClosed (sym is) closed;
      within_limit =
          ap pass_store_limit is ∙ within;
    }

-- a splice with these parts
abbrev pub splice : ℕ → ℕ → List DeckLine → Settings → Splice
splice at cut put settings = record { at = at; cut = cut; put = put; settings = settings }

-- the way back from a splice
module _ (law : DeckSpliceInverseLaw) (s : Splice) (old new : DeckContents) (is : new ≡ deck_after_splicing s old)
    (places : s.at + s.cut ≤ length old.lines) where
  pub lines_back : exchanged_store_lines s.at (length s.put) (lines_from_deck_place s.at s.cut old.lines)
      new.lines ≡ old.lines
  lines_back =
      ap (λ (d : DeckContents). exchanged_store_lines s.at (length s.put) (lines_from_deck_place s.at s.cut old.lines)
      d.lines) is
      ∙ ap (λ (d : DeckContents). d.lines) (law s old places)

  pub places_back : s.at + length s.put ≤ length new.lines
  places_back =
      omega (
        arith,
        places,
        ap (λ (d : DeckContents). length d.lines) is,
        length-append (take s.at old.lines)
            (s.put ++ drop (s.at + s.cut) old.lines),
        length-append s.put (drop (s.at + s.cut) old.lines),
        length-take s.at old.lines,
      )

  pub can_go_back : AreBlocksClosed old.lines → pass_store_limit old.lines ≡ false
      → CanExchangeStoredLines s.at (length s.put)
      (lines_from_deck_place s.at s.cut old.lines) new.lines
  can_go_back closed within = undo_lines_can_be_exchanged s.at (length s.put)
      (lines_from_deck_place s.at s.cut old.lines) new.lines old.lines
      places_back lines_back closed within
