use Rattle.std.proofs.Common.{◌≡◌, ◌+◌, [], List, Some, None, cond, drop, length, reverse, refl, sym, ap, ◌∙◌, arith}
use Rattle.std.proofs.lemmas.Bool.{false≢true}
use Rattle.std.proofs.lemmas.List.{drop_all}
use Rattle.deck_lines.specs.ClosedBlocks.{blocks_after}
use Rattle.deck_lines.specs.Limits.{most_store_bytes, stored_text_len}
use Rattle.deck_lines.specs.Origins.{exchanged_store_lines}
use Rattle.deck_lines.specs.declared.line.BorrowedLine.{BorrowedLine}
use Rattle.deck_lines.specs.declared.line.DeckLine.{DeckLine}
use Rattle.deck_lines.proofs.Exchangeable.{blocks_more, no_block_open_at_end, not_closed, texts_more, too_long}
use Rattle.deck_lines.proofs.ExchangedItems.{exchanged_len}
use Rattle.deck_lines.proofs.store.exchangeable.are_closed_and_small.Goals as goal
use Rattle.general_lemmas.proofs.Places.{drop_at}

-- the deck line of a borrowed line
abbrev lent_line : BorrowedLine → DeckLine
lent_line line = record { number = line.number; text = line.text.now; mark = line.mark }

pub line_at-line-requires-clause-inside : goal.line_at-line-requires-clause-inside
line_at-line-requires-clause-inside c =
    omega (
      arith,
      c.loop-place-test.true,
      c.requires.places,
      c.len.ensures.count,
      exchanged_len c.args.store.now.lines c.args.put.now c.args.at c.args.cut c.requires.places,
    )

pub loop-place-preserved : goal.loop-place-preserved
loop-place-preserved c =
    let after : List DeckLine = exchanged_store_lines c.args.at c.args.cut c.args.put.now c.args.store.now.lines in
    let i = c.loop-place.place in
    let line : DeckLine = lent_line c.line_at-line.result in
    let there = drop_at after i line c.line_at-line.ensures in
    let before = reverse c.loop-place.endings.items in
    let now = reverse c.pass_line.new.endings.items in
    record {
      closed =
          blocks_more after (drop i after) (drop (i + 1) after) line there before now c.loop-place.invariant.closed
          (c.in_ok-passes.ensures line.number ∙ ap (λ b. cond b (Some now) None) c.if-not-passes.false);
      room = texts_more after (drop i after) (drop (i + 1) after) line there
          (length line.text) c.loop-place.room refl c.loop-place.invariant.room (omega (arith, c.if-room-len.false));
    }

pub returns-then-room-len : goal.returns-then-room-len
returns-then-room-len c =
    let after : List DeckLine = exchanged_store_lines c.args.at c.args.cut c.args.put.now c.args.store.now.lines in
    let i = c.loop-place.place in
    let line : DeckLine = lent_line c.line_at-line.result in (
      λ t. absurd (false≢true t),
      λ h. absurd (too_long after (drop i after) (drop (i + 1) after) line
          (drop_at after i line c.line_at-line.ensures) (length line.text) c.loop-place.room refl
          c.loop-place.invariant.room c.if-room-len.true h.1),
    )

pub returns-then-not-passes : goal.returns-then-not-passes
returns-then-not-passes c =
    let after : List DeckLine = exchanged_store_lines c.args.at c.args.cut c.args.put.now c.args.store.now.lines in
    let i = c.loop-place.place in
    let line : DeckLine = lent_line c.line_at-line.result in
    let now = reverse c.pass_line.new.endings.items in (
      λ t. absurd (false≢true t),
      λ h. absurd (not_closed after (drop i after) (drop (i + 1) after) line
          (drop_at after i line c.line_at-line.ensures) (reverse c.loop-place.endings.items)
          c.loop-place.invariant.closed
          (c.in_ok-passes.ensures line.number ∙ ap (λ b. cond b (Some now) None) c.if-not-passes.true) h.0),
    )

pub returns : goal.returns
returns c =
    let after : List DeckLine = exchanged_store_lines c.args.at c.args.cut c.args.put.now c.args.store.now.lines in
    let none : drop c.loop-place.place after ≡ [] =
    drop_all c.loop-place.place after
    (omega (
      arith,
      c.loop-place-test.false,
      c.requires.places,
      c.len.ensures.count,
      exchanged_len c.args.store.now.lines c.args.put.now c.args.at c.args.cut c.requires.places,
    )) in
    no_block_open_at_end after c.loop-place.endings.items _ c.loop-place.room c.is_empty.result c.is_empty.ensures
    c.loop-place.endings.ok.0
    (sym (ap (blocks_after (reverse c.loop-place.endings.items)) none) ∙ c.loop-place.invariant.closed)
    (sym (ap (λ ls. stored_text_len ls + most_store_bytes) none) ∙ c.loop-place.invariant.room)
