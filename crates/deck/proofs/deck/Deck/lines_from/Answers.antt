use Rattle.std.proofs.Common.{◌≡◌, ◌≤◌, ◌+◌, ◌++◌, List, Some, length, length-take, take, drop, ap, sym, ◌∙◌, arith}
use Rattle.std.proofs.Common.{slice_get}
use Rattle.std.proofs.lemmas.List.{append-nil, drop-take, drop_all}
use Rattle.deck_lines.specs.declared.line.DeckLine.{DeckLine}
use Rattle.deck.specs.Decks.{DeckContents}
use Rattle.deck.proofs.CopiedLines.{deck_copy_step, deck_line_with_copied_text, item_in_copied_deck_front}
use Rattle.deck.proofs.deck.Deck.lines_from.Goals as goal
use Rattle.general_lemmas.proofs.Places.{drop_at}

pub overflow_add-place-end : goal.overflow_add-place-end
overflow_add-place-end c =
    omega (arith, c.requires, c.lines_few.ensures, ap (λ (d : DeckContents). length d.lines) c.self.view_is)

pub line-number-requires : goal.line-number-requires
line-number-requires c =
    omega (arith, c.requires, c.loop-place-test.true, ap (λ (d : DeckContents). length d.lines) c.self.view_is)

pub loop-place-preserved : goal.loop-place-preserved
loop-place-preserved c =
    let place = c.loop-place.place in
    let range : List DeckLine = take (c.args.at + c.args.count) c.args.self.now.lines in
    let line : DeckLine =
    record { number = c.line-number.result.number; text = c.in_ok-text.text; mark = c.line-number.result.mark }
    in
    let at : slice_get range place ≡ Some line =
    item_in_copied_deck_front (c.args.at + c.args.count) c.args.self.now.lines place line
    (omega (arith, c.loop-place-test.true))
    (ap (λ (d : DeckContents). slice_get d.lines place) (sym c.self.view_is)
    ∙ deck_line_with_copied_text c.self.inside.store.lines place _ c.in_ok-text.text c.line-number.ensures.is
    c.in_ok-text.ensures) in
    deck_copy_step (drop place range) (drop (place + 1) range) c.push.new.self c.loop-place.copies
    (drop c.args.at range) line (drop_at range place line at) c.in_ok-push.ensures.ok c.loop-place.invariant

pub returns : goal.returns
returns c =
    let range : List DeckLine = take (c.args.at + c.args.count) c.args.self.now.lines in
    let past : length range ≤ c.loop-place.place =
    omega (arith, c.loop-place-test.false, length-take (c.args.at + c.args.count) c.args.self.now.lines) in
    sym (append-nil c.loop-place.copies)
    ∙ ap (λ ls. c.loop-place.copies ++ ls) (sym (drop_all c.loop-place.place range past))
    ∙ c.loop-place.invariant
    ∙ drop-take c.args.at c.args.count c.args.self.now.lines
