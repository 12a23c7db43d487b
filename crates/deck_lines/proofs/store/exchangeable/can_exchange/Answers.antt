use Rattle.std.proofs.Common.{◌≡◌, ◌≤◌, ◌+◌, ◌∙◌, List, ap, arith, length}
use Rattle.std.proofs.lemmas.List.{length-map}
use Rattle.deck_lines.specs.Limits.{most_store_lines}
use Rattle.deck_lines.specs.Marks.{store_line_without_mark}
use Rattle.deck_lines.specs.Origins.{exchanged_store_lines}
use Rattle.deck_lines.specs.declared.line.DeckLine.{DeckLine}
use Rattle.deck_lines.proofs.Exchangeable.{exchangeable, if_ok, not_there, too_many}
use Rattle.deck_lines.proofs.ExchangedItems.{exchanged_len}
use Rattle.deck_lines.proofs.MarkReplacement.{store_limit_of_lines}
use Rattle.deck_lines.proofs.store.exchangeable.can_exchange.Goals as goal

pub returns-then-count-at : goal.returns-then-count-at
returns-then-count-at c =
    let lines : List DeckLine = c.args.store.now.lines in
    not_there c.args.at c.args.cut c.args.put.now lines
    (omega (
      arith,
      c.if-count-at.true,
      c.len-count.ensures ∙ ap length c.lines.ensures.lines
          ∙ length-map lines store_line_without_mark,
    ))

pub overflow_sub-left-2 : goal.overflow_sub-left-2
overflow_sub-left-2 c =
    let lines : List DeckLine = c.args.store.now.lines in
    omega (
      arith,
      c.len-count.ensures ∙ ap length c.lines.ensures.lines ∙ length-map lines store_line_without_mark,
      store_limit_of_lines lines c.lines.ensures.within,
    )

pub returns-then-left-put : goal.returns-then-left-put
returns-then-left-put c =
    let lines : List DeckLine = c.args.store.now.lines in
    let count : c.len-count.result ≡ length lines = c.len-count.ensures ∙ ap length c.lines.ensures.lines
    ∙ length-map lines store_line_without_mark in
    too_many c.args.at c.args.cut c.args.put.now lines
    (omega (arith, count, c.if-count-at.false, c.if-count-at-2.false))
    (omega (arith, count, c.if-left-put.true, store_limit_of_lines lines c.lines.ensures.within))

pub are_closed_and_small-requires-clause-few : goal.are_closed_and_small-requires-clause-few
are_closed_and_small-requires-clause-few c =
    let lines : List DeckLine = c.args.store.now.lines in
    let count : c.len-count.result ≡ length lines = c.len-count.ensures ∙ ap length c.lines.ensures.lines
    ∙ length-map lines store_line_without_mark in
    omega (
      arith,
      count,
      c.if-left-put.false,
      store_limit_of_lines lines c.lines.ensures.within,
      exchanged_len lines c.args.put.now c.args.at c.args.cut
          (omega (arith, count, c.if-count-at.false, c.if-count-at-2.false)),
    )

pub returns : goal.returns
returns c =
    let lines : List DeckLine = c.args.store.now.lines in
    let count : c.len-count.result ≡ length lines = c.len-count.ensures ∙ ap length c.lines.ensures.lines
    ∙ length-map lines store_line_without_mark in
    let places : c.args.at + c.args.cut ≤ length lines =
    omega (arith, count, c.if-count-at.false, c.if-count-at-2.false) in
    let few : length (exchanged_store_lines c.args.at c.args.cut c.args.put.now lines) ≤ most_store_lines = omega (
      arith,
      count,
      c.if-left-put.false,
      store_limit_of_lines lines c.lines.ensures.within,
      exchanged_len lines c.args.put.now c.args.at c.args.cut places,
    ) in
    if_ok c.are_closed_and_small.result c.are_closed_and_small.ensures
    (λ can is. exchangeable c.args.at c.args.cut c.args.put.now lines can places few is)
