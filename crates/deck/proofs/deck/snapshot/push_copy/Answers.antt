use Rattle.std.proofs.Common.{ap}
use Rattle.deck_lines.specs.Stores.{LineStoreView}
use Rattle.deck_lines.specs.declared.line.DeckLine.{DeckLine}
use Rattle.deck.proofs.CopiedLines.{copied_deck_front_longer, copied_deck_within_limit, deck_line_with_copied_text}
use Rattle.deck.proofs.deck.snapshot.push_copy.Goals as goal

pub push-requires : goal.push-requires
push-requires c =
    let x : DeckLine = record {
      number = c.line-line.result.number;
      text = c.in_ok-text.text;
      mark =
          c.line-line.result.mark;
    } in
    let at = deck_line_with_copied_text c.args.store.now.lines c.args.place _ c.in_ok-text.text
    c.line-line.ensures.is
    c.in_ok-text.ensures
    in
    record {
      reads = c.in_ok-definition.ensures x at;
      room = copied_deck_within_limit c.args.store.now.lines c.args.copy.now.lines c.args.place x
          c.requires.front at
          c.line-line.ensures.within;
    }

pub returns : goal.returns
returns c =
    let x : DeckLine = record {
      number = c.line-line.result.number;
      text = c.in_ok-text.text;
      mark =
          c.line-line.result.mark;
    } in
    let at = deck_line_with_copied_text c.args.store.now.lines c.args.place _ c.in_ok-text.text
    c.line-line.ensures.is
    c.in_ok-text.ensures
    in
    copied_deck_front_longer c.args.store.now.lines c.args.copy.now.lines c.push.new.self.lines c.args.place x
    c.requires.front at (ap (λ (s : LineStoreView). s.lines) c.in_ok-push.ensures.ok)
