use Rattle.std.proofs.Common.{◌≡◌, ◌++◌, ◌+◌, ◌<◌, ◌≤◌, ◌∷◌, [], List, cond, length, get_or, drop, Some, slice_get, sym}
use Rattle.std.proofs.Common.{ap, ◌∙◌, arith, false}
use Rattle.std.proofs.lemmas.List.{append-nil, get_or_read}
use Rattle.def_lines.specs.Kinds.{kind_of_line}
use Rattle.deck_lines.specs.declared.line.DeckLine.{DeckLine}
use Rattle.deck.specs.Active.{active_lines}
use Rattle.deck.specs.Decks.{DeckContents}
use Rattle.deck.specs.Messages.{active_lines_by_flags, deck_message_of_kind, deck_message_of_line, texts_of_deck_lines}
use Rattle.deck.proofs.ActiveLineFlags.{length-active_line_flags}
use Rattle.deck.proofs.LineTexts.{active_line_texts_all, active_line_texts_step}
use Rattle.deck.proofs.deck.Deck.messages.Goals as goal
use Rattle.general_lemmas.proofs.Places.{drop_at}

pub line-requires : goal.line-requires
line-requires c =
    omega (
      arith,
      c.loop-i-test.true,
      ap length c.in_ok-flags.ensures ∙ length-active_line_flags _ _ c.self.inside.store.lines,
      c.in_ok-flags.flags.ok.0,
    )

pub loop-i-preserved : goal.loop-i-preserved
loop-i-preserved c =
    let lines : List DeckLine = c.args.self.now.lines in
    let x : DeckLine = record {
      number = c.line.result.number;
      text = c.line.result.text.now;
      mark =
          c.line.result.mark;
    }
    in
    let inside : c.loop-i.i < length c.in_ok-flags.flags.items =
    omega (arith, c.loop-i-test.true, c.in_ok-flags.flags.ok.0) in
    let at : slice_get lines c.loop-i.i ≡ Some x =
    ap (λ (d : DeckContents). slice_get d.lines c.loop-i.i) (sym c.self.view_is) ∙ c.line.ensures.is in
    active_line_texts_step deck_message_of_line c.in_ok-flags.flags.items lines c.loop-i.i x c.loop-i.texts
    c.push_message.new.texts _ inside
    (drop_at lines c.loop-i.i x at) c.loop-i.invariant
    (c.in_ok-push_message.ensures
    ∙ ap (λ b. c.loop-i.texts ++ cond b (deck_message_of_kind (kind_of_line c.line.result.text.now)) [])
    (get_or_read c.in_ok-flags.flags.items c.loop-i.i c.index.result.now inside c.index.ensures false))

pub returns : goal.returns
returns c =
    let lines : List DeckLine = c.args.self.now.lines in
    let past : length lines ≤ c.loop-i.i =
    omega (
      arith,
      c.loop-i-test.false,
      ap length c.in_ok-flags.ensures ∙ length-active_line_flags _ _ c.self.inside.store.lines,
      c.in_ok-flags.flags.ok.0,
      ap (λ (d : DeckContents). length d.lines) c.self.view_is,
    ) in
    sym (append-nil c.loop-i.texts)
    ∙ ap (λ t. c.loop-i.texts ++ t)
    (sym (active_line_texts_all deck_message_of_line c.in_ok-flags.flags.items lines c.loop-i.i past))
    ∙ c.loop-i.invariant
    ∙ ap (λ fs. texts_of_deck_lines deck_message_of_line (active_lines_by_flags fs lines))
    (c.in_ok-flags.ensures ∙ ap (λ (d : DeckContents). active_lines d.settings d.lines) c.self.view_is)
