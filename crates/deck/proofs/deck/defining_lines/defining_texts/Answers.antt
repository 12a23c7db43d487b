use Rattle.std.proofs.Common.{◌≡◌, ◌++◌, ◌∷◌, ◌+◌, ◌<◌, ◌≤◌, [], drop, drop-cons, add-one, get_or, length, sym, ap, ◌∙◌}
use Rattle.std.proofs.Common.{arith}
use Rattle.std.proofs.lemmas.List.{append-nil}
use Rattle.std.proofs.lemmas.Option.{slice_get-get_or}
use Rattle.deck_lines.specs.Marks.{plain_store_line}
use Rattle.deck_lines.specs.declared.line.DeckLine.{DeckLine}
use Rattle.deck.specs.Messages.{deck_definition_text}
use Rattle.deck.proofs.LineTexts.{active_line_texts_all, active_line_texts_step}
use Rattle.deck.proofs.deck.defining_lines.defining_texts.Goals as goal

pub loop-place-preserved : goal.loop-place-preserved
loop-place-preserved c =
    let lines = c.args.store.now.lines in
    let i = c.loop-place.place in
    let x : DeckLine = get_or lines i (plain_store_line 0 []) in
    let within : i < length lines = omega (arith, c.loop-place-test.true, c.requires) in
    let there : drop i lines ≡ x ∷ drop (i + 1) lines = rw (add-one, drop-cons lines i (plain_store_line 0 [])) in
    active_line_texts_step deck_definition_text c.args.flags.now lines i x c.loop-place.texts
    c.push_if_defining.new.texts _
    c.loop-place-test.true there c.loop-place.invariant
    (c.in_ok-push_if_defining.ensures x (slice_get-get_or lines i (plain_store_line 0 []) within))

pub returns : goal.returns
returns c =
    let lines = c.args.store.now.lines in
    let past : length lines ≤ c.loop-place.place = omega (arith, c.loop-place-test.false, c.requires) in
    sym (append-nil c.loop-place.texts)
    ∙ ap (λ t. c.loop-place.texts ++ t)
    (sym (active_line_texts_all deck_definition_text c.args.flags.now lines c.loop-place.place past))
    ∙ c.loop-place.invariant
