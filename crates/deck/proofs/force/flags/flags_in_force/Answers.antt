use Rattle.std.proofs.Common.{◌++◌, ◌∷◌, ◌+◌, [], List, drop, sym, ap, ◌∙◌, arith}
use Rattle.std.proofs.lemmas.List.{append-nil, drop_all}
use Rattle.deck_lines.specs.declared.line.DeckLine.{DeckLine}
use Rattle.deck.specs.Active.{DeckSurroundings, active_line_flags, is_active_line}
use Rattle.deck.proofs.ActiveLineFlags.{active_line_flags_step}
use Rattle.deck.proofs.force.flags.flags_in_force.Goals as goal
use Rattle.general_lemmas.proofs.Places.{drop_at}

pub line-requires : goal.line-requires
line-requires c = omega (arith, c.loop-place-test.true, c.len-place-end.ensures)

pub loop-place-preserved : goal.loop-place-preserved
loop-place-preserved c =
    let locale = c.locale-locale.result.now in
    let lines : List DeckLine = c.args.edited.now.new_lines in
    let line : DeckLine =
    record {
      number = c.line.result.number;
      text = c.line.result.text.now;
      mark =
          c.line.result.mark;
    } in
    let rest : List DeckLine = drop (c.loop-place.place + 1) lines in
    ap (λ fs. fs ++ active_line_flags locale c.push_flag.new.around rest) (c.in_ok-push_flag.ensures.flags line.number)
    ∙ ap (λ (s : DeckSurroundings). (c.loop-place.flags.items ++ is_active_line c.loop-place.around line ∷ [])
    ++ active_line_flags locale s rest) (c.in_ok-push_flag.ensures.around line.number)
    ∙ active_line_flags_step locale c.loop-place.around (drop c.loop-place.place lines) rest c.loop-place.flags.items _
    line
    (drop_at lines c.loop-place.place line c.line.ensures) c.loop-place.invariant

pub returns : goal.returns
returns c =
    let lines : List DeckLine = c.args.edited.now.new_lines in
    sym (append-nil c.loop-place.flags.items)
    ∙ ap (λ ls. c.loop-place.flags.items ++ active_line_flags c.locale-locale.result.now c.loop-place.around ls)
    (sym (drop_all c.loop-place.place lines (omega (arith, c.loop-place-test.false, c.len-place-end.ensures))))
    ∙ c.loop-place.invariant
