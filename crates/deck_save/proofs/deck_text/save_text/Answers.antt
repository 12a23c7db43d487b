use Rattle.std.proofs.Common.{◌≡◌, ◌≤◌, ◌∙◌, inr, ap, subst, sym}
use Rattle.units_io.specs.FileMap.{longest_file}
use Rattle.deck_save.specs.SavedLines.{saved_lines}
use Rattle.deck_save.specs.LineTexts.{saved_texts_of_lines}
use Rattle.deck_save.proofs.SavedFiles.{one_each, short_enough, too_long}
use Rattle.deck_save.proofs.deck_text.save_text.Goals as goal

pub saved_len-requires : goal.saved_len-requires
saved_len-requires c = one_each c.args.deck.now c.as_slice.result.now
    (c.as_slice.ensures.value ∙ c.in_ok-active.ensures)

pub saved_lines-requires : goal.saved_lines-requires
saved_lines-requires c = one_each c.args.deck.now c.as_slice-2.result.now
    (c.as_slice-2.ensures.value ∙ c.in_ok-active.ensures)

pub returns-in_default : goal.returns-in_default
returns-in_default c =
    inr (too_long c.args.deck.now c.as_slice.result.now (c.as_slice.ensures.value ∙ c.in_ok-active.ensures)
    c.in_default.ensures)

pub returns : goal.returns
returns c =
    let again : c.as_slice-2.result.now ≡ c.as_slice.result.now = c.as_slice-2.ensures.value
    ∙ sym c.as_slice.ensures.value in
    short_enough c.args.deck.now c.as_slice.result.now (c.as_slice.ensures.value ∙ c.in_ok-active.ensures) c.from.result
    (c.from.ensures ∙ c.in_ok-lines.ensures
    ∙ ap (λ flags. saved_lines (saved_texts_of_lines flags c.args.deck.now.lines)) again)
    (subst (λ n. n ≤ longest_file) c.in-Some.ensures.0 c.in-Some.ensures.1)
