use Rattle.std.proofs.Common.{◌≡◌, Bool, true, false, not, sym, ap, ◌∙◌}
use Rattle.std.specs.Bool.{OnTrue}
use Rattle.deck.specs.Changes.{is_same_deck_entry}
use Rattle.deck.specs.Numbers.{deck_entry_at_place}
use Rattle.deck.proofs.EntryTexts.{deck_entry_is_same_as_itself}
use Rattle.deck.proofs.places.changes.is_changed.Goals as goal

on_true : (b : Bool) {P : Type 0} → b ≡ true → OnTrue b P → P
on_true true e h = h
on_true false e h = cc

pub returns-then-is_one_line : goal.returns-then-is_one_line
returns-then-is_one_line c =
    let before = deck_entry_at_place c.args.edited.now.old_lines c.args.before in
    sym (ap (λ e. not (is_same_deck_entry before e))
    (on_true c.is_one_line.result c.if-is_one_line.true c.is_one_line.ensures)
    ∙ ap not (deck_entry_is_same_as_itself before))
