use Rattle.std.proofs.Common.{◌≡◌, ℕ, Bool, true, false, List, eqb, refl, sym, ap, ◌∙◌, slice_get, subst, Option}
use Rattle.std.specs.Bool.{OnTrue}
use Rattle.std.proofs.lemmas.Bool.{eqb-true}
use Rattle.deck_lines.specs.StoreEdits.{StoreEdit}
use Rattle.deck_lines.specs.declared.line.DeckLine.{DeckLine}
use Rattle.deck_lines.proofs.store.edited_lines.EditedLines.is_left.Goals as goal

left : (b : Bool) (place before : ℕ) (o : Option DeckLine) (lines : List DeckLine) → eqb place before ≡ b
    → o ≡ slice_get lines place → OnTrue b (o ≡ slice_get lines before)
left true place before o lines e h = h ∙ ap (slice_get lines) (eqb-true place before e)
left false place before o lines e h = tt

pub returns-in-Stored : goal.returns-in-Stored
returns-in-Stored c =
    let e = c.self.inside in
    let same = eqb c.in-Stored.place c.args.before in
    subst (λ (v : StoreEdit). OnTrue same (slice_get v.new_lines c.args.after ≡ slice_get v.old_lines c.args.before))
    c.self.view_is
    (left same c.in-Stored.place c.args.before _ e.store.now.lines refl
    (c.in-Stored.ensures e.store.now.lines e.put.now (sym c.len.ensures.count) refl))
