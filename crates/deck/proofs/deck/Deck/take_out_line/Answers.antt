use Rattle.std.proofs.Common.{◌≡◌, ◌++◌, ◌∷◌, ◌-◌, [], List, length, take, refl, ap, subst, sym, ◌∙◌, arith}
use Rattle.std.proofs.Common.{length-append}
use Rattle.deck_lines.specs.declared.line.DeckLine.{DeckLine}
use Rattle.deck.specs.CoveredLines.{MayCoverDefinitions}
use Rattle.deck.specs.Decks.{DeckContents}
use Rattle.deck.specs.LineRemoval.{deck_without_last_line}
use Rattle.deck.specs.Tables.{active_definitions}
use Rattle.deck.proofs.LastLine.{changed_undefined, covers_undefined, indexed_undefined, room_undefined}
use Rattle.deck.proofs.LastRemoval.{place_of_last_deck_line, text_of_last_deck_line}
use Rattle.deck.proofs.deck.Deck.take_out_line.Goals as goal

pub line-requires : goal.line-requires
line-requires c =
    let lines : c.self.inside.store.lines ≡ c.requires.lines_before ++ c.requires.line ∷ [] =
    ap (λ (d : DeckContents). d.lines) c.self.view_is ∙ c.requires.lines in
    let last : c.len-place.result - 1 ≡ length c.requires.lines_before =
    place_of_last_deck_line c.self.inside.store.lines c.requires.lines_before
    c.requires.line c.len-place.result lines c.len-place.ensures.count in
    omega (
      arith,
      ap length lines,
      c.len-place.ensures.count,
      last,
      length-append c.requires.lines_before (c.requires.line ∷ []),
    )

pub restore-requires : goal.restore-requires
restore-requires c =
    room_undefined c.self.inside.settings c.self.inside.store c.self.inside.notices _ c.self.view_is c.args.uncovered
    c.requires c.len-place.result c.len-place.ensures.count c.len-place.ensures.numbering c.self.inside.last
    c.self.invariant.indexed c.in-Some.number c.in-Some.ensures.number

pub invariant_of-self : goal.invariant_of-self
invariant_of-self c =
    let s = c.self.inside in record {
      indexed = indexed_undefined s.settings s.store s.notices _ c.self.view_is c.args.uncovered c.requires
          c.len-place.result c.len-place.ensures.count c.len-place.ensures.numbering s.last c.self.invariant.indexed
          c.in-Some.number c.in-Some.ensures.number c.restore.new.self c.truncate.new.self c.truncate.ensures.lines
          c.truncate.ensures.names c.restore.ensures;
      covers = covers_undefined s.settings s.store s.notices _ c.self.view_is c.args.uncovered c.requires
          c.len-place.result c.len-place.ensures.count c.len-place.ensures.numbering s.last c.self.invariant.indexed
          c.in-Some.number c.in-Some.ensures.number c.replace.result
          (subst (MayCoverDefinitions (length s.store.lines) (active_definitions s.settings s.store.lines))
          (sym c.replace.ensures.value) c.self.invariant.covers) c.first_lines.result
          c.first_lines.ensures c.truncate.new.self.lines c.truncate.ensures.lines;
    }

pub returns-clause-ok : goal.returns-clause-ok
returns-clause-ok c = (
  ap (λ (ls : List DeckLine).
      record { lines = ls; settings = c.self.inside.settings; notices = c.self.inside.notices })
      (c.truncate.ensures.lines ∙ ap (λ n. take (n - 1) c.self.inside.store.lines) c.len-place.ensures.count)
      ∙ ap deck_without_last_line c.self.view_is,
  changed_undefined c.self.inside.settings c.self.inside.store c.self.inside.notices _ c.self.view_is
      c.args.uncovered c.requires c.len-place.result c.len-place.ensures.count c.len-place.ensures.numbering
      c.self.inside.last c.self.invariant.indexed c.in-Some.number c.in-Some.ensures.number c.same_text_law.ensures
      c.truncate.new.self.lines c.in_ok-keys.keys c.truncate.ensures.lines c.in_ok-keys.ensures,
  λ front line is. text_of_last_deck_line c.self.inside.store.lines _ c.len-place.result _ c.in_ok-text.text refl
      c.len-place.ensures.count c.line.ensures.is c.in_ok-text.ensures front line
      (ap (λ (d : DeckContents). d.lines) c.self.view_is ∙ is),
)
