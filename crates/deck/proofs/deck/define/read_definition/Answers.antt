use Rattle.std.proofs.Common.{◌≡◌, ◌⊎◌, inl, inr, sym, ap}
use Rattle.def_lines.specs.Kinds as line
use Rattle.def_lines.specs.KindView.{seen_line_kind}
use Rattle.def_lines.specs.declared.kind.LineKind.{LineKind}
use Rattle.def_lines.specs.declared.kind.LineKind.TheVariants as cut
use Rattle.def_entry.specs.LineViews.{seen_entry}
use Rattle.deck.proofs.EntryTexts.{deck_line_defines_its_entry}
use Rattle.deck.proofs.deck.define.read_definition.Goals as goal

either : (kind : LineKind) → (kind ≡ cut.Definition) ⊎ (kind ≡ cut.UnitList) → (seen_line_kind kind ≡ line.Definition)
    ⊎ (seen_line_kind kind ≡ line.UnitList)
either kind (inl d) = inl (ap seen_line_kind d)
either kind (inr u) = inr (ap seen_line_kind u)

pub returns-in-Ok-clause-entry : goal.returns-in-Ok-clause-entry
returns-in-Ok-clause-entry c =
    deck_line_defines_its_entry c.args.line.now (seen_entry c.args.line.now c.in-Ok.found)
    (seen_line_kind c.classify.result)
    (either c.classify.result c.in-Definition.is) (sym c.classify.ensures) c.in-Ok.ensures.computed
