use Rattle.std.proofs.Common.{ap, length, subst, sym, ◌∙◌}
use Rattle.def_entry.specs.Views.{entry_with_definition}
use Rattle.deck_lines.specs.Marks.{plain_store_line}
use Rattle.deck_lines.specs.Readings.{entry_in_store_line}
use Rattle.deck.specs.CoveredLines.{MayCoverDefinitions}
use Rattle.deck.specs.Decks.{DeckContents}
use Rattle.deck.specs.Tables.{active_definitions, last_definition_place}
use Rattle.deck.proofs.PushedCover.{may_cover_definitions_pushed}
use Rattle.deck.proofs.deck.Deck.push_definition.Goals as goal

pub invariant_of-self-2 : goal.invariant_of-self-2
invariant_of-self-2 c =
    let s = c.self.inside in record {
      indexed = c.in_ok-put_definition.ensures.indexed s.settings c.self.invariant.indexed;
      covers = may_cover_definitions_pushed s.settings s.store c.put_definition.new.store
          (plain_store_line 0 c.in_ok-text.text) c.args.key
          (entry_with_definition c.args.text.now c.args.what) c.replace-covered.result c.with_line.result c.args.over
          c.self.invariant.indexed.blocks_closed
          (ap (λ t. entry_in_store_line (plain_store_line 0 t)) c.in_ok-text.ensures ∙ c.requires.defines)
          c.in_ok-put_definition.ensures.ok c.with_line.ensures
          (subst (MayCoverDefinitions (length s.store.lines) (active_definitions s.settings s.store.lines))
          (sym c.replace-covered.ensures.value) c.self.invariant.covers)
          (c.requires.covers ∙ ap (λ (d : DeckContents). last_definition_place d.settings d.lines c.args.key)
          (sym c.self.view_is));
    }
