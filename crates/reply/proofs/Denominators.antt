-- The values of texts have denominators above 0.
use Rattle.std.proofs.Common.{◌≡◌, Option, Some, None, option_and_then, slice_get}
use Rattle.deck_lines.proofs.Entries.{entry_of_store_line_text}
use Rattle.deck_lines.specs.declared.line.DeckLine.{DeckLine}
use Rattle.deck_lines.specs.Readings.{entry_in_store_line}
use Rattle.deck.specs.Decks.{DeckContents}
use Rattle.deck.specs.Tables.{DeckTableLaw, table_of_deck}
use Rattle.frac128.specs.Steps.{ReducedFractionLaw}
use Rattle.table_names.specs.Meanings.{expansion}
use Rattle.reply.specs.TextValues.{ReplyDenominatorLaw}
use Rattle.reply.proofs.PositivePoints.{HasTablePoints, line-says}
use Rattle.reply.proofs.PositiveValues.{gives-value}
use Rattle.reply.proofs.SoundExpansions.{HasPointsOf, sound-expansion}

module _ (law : ReducedFractionLaw) (tables : DeckTableLaw) where
  deck-points : (d : DeckContents) → HasPointsOf (table_of_deck d)
  deck-points d k e is =
      let found = tables.gives_each d k e is in
      go (slice_get d.lines found.0) found.1
    where
      go : (o : Option DeckLine) → option_and_then entry_in_store_line o ≡ Some (k, e) → HasTablePoints e.what
      go (Some x) i = line-says law x.text k e (entry_of_store_line_text x (k, e) i)
      go None i = absurd (cc)

  pub denominator-law : ReplyDenominatorLaw
  denominator-law d text x v =
      gives-value law (expansion (table_of_deck d) v.tree) None
      (sound-expansion (table_of_deck d) (deck-points d) v.tree) tt x
      v.evaluates
