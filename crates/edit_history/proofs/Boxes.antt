-- Boxed parts of steps.
use Rattle.std.proofs.Common.{◌≡◌, ◌+◌, ◌≤◌, false, length, ap, subst}
use Rattle.deck_lines.specs.ClosedBlocks.{AreBlocksClosed}
use Rattle.deck_lines.specs.Limits.{pass_store_limit}
use Rattle.deck.specs.Decks.{DeckContents}
use Rattle.deck.specs.Splices.{DeckSpliceInverseLaw, deck_after_splicing, inverse_deck_splice}
use Rattle.deck.specs.declared.settings.Settings.{Settings}
use Rattle.deck.specs.declared.splice.Splice.{Splice}
use Rattle.edit_history.specs.declared.line_exchange.LineExchange.{LineExchange}
use Rattle.edit_history.specs.declared.step.Step.TheVariants.{Exchange}
use Rattle.edit_history.proofs.Exchanges.{lines_exchanged}
use Rattle.edit_history.proofs.GoingBack.{IsMade, undo_exchange_is_made}
use Rattle.edit_history.proofs.Stepping.{splice}

-- the splice of an exchange
abbrev pub spliced : LineExchange → Settings → Splice
spliced e settings = splice e.at e.cut e.put settings

-- an exchange that was taken out of its box is made, and the exchange back is put into the box
pub undo_exchange_in_box : DeckSpliceInverseLaw → (boxed taken back : LineExchange) (settings : Settings)
    (undo : Splice)
    (old new : DeckContents)
    → taken ≡ boxed → back ≡ lines_exchanged undo.at undo.cut undo.put
    → new ≡ deck_after_splicing (spliced taken settings) old → undo ≡ inverse_deck_splice (spliced taken settings) old
    → settings ≡ old.settings → boxed.at + boxed.cut ≤ length old.lines → AreBlocksClosed old.lines
    → pass_store_limit old.lines ≡ false → IsMade (Exchange boxed) (Exchange back) old new
undo_exchange_in_box law boxed taken back settings undo old new taken_is back_is is inverse_is same places closed within
    =
    undo_exchange_is_made law boxed.at boxed.cut boxed.put settings undo (Exchange back) old new
    (subst (λ (e : LineExchange). new ≡ deck_after_splicing (spliced e settings) old) taken_is is)
    (subst (λ (e : LineExchange). undo ≡ inverse_deck_splice (spliced e settings) old) taken_is inverse_is) same
    (ap Exchange back_is) places closed within
