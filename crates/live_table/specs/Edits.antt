-- The effects of edits on a live table.
use Rattle.std.specs.Prelude.{◌≡◌, ◌⊎◌, ℕ, List, Option, Result, Ok, Err}
use Rattle.std.specs.declared.alloc.AllocError.{AllocError}
use Rattle.deck.specs.Decks.{DeckContents}
use Rattle.deck.specs.Splices.{deck_after_splicing, inverse_deck_splice}
use Rattle.deck.specs.LineRemoval.{IsTextOfLastDeckLine, deck_place_of_defined_key, deck_without_last_line}
use Rattle.deck.specs.declared.fault.DeckFault.{DeckFault}
use Rattle.deck.specs.declared.fault.DeckFault.TheVariants.{OutOfMemory}
use Rattle.deck.specs.declared.splice.Splice.{Splice}
use Rattle.live_table.specs.Calls.{IsAcceptedLiveEdit}
use Rattle.live_table.specs.TableView.{LiveView}

-- an edit with this outcome: it yields its deck, and the names that it affects are forgotten; or it fails for the
-- reason of the outcome or for lack of memory, and nothing changes
abbrev pub IsLiveEditOf : Result DeckContents DeckFault → LiveView → LiveView → Result (Unit {0}) DeckFault → Type 0
IsLiveEditOf outcome old new (Ok _) = (outcome ≡ Ok new.deck) × IsAcceptedLiveEdit old new
IsLiveEditOf outcome old new (Err fault) = (new ≡ old) × ((fault ≡ OutOfMemory) ⊎ (outcome ≡ Err fault))

-- a definition with this outcome, which returns the previous place of the last active line of the key of this line
abbrev pub IsLiveTableDefinedOver : Result DeckContents DeckFault → List ℕ → LiveView → LiveView
    → Result (Option ℕ) DeckFault
    → Type 0
IsLiveTableDefinedOver outcome text old new (Ok covered) =
    (outcome ≡ Ok new.deck) × IsAcceptedLiveEdit old new × (covered ≡ deck_place_of_defined_key text old.deck)
IsLiveTableDefinedOver outcome text old new (Err fault) = (new ≡ old) × ((fault ≡ OutOfMemory) ⊎ (outcome ≡ Err fault))

-- the last line of the deck is removed, its text is returned, and the names that this affects are forgotten; or nothing
-- changes
abbrev pub IsLiveLineUndefined : LiveView → LiveView → Result (List ℕ) AllocError → Type 0
IsLiveLineUndefined old new (Ok text) = (new.deck ≡ deck_without_last_line old.deck) × IsTextOfLastDeckLine text
    old.deck × IsAcceptedLiveEdit old new
IsLiveLineUndefined old new (Err fault) = new ≡ old

-- a splice yields its deck and its inverse, and the names that it affects are forgotten; or it is handed back, and
-- nothing changes
abbrev pub IsLiveSpliceOf : Splice → LiveView → LiveView → Result Splice (Splice × AllocError) → Type 0
IsLiveSpliceOf s old new (Ok undo) =
    (new.deck ≡ deck_after_splicing s old.deck) × (undo ≡ inverse_deck_splice s old.deck)
    × IsAcceptedLiveEdit old
    new
IsLiveSpliceOf s old new (Err refusal) = (new ≡ old) × (refusal.0 ≡ s)
