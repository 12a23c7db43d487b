-- The reasons why a file is not loaded.
use Rattle.std.proofs.Common.{◌≡◌, ◌⊎◌, true, sym, ap, ◌∙◌, inl, inr, Err, true≢false}
use Rattle.std.specs.Prelude.{Result}
use Rattle.deck.specs.Decks.{DeckContents}
use Rattle.deck.specs.FileLoads.{MayDeckLoadFailWith}
use Rattle.deck.specs.declared.fault.DeckFault.{DeckFault}
use Rattle.session.specs.DeckEdits.{is_session_refusal}

-- a refusal of a load is that of its outcome
pub session_load_refusal : (outcome : Result DeckContents DeckFault) (fault : DeckFault)
    → is_session_refusal fault ≡ true
    → MayDeckLoadFailWith fault ⊎ (outcome ≡ Err fault) → outcome ≡ Err fault
session_load_refusal outcome fault r (inl (inl e)) = absurd (true≢false (sym r ∙ ap is_session_refusal e))
session_load_refusal outcome fault r (inl (inr e)) = absurd (true≢false (sym r ∙ ap is_session_refusal e))
session_load_refusal outcome fault r (inr e) = e
