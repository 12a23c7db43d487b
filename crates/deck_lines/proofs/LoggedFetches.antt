-- The fetches of files whose state is the list of all fetches that were made.
use Rattle.std.proofs.Common.{◌≡◌, ◌++◌, ◌∷◌, [], List, refl, sym, ap, ◌∙◌, append_assoc}
use Rattle.std.proofs.lemmas.List.{append-nil}
use Rattle.deck_lines.specs.LoadLaws.{LoggedFetchesLaw, is_logged_fetch}
use Rattle.deck_lines.specs.Transcripts.{AreFetchesBetween, TranscriptFetch}

-- the list grows by the fetches between two states
grown : (from to fetches : List TranscriptFetch) → AreFetchesBetween is_logged_fetch from to fetches
    → to ≡ from ++ fetches
grown from to [] e = e ∙ sym (append-nil from)
grown from to (f ∷ fetches) h =
    grown h.0 to fetches h.2 ∙ ap (λ fs. fs ++ fetches) h.1 ∙ append_assoc from (f ∷ []) fetches

-- the fetches by which the list grows are those between the two states
between : (from to fetches : List TranscriptFetch) → to ≡ from ++ fetches
    → AreFetchesBetween is_logged_fetch from to fetches
between from to [] e = e ∙ append-nil from
between from to (f ∷ fetches) e = (
  from ++ f ∷ [],
  refl,
  between (from ++ f ∷ []) to fetches (e ∙ sym (append_assoc from (f ∷ []) fetches)),
)

-- the law of such files
pub logged_fetches_law : LoggedFetchesLaw
logged_fetches_law from to fetches = (grown from to fetches, between from to fetches)
