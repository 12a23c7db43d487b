-- The deck of the built-in text.
use Rattle.std.proofs.Common.{◌≡◌, ℕ, List, true, refl, sym, subst, arith}
use Rattle.std.specs.Prelude.{nat_le, nat_lt, length}
use Rattle.std.proofs.lemmas.Bool.Decides.{nat_tests}
use Rattle.session.specs.TextDecks.{FitsDeck, line_feeds_of_deck_text}
use Rattle.deck.specs.BuiltIn.{built_in_deck_text}

built_in_deck_text_has_few_lines : nat_lt (line_feeds_of_deck_text built_in_deck_text) 30000 ≡ true
unfolding built_in_deck_text
built_in_deck_text_has_few_lines = refl

built_in_deck_text_is_short : nat_le (length built_in_deck_text) 16777216 ≡ true
unfolding built_in_deck_text
built_in_deck_text_is_short = refl

-- the built-in text has room
pub built_in_deck_text_fits : (text : List ℕ) → text ≡ built_in_deck_text → FitsDeck text
built_in_deck_text_fits text is =
    let feeds : nat_lt (line_feeds_of_deck_text built_in_deck_text) 30000 ≡ true = built_in_deck_text_has_few_lines in
    let bytes : nat_le (length built_in_deck_text) 16777216 ≡ true = built_in_deck_text_is_short in
    subst FitsDeck (sym is) (grind (arith, nat_tests), grind (arith, nat_tests))
