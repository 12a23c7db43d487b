use Rattle.std.proofs.Common.{refl}
use Rattle.deck.specs.BuiltIn.{built_in_deck_text}
use Rattle.deck.proofs.laws.built_in_is_pinned.Goals as goal

pub returns : goal.returns
unfolding built_in_deck_text
returns c = record { length_is = refl; sum = refl }
