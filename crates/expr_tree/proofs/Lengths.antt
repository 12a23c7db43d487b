-- The front of a text is at most as long as the text.
use Rattle.std.proofs.lemmas.List.{length-take-le}
use Rattle.std.proofs.lemmas.List.Sums.{prefix_len-le-length}

pub ruleset lengths = (prefix_len-le-length, length-take-le)
