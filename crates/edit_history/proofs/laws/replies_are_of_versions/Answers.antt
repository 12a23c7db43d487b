use Rattle.std.proofs.Common.{ap}
use Rattle.deck.specs.Tables.{active_definitions, table_of_deck_definitions}
use Rattle.edit_history.specs.Versions.{HistoryVersion}
use Rattle.edit_history.proofs.laws.replies_are_of_versions.Goals as goal

pub returns : goal.returns
returns c = λ d e same. ap (λ (v : HistoryVersion). table_of_deck_definitions (active_definitions v.settings v.lines))
    same
