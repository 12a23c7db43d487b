-- Counts in words.
use Rattle.std.proofs.Common.{◌≡◌, ◌++◌, ℕ, List, ◌∙◌, codes}
use Rattle.std.specs.FinMap as map_of
use Rattle.std.specs.Prelude.{length}
use Rattle.deck.specs.Tables.{table_of_deck as table_in}
use Rattle.live_table.specs.Calls.{all_settleable_names}
use Rattle.live_table.specs.TableView.{LiveView}
use Rattle.session.specs.TableCounts.{session_count_text, session_statistics}

-- three counts, each followed by words
pub session_statistics_text : (table : LiveView) (settled names reductions : ℕ) (first second third whole : List ℕ)
    → settled ≡ map_of.len table.kept_outcomes → names ≡ length (all_settleable_names (table_in table.deck))
    → reductions ≡ table.reductions → first ≡ codes "settled " → second ≡ first ++ session_count_text settled
    (codes " of ")
    → third ≡ second ++ session_count_text names (codes ", reductions ")
    → whole ≡ third ++ session_count_text reductions
    (codes "\n")
    → whole ≡ session_statistics table
unfolding session_statistics
session_statistics_text table settled names reductions first second third whole s n r a b c d =
    d ∙ (λ i. c i ++ session_count_text (r i) (codes "\n"))
    ∙ (λ i. (b i ++ session_count_text (n i) (codes ", reductions ")) ++ session_count_text table.reductions
    (codes "\n"))
    ∙ (λ i. ((a i ++ session_count_text (s i) (codes " of "))
    ++ session_count_text (length (all_settleable_names (table_in table.deck))) (codes ", reductions "))
    ++ session_count_text table.reductions (codes "\n"))
