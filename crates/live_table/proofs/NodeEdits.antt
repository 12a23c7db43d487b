-- From the nodes before an edit to the result of its call.
use Rattle.std.proofs.Common.{◌≡◌, ℕ, length, ◌∙◌, ap, subst}
use Rattle.std.specs.Prelude.{Result, Ok}
use Rattle.std.proofs.lemmas.List.{length-map}
use Rattle.def_entry.specs.Tables.{is_entry_present}
use Rattle.deck.specs.Decks.{DeckContents}
use Rattle.deck.specs.Tables.{table_of_deck}
use Rattle.deck.specs.declared.fault.DeckFault.{DeckFault}
use Rattle.live_table.specs.declared.late_edges.LateEdges.{LateEdges}
use Rattle.live_table.specs.Calls.{IsAcceptedLiveEdit}
use Rattle.live_table.specs.TableEdges.{HasLateSettledEdges, IsLive}
use Rattle.live_table.specs.Forgotten.{CanForget}
use Rattle.live_table.specs.TableView.{LiveView}
use Rattle.live_table.specs.TableContents.{NodeLists, live_view_of_nodes}

-- a live table meets the precondition of forgetting
pub live_table_can_forget : (deck : DeckContents) (l : NodeLists) (e : LateEdges) (r : ℕ) → IsLive deck l e r
    → CanForget l e.made
live_table_can_forget deck l e r live = record {
  numbers_apart = live.is_sound.numbers.numbers_apart;
  flag_per_key = ap length live.is_sound.numbers.flags_right
      ∙ length-map l.keys (is_entry_present (table_of_deck deck));
  names = live.edges.names;
}

-- a live table with other edges is live
pub live_table_with_other_edges : (deck : DeckContents) (l : NodeLists) (e f : LateEdges) (r : ℕ) → IsLive deck l e r
    → HasLateSettledEdges deck l f.waiting.items f.made → IsLive deck l f r
live_table_with_other_edges deck l e f r live edges = record { is_sound = live.is_sound; edges = edges }

-- an edit of the visible deck has its outcome
pub live_edit_has_deck_outcome : (outcome : DeckContents → Result DeckContents DeckFault) (before after : DeckContents)
    (l : NodeLists) (r : ℕ)
    (old : LiveView)
    → live_view_of_nodes before l r ≡ old → outcome before ≡ Ok after → outcome old.deck ≡ Ok after
live_edit_has_deck_outcome outcome before after l r old is e = subst (λ (s : LiveView). outcome s.deck ≡ Ok after) is e

-- the visible state has been edited
pub live_view_is_edited : (old now : LiveView) (before : DeckContents) (l : NodeLists) (r : ℕ)
    → live_view_of_nodes before l r ≡ old
    → IsAcceptedLiveEdit (live_view_of_nodes before l r) now → IsAcceptedLiveEdit old now
live_view_is_edited old now before l r is edit = subst (λ (s : LiveView). IsAcceptedLiveEdit s now) is edit
