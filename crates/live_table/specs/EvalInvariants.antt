-- The invariants on which an evaluation over the nodes relies.
use Rattle.std.specs.Prelude.{◌≡◌, ◌<◌, ℕ, true, List, [], Option, Some, None, length, Contains}
use Rattle.expr_tree.specs.declared.word_list.WordUse.{WordUse}
use Rattle.def_entry.specs.declared.key.Key.{Key}
use Rattle.def_entry.specs.Tables.{EntryTable, is_entry_present}
use Rattle.deck.specs.Decks.{DeckContents}
use Rattle.deck.specs.Tables.{table_of_deck}
use Rattle.name_walk.specs.declared.step.Step.{Step}
use Rattle.name_walk.specs.declared.step.Step.TheVariants.{To}
use Rattle.name_walk.specs.ClosedNames.{IsSettledInGraph}
use Rattle.name_walk.specs.Steps.{GraphLeadsTo}
use Rattle.table_names.specs.declared.fault.NameFault.{NameFault}
use Rattle.table_names.specs.ClosedKeys.{AreClosedWords, IsClosedKey}
use Rattle.table_names.specs.NumberedNames.{AreWords}
use Rattle.live_table.specs.declared.surroundings.Asked.{Asked}
use Rattle.live_table.specs.declared.surroundings.Asked.TheVariants.{Expression, Name}
use Rattle.live_table.specs.Scenes.{NodeScene}
use Rattle.live_table.specs.Sound.{AreSoundNodes, HasCachedPartStarts, IsFaithfulNode}
use Rattle.live_table.specs.TableView.{IsRightLiveView}
use Rattle.live_table.specs.TableContents.{NodeLists, live_view_of_nodes, node_key_at}

-- words without a name fault, with their steps, all of which lead to settled names
pub record AreSettledWords (table : EntryTable) (l : NodeLists) (us : List WordUse) (xs : List Step) : Type 0 where
  pub dead_end : ℕ → Option Key → NameFault
  pub words : AreWords table (node_key_at l.keys) dead_end us xs
  pub words_closed : AreClosedWords table us
  pub targets_settled : (m : ℕ) → Contains xs (To m) → IsSettledInGraph l.settled_flags m

-- a name with the steps of its words, which leads only to settled names
pub record HasSettledTargets (table : EntryTable) (l : NodeLists) (n : ℕ) : Type 0 where
  pub in_table : n < length l.keys
  pub key_has_entry : is_entry_present table (node_key_at l.keys n) ≡ true
  pub key_closed : IsClosedKey table (node_key_at l.keys n)
  pub targets_settled : (m : ℕ) → GraphLeadsTo l.graph n m → IsSettledInGraph l.settled_flags m
  pub faithful : IsFaithfulNode table l n
  pub part_starts : HasCachedPartStarts table l n

-- the subject of an evaluation fits these nodes
abbrev pub FitsNodes : EntryTable → NodeLists → Asked → Type 0
FitsNodes table l (Expression us xs) = AreSettledWords table l us.now xs.now
FitsNodes table l (Name n) = HasSettledTargets table l n

-- nodes with the right outcomes, and a subject that fits them
pub record AreRightNodesWithSubject (deck : DeckContents) (l : NodeLists) (asked : Asked) : Type 0 where
  pub numbers : AreSoundNodes (table_of_deck deck) l
  pub is_right : IsRightLiveView (live_view_of_nodes deck l 0)
  pub subject : FitsNodes (table_of_deck deck) l asked

-- the facts that an evaluation learns from them
abbrev pub node_subject_words : Asked → List WordUse
node_subject_words (Expression us xs) = us.now
node_subject_words (Name n) = []

abbrev pub node_subject_name : Asked → Option ℕ
node_subject_name (Expression us xs) = None
node_subject_name (Name n) = Some n

abbrev pub node_scene : DeckContents → NodeLists → Asked → NodeScene
node_scene deck l asked = record {
  deck = deck;
  keys = l.keys;
  settled_flags = l.settled_flags;
  words = node_subject_words asked;
  name = node_subject_name asked;
}
