-- The facts that an evaluation over the nodes learns about words and functions.
use Rattle.std.specs.Prelude.{◌≡◌, ◌⊎◌, ◌&&◌, ◌||◌, ℕ, Bool, true, false, List, [], ◌∷◌, if◌then◌else◌, Option, Some}
use Rattle.std.specs.Prelude.{None, nat_eq, slice_get}
use Rattle.std.specs.Option.{unwrap_or}
use Rattle.expr_tree.specs.declared.word_list.WordUse.{WordUse}
use Rattle.def_entry.specs.declared.key.Key.{Key}
use Rattle.def_entry.specs.Entries.{Entry}
use Rattle.def_entry.specs.Tables.{entry_at}
use Rattle.deck.specs.Decks.{DeckContents}
use Rattle.deck.specs.Tables.{table_of_deck}
use Rattle.tree_eval.specs.declared.holder.Holder.{Holder}
use Rattle.tree_eval.specs.declared.holder.Holder.TheVariants.{Of, Query}
use Rattle.tree_eval.specs.declared.holder.Part.{Part}
use Rattle.tree_eval.specs.Entries.{eval_part_words}
use Rattle.tree_eval.specs.Expansions.{Callable, Callee, Dimensionless, EvalMeaning, Table}
use Rattle.name_walk.specs.ClosedNames.{IsSettledInGraph}
use Rattle.table_names.specs.ClosedKeys.{IsClosedKey, TableWordLeadsInto}
use Rattle.table_names.specs.Leads.{table_word_targets}
use Rattle.table_names.specs.Meanings.{key_meaning, word_meaning}
use Rattle.live_table.specs.TableContents.{node_key_at}

-- a deck, the keys of the numbers, which of them are settled, the words of the queried expression, and the queried name
pub record NodeScene : Type 0 where
  pub deck : DeckContents
  pub keys : List Key
  pub settled_flags : List Bool
  pub words : List WordUse
  pub name : Option ℕ

abbrev pub is_settled : NodeScene → ℕ → Bool
is_settled s n = unwrap_or (slice_get s.settled_flags n) false

abbrev pub is_queried_node : Option ℕ → ℕ → Bool
is_queried_node None n = false
is_queried_node (Some m) n = nat_eq m n

-- the name is settled, or is the queried one
abbrev pub is_settled_or_queried : NodeScene → ℕ → Bool
is_settled_or_queried s n = is_settled s n || is_queried_node s.name n

abbrev pub node_words_in_part : Option Entry → Part → List WordUse
node_words_in_part None p = []
node_words_in_part (Some e) p = eval_part_words e.what p

-- the words of a tree of a number at hand are those of its entry
abbrev pub node_holder_words : NodeScene → Holder → List WordUse
node_holder_words s Query = s.words
node_holder_words s (Of n p) =
    if is_settled_or_queried s n then node_words_in_part (entry_at (table_of_deck s.deck) (node_key_at s.keys n)) p else
    []

-- the meanings of words and numbers in the present table
abbrev pub node_word_meaning : NodeScene → WordUse → EvalMeaning
node_word_meaning s u = word_meaning (table_of_deck s.deck) u

abbrev pub node_number_meaning : NodeScene → ℕ → EvalMeaning
node_number_meaning s n = key_meaning (table_of_deck s.deck) (node_key_at s.keys n)

abbrev pub is_node_callee : EvalMeaning → Bool
is_node_callee (Callee f) = true
is_node_callee _ = false

-- a function; for any other meaning an empty table, which is never used
abbrev pub node_callee_in : EvalMeaning → Callable
node_callee_in (Callee f) = f
node_callee_in _ = Table [] 0 Dimensionless []

abbrev pub has_node_callee : NodeScene → ℕ → Bool
has_node_callee s n = is_settled s n && is_node_callee (node_number_meaning s n)

abbrev pub node_callee_at : NodeScene → ℕ → Callable
node_callee_at s n = node_callee_in (node_number_meaning s n)

-- a word leads to settled names: to a single one, or to a prefix and a unit
pub record IsWordLedToSettled (s : NodeScene) (u : WordUse) (n m : ℕ) : Type 0 where
  pub word_leads : TableWordLeadsInto (table_of_deck s.deck) (IsClosedKey (table_of_deck s.deck)) u
  pub single_target : ((table_word_targets (table_of_deck s.deck) u ≡ node_key_at s.keys n ∷ []) × (n ≡ m))
      ⊎ (table_word_targets (table_of_deck s.deck) u ≡ node_key_at s.keys n ∷ node_key_at s.keys m ∷ [])
  pub user_settled : IsSettledInGraph s.settled_flags n
  pub target_settled : IsSettledInGraph s.settled_flags m
