-- The contents of a live table, and the part of them that contracts see.
use Rattle.std.specs.Prelude.{ℕ, Bool, List, [], ◌∷◌, Option, Some, None, Vec, slice_get, slice_index_or}
use Rattle.std.specs.declared.alloc.Global.{Global}
use Rattle.std.specs.FinMap as map_of
use Rattle.def_entry.specs.declared.key.Key.{Key}
use Rattle.def_entry.specs.declared.key.Kind.TheVariants as kind
use Rattle.def_entry.specs.Keys.{key}
use Rattle.deck.specs.Decks.{DeckContents}
use Rattle.name_walk.specs.Steps.{Graph}
use Rattle.tree_eval.specs.declared.outcome.Outcome.{Outcome}
use Rattle.live_table.specs.declared.callee.Callee.{Callee}
use Rattle.live_table.specs.declared.nodes.Nodes.{Nodes}
use Rattle.live_table.specs.TableView.{LiveView}
use Rattle.live_table.specs.States.{CachedOutcomes}

-- the key of a number; its name is empty beyond the last
abbrev pub node_key_at : List Key → ℕ → Key
node_key_at keys n = slice_index_or keys n (key kind.Unit [])

-- one more outcome, if there is one
abbrev pub with_optional_cached_outcome : Key → Option Outcome → CachedOutcomes → CachedOutcomes
with_optional_cached_outcome k None kept = kept
with_optional_cached_outcome k (Some o) kept = map_of.insert kept k o

-- the settled names with their outcomes
abbrev pub cached_outcomes_of : List Key → List (Option Outcome) → CachedOutcomes
cached_outcomes_of [] outcomes = map_of.empty
cached_outcomes_of (k ∷ keys) [] = map_of.empty
cached_outcomes_of (k ∷ keys) (o ∷ outcomes) = with_optional_cached_outcome k o (cached_outcomes_of keys outcomes)

-- for each name the numbers of the keys at which its words look besides their targets
abbrev pub NodeLooks : Type 0
NodeLooks = List (Vec ℕ Global)

abbrev pub node_look_numbers : Option (Vec ℕ Global) → List ℕ
node_look_numbers None = []
node_look_numbers (Some v) = v.items

-- the looks of one name, none if there is no name with this number
abbrev pub node_looks_of : NodeLooks → ℕ → List ℕ
node_looks_of looks n = node_look_numbers (slice_get looks n)

-- nodes as lists, whatever their layout in memory: for each number the key, whether it has an entry, the data of a
-- function, the outcome of a settled name, the steps of its words, the keys at which they look besides their targets,
-- and whether it is settled; and the number of settled names
pub record NodeLists : Type 0 where
  pub keys : List Key
  pub entry_flags : List Bool
  pub callees : List Callee
  pub outcomes : List (Option Outcome)
  pub graph : Graph
  pub looks : NodeLooks
  pub settled_flags : List Bool
  pub count : ℕ

abbrev pub no_nodes : NodeLists
no_nodes = record {
  keys = [];
  entry_flags = [];
  callees = [];
  outcomes = [];
  graph = [];
  looks = [];
  settled_flags = [];
  count =
      0;
}

abbrev pub node_lists : Nodes → NodeLists
node_lists nodes = record {
  keys = nodes.keys;
  entry_flags = nodes.present.items;
  callees = nodes.callees.items;
  outcomes = nodes.outcomes.items;
  graph = nodes.steps.items;
  looks = nodes.looks.items;
  settled_flags = nodes.settled.items;
  count = nodes.settled_count;
}

abbrev pub live_view_of_nodes : DeckContents → NodeLists → ℕ → LiveView
live_view_of_nodes deck l reductions =
    record { deck = deck; kept_outcomes = cached_outcomes_of l.keys l.outcomes; reductions = reductions }
