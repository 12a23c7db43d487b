use Rattle.std.proofs.Common.{◌≡◌, ◌∷◌, [], List, ℕ, sym, subst, ap}
use Rattle.def_entry.specs.declared.key.Key.{Key}
use Rattle.def_entry.specs.Keys.{key as key_named}
use Rattle.name_walk.specs.ClosedNames.{IsSettledInGraph}
use Rattle.deck.specs.Tables.{table_of_deck}
use Rattle.table_names.specs.Faults.{key_fault}
use Rattle.live_table.specs.Calls.{AreLiveQueries, live_key_queries}
use Rattle.live_table.specs.TableView.{IsAfterLiveEvents, LiveView}
use Rattle.live_table.specs.States.{AsksKey, LiveEvent}
use Rattle.live_table.specs.TableContents.{live_view_of_nodes, node_key_at, node_lists}
use Rattle.live_table.proofs.QuerySequence.{no_live_events_keep_view}
use Rattle.live_table.proofs.NameQueries.{asked_queries, list_key_makes_no_live_query}
use Rattle.live_table.proofs.StopAnswers.{err_by_name, ok_by_name}
use Rattle.live_table.proofs.live_table.LiveTable.settle_key.Goals as goal

pub returns-in-List-clause-after : goal.returns-in-List-clause-after
returns-in-List-clause-after g c =
    subst (λ (es : List LiveEvent). IsAfterLiveEvents es c.args.self.now c.args.self.now c.args.steps.now
    c.args.steps.now)
    (sym (list_key_makes_no_live_query c.args.key.now c.in-List.is))
    (no_live_events_keep_view c.args.self.now c.args.steps.now c.requires.right)

pub returns-clause-after : goal.returns-clause-after
returns-clause-after g c =
    let asked : Key = key_named c.args.key.now.kind c.as_bytes.result.now in
    let named = c.ask_key-answer.ensures.asked in
    subst (λ (s : LiveView). AreLiveQueries (live_key_queries (c.args.key.now ∷ [])) c.only_memory.result s
    (live_view_of_nodes c.self.inside.deck (node_lists c.ask_key-answer.new.nodes) c.ask_key-answer.new.reductions)
    c.args.steps.now
    c.ask_key-answer.new.steps) c.self.view_is
    (asked_queries (AsksKey asked) (key_fault (table_of_deck c.self.inside.deck) asked)
    (λ n. (asked ≡ node_key_at c.ask_key-answer.new.nodes.keys n) × IsSettledInGraph
    c.ask_key-answer.new.nodes.settled.items n)
    (live_view_of_nodes c.self.inside.deck (node_lists c.self.inside.nodes) c.self.inside.reductions)
    (live_view_of_nodes c.self.inside.deck (node_lists c.ask_key-answer.new.nodes) c.ask_key-answer.new.reductions)
    c.args.steps.now
    c.ask_key-answer.new.steps c.args.key.now
    (ap (λ (name : List ℕ). AsksKey (key_named c.args.key.now.kind name)) c.as_bytes.ensures) c.in_default.not-List
    named.named_answer c.only_memory.result
    (ok_by_name (table_of_deck c.self.inside.deck) (node_lists c.ask_key-answer.new.nodes)
    c.ask_key-answer.new.explored.dead_ends.items c.ask_key-answer.new.explored.findings.faults
    c.ask_key-answer.result named.named_answer c.only_memory.result named.result_named c.only_memory.ensures.ok)
    (err_by_name (table_of_deck c.self.inside.deck) (node_lists c.ask_key-answer.new.nodes)
    c.ask_key-answer.new.explored.dead_ends.items c.ask_key-answer.new.explored.findings.faults
    c.ask_key-answer.result named.named_answer c.only_memory.result named.result_named c.only_memory.ensures.err)
    named.answer_holds)
