use Rattle.std.proofs.Common.{◌≡◌, ◌∷◌, [], Ok, Err, Result, Option, None, IfOk, List, refl, sym, subst}
use Rattle.std.proofs.lemmas.Result.{err_from_is_err_and}
use Rattle.expr_tree.specs.declared.word_list.WordUse.{WordUse}
use Rattle.expr_tree.specs.Trees.{syntax}
use Rattle.expr_tree.specs.Words.{words_in}
use Rattle.name_walk.specs.declared.step.Step.{Step}
use Rattle.deck.specs.Decks.{DeckContents}
use Rattle.deck.specs.Tables.{table_of_deck}
use Rattle.tree_eval.specs.Value.{value}
use Rattle.table_names.specs.Faults.{name_fault}
use Rattle.table_names.specs.Meanings.{expansion}
use Rattle.table_names.specs.Reach.{reach}
use Rattle.quantity.specs.Amount.{Amount}
use Rattle.std.specs.declared.alloc.AllocError.{AllocError}
use Rattle.live_table.specs.declared.fault.QueryFault.{QueryFault}
use Rattle.live_table.specs.declared.stop.Stop.{Stop}
use Rattle.live_table.specs.Answers as spec
use Rattle.live_table.specs.QueryEffects.{IsLiveQueryEffect}
use Rattle.live_table.specs.Calls.{AreLiveQueries}
use Rattle.live_table.specs.TableView.{IsRightLiveView, LiveView}
use Rattle.live_table.specs.States.{AsksWords}
use Rattle.live_table.specs.Stops.{IsLiveStopFault}
use Rattle.live_table.specs.TableContents.{live_view_of_nodes, node_lists}
use Rattle.live_table.specs.EvalInvariants.{AreSettledWords}
use Rattle.live_table.proofs.QueryAnswers.{live_answer_without_name_fault}
use Rattle.live_table.proofs.GrownLive.{live_query_of_words}
use Rattle.live_table.proofs.Queries.{cut_off}
use Rattle.live_table.proofs.StopAnswers.{answered_err, answered_ok, memory_if_named, no_value_queries}
use Rattle.live_table.proofs.StopAnswers.{live_answer_value_is_found, none_value, some_named, value_queries}
use Rattle.live_table.proofs.live_table.LiveTable.value_if_any.Goals as goal
use Rattle.live_table.proofs.live_table.LiveTable.value_if_any.Goals.{After-ask_words-query}

pub returns-in_err-words-clause-after : goal.returns-in_err-words-clause-after
returns-in_err-words-clause-after g c =
    let p = err_from_is_err_and c.from_residual.result c.from_residual.ensures.1 in
    let us = words_in (syntax c.args.tree.now) in
    let t = table_of_deck c.args.self.now.deck in
    subst (λ (r : Result (Option Amount) AllocError). AreLiveQueries (AsksWords us ∷ []) r c.args.self.now
    c.args.self.now
    c.args.steps.now c.args.steps.now) (sym p.1)
    (cut_off (AsksWords us) (name_fault t us) (reach t us) c.args.self.now c.args.steps.now
    (subst IsRightLiveView c.self.view_is c.self.invariant.0.is_sound.is_right) (live_query_of_words t us))

-- ---- the names were queried
abbrev us : (g : _) → After-ask_words-query g → List WordUse
us g c = c.in_ok-words.words

abbrev before : (g : _) → After-ask_words-query g → LiveView
before g c = live_view_of_nodes c.self.inside.deck (node_lists c.self.inside.nodes) c.self.inside.reductions

abbrev now : (g : _) → After-ask_words-query g → LiveView
now g c = live_view_of_nodes c.self.inside.deck (node_lists c.ask_words-query.new.nodes)
    c.ask_words-query.new.reductions

abbrev AreGiven : (g : _) → After-ask_words-query g → List Step → Type 0
AreGiven g c query = AreSettledWords (table_of_deck c.self.inside.deck) (node_lists c.ask_words-query.new.nodes)
    (us g c) query

abbrev Holds : (g : _) → After-ask_words-query g → Result (List Step) QueryFault → Type 0
Holds g c answer =
    IsLiveQueryEffect (AsksWords (us g c)) (name_fault (table_of_deck c.self.inside.deck) (us g c))
    (AreGiven g c) answer (before g c)
    (now g c) c.args.steps.now c.ask_words-query.new.steps

-- ---- the names have a fault
stopped : (g : _) (c : After-ask_words-query g) (stop : Stop) → c.ask_words-query.result ≡ Err stop
    → (q : QueryFault) × IsLiveStopFault (table_of_deck c.self.inside.deck) (node_lists c.ask_words-query.new.nodes)
    c.ask_words-query.new.explored.dead_ends.items c.ask_words-query.new.explored.findings.faults stop q × Holds g c
    (Err q)
stopped g c stop is =
    answered_err (table_of_deck c.self.inside.deck) (node_lists c.ask_words-query.new.nodes)
    c.ask_words-query.new.explored.dead_ends.items c.ask_words-query.new.explored.findings.faults
    (Holds g c) c.ask_words-query.result stop is c.ask_words-query.ensures.asked

pub returns-clause-value : goal.returns-clause-value
returns-clause-value g c =
    let at = goal.at.returns-clause-value g c in
    let s = stopped g at.After-ask_words-query c.in-Err.stop c.in-Err.is in
    let a = at.After-ask_words-query in
    subst (λ (x : List WordUse × DeckContents). IfOk c.no_value.result (λ v. v ≡ spec.live_answer_value
    (spec.live_answer_of_value (name_fault (table_of_deck x.1) x.0)
    (value (expansion (table_of_deck x.1) (syntax c.args.tree.now)) None))))
    (λ i. (c.in_ok-words.ensures i, (c.self.view_is i).deck))
    (none_value (AsksWords (us g a)) (name_fault (table_of_deck c.self.inside.deck) (us g a)) (AreGiven g a)
    (before g a)
    (now g a) c.args.steps.now c.ask_words-query.new.steps refl c.no_value.result
    (value (expansion (table_of_deck c.self.inside.deck) (syntax c.args.tree.now)) None) s.0 c.no_value.ensures.value
    (some_named (table_of_deck c.self.inside.deck) (node_lists c.ask_words-query.new.nodes)
    c.ask_words-query.new.explored.dead_ends.items c.ask_words-query.new.explored.findings.faults c.in-Err.stop
    c.no_value.result s.0 s.1 c.no_value.ensures.ok) s.2)

pub returns-clause-after : goal.returns-clause-after
returns-clause-after g c =
    let at = goal.at.returns-clause-after g c in
    let s = stopped g at.After-ask_words-query c.in-Err.stop c.in-Err.is in
    let a = at.After-ask_words-query in
    subst (λ (x : List WordUse × LiveView). AreLiveQueries (AsksWords x.0 ∷ []) c.no_value.result x.1 (now g a)
    c.args.steps.now c.ask_words-query.new.steps)
    (λ i. (c.in_ok-words.ensures i, c.self.view_is i))
    (no_value_queries (AsksWords (us g a)) (name_fault (table_of_deck c.self.inside.deck) (us g a)) (AreGiven g a)
    (before g a) (now g a) c.args.steps.now c.ask_words-query.new.steps refl c.no_value.result s.0
    (some_named (table_of_deck c.self.inside.deck) (node_lists c.ask_words-query.new.nodes)
    c.ask_words-query.new.explored.dead_ends.items c.ask_words-query.new.explored.findings.faults c.in-Err.stop
    c.no_value.result s.0 s.1 c.no_value.ensures.ok)
    (memory_if_named (table_of_deck c.self.inside.deck) (node_lists c.ask_words-query.new.nodes)
    c.ask_words-query.new.explored.dead_ends.items c.ask_words-query.new.explored.findings.faults c.in-Err.stop
    c.no_value.result s.0 s.1 c.no_value.ensures.err) s.2)

-- ---- the names have no fault
asked : (g : _) (c : After-ask_words-query g) (query : List Step) → c.ask_words-query.result ≡ Ok query
    → Holds g c (Ok query)
asked g c query is =
    answered_ok (table_of_deck c.self.inside.deck) (node_lists c.ask_words-query.new.nodes)
    c.ask_words-query.new.explored.dead_ends.items c.ask_words-query.new.explored.findings.faults
    (Holds g c) c.ask_words-query.result query is c.ask_words-query.ensures.asked

pub evaluate_tree-requires-clause-sound : goal.evaluate_tree-requires-clause-sound
evaluate_tree-requires-clause-sound g c =
    (c.ask_words-query.new.reductions, c.ask_words-query.ensures.live.is_sound)

pub evaluate_tree-requires-clause-settled : goal.evaluate_tree-requires-clause-settled
evaluate_tree-requires-clause-settled g c =
    subst (AreSettledWords (table_of_deck c.self.inside.deck) (node_lists c.ask_words-query.new.nodes)
    c.in_ok-words.words)
    (sym c.as_slice.ensures)
    (asked g (goal.at.evaluate_tree-requires-clause-settled g c).After-ask_words-query c.in-Ok.query c.in-Ok.is).1

pub returns-in-Ok-clause-value : goal.returns-in-Ok-clause-value
returns-in-Ok-clause-value g c =
    subst (λ (x : List WordUse × DeckContents). IfOk c.value_of.result (λ v. v ≡ spec.live_answer_value
    (spec.live_answer_of_value (name_fault (table_of_deck x.1) x.0)
    (value (expansion (table_of_deck x.1) (syntax c.args.tree.now)) None))))
    (λ i. (c.in_ok-words.ensures i, (c.self.view_is i).deck))
    (live_answer_value_is_found c.value_of.result c.evaluate_tree.result
    (spec.live_answer_of_value (name_fault (table_of_deck c.self.inside.deck) c.in_ok-words.words)
    (value (expansion (table_of_deck c.self.inside.deck) (syntax c.args.tree.now)) None))
    c.value_of.ensures.ok c.value_of.ensures.some
    (live_answer_without_name_fault (name_fault (table_of_deck c.self.inside.deck) c.in_ok-words.words)
    (value (expansion (table_of_deck c.self.inside.deck) (syntax c.args.tree.now)) None) c.evaluate_tree.result
    (asked g (goal.at.returns-in-Ok-clause-value g c).After-ask_words-query c.in-Ok.query c.in-Ok.is).0
    c.evaluate_tree.ensures))

pub returns-in-Ok-clause-after : goal.returns-in-Ok-clause-after
returns-in-Ok-clause-after g c =
    let a = (goal.at.returns-in-Ok-clause-after g c).After-ask_words-query in
    subst (λ (x : List WordUse × LiveView). AreLiveQueries (AsksWords x.0 ∷ []) c.value_of.result x.1 (now g a)
    c.args.steps.now c.ask_words-query.new.steps)
    (λ i. (c.in_ok-words.ensures i, c.self.view_is i))
    (value_queries (AsksWords (us g a)) (name_fault (table_of_deck c.self.inside.deck) (us g a)) (AreGiven g a)
    (before g a) (now g a) c.args.steps.now c.ask_words-query.new.steps refl c.value_of.result
    (asked g (goal.at.returns-in-Ok-clause-after g c).After-ask_words-query c.in-Ok.query c.in-Ok.is).2)
