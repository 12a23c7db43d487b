use Rattle.std.proofs.Common.{◌≡◌, true, subst, sym}
use Rattle.def_entry.specs.Views.{entry_definition_view, entry_view}
use Rattle.tree_eval.specs.Environment.{IsEvalFunction}
use Rattle.live_table.specs.Scenes.{NodeScene, has_node_callee, node_callee_at, node_holder_words, node_word_meaning}
use Rattle.live_table.specs.TableContents.{node_lists}
use Rattle.live_table.proofs.NodeReports.{callee_present, callee_within, is_function}
use Rattle.live_table.proofs.surroundings.SurroundingsEnv.function.Goals as goal

pub entry-requires-clause-within : goal.entry-requires-clause-within
entry-requires-clause-within c =
    callee_within c.self.inside.deck.now (node_lists c.self.inside.nodes.now) c.self.inside.asked c.self.invariant
    c.args.id
    (subst (λ (s : NodeScene). has_node_callee s c.args.id ≡ true) (sym c.self.view_is) c.requires)

pub entry-requires-clause-present : goal.entry-requires-clause-present
entry-requires-clause-present c =
    callee_present c.self.inside.deck.now (node_lists c.self.inside.nodes.now) c.self.inside.asked c.self.invariant
    c.args.id
    (subst (λ (s : NodeScene). has_node_callee s c.args.id ≡ true) (sym c.self.view_is) c.requires)

pub returns : goal.returns
returns c =
    subst (λ (s : NodeScene). IsEvalFunction (node_holder_words s) (node_word_meaning s) c.args.id
    (node_callee_at s c.args.id)
    (entry_definition_view c.entry.result.what.now)) c.self.view_is
    (is_function c.self.inside.deck.now (node_lists c.self.inside.nodes.now) c.self.inside.asked c.self.invariant
    c.args.id
    (subst (λ (s : NodeScene). has_node_callee s c.args.id ≡ true) (sym c.self.view_is) c.requires)
    (entry_view c.entry.result) c.entry.ensures)
