use Rattle.std.proofs.Common.{ap, None, subst, sym}
use Rattle.tree_eval.specs.Expansions.{EvalMeaning}
use Rattle.tree_eval.specs.Steps.{ValueOrFault}
use Rattle.live_table.specs.declared.surroundings.Asked.TheVariants.{Name}
use Rattle.live_table.specs.Answers.{IsLiveQueryResult, live_answer_of_value, live_inverse_value}
use Rattle.live_table.specs.TableContents.{node_lists}
use Rattle.live_table.proofs.SettleOne.{settled_function_is_node_subject}
use Rattle.live_table.proofs.NodeReports.{callee_is, has_function}
use Rattle.live_table.proofs.evaluation.evaluate_inverse.Goals as goal

pub invariant_of-surroundings : goal.invariant_of-surroundings
invariant_of-surroundings c = settled_function_is_node_subject c.args.deck.now (node_lists c.args.nodes.now)
    c.requires.sound.0
    c.requires.sound.1 c.args.n c.requires.settled

pub unapply-requires : goal.unapply-requires
unapply-requires c = has_function c.args.deck.now (node_lists c.args.nodes.now) (Name c.args.n)
    (settled_function_is_node_subject c.args.deck.now (node_lists c.args.nodes.now) c.requires.sound.0
    c.requires.sound.1 c.args.n
    c.requires.settled) c.args.n c.requires.settled c.requires.function

pub returns : goal.returns
returns c =
    subst (λ (w : ValueOrFault). IsLiveQueryResult c.query_result.result (live_answer_of_value None w))
    (sym (ap (λ (m : EvalMeaning). live_inverse_value m c.args.value.now)
    (callee_is c.args.deck.now (node_lists c.args.nodes.now) (Name c.args.n)
    (settled_function_is_node_subject c.args.deck.now (node_lists c.args.nodes.now) c.requires.sound.0
    c.requires.sound.1 c.args.n
    c.requires.settled) c.args.n
    (has_function c.args.deck.now (node_lists c.args.nodes.now) (Name c.args.n)
    (settled_function_is_node_subject c.args.deck.now (node_lists c.args.nodes.now) c.requires.sound.0
    c.requires.sound.1
    c.args.n c.requires.settled) c.args.n c.requires.settled c.requires.function))))
    (c.query_result.ensures _ c.unapply.ensures)
