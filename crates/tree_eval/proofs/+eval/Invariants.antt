use Rattle.std.proofs.Common.{◌+◌, ◌*◌, map, option_map}
use Rattle.std.specs.Option.{option_copied}
use Rattle.std.specs.Prelude.{slice_get}
use Rattle.expr_tree.specs.Trees.{syntax, syntax_of_trees}
use Rattle.tree_eval.specs.Answers.{amount_of_held_value}
use Rattle.tree_eval.specs.Expansion.{expand, expand_if}
use Rattle.tree_eval.specs.Operands.{chain, operand_by_side, operands_with_steps}
use Rattle.tree_eval.proofs.Chains.{IsRunning}
use Rattle.tree_eval.proofs.Weight.{weight, weight_callable, weight_given, weight_of_use}
use Rattle.tree_eval.proofs.+eval.Given as goal

abbrev pub decreases-scope::evaluate_holder : goal.decreases-scope::evaluate_holder
decreases-scope::evaluate_holder g l = 8 * weight (expand (g.E.Env.means l.env.now) (syntax l.tree.now)) + 3

abbrev pub decreases-scope::Scope::evaluate : goal.decreases-scope::Scope::evaluate
decreases-scope::Scope::evaluate g l = 8 * weight (expand (g.E.Env.means l.self.now.env.now) (syntax l.tree.now)) + 2

abbrev pub decreases-scope::Scope::group : goal.decreases-scope::Scope::group
decreases-scope::Scope::group g l = 8 * weight (expand (g.E.Env.means l.self.now.env.now) (syntax l.operand.now)) + 3

abbrev pub decreases-scope::Scope::root : goal.decreases-scope::Scope::root
decreases-scope::Scope::root g l = 8 * weight (expand (g.E.Env.means l.self.now.env.now) (syntax l.operand.now)) + 3

abbrev pub decreases-scope::Scope::evaluate_negative : goal.decreases-scope::Scope::evaluate_negative
decreases-scope::Scope::evaluate_negative g l =
    8 * weight (expand (g.E.Env.means l.self.now.env.now) (syntax l.operand.now)) + 3

abbrev pub decreases-scope::Scope::power : goal.decreases-scope::Scope::power
decreases-scope::Scope::power g l =
    8 * (weight (expand (g.E.Env.means l.self.now.env.now) (syntax l.base.now))
    + weight (expand (g.E.Env.means l.self.now.env.now) (syntax l.exponent.now))) + 3

abbrev pub decreases-scope::Scope::evaluate_use : goal.decreases-scope::Scope::evaluate_use
decreases-scope::Scope::evaluate_use g l =
    8 * weight_of_use (g.E.Env.means l.self.now.env.now) l.direction
    (slice_get (g.E.Env.words l.self.now.env.now l.self.now.holder) l.place.now)
    (expand (g.E.Env.means l.self.now.env.now) (syntax l.operand.now)) + 1

abbrev pub decreases-function::put_taken : goal.decreases-function::put_taken
decreases-function::put_taken g l = 8 * weight_callable (g.E.Env.callee l.env.now l.id) + 4

abbrev pub decreases-scope::Scope::evaluate_juxtaposition : goal.decreases-scope::Scope::evaluate_juxtaposition
decreases-scope::Scope::evaluate_juxtaposition g l =
    8 * weight (chain (g.E.Env.means l.self.now.env.now) (map operand_by_side (syntax_of_trees l.trees.now))) + 1

abbrev pub decreases-scope::Scope::chain : goal.decreases-scope::Scope::chain
decreases-scope::Scope::chain g l =
    8 * weight (chain (g.E.Env.means l.self.now.env.now) (operands_with_steps l.operands))

abbrev pub decreases-scope::Scope::with_member : goal.decreases-scope::Scope::with_member
decreases-scope::Scope::with_member g l =
    8 * weight (expand (g.E.Env.means l.self.now.env.now) (syntax l.operand.tree.now)) + 4

abbrev pub decreases-scope::Scope::join_member : goal.decreases-scope::Scope::join_member
decreases-scope::Scope::join_member g l =
    8 * weight (expand (g.E.Env.means l.self.now.env.now) (syntax l.operand.tree.now)) + 3

abbrev pub decreases-function::take : goal.decreases-function::take
decreases-function::take g l = 8 * weight_callable (g.E.Env.callee l.env.now l.id) + 3

abbrev pub decreases-function::apply_function : goal.decreases-function::apply_function
decreases-function::apply_function g l = 8 * weight_callable (g.E.Env.callee l.env.now l.id) + 2

abbrev pub decreases-function::unapply_function : goal.decreases-function::unapply_function
decreases-function::unapply_function g l = 8 * weight_callable (g.E.Env.callee l.env.now l.id) + 2

abbrev pub decreases-function::apply_table : goal.decreases-function::apply_table
decreases-function::apply_table g l = 8 * weight_callable (g.E.Env.callee l.env.now l.id) + 2

abbrev pub decreases-function::unapply_table : goal.decreases-function::unapply_table
decreases-function::unapply_table g l = 8 * weight_callable (g.E.Env.callee l.env.now l.id) + 2

abbrev pub decreases-function::own_at_end : goal.decreases-function::own_at_end
decreases-function::own_at_end g l =
    8 * weight_given (expand_if (g.E.Env.means l.env.now) (option_map syntax l.end.now.unit.now)) + 5

abbrev pub decreases-function::check_end : goal.decreases-function::check_end
decreases-function::check_end g l =
    8 * weight_given (expand_if (g.E.Env.means l.env.now) (option_map syntax l.end.now.unit.now)) + 4

abbrev pub invariant-scope::Scope::chain-loop-i : goal.invariant-scope::Scope::chain-loop-i
invariant-scope::Scope::chain-loop-i g l =
    IsRunning (g.E.Env.means l.self.env.now) (g.E.Env.words l.self.env.now l.self.holder) l.fn.place
    (operands_with_steps l.operands)
    (option_copied l.self.arg) l.i (amount_of_held_value l.held) l.place
