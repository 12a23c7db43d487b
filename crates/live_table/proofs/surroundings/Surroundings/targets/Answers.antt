use Rattle.std.proofs.Common.{◌≡◌, ◌*◌, ◌+◌, ◌<◌, Some, length, arith}
use Rattle.std.specs.List.{slice_get}
use Rattle.expr_tree.specs.declared.word_list.WordUse.{WordUse}
use Rattle.live_table.specs.Scenes.{node_holder_words}
use Rattle.live_table.specs.TableContents.{node_lists}
use Rattle.live_table.proofs.NodeReports.{callees_within, node_led_word_has_small_place, of_led, query_led}
use Rattle.live_table.proofs.NodeReports.{steps_within}
use Rattle.live_table.proofs.ReportedWords.{IsLedBy, are_led, first_settled, second_settled, to_first, to_second}
use Rattle.live_table.proofs.surroundings.Surroundings.targets.Goals as goal
use Rattle.live_table.proofs.surroundings.Surroundings.targets.Goals.{After-start_of, In-Expression}

-- ---- an expression
-- the steps of the expression lead the word
led : (c : In-Expression) (u : WordUse)
    → slice_get (node_holder_words c.args.self.now c.args.holder) c.args.place ≡ Some u
    → IsLedBy c.args.self.now u c.in-Expression.steps.now c.args.place
led c = query_led c.self.inside.deck.now (node_lists c.self.inside.nodes.now) c.self.inside.asked c.self.invariant
    c.args.self.now c.self.view_is c.args.holder c.args.place c.requires c.in-Expression.field-0
    c.in-Expression.steps c.in-Expression.is c.in-Query.is

pub targets_at-requires-clause-first : goal.targets_at-requires-clause-first
targets_at-requires-clause-first c = to_first c.args.self.now (node_holder_words c.args.self.now c.args.holder)
    c.args.place c.in-Expression.steps.now c.args.place c.requires
    (led (goal.at.targets_at-requires-clause-first c).In-Expression)

pub targets_at-requires-clause-second : goal.targets_at-requires-clause-second
targets_at-requires-clause-second c = to_second c.args.self.now (node_holder_words c.args.self.now c.args.holder)
    c.args.place c.in-Expression.steps.now c.args.place c.requires
    (led (goal.at.targets_at-requires-clause-second c).In-Expression)

pub returns-in-Expression-clause-led : goal.returns-in-Expression-clause-led
returns-in-Expression-clause-led c = are_led c.args.self.now (node_holder_words c.args.self.now c.args.holder)
    c.args.place c.in-Expression.steps.now c.args.place c.requires
    (led (goal.at.returns-in-Expression-clause-led c).In-Expression) c.targets_at.result.first
    c.targets_at.result.second c.targets_at.ensures.first c.targets_at.ensures.second

pub returns-in-Expression-clause-first : goal.returns-in-Expression-clause-first
returns-in-Expression-clause-first c = first_settled c.args.self.now (node_holder_words c.args.self.now c.args.holder)
    c.args.place c.in-Expression.steps.now c.args.place c.requires
    (led (goal.at.returns-in-Expression-clause-first c).In-Expression) c.targets_at.result.first
    c.targets_at.result.second c.targets_at.ensures.first c.targets_at.ensures.second

pub returns-in-Expression-clause-second : goal.returns-in-Expression-clause-second
returns-in-Expression-clause-second c = second_settled c.args.self.now (node_holder_words c.args.self.now c.args.holder)
    c.args.place c.in-Expression.steps.now c.args.place c.requires
    (led (goal.at.returns-in-Expression-clause-second c).In-Expression) c.targets_at.result.first
    c.targets_at.result.second c.targets_at.ensures.first c.targets_at.ensures.second

-- ---- a part of the entry of a number
pub steps_of-steps-requires : goal.steps_of-steps-requires
steps_of-steps-requires c = steps_within c.self.inside.deck.now (node_lists c.self.inside.nodes.now) c.self.inside.asked
    c.self.invariant c.args.self.now c.self.view_is c.args.holder c.args.place c.requires c.in-Of.id c.in-Of.part
    c.in-Of.is

pub start_of-requires : goal.start_of-requires
start_of-requires c = callees_within c.self.inside.deck.now (node_lists c.self.inside.nodes.now) c.self.inside.asked
    c.self.invariant c.args.self.now c.self.view_is c.args.holder c.args.place c.requires c.in-Of.id c.in-Of.part
    c.in-Of.is

-- the steps of the number lead the word, after the start of the part
part_led : (c : After-start_of) (u : WordUse)
    → slice_get (node_holder_words c.args.self.now c.args.holder) c.args.place ≡ Some u
    → IsLedBy c.args.self.now u c.steps_of-steps.result.now (c.start_of.result + c.args.place)
part_led c = of_led c.self.inside.deck.now (node_lists c.self.inside.nodes.now) c.self.inside.asked c.self.invariant
    c.args.self.now c.self.view_is c.args.holder c.args.place c.requires c.in-Of.id c.in-Of.part c.in-Of.is
    c.start_of.result c.start_of.ensures c.steps_of-steps.result.now c.steps_of-steps.ensures.is

pub overflow_add-start_of : goal.overflow_add-start_of
overflow_add-start_of c =
    let few : 2 * (c.start_of.result + c.args.place) < length c.steps_of-steps.result.now =
    node_led_word_has_small_place c.args.self.now (node_holder_words c.args.self.now c.args.holder) c.args.place
    c.steps_of-steps.result.now (c.start_of.result + c.args.place) c.requires
    (part_led (goal.at.overflow_add-start_of c).After-start_of) in
    omega (arith, few, c.steps_of-steps.ensures.few)

pub targets_at-requires-in-Of-clause-first : goal.targets_at-requires-in-Of-clause-first
targets_at-requires-in-Of-clause-first c = to_first c.args.self.now (node_holder_words c.args.self.now c.args.holder)
    c.args.place c.steps_of-steps.result.now (c.start_of.result + c.args.place) c.requires
    (part_led (goal.at.targets_at-requires-in-Of-clause-first c).After-start_of)

pub targets_at-requires-in-Of-clause-second : goal.targets_at-requires-in-Of-clause-second
targets_at-requires-in-Of-clause-second c = to_second c.args.self.now (node_holder_words c.args.self.now c.args.holder)
    c.args.place c.steps_of-steps.result.now (c.start_of.result + c.args.place) c.requires
    (part_led (goal.at.targets_at-requires-in-Of-clause-second c).After-start_of)

pub returns-in-Of-clause-led : goal.returns-in-Of-clause-led
returns-in-Of-clause-led c = are_led c.args.self.now (node_holder_words c.args.self.now c.args.holder) c.args.place
    c.steps_of-steps.result.now (c.start_of.result + c.args.place) c.requires
    (part_led (goal.at.returns-in-Of-clause-led c).After-start_of) c.targets_at-in-Of.result.first
    c.targets_at-in-Of.result.second c.targets_at-in-Of.ensures.first c.targets_at-in-Of.ensures.second

pub returns-in-Of-clause-first : goal.returns-in-Of-clause-first
returns-in-Of-clause-first c = first_settled c.args.self.now (node_holder_words c.args.self.now c.args.holder)
    c.args.place c.steps_of-steps.result.now (c.start_of.result + c.args.place) c.requires
    (part_led (goal.at.returns-in-Of-clause-first c).After-start_of) c.targets_at-in-Of.result.first
    c.targets_at-in-Of.result.second c.targets_at-in-Of.ensures.first c.targets_at-in-Of.ensures.second

pub returns-in-Of-clause-second : goal.returns-in-Of-clause-second
returns-in-Of-clause-second c = second_settled c.args.self.now (node_holder_words c.args.self.now c.args.holder)
    c.args.place c.steps_of-steps.result.now (c.start_of.result + c.args.place) c.requires
    (part_led (goal.at.returns-in-Of-clause-second c).After-start_of) c.targets_at-in-Of.result.first
    c.targets_at-in-Of.result.second c.targets_at-in-Of.ensures.first c.targets_at-in-Of.ensures.second
