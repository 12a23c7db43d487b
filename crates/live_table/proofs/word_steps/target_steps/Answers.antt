use Rattle.live_table.specs.TableContents.{node_lists}
use Rattle.live_table.proofs.AddedNames.{two_node_additions_are_one}
use Rattle.live_table.proofs.DestinationTargets.{first_destination_node_number, only_destination_node_number}
use Rattle.live_table.proofs.DestinationTargets.{second_destination_node_number}
use Rattle.live_table.proofs.DestinationTargets.{two_targets_on_agenda_are_known}
use Rattle.live_table.proofs.word_steps.target_steps.Goals as goal

-- ---- one target
pub put_target-requires-clause-within : goal.put_target-requires-clause-within
put_target-requires-clause-within c = c.requires.within c.in-One.n
    (only_destination_node_number c.args.destination c.in-One.n c.in-One.is)

pub returns-in_err-put_target-in-One-clause-added : goal.returns-in_err-put_target-in-One-clause-added
returns-in_err-put_target-in-One-clause-added c t ends nodes right present =
    c.put_target.ensures.added t ends nodes right
    (present c.in-One.n (only_destination_node_number c.args.destination c.in-One.n c.in-One.is))

pub returns-in_ok-put_target-in-One-clause-added : goal.returns-in_ok-put_target-in-One-clause-added
returns-in_ok-put_target-in-One-clause-added c t ends nodes right present =
    c.put_target.ensures.added t ends nodes right
    (present c.in-One.n (only_destination_node_number c.args.destination c.in-One.n c.in-One.is))

-- ---- two targets
pub put_target-requires-in-Two-clause-within : goal.put_target-requires-in-Two-clause-within
put_target-requires-in-Two-clause-within c =
    c.requires.within c.in-Two.n (first_destination_node_number c.args.destination c.in-Two.n c.in-Two.m c.in-Two.is)

pub returns-in_err-put_target-in-Two-clause-added : goal.returns-in_err-put_target-in-Two-clause-added
returns-in_err-put_target-in-Two-clause-added c t ends nodes right present =
    c.put_target-in-Two.ensures.added t ends nodes right
    (present c.in-Two.n (first_destination_node_number c.args.destination c.in-Two.n c.in-Two.m c.in-Two.is))

pub put_target-requires-in-Two-2-clause-within : goal.put_target-requires-in-Two-2-clause-within
put_target-requires-in-Two-2-clause-within c =
    c.requires.within c.in-Two.m (second_destination_node_number c.args.destination c.in-Two.n c.in-Two.m c.in-Two.is)

pub returns-in_err-put_target-in-Two-2-clause-added : goal.returns-in_err-put_target-in-Two-2-clause-added
returns-in_err-put_target-in-Two-2-clause-added c t ends nodes right present =
    let l = node_lists c.args.nodes.now in
    let a = c.put_target-in-Two.ensures.added t ends nodes right
    (present c.in-Two.n (first_destination_node_number c.args.destination c.in-Two.n c.in-Two.m c.in-Two.is)) in
    two_node_additions_are_one t l l l c.args.explored.now c.args.worklist.now c.put_target-in-Two.new.worklist
    c.put_target-in-Two-2.new.worklist ends ends ends a
    (c.put_target-in-Two-2.ensures.added t ends nodes a.growth.list_right
    (present c.in-Two.m (second_destination_node_number c.args.destination c.in-Two.n c.in-Two.m c.in-Two.is)))

pub returns-in_ok-put_target-in-Two-2-clause-added : goal.returns-in_ok-put_target-in-Two-2-clause-added
returns-in_ok-put_target-in-Two-2-clause-added c t ends nodes right present =
    let l = node_lists c.args.nodes.now in
    let a = c.put_target-in-Two.ensures.added t ends nodes right
    (present c.in-Two.n (first_destination_node_number c.args.destination c.in-Two.n c.in-Two.m c.in-Two.is)) in
    two_node_additions_are_one t l l l c.args.explored.now c.args.worklist.now c.put_target-in-Two.new.worklist
    c.put_target-in-Two-2.new.worklist ends ends ends a
    (c.put_target-in-Two-2.ensures.added t ends nodes a.growth.list_right
    (present c.in-Two.m (second_destination_node_number c.args.destination c.in-Two.n c.in-Two.m c.in-Two.is)))

pub returns-in_ok-put_target-in-Two-2-clause-known : goal.returns-in_ok-put_target-in-Two-2-clause-known
returns-in_ok-put_target-in-Two-2-clause-known c =
    two_targets_on_agenda_are_known (node_lists c.args.nodes.now) c.args.explored.now c.put_target-in-Two.new.worklist
    c.put_target-in-Two-2.new.worklist c.args.destination c.in-Two.n c.in-Two.m c.in-Two.is
    c.put_target-in-Two-2.ensures.more
    c.in_ok-put_target-in-Two.ensures.known c.in_ok-put_target-in-Two-2.ensures.known
