use Rattle.std.proofs.Common.{get_or, arith}
use Rattle.std.proofs.lemmas.Option.{slice_get-get_or}
use Rattle.live_table.proofs.GatheredNumbers.{all_node_numbers_are_gathered, next_node_number_is_gathered}
use Rattle.live_table.proofs.GatheredNumbers.{no_node_number_is_gathered}
use Rattle.live_table.proofs.worklist.Worklist.put_all.Goals as goal
use Rattle.general_lemmas.proofs.Members.{member_at}

pub loop-n-init : goal.loop-n-init
loop-n-init c = no_node_number_is_gathered c.args.self.now c.args.numbers.now

pub put-requires : goal.put-requires
put-requires c =
    c.requires (get_or c.args.numbers.now c.loop-n.n-index 0)
    (member_at c.args.numbers.now c.loop-n.n-index (get_or c.args.numbers.now c.loop-n.n-index 0)
    (slice_get-get_or c.args.numbers.now c.loop-n.n-index 0 (omega arith)))

pub loop-n-preserved : goal.loop-n-preserved
loop-n-preserved c =
    next_node_number_is_gathered c.args.self.now c.loop-n.self c.put.new.self c.args.numbers.now c.loop-n.n-index
    (get_or c.args.numbers.now c.loop-n.n-index 0)
    (slice_get-get_or c.args.numbers.now c.loop-n.n-index 0 (omega arith))
    c.loop-n.invariant c.in_ok-put.ensures.ok

pub returns : goal.returns
returns c = all_node_numbers_are_gathered c.args.self.now c.loop-n.self c.args.numbers.now c.loop-n.n-index
    (omega arith) c.loop-n.invariant
