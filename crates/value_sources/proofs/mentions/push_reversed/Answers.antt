use Rattle.value_sources.proofs.Reversing.{push_last}
use Rattle.value_sources.proofs.mentions.push_reversed.Goals as goal

pub loop-mention-preserved : goal.loop-mention-preserved
loop-mention-preserved c =
    push_last c.loop-mention.pending.items c.loop-mention.mentions.items c.push.new.self.items c.pop.new.self.items _
    c.in-Some.mention c.in-Some.ensures.items c.in_ok-push.ensures.items c.loop-mention.invariant
