use Rattle.reply.specs.Options.{AreReplyOptionsPrintable}
use Rattle.test_calls.proofs.choice.read_options.Given as goal

abbrev pub invariant-loop-word : goal.invariant-loop-word
invariant-loop-word l =
    (goal.iterator-loop-word).can_next l.word-iterator
    × (goal.iterator-loop-word).is_finite l.word-iterator
    × AreReplyOptionsPrintable l.options
