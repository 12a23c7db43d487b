use Rattle.std.proofs.Common.{◌≡◌, ◌++◌, drop}
use Rattle.std.specs.List.{flat_map}
use Rattle.reply.specs.FaultTexts.{fault_arrow_text}
use Rattle.reply.proofs.name_faults.put_others.Given as goal

-- the text so far with the keys that are left is the text with all keys
abbrev pub invariant-loop-key : goal.invariant-loop-key
invariant-loop-key l =
    l.text.items ++ flat_map fault_arrow_text (drop l.key-index l.keys) ≡ l.initial.text.items ++ flat_map
    fault_arrow_text l.keys
