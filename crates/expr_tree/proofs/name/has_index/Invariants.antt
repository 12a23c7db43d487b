use Rattle.std.proofs.Common.{◌≡◌, ◌&&◌, ◌||◌, drop}
use Rattle.std.specs.List.{list_all}
use Rattle.expr_tree.specs.Names.{has_index, is_index_byte}
use Rattle.expr_tree.proofs.name.has_index.Given as goal

abbrev pub invariant-loop-byte : goal.invariant-loop-byte
invariant-loop-byte l =
    ((l.in_index && list_all is_index_byte (drop l.byte-index l.bytes)) || has_index (drop l.byte-index l.bytes))
    ≡ has_index l.bytes
