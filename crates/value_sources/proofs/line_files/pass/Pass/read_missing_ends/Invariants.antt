use Rattle.std.proofs.Common.{◌≡◌, ◌++◌, map, reverse, vec_len}
use Rattle.value_sources.proofs.line_files.pass.Pass.read_missing_ends.Given as goal

abbrev pub invariant-loop-block : goal.invariant-loop-block
invariant-loop-block l =
    l.self.found ++ map (λ block. l.file.name.now) (reverse l.blocks.items)
    ≡ l.initial.self.found ++ map (λ block. l.file.name.now) (reverse l.initial.blocks.items)

abbrev pub decreases-loop-block : goal.decreases-loop-block
decreases-loop-block l = vec_len l.blocks
