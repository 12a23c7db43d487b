use Rattle.std.proofs.Common.{length, subst, sym}
use Rattle.value_sources.specs.LineFileNames.{AreLineFilesBelow}
use Rattle.value_sources.proofs.line_files.LineFiles.new.Goals as goal

pub invariant_of-result : goal.invariant_of-result
invariant_of-result c = subst (λ xs. AreLineFilesBelow (length c.new.result) xs) (sym c.new-2.ensures.items) tt
