use Rattle.std.proofs.Common.{refl}
use Rattle.units_io.specs.FileMap.{no_files_in_map}
use Rattle.deck.proofs.no_files.NoFilesFiles.store.Goals as goal

pub returns-clause-if_known : goal.returns-clause-if_known
returns-clause-if_known c = (no_files_in_map, refl, λ other h. refl)
