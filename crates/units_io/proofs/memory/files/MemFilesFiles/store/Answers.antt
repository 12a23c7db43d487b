use Rattle.std.proofs.Common.{refl, ap}
use Rattle.units_io.specs.FileMap.{file_of_name}
use Rattle.units_io.specs.Memory.{FilesState}
use Rattle.units_io.proofs.memory.files.MemFilesFiles.store.Goals as goal

pub returns-then-contains-clause-if_known : goal.returns-then-contains-clause-if_known
returns-then-contains-clause-if_known c =
    (c.self.inside.table, refl, λ other _. ap (λ (state : FilesState). file_of_name state.files other) c.self.view_is)
