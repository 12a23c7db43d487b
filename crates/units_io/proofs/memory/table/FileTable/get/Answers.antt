use Rattle.std.proofs.Common.{◌∙◌, sym, ap}
use Rattle.units_io.specs.FileMap.{FileMap, file_of_name}
use Rattle.units_io.proofs.Tables.{file_of_name-files_of_named_texts}
use Rattle.units_io.proofs.memory.table.FileTable.get.Goals as goal

pub returns : goal.returns
returns c =
    c.value.ensures.value ∙ sym (file_of_name-files_of_named_texts _ _)
    ∙ ap (λ (files : FileMap). file_of_name files c.args.name.now) c.self.view_is
