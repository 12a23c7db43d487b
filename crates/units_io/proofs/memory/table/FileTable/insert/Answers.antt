use Rattle.std.proofs.Common.{◌∙◌, ap, ap₂}
use Rattle.std.proofs.lemmas.Result.{on_ok_weaker}
use Rattle.units_io.specs.FileMap.{FileMap, with_file}
use Rattle.units_io.proofs.Tables.{files_of_named_texts-Sets}
use Rattle.units_io.proofs.memory.table.FileTable.insert.Goals as goal

pub returns-clause-ok : goal.returns-clause-ok
returns-clause-ok c = on_ok_weaker c.set.result (λ sets.
    files_of_named_texts-Sets _ _ c.in_ok-name.name c.in_ok-bytes.bytes sets
    ∙ ap (λ (files : FileMap). with_file files c.in_ok-name.name c.in_ok-bytes.bytes) c.self.view_is
    ∙ ap₂ (with_file c.args.self.now) c.in_ok-name.ensures c.in_ok-bytes.ensures) c.set.ensures.values
