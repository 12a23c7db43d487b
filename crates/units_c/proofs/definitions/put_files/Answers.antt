use Rattle.std.proofs.Common.{◌+◌, ◌∙◌, sym, ap, drop}
use Rattle.std.proofs.lemmas.List.{drop_all, drop_more}
use Rattle.units_c.specs.Definitions.{c_files_with_entries}
use Rattle.units_c.proofs.definitions.put_files.Goals as goal
use Rattle.units_io.specs.Memory.{FilesState}

pub loop-entry-preserved : goal.loop-entry-preserved
loop-entry-preserved c =
    let rest = drop (c.loop-entry.entry-index + 1) c.args.entries.now in
    ap (λ (s : FilesState). c_files_with_entries s.files rest) c.in_ok-add.ensures.ok
    ∙ sym (ap (c_files_with_entries c.loop-entry.files.files)
    (drop_more c.args.entries.now c.loop-entry.entry-index _ c.loop-entry-test.true))
    ∙ c.loop-entry.invariant

pub returns : goal.returns
returns c =
    sym (ap (c_files_with_entries c.loop-entry.files.files)
    (drop_all c.loop-entry.entry-index c.args.entries.now c.loop-entry-test.false))
    ∙ c.loop-entry.invariant
