use Rattle.deck_lines.specs.LineLoads.{excerpt_in}
use Rattle.deck_lines.specs.Transcripts.{files_model}
use Rattle.deck_lines.proofs.CountedLoads.{load_counts_faults}
use Rattle.deck_lines.proofs.DraftAppends.{blocks_closed_after_append}
use Rattle.deck_lines.proofs.load.file.load_text.Goals as goal

pub returns-clause-loads : goal.returns-clause-loads
returns-clause-loads g c =
    load_counts_faults (files_model g.F.Files.files g.F.Files.faults g.F.Files.is_fetch) c.args.files.now
    c.load_file.new.files c.args.name.now c.args.bytes.now (excerpt_in c.args.draft.now)
    (λ _. excerpt_in c.load_file.new.draft) c.load_file.result c.load_file.ensures.loads c.load_file.ensures.counted

pub returns-clause-closed : goal.returns-clause-closed
returns-clause-closed g c = blocks_closed_after_append _ _ c.load_file.result c.load_file.ensures.leads
