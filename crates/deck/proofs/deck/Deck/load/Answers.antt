use Rattle.std.proofs.Common.{[], Ok, ap, subst, sym}
use Rattle.std.proofs.lemmas.Result.{err_from_is_err_and}
use Rattle.deck_lines.specs.LineLoads.{excerpt_in}
use Rattle.deck_lines.specs.Transcripts.{HasTranscript, IsTranscript, files_model}
use Rattle.deck.specs.FileLoads.{deck_excerpt_of_lines, deck_load_of_name, excerpt_of_deck}
use Rattle.deck.proofs.LoadConsequences.{load_without_memory}
use Rattle.deck.proofs.deck.Deck.load.Goals as goal

pub returns-clause-loads : goal.returns-clause-loads
returns-clause-loads g c =
    subst (λ e. HasTranscript
    (IsTranscript (files_model g.F.Files.files g.F.Files.faults g.F.Files.is_fetch) c.args.files.now
    c.load_file.new.files)
    (deck_load_of_name c.args.name.now e) (Ok (excerpt_of_deck c.in_ok-from_parts.field-0)))
    (ap excerpt_in c.new-draft.ensures)
    (subst (λ e. HasTranscript
    (IsTranscript (files_model g.F.Files.files g.F.Files.faults g.F.Files.is_fetch) c.args.files.now
    c.load_file.new.files)
    (deck_load_of_name c.args.name.now (excerpt_in c.new-draft.result)) (Ok e))
    (sym (ap excerpt_of_deck c.in_ok-from_parts.ensures.is)) c.in_ok-load_file.ensures.loads)

pub returns-in_err-from_parts-clause-loads : goal.returns-in_err-from_parts-clause-loads
returns-in_err-from_parts-clause-loads g c =
    let p = err_from_is_err_and c.from_residual-in_err-from_parts.result c.from_residual-in_err-from_parts.ensures.1 in
    rw (p.1, p.2) (load_without_memory (files_model g.F.Files.files g.F.Files.faults g.F.Files.is_fetch)
    c.failed_fetches_end_loads.ensures.failed c.args.files.now c.load_file.new.files c.args.name.now
    (excerpt_in c.new-draft.result) (excerpt_in c.load_file.new.draft)
    (deck_load_of_name c.args.name.now (deck_excerpt_of_lines [])) excerpt_of_deck c.in_ok-load_file.ensures.loads)
