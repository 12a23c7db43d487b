use Rattle.std.proofs.Common.{Err, Ok, subst}
use Rattle.std.proofs.lemmas.Result.{err_from_is_err_and}
use Rattle.deck_lines.specs.LineLoads.{excerpt_in, load_of_file}
use Rattle.deck_lines.specs.Transcripts.{IsLoad, files_model}
use Rattle.deck_lines.specs.declared.draft.LoadFault.TheVariants as load
use Rattle.deck.proofs.DraftLoads.{read_loads, unread_loads}
use Rattle.deck.proofs.deck.file_load.load_file.Goals as goal

pub returns-in_err-text-clause-loads : goal.returns-in_err-text-clause-loads
returns-in_err-text-clause-loads g c =
    let p = err_from_is_err_and c.from_residual.result c.from_residual.ensures.1 in
    rw (p.1, p.2) (unread_loads (files_model g.F.Files.files g.F.Files.faults g.F.Files.is_fetch) c.args.files.now
    c.fetch.new.self c.args.name.now (excerpt_in c.args.draft.now) (λ (_ : Unit {0}). excerpt_in c.args.draft.now)
    c.in_err-text.field-0.0 c.in_err-text.ensures.if_known c.in_err-text.ensures.fetched c.in_err-text.ensures.counted)

pub returns-in_err-load_text-clause-loads : goal.returns-in_err-load_text-clause-loads
returns-in_err-load_text-clause-loads g c =
    let p = err_from_is_err_and c.from_residual-in_err-load_text.result c.from_residual-in_err-load_text.ensures.1 in
    rw (p.1, p.2) (read_loads (files_model g.F.Files.files g.F.Files.faults g.F.Files.is_fetch) c.args.files.now
    c.load_text.new.files c.fetch.new.self c.args.name.now c.in_ok-text.text c.args.draft.now c.load_text.new.draft
    (Err c.in_err-load_text.field-0.0) c.in_ok-text.ensures.if_known c.in_ok-text.ensures.fetched c.fetch.ensures.kept
    c.in_ok-text.ensures.counted
    (subst (λ bytes. IsLoad {T = Unit {0}} (files_model g.F.Files.files g.F.Files.faults g.F.Files.is_fetch)
    c.fetch.new.self c.load_text.new.files load.OutOfMemory
    (load_of_file c.args.name.now bytes (excerpt_in c.args.draft.now))
    (λ _. excerpt_in c.load_text.new.draft) (Err c.in_err-load_text.field-0.0)) c.as_bytes.ensures
    c.in_err-load_text.ensures.loads))

pub returns-clause-loads : goal.returns-clause-loads
returns-clause-loads g c =
    read_loads (files_model g.F.Files.files g.F.Files.faults g.F.Files.is_fetch) c.args.files.now c.load_text.new.files
    c.fetch.new.self c.args.name.now c.in_ok-text.text c.args.draft.now c.load_text.new.draft (Ok tt)
    c.in_ok-text.ensures.if_known c.in_ok-text.ensures.fetched c.fetch.ensures.kept c.in_ok-text.ensures.counted
    (subst (λ bytes. IsLoad {T = Unit {0}} (files_model g.F.Files.files g.F.Files.faults g.F.Files.is_fetch)
    c.fetch.new.self c.load_text.new.files load.OutOfMemory
    (load_of_file c.args.name.now bytes (excerpt_in c.args.draft.now))
    (λ _. excerpt_in c.load_text.new.draft) (Ok tt)) c.as_bytes.ensures c.in_ok-load_text.ensures.loads)
