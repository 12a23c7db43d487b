use Rattle.std.proofs.Common.{Err, Ok, ap, sym, ◌∙◌}
use Rattle.std.proofs.lemmas.Result.{err_from_is_err_and}
use Rattle.std.specs.Bool.{⊤}
use Rattle.deck_lines.specs.LineLoads.{excerpt_in}
use Rattle.deck.proofs.DraftLoads.{text_known}
use Rattle.deck.proofs.deck.Deck.from_text.Goals as goal

pub returns-in_err-load_text : goal.returns-in_err-load_text
returns-in_err-load_text c =
    let p = err_from_is_err_and c.from_residual.result c.from_residual.ensures.1 in
    rw (p.1, p.2) (text_known (λ _ _ _ _. ⊤) c.new.result c.load_text.new.files c.known_files_determine_loads.ensures
    c.failed_fetches_end_loads.ensures.failed c.args.name.now c.args.text.now c.args.settings
    c.new-draft.result c.load_text.new.draft (Err c.in_err-load_text.field-0.0) (ap excerpt_in c.new-draft.ensures)
    c.in_err-load_text.ensures.loads)

pub returns : goal.returns
returns c =
    text_known (λ _ _ _ _. ⊤) c.new.result c.load_text.new.files c.known_files_determine_loads.ensures
    c.failed_fetches_end_loads.ensures.failed c.args.name.now c.args.text.now c.args.settings
    c.new-draft.result c.load_text.new.draft (Ok tt) (ap excerpt_in c.new-draft.ensures)
    c.in_ok-load_text.ensures.loads
    ∙ ap Ok (sym c.in_ok-from_parts.ensures.is)
