use Rattle.std.proofs.Common.{◌∙◌, ap, sym}
use Rattle.std.proofs.lemmas.Result.{err_from_is_err_and}
use Rattle.command_line.specs.AcceptedWords.{command_options_fit}
use Rattle.command_line.proofs.TakenLemmas.{command_words_accepted-fit, command_words_accepted-not_parsed}
use Rattle.command_line.proofs.TakenLemmas.{command_words_accepted-unfit}
use Rattle.command_line.proofs.word_reader.read_words.Goals as goal

pub returns-in_err-line-clause-usage : goal.returns-in_err-line-clause-usage
returns-in_err-line-clause-usage c usage =
    let error = err_from_is_err_and c.from_residual.result c.from_residual.ensures.1 in
    command_words_accepted-not_parsed c.args.words.now (c.in_err-line.ensures.usage (cc (error.1, error.2, usage)))

pub returns-then-not-arguments_fit-clause-usage : goal.returns-then-not-arguments_fit-clause-usage
returns-then-not-arguments_fit-clause-usage c usage =
    command_words_accepted-unfit c.args.words.now
    (ap command_options_fit (sym c.in_ok-line.ensures.read) ∙ sym c.arguments_fit.ensures ∙ c.if-not-arguments_fit.true)

pub returns-clause-taken : goal.returns-clause-taken
returns-clause-taken c =
    command_words_accepted-fit c.args.words.now c.in_ok-line.ensures.parsed
    (ap command_options_fit (sym c.in_ok-line.ensures.read) ∙ sym c.arguments_fit.ensures
    ∙ c.if-not-arguments_fit.false)
