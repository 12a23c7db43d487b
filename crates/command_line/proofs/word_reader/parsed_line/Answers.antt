use Rattle.std.proofs.Common.{◌≡◌, ◌≢◌, ◌∙◌, [], List, Bor, ap, map, subst, sym}
use Rattle.std.proofs.lemmas.Result.{err_from_is_err_and}
use Rattle.clap.specs.Words.{Text, fault_of, matches_of}
use Rattle.command_line.specs.Definition.{units_command_app}
use Rattle.command_line.specs.Fields.{command_line_fields, command_line_of}
use Rattle.command_line.proofs.TakenLemmas.{are_command_words_parsed-faulty, command_words_parsed-faultless}
use Rattle.command_line.proofs.TakenLemmas.{are_command_words_parsed-no_texts}
use Rattle.command_line.proofs.word_reader.parsed_line.Goals as goal

-- the slice of a list of texts contains the words of the list
slice_words : (slice items : List (Bor Text)) (words : List Text) → slice ≡ items
    → map (λ text. text.now) items ≡ words → map (λ text. text.now) slice ≡ words
slice_words slice items words same texts =
    let now : List (Bor Text) → List Text = map (λ text. text.now) in ap now same ∙ texts

pub returns-in_err-texts-clause-usage : goal.returns-in_err-texts-clause-usage
returns-in_err-texts-clause-usage c usage =
    let residual = c.from_residual in
    let error = err_from_is_err_and residual.result residual.ensures.1 in
    are_command_words_parsed-no_texts c.args.words.now
    (c.in_err-texts.ensures.usage (cc (error.1, error.2, usage)))

pub returns-in_err-matches-clause-usage : goal.returns-in_err-matches-clause-usage
returns-in_err-matches-clause-usage c usage =
    let residual = c.from_residual-in_err-matches in
    let error = err_from_is_err_and residual.result residual.ensures.1 in
    let words = slice_words _ _ _ c.as_slice.ensures.value c.in_ok-texts.ensures.texts in
    are_command_words_parsed-faulty c.args.words.now
    (subst (λ (w : List Text). fault_of units_command_app w ≢ []) words
    (c.in_err-matches.ensures.exact (cc (error.1, error.2, usage))))

pub returns-clause-parsed : goal.returns-clause-parsed
returns-clause-parsed c =
    let words = slice_words _ _ _ c.as_slice.ensures.value c.in_ok-texts.ensures.texts in
    command_words_parsed-faultless c.args.words.now c.in_ok-texts.ensures.utf8
    (ap (fault_of units_command_app) (sym words) ∙ c.in_ok-matches.ensures.exact.0)

pub returns-clause-read : goal.returns-clause-read
unfolding command_line_of
returns-clause-read c =
    let words = slice_words _ _ _ c.as_slice.ensures.value c.in_ok-texts.ensures.texts in
    c.in_ok-command_line_from.ensures.fields
    ∙ ap command_line_fields (c.in_ok-matches.ensures.exact.1 ∙ ap (matches_of units_command_app) words)
