-- The words that are accepted, by the parts of the test.
use Rattle.std.proofs.Common.{◌≡◌, ◌≢◌, ◌∙◌, ◌&&◌, List, [], ◌∷◌, true, false, refl, ap}
use Rattle.std.specs.List.{list_all}
use Rattle.std.specs.Str.{is_utf8}
use Rattle.std.proofs.Math.Bool.{and-false}
use Rattle.std.proofs.lemmas.Bool.{and_from}
use Rattle.clap.specs.Kinds.{Kinds}
use Rattle.clap.specs.Words.{Text, fault_of}
use Rattle.command_line.specs.Definition.{units_command_app}
use Rattle.command_line.specs.Fields.{command_line_of}
use Rattle.command_line.specs.AcceptedWords.{are_command_words_accepted, are_command_words_parsed, command_options_fit}
use Rattle.command_line.specs.AcceptedWords.{has_no_usage_fault}

-- if there are faults, the words are not faultless
has_no_usage_fault-some : (kinds : Kinds) → kinds ≢ [] → has_no_usage_fault kinds ≡ false
has_no_usage_fault-some [] some = absurd (some refl)
has_no_usage_fault-some (kind ∷ rest) some = refl

-- words that are not texts are not parsed
pub are_command_words_parsed-no_texts : (words : List Text) → list_all is_utf8 words ≡ false
    → are_command_words_parsed words ≡ false
unfolding are_command_words_parsed
are_command_words_parsed-no_texts words none = ap (λ b. b && has_no_usage_fault (fault_of units_command_app words)) none

-- words with a fault are not parsed
pub are_command_words_parsed-faulty : (words : List Text) → fault_of units_command_app words ≢ []
    → are_command_words_parsed words ≡ false
unfolding are_command_words_parsed
are_command_words_parsed-faulty words some =
    ap (λ b. list_all is_utf8 words && b) (has_no_usage_fault-some (fault_of units_command_app words) some)
    ∙ and-false (list_all is_utf8 words)

-- texts without a fault are parsed
pub command_words_parsed-faultless : (words : List Text) → list_all is_utf8 words ≡ true
    → fault_of units_command_app words ≡ []
    → are_command_words_parsed words ≡ true
unfolding are_command_words_parsed
command_words_parsed-faultless words texts none =
    and_from (list_all is_utf8 words) (has_no_usage_fault (fault_of units_command_app words)) texts
    (ap has_no_usage_fault none)

-- words that are not parsed are not accepted
pub command_words_accepted-not_parsed : (words : List Text) → are_command_words_parsed words ≡ false
    → are_command_words_accepted words ≡ false
unfolding are_command_words_accepted
command_words_accepted-not_parsed words not = ap (λ b. b && command_options_fit (command_line_of words)) not

-- words with incompatible arguments are not accepted
pub command_words_accepted-unfit : (words : List Text) → command_options_fit (command_line_of words) ≡ false
    → are_command_words_accepted words ≡ false
unfolding are_command_words_accepted
command_words_accepted-unfit words unfit = ap (λ b. are_command_words_parsed words && b) unfit
    ∙ and-false (are_command_words_parsed words)

-- parsed words with compatible arguments are accepted
pub command_words_accepted-fit : (words : List Text) → are_command_words_parsed words ≡ true
    → command_options_fit (command_line_of words) ≡ true
    → are_command_words_accepted words ≡ true
unfolding are_command_words_accepted
command_words_accepted-fit words parsed fit = and_from (are_command_words_parsed words)
    (command_options_fit (command_line_of words)) parsed fit
