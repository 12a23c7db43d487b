use Rattle.std.proofs.Common.{ap, sym, ◌∙◌, map, inl, inr, subst, codes}
use Rattle.clap.specs.Words.{App, fault_of, is_simple, is_simple_and_free, matches_of, IsAmong, kind_of}
use Rattle.command_line.proofs.Simple.{units_command_app-is_simple, units_command_app-is_free}
use Rattle.command_line.proofs.Ranges.{option_number_in_range, column_option_parser, digits_option_parser}
use Rattle.command_line.proofs.Ranges.{trial_option_parser, built_column_option_parser, built_digits_option_parser}
use Rattle.command_line.proofs.Ranges.{built_trial_option_parser}
use Rattle.command_line.proofs.parse.parse.Goals as goal

pub returns-in-Ok-clause-exact : goal.returns-in-Ok-clause-exact
returns-in-Ok-clause-exact c =
    let app = c.in_ok-command.ensures in
    let words = map (λ word. word.now) c.args.words.now in (
      ap (λ (a : App). fault_of a words) (sym app)
          ∙ c.in-Ok.ensures.kinds (ap is_simple_and_free app ∙ units_command_app-is_free),
      (c.in-Ok.ensures.ok.2 (ap is_simple app ∙ units_command_app-is_simple)).0
          ∙ ap (λ (a : App). matches_of a words) app,
    )

pub returns-in-Ok-clause-digits : goal.returns-in-Ok-clause-digits
returns-in-Ok-clause-digits c = elim c.in-Ok.ensures.after [
  | inl broken ↦ absurd (c.in-Ok.ensures.fails broken)
  | inr kept ↦
      option_number_in_range _ _ _ _ (codes "digits") 36 (λ e. cc) c.in_ok-command.ensures
      digits_option_parser built_digits_option_parser kept.2 c.in-Ok.ensures.ok.1
]

pub returns-in-Ok-clause-trial : goal.returns-in-Ok-clause-trial
returns-in-Ok-clause-trial c = elim c.in-Ok.ensures.after [
  | inl broken ↦ absurd (c.in-Ok.ensures.fails broken)
  | inr kept ↦
      option_number_in_range _ _ _ _ (codes "trial") 20000 (λ e. cc) c.in_ok-command.ensures
      trial_option_parser built_trial_option_parser kept.2 c.in-Ok.ensures.ok.1
]

pub returns-in-Ok-clause-column : goal.returns-in-Ok-clause-column
returns-in-Ok-clause-column c = elim c.in-Ok.ensures.after [
  | inl broken ↦ absurd (c.in-Ok.ensures.fails broken)
  | inr kept ↦
      option_number_in_range _ _ _ _ (codes "column") 65535 (λ e. cc) c.in_ok-command.ensures
      column_option_parser built_column_option_parser kept.2 c.in-Ok.ensures.ok.1
]

pub returns-clause-exact : goal.returns-clause-exact
returns-clause-exact c usage none =
    let app = c.in_ok-command.ensures in
    let words = map (λ word. word.now) c.args.words.now in
    let kinds = c.in-Err.ensures.kinds (ap is_simple_and_free app ∙ units_command_app-is_free) in
    elim kinds [
      | inl memory ↦ c.fault_from.ensures usage memory
      | inr among ↦
          subst (IsAmong (kind_of c.in-Err.error))
          (ap (λ (a : App). fault_of a words) app ∙ none) among
    ]
