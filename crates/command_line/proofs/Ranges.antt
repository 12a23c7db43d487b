-- After a successful parse: the numbers for `--digits`, `--trial` and `--column`.
use Rattle.std.proofs.Common.{◌≡◌, ◌∙◌, ◌⊎◌, inl, inr, refl, ap, ℕ, Bool, true, false, arith, [], Option, Some, None}
use Rattle.std.proofs.Common.{IfSome, codes, rules}
use Rattle.std.specs.Prelude.{pos}
use Rattle.std.specs.Str.Parse.{IsNumeral, starts_with_minus, without_leading_plus}
use Rattle.std.proofs.lemmas.Int.{ints}
use Rattle.clap.specs.Facts.{IsParsed}
use Rattle.clap.specs.Simple.{app_of, built, is_buildable}
use Rattle.clap.specs.Values.{IsSignedIn}
use Rattle.clap.specs.Walk.{Text, first_of, rows_of}
use Rattle.clap.specs.declared.builder.command.Command.{Command}
use Rattle.clap.specs.declared.builder.command.Command.TheViews.{out-Command}
use Rattle.clap.specs.declared.builder.value_parser.ValueParser.TheVariants as vp
use Rattle.clap.specs.declared.parser.matches.Found.{Found}
use Rattle.command_line.specs.Definition.{units_command_app}
use Rattle.command_line.specs.Numbers.{IsOptionNumberUpTo}
use Rattle.command_line.proofs.FirstValue.{HasParser, first_option_value_accepted}

-- a number that is at least 1 is written without a minus
IsUpTo-from_signed : (high : ℕ) (text : Text) → IsSignedIn (pos 1) (pos high) text → IsOptionNumberUpTo high text
IsUpTo-from_signed high text passed = go (starts_with_minus text) refl
  where
    go : (minus : Bool) → starts_with_minus text ≡ minus → IsOptionNumberUpTo high text
    go true is =
        let low = rw is at passed.2 in
        absurd (omega (arith, ints))
    go false is =
        let numeral : IsNumeral 10 (without_leading_plus text) = rw is at passed.0 in
        let low = rw is at passed.2 in
        let top = rw is at passed.3 in
        (numeral, omega (arith, ints), omega (arith, ints))

-- the number for an option of the program's command, which was not built before the parse
pub option_number_in_range : (old new : Command) (f : Found) (has_subcommand : Bool) (id : Text) (high : ℕ)
    → (id ≡ [] → ⊥) → app_of old ≡ units_command_app
    → HasParser id (vp.Signed (pos 1) (pos high)) units_command_app.top.rules
    → HasParser id (vp.Signed (pos 1) (pos high)) (built units_command_app).top.rules
    → ((app_of new ≡ app_of old) ⊎ (is_buildable (app_of old) ≡ true → app_of new ≡ built (app_of old)))
    → ((out-Command new).has_globals ≡ false → IsParsed new f has_subcommand)
    → IfSome (first_of id (rows_of f)) (IsOptionNumberUpTo high)
option_number_in_range old new f has_subcommand id high named is before after built_or parsed =
    go (first_of id (rows_of f)) refl
  where
    at : (text : Text) → first_of id (rows_of f) ≡ Some text → IsOptionNumberUpTo high text
    at text first = elim built_or [
      | inl same ↦
          let unbuilt : app_of new ≡ units_command_app = same ∙ is in
          IsUpTo-from_signed high text
          (first_option_value_accepted new f has_subcommand units_command_app id text _ unbuilt refl before named parsed
          first)
      | inr whole ↦
          let made : app_of new ≡ built units_command_app = whole (ap is_buildable is ∙ refl) ∙ ap built is in
          IsUpTo-from_signed high text
          (first_option_value_accepted new f has_subcommand (built units_command_app) id text _ made refl after named
          parsed first)
    ]

    go : (o : Option Text) → first_of id (rows_of f) ≡ o → IfSome o (IsOptionNumberUpTo high)
    go None e = tt
    go (Some text) e = at text e

-- the rule of `--digits` accepts numbers from 1 to 36
pub digits_option_parser : HasParser (codes "digits") (vp.Signed (pos 1) (pos 36)) units_command_app.top.rules
digits_option_parser = search rules

-- the rule of `--trial` accepts numbers from 1 to 20,000
pub trial_option_parser : HasParser (codes "trial") (vp.Signed (pos 1) (pos 20000)) units_command_app.top.rules
trial_option_parser = search rules

pub column_option_parser : HasParser (codes "column") (vp.Signed (pos 1) (pos 65535)) units_command_app.top.rules
column_option_parser = search rules

pub built_digits_option_parser : HasParser (codes "digits") (vp.Signed (pos 1) (pos 36))
    (built units_command_app).top.rules
built_digits_option_parser = search rules

-- in the built command, the rule of `--trial` accepts numbers from 1 to 20,000
pub built_trial_option_parser : HasParser (codes "trial") (vp.Signed (pos 1) (pos 20000))
    (built units_command_app).top.rules
built_trial_option_parser = search rules

pub built_column_option_parser : HasParser (codes "column") (vp.Signed (pos 1) (pos 65535))
    (built units_command_app).top.rules
built_column_option_parser = search rules
