-- Some command lines and their results.
use Rattle.std.specs.Prelude.{◌≡◌, ◌∷◌, List, [], Some, None, codes, true, false}
use Rattle.clap.specs.Words.{Text}
use Rattle.command_line.specs.Fields.{command_line_of}
use Rattle.command_line.specs.AcceptedWords.{are_command_words_accepted}
use Rattle.command_line.specs.declared.fields.CommandLine.{CommandLine}

-- the command line without words
abbrev pub empty_command_line : CommandLine
empty_command_line = record {
  digits = None;
  exact = false;
  one_line = false;
  compact = false;
  terse = false;
  quiet = false;
  strict = false;
  round = false;
  verbose = false;
  check = false;
  file = None;
  locale = None;
  trial = None;
  column = None;
  header = false;
  from = None;
  to = None;
}

-- the words form this command line
abbrev pub AreWordsOfCommandLine : List Text → CommandLine → Type 0
AreWordsOfCommandLine words line = (are_command_words_accepted words ≡ true) × (command_line_of words ≡ line)

-- words that form a command line, with its fields
pub record AcceptedCommandLineExamples : Type 0 where
  pub no_words : AreWordsOfCommandLine [] empty_command_line
  pub exact_file : AreWordsOfCommandLine
      (codes "--exact" ∷ codes "-f" ∷ codes "first.units" ∷ codes "yd" ∷ codes "m" ∷ [])
      (record empty_command_line {
        exact = true;
        file = Some (codes "first.units");
        from = Some (codes "yd");
        to = Some (codes "m");
      })
  pub conversion_by_file : AreWordsOfCommandLine
      (codes "-f" ∷ codes "first.units" ∷ codes "2 km" ∷ codes " yards " ∷ [])
      (record empty_command_line {
        file = Some (codes "first.units");
        from = Some (codes "2 km");
        to = Some (codes " yards ");
      })
  pub letters_by_file : AreWordsOfCommandLine
      (codes "-f" ∷ codes "first.units" ∷ codes "m" ∷ codes "s" ∷ [])
      (record empty_command_line { file = Some (codes "first.units"); from = Some (codes "m"); to = Some (codes "s") })
  pub definition_by_file : AreWordsOfCommandLine (codes "-f" ∷ codes "first.units" ∷ codes "feet" ∷ [])
      (record empty_command_line { file = Some (codes "first.units"); from = Some (codes "feet") })
  pub check_of_file : AreWordsOfCommandLine (codes "-c" ∷ codes "-f" ∷ codes "first.units" ∷ [])
      (record empty_command_line { check = true; file = Some (codes "first.units") })
  pub session_by_file : AreWordsOfCommandLine (codes "-q" ∷ codes "-f" ∷ codes "first.units" ∷ [])
      (record empty_command_line { quiet = true; file = Some (codes "first.units") })
  pub letters_together : AreWordsOfCommandLine (codes "-qd12" ∷ codes "a" ∷ [])
      (record empty_command_line { digits = Some 12; quiet = true; from = Some (codes "a") })
  pub digits_after_flags : AreWordsOfCommandLine (codes "-1t" ∷ codes "--digits=12" ∷ [])
      (record empty_command_line { digits = Some 12; one_line = true; terse = true })
  pub digits_after_equals : AreWordsOfCommandLine (codes "--digits=36" ∷ [])
      (record empty_command_line { digits = Some 36 })
  pub digits_after_zero : AreWordsOfCommandLine (codes "-d" ∷ codes "08" ∷ [])
      (record empty_command_line { digits = Some 8 })
  pub digits_after_plus : AreWordsOfCommandLine (codes "-d" ∷ codes "+8" ∷ [])
      (record empty_command_line { digits = Some 8 })
  pub trial_after_zeros : AreWordsOfCommandLine (codes "--trial" ∷ codes "007" ∷ [])
      (record empty_command_line { trial = Some 7 })
  pub trial_most : AreWordsOfCommandLine (codes "--trial" ∷ codes "20000" ∷ [])
      (record empty_command_line { trial = Some 20000 })
  pub checked_locale : AreWordsOfCommandLine (codes "-c" ∷ codes "-l" ∷ codes "en_GB" ∷ [])
      (record empty_command_line { check = true; locale = Some (codes "en_GB") })
  pub long_locale : AreWordsOfCommandLine (codes "--locale" ∷ codes "en_GB" ∷ [])
      (record empty_command_line { locale = Some (codes "en_GB") })
  pub all_flags_of_a_reply : AreWordsOfCommandLine (codes "-1trsv" ∷ codes "--compact" ∷ [])
      (record empty_command_line {
        one_line = true;
        compact = true;
        terse = true;
        strict = true;
        round = true;
        verbose = true;
      })
  pub minus_after_dashes : AreWordsOfCommandLine (codes "--" ∷ codes "-5" ∷ [])
      (record empty_command_line { from = Some (codes "-5") })
  pub dashes_after_dashes : AreWordsOfCommandLine (codes "--" ∷ codes "-5" ∷ codes "--" ∷ [])
      (record empty_command_line { from = Some (codes "-5"); to = Some (codes "--") })
  pub flag_after_from : AreWordsOfCommandLine (codes "m" ∷ codes "-q" ∷ codes "ft" ∷ [])
      (record empty_command_line { quiet = true; from = Some (codes "m"); to = Some (codes "ft") })
  pub empty_from : AreWordsOfCommandLine (codes "" ∷ []) (record empty_command_line { from = Some [] })
  pub help_as_from : AreWordsOfCommandLine (codes "help" ∷ [])
      (record empty_command_line { from = Some (codes "help") })
  pub column_with_header : AreWordsOfCommandLine
      (codes "--column" ∷ codes "2" ∷ codes "--header" ∷ codes "feet" ∷ codes "m" ∷ [])
      (record empty_command_line {
        column = Some 2;
        header = true;
        from = Some (codes "feet");
        to = Some (codes "m");
      })
  pub column_most : AreWordsOfCommandLine (codes "m" ∷ codes "--column=65535" ∷ codes "ft # x" ∷ [])
      (record empty_command_line { column = Some 65535; from = Some (codes "m"); to = Some (codes "ft # x") })

-- each letter of a flag alone, and each name of an option alone: no letter or name sets another field
pub record SingleOptionExamples : Type 0 where
  pub one_line_by_letter : AreWordsOfCommandLine (codes "-1" ∷ []) (record empty_command_line { one_line = true })
  pub terse_by_letter : AreWordsOfCommandLine (codes "-t" ∷ []) (record empty_command_line { terse = true })
  pub quiet_by_letter : AreWordsOfCommandLine (codes "-q" ∷ []) (record empty_command_line { quiet = true })
  pub strict_by_letter : AreWordsOfCommandLine (codes "-s" ∷ []) (record empty_command_line { strict = true })
  pub round_by_letter : AreWordsOfCommandLine (codes "-r" ∷ []) (record empty_command_line { round = true })
  pub verbose_by_letter : AreWordsOfCommandLine (codes "-v" ∷ []) (record empty_command_line { verbose = true })
  pub check_by_letter : AreWordsOfCommandLine (codes "-c" ∷ []) (record empty_command_line { check = true })
  pub exact_by_name : AreWordsOfCommandLine (codes "--exact" ∷ []) (record empty_command_line { exact = true })
  pub one_line_by_name : AreWordsOfCommandLine (codes "--one-line" ∷ []) (record empty_command_line { one_line = true })
  pub compact_by_name : AreWordsOfCommandLine (codes "--compact" ∷ []) (record empty_command_line { compact = true })
  pub terse_by_name : AreWordsOfCommandLine (codes "--terse" ∷ []) (record empty_command_line { terse = true })
  pub quiet_by_name : AreWordsOfCommandLine (codes "--quiet" ∷ []) (record empty_command_line { quiet = true })
  pub strict_by_name : AreWordsOfCommandLine (codes "--strict" ∷ []) (record empty_command_line { strict = true })
  pub round_by_name : AreWordsOfCommandLine (codes "--round" ∷ []) (record empty_command_line { round = true })
  pub verbose_by_name : AreWordsOfCommandLine (codes "--verbose" ∷ []) (record empty_command_line { verbose = true })
  pub check_by_name : AreWordsOfCommandLine (codes "--check" ∷ []) (record empty_command_line { check = true })
  pub locale_by_letter : AreWordsOfCommandLine (codes "-l" ∷ codes "en_GB" ∷ [])
      (record empty_command_line { locale = Some (codes "en_GB") })
  pub file_by_letter : AreWordsOfCommandLine (codes "-f" ∷ codes "a" ∷ [])
      (record empty_command_line { file = Some (codes "a") })
  pub file_by_name : AreWordsOfCommandLine (codes "--file" ∷ codes "a" ∷ [])
      (record empty_command_line { file = Some (codes "a") })

-- words that do not form a command line
pub record RefusedCommandLineExamples : Type 0 where
  pub digits_zero : are_command_words_accepted (codes "-d" ∷ codes "0" ∷ codes "m" ∷ codes "ft" ∷ []) ≡ false
  pub digits_beyond : are_command_words_accepted (codes "-d" ∷ codes "37" ∷ []) ≡ false
  pub digits_below : are_command_words_accepted (codes "-d" ∷ codes "-1" ∷ []) ≡ false
  pub digits_empty : are_command_words_accepted (codes "--digits=" ∷ []) ≡ false
  pub trial_zero : are_command_words_accepted (codes "--trial" ∷ codes "0" ∷ []) ≡ false
  pub trial_beyond : are_command_words_accepted (codes "--trial" ∷ codes "20001" ∷ []) ≡ false
  pub quiet_twice : are_command_words_accepted (codes "-q" ∷ codes "-q" ∷ codes "m" ∷ codes "ft" ∷ []) ≡ false
  pub file_twice : are_command_words_accepted (codes "-f" ∷ codes "a" ∷ codes "-f" ∷ codes "a" ∷ []) ≡ false
  pub file_then_other : are_command_words_accepted (codes "-f" ∷ codes "a" ∷ codes "-f" ∷ codes "b" ∷ []) ≡ false
  pub file_absent : are_command_words_accepted (codes "-f" ∷ []) ≡ false
  pub flag_with_value : are_command_words_accepted (codes "--quiet=true" ∷ []) ≡ false
  pub name_in_part : are_command_words_accepted (codes "--quie" ∷ []) ≡ false
  pub help : are_command_words_accepted (codes "--help" ∷ []) ≡ false
  pub help_letter : are_command_words_accepted (codes "-h" ∷ []) ≡ false
  pub version_refused : are_command_words_accepted (codes "--version" ∷ []) ≡ false
  pub version_letter : are_command_words_accepted (codes "-V" ∷ []) ≡ false
  pub three_operands : are_command_words_accepted (codes "m" ∷ codes "ft" ∷ codes "yd" ∷ []) ≡ false
  pub check_of_from : are_command_words_accepted (codes "--check" ∷ codes "m" ∷ []) ≡ false
  pub check_of_empty_from : are_command_words_accepted (codes "--check" ∷ codes "" ∷ []) ≡ false
  pub trial_of_from : are_command_words_accepted (codes "--trial" ∷ codes "9" ∷ codes "m" ∷ []) ≡ false
  pub check_of_trial : are_command_words_accepted (codes "-c" ∷ codes "--trial" ∷ codes "9" ∷ []) ≡ false
  pub column_zero : are_command_words_accepted (codes "--column" ∷ codes "0" ∷ codes "m" ∷ codes "ft" ∷ []) ≡ false
  pub column_beyond : are_command_words_accepted (codes "--column=65536" ∷ codes "m" ∷ codes "ft" ∷ []) ≡ false
  pub column_without_to : are_command_words_accepted (codes "--column=1" ∷ codes "m" ∷ []) ≡ false
  pub column_to_blank : are_command_words_accepted (codes "--column=1" ∷ codes "m" ∷ codes " # ft" ∷ []) ≡ false
  pub column_to_question : are_command_words_accepted (codes "--column=1" ∷ codes "m" ∷ codes "? # ft" ∷ []) ≡ false
  pub column_of_check : are_command_words_accepted (codes "--column=1" ∷ codes "--check" ∷ []) ≡ false
  pub header_alone : are_command_words_accepted (codes "--header" ∷ codes "m" ∷ codes "ft" ∷ []) ≡ false
  pub minus_first : are_command_words_accepted (codes "-5" ∷ []) ≡ false
  pub no_text : are_command_words_accepted ((255 ∷ []) ∷ []) ≡ false
  pub no_text_behind : are_command_words_accepted (codes "m" ∷ (255 ∷ []) ∷ []) ≡ false
