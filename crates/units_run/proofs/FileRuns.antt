-- Runs over a file of a few lines.
use Rattle.std.proofs.Common.{◌≡◌, ◌∙◌, ◌++◌, ◌∷◌, ◌||◌, [], ℕ, pos, List, Bool, true, false, Option, Some, None}
use Rattle.std.proofs.Common.{Result, Ok, refl, sym, ap, subst, codes, if◌then◌else◌, is_some}
use Rattle.std.specs.Fmt.{digits}
use Rattle.std.specs.List.Sorted.{IsStrictlySortedBy}
use Rattle.units_io.specs.FetchResults.{file_fetch_answer}
use Rattle.units_io.specs.FileMap.{FileMap}
use Rattle.units_io.specs.NamedValues.{NamedTexts}
use Rattle.frac128.specs.Divisors.{gcd, gcd_within}
use Rattle.frac128.specs.Numerals.{greatest_whole_passing}
use Rattle.frac128.specs.Steps.{lowest_terms}
use Rattle.piecewise.specs.Points.{points_rise}
use Rattle.expr_tree.specs.Faults.{fault_from_lexemes}
use Rattle.expr_tree.specs.Lexemes.{lexemes_from, tokens_in}
use Rattle.expr_tree.specs.ParseResult.{parse_of}
use Rattle.expr_tree.specs.TokenReading.{tree_of_token_list}
use Rattle.command_line.specs.Examples.{AreWordsOfCommandLine, empty_command_line}
use Rattle.command_line.specs.declared.fields.CommandLine.{CommandLine}
use Rattle.def_entry.specs.Entries.{Entry, Primitive}
use Rattle.def_entry.specs.Forms.{form_of}
use Rattle.def_entry.specs.Headings.{heading_of_line}
use Rattle.def_entry.specs.Intervals.{interval_at}
use Rattle.def_entry.specs.KeyOrder.{key_cmp}
use Rattle.def_entry.specs.Keys.{key}
use Rattle.def_entry.specs.Numbers.{entry_text_number as numeral_of}
use Rattle.def_entry.specs.Options.{options_from}
use Rattle.def_entry.specs.PointLists.{points_of}
use Rattle.def_entry.specs.EntryReading.{what_of}
use Rattle.def_entry.specs.SameKeys.{is_entry_key_among, is_same_entry_key}
use Rattle.def_entry.specs.Tables.{EntryTable, is_entry_present}
use Rattle.def_entry.specs.declared.key.Key.{Key}
use Rattle.def_entry.specs.declared.key.Kind.TheVariants as kind
use Rattle.def_lines.specs.Kinds.{kind_of_line}
use Rattle.def_lines.specs.Lines.{line_content}
use Rattle.def_lines.specs.Words.{is_empty, words_between_blanks}
use Rattle.deck_lines.specs.Excerpts.{rest_excerpt}
use Rattle.deck_lines.specs.Includes.{excerpt_of_deck_file}
use Rattle.deck_lines.specs.Limits.{pass_store_limit}
use Rattle.deck_lines.specs.Readings.{entry_in_store_line, store_line_reading_of}
use Rattle.deck.specs.Active.{deck_surroundings_after_line}
use Rattle.deck.specs.Decks.{DeckContents}
use Rattle.deck.specs.Edits.{deck_with_excerpt}
use Rattle.deck.specs.KeyLists.{DeckKeyListLaw, deck_table_keys}
use Rattle.deck.specs.FileLoads.{deck_append_by_answer, empty_deck}
use Rattle.deck.specs.Tables.{active_definitions, table_of_deck}
use Rattle.deck.specs.declared.fault.DeckFault.{DeckFault}
use Rattle.reply.specs.Examples.{default_reply_options, granted_reply, refused_reply}
use Rattle.reply.specs.GrantExamples.{ConversionExamplesLaw, reply_example_expression_entry, reply_example_measures}
use Rattle.reply.specs.GrantExamples.{reply_example_multiple, reply_example_numeral, reply_example_primitive}
use Rattle.reply.specs.Options.{reply_style}
use Rattle.reply.specs.Replies.{conversion_reply}
use Rattle.reply.specs.declared.reply.Reply.{Reply}
use Rattle.session.specs.Commands.{colon_command, session_command_in_text}
use Rattle.session.specs.HeardLines.{heard_lines, readable_session_line}
use Rattle.session.specs.Input.{input_lines}
use Rattle.session.specs.Lines.{session_lines_of_texts}
use Rattle.session.specs.Queries.{session_table_after_events}
use Rattle.session.specs.Sessions.{prompt}
use Rattle.session.specs.Steps.{session_answer_to}
use Rattle.session.specs.Talks.{session_opening_text}
use Rattle.survey.specs.ConversionReplies.{asked_conversion}
use Rattle.survey.specs.Checks.{check_among}
use Rattle.units_run.specs.Calls.{run_over}
use Rattle.units_run.specs.FileExamples.{IsRunWith, RunGives, run_measures_text}
use Rattle.units_run.specs.Options.{run_options}
use Rattle.units_run.specs.Plans.{Plan}
use Rattle.units_run.specs.Settings.{run_settings}
use Rattle.units_run.specs.Work.{deck_plan, file_plan, plan_of_reply, plan_of_trial_or_deck, plan_of_work}
use Rattle.units_run.specs.declared.status.Status.{Status}
use Rattle.units_run.specs.declared.status.Status.TheVariants.{Done, Refused}
use Rattle.units_run.proofs.WordPlans.{plan_of_valid_words}

abbrev first : List ℕ
first = codes "first.units"

-- the lines heard of an empty input
abbrev none_heard : List (List ℕ)
none_heard = heard_lines (input_lines [])

-- the plan over a file with this text
abbrev pub plan_over : CommandLine → (text : List ℕ) → NamedTexts → FileMap → Plan
plan_over line text vars files =
    file_plan line first (deck_append_by_answer files first (file_fetch_answer (Some text))
    (empty_deck (run_settings line vars))) files

-- the run of words over a file with this text
pub run_by_file : (words : List (List ℕ)) (line : CommandLine) (text input out err : List ℕ) (status : Status)
    → AreWordsOfCommandLine words line → line.trial ≡ None → line.file ≡ Some first
    → ((vars : NamedTexts) (files : FileMap)
    → IsRunWith (run_over (plan_over line text vars files) files input (heard_lines (input_lines input))) out err
    status)
    → RunGives words text input out err status
run_by_file words line text input out err status is trial file gives vars files files_if_known =
    let settings = run_settings line vars in
    subst (λ (plan : Plan). IsRunWith (run_over plan files input (heard_lines (input_lines input))) out err status)
    (sym
    (sym (plan_of_valid_words words vars files line is.0 (sym is.1))
    ∙ ap (λ (t : Option ℕ). plan_of_trial_or_deck t line settings files) trial
    ∙ ap (λ (f : Option (List ℕ)). deck_plan f line settings files) file
    ∙ ap
    (λ (bytes : Option (List ℕ)).
    file_plan line first (deck_append_by_answer files first (file_fetch_answer bytes) (empty_deck settings))
    files) files_if_known))
    (gives vars files)

-- ---- a conversion

module _ (vars : NamedTexts) (files : FileMap) (line : CommandLine) (text : List ℕ) where
  -- the deck of a file with this text
  abbrev pub deck_over : DeckContents
  deck_over = deck_with_excerpt (excerpt_of_deck_file files first text) (empty_deck (run_settings line vars))

-- the deck of the measures is within the limits, and its table is that of the examples of replies
run_measures_deck_is_made : (vars : NamedTexts) (files : FileMap) (line : CommandLine)
    → deck_append_by_answer files first (file_fetch_answer (Some run_measures_text))
    (empty_deck (run_settings line vars))
    ≡ Ok (deck_over vars files line run_measures_text)
unfolding pass_store_limit excerpt_of_deck_file rest_excerpt store_line_reading_of entry_in_store_line kind_of_line
    words_between_blanks heading_of_line what_of parse_of
    tree_of_token_list fault_from_lexemes
    lexemes_from tokens_in greatest_whole_passing points_of options_from interval_at form_of numeral_of lowest_terms gcd
    gcd_within points_rise
run_measures_deck_is_made vars files line = refl

run_measures_have_no_notices : (vars : NamedTexts) (files : FileMap) (line : CommandLine)
    → (deck_over vars files line run_measures_text).notices ≡ []
unfolding excerpt_of_deck_file rest_excerpt store_line_reading_of entry_in_store_line kind_of_line words_between_blanks
    heading_of_line what_of parse_of tree_of_token_list
    fault_from_lexemes
    lexemes_from
    tokens_in greatest_whole_passing points_of options_from interval_at form_of numeral_of lowest_terms gcd gcd_within
    points_rise
run_measures_have_no_notices vars files line = refl

run_measures_table : (vars : NamedTexts) (files : FileMap) (line : CommandLine)
    → table_of_deck (deck_over vars files line run_measures_text) ≡ reply_example_measures
unfolding active_definitions excerpt_of_deck_file rest_excerpt store_line_reading_of entry_in_store_line
    deck_surroundings_after_line kind_of_line words_between_blanks heading_of_line
    what_of parse_of
    tree_of_token_list
    fault_from_lexemes lexemes_from tokens_in greatest_whole_passing points_of options_from interval_at form_of
    numeral_of
    lowest_terms gcd
    gcd_within points_rise
run_measures_table vars files line = refl

-- the run of a command line that converts over the measures
measures_run : (line : CommandLine) (from to : List ℕ) (reply : Reply)
    → ((d : DeckContents) (files : FileMap) → plan_of_work line.from line d files
    ≡ plan_of_reply d (asked_conversion (table_of_deck d) default_reply_options from to))
    → conversion_reply reply_example_measures default_reply_options from to ≡ reply
    → (vars : NamedTexts) (files : FileMap)
    → IsRunWith (run_over (plan_over line run_measures_text vars files) files [] none_heard) reply.text []
    (if reply.refused then Refused else Done)
measures_run line from to reply converts is vars files =
    let deck = deck_over vars files line run_measures_text in
    let replies : conversion_reply (table_of_deck deck) default_reply_options from to ≡ reply =
    ap (λ (t : EntryTable). conversion_reply t default_reply_options from to) (run_measures_table vars files line)
    ∙ is in
    subst
    (λ (plan : Plan). IsRunWith (run_over plan files [] none_heard) reply.text []
    (if reply.refused then Refused else Done))
    (sym
    (ap (λ (o : Result DeckContents DeckFault). file_plan line first o files)
    (run_measures_deck_is_made vars files line)
    ∙ converts deck files)) (
      ap (λ (r : Reply). r.text) replies,
      ap session_lines_of_texts (run_measures_have_no_notices vars files line),
      ap (λ (r : Reply). if r.refused then Refused else Done) replies,
    )

abbrev converting : (from to : List ℕ) → CommandLine
converting from to = record empty_command_line { file = Some first; from = Some from; to = Some to }

run_example_plans_conversion : (d : DeckContents) (files : FileMap)
    → plan_of_work (converting (codes "2 km") (codes " yards ")).from (converting (codes "2 km") (codes " yards ")) d
    files
    ≡ plan_of_reply d (asked_conversion (table_of_deck d) default_reply_options (codes "2 km") (codes " yards "))
unfolding run_options line_content
run_example_plans_conversion d files = refl

run_example_plans_nonconforming : (d : DeckContents) (files : FileMap)
    → plan_of_work (converting (codes "m") (codes "s")).from (converting (codes "m") (codes "s")) d files
    ≡ plan_of_reply d (asked_conversion (table_of_deck d) default_reply_options (codes "m") (codes "s"))
unfolding run_options line_content
run_example_plans_nonconforming d files = refl

pub run_example_converts : ConversionExamplesLaw → (vars : NamedTexts) (files : FileMap)
    → IsRunWith (run_over (plan_over (converting (codes "2 km") (codes " yards ")) run_measures_text vars files) files
    []
    none_heard)
    (codes "\t* 2187.2266\n\t/ 0.0004572\n") [] Done
run_example_converts law =
    measures_run (converting (codes "2 km") (codes " yards ")) (codes "2 km") (codes " yards ")
    (granted_reply (codes "\t* 2187.2266\n\t/ 0.0004572\n")) run_example_plans_conversion law.linear

pub run_example_refuses : ConversionExamplesLaw → (vars : NamedTexts) (files : FileMap)
    → IsRunWith (run_over (plan_over (converting (codes "m") (codes "s")) run_measures_text vars files) files []
    none_heard)
    (codes "conformability error\n\t1 m\n\t1 s\n") [] Refused
run_example_refuses law =
    measures_run (converting (codes "m") (codes "s")) (codes "m") (codes "s")
    (refused_reply (codes "conformability error\n\t1 m\n\t1 s\n")) run_example_plans_nonconforming law.unlike

-- ---- a definition

abbrev defining : CommandLine
defining = record empty_command_line { file = Some first; from = Some (codes "feet") }

pub run_example_has_bad_definition : (vars : NamedTexts) (files : FileMap)
    → IsRunWith (run_over (plan_over defining (codes "m !\nfeet\n") vars files) files [] none_heard)
    (codes "unknown unit: feet\n")
    (codes "first.units:2: bad definition\n") Refused
unfolding digits active_definitions pass_store_limit excerpt_of_deck_file rest_excerpt store_line_reading_of
    entry_in_store_line deck_surroundings_after_line kind_of_line
    words_between_blanks heading_of_line
    what_of parse_of tree_of_token_list fault_from_lexemes lexemes_from tokens_in greatest_whole_passing run_options
    line_content
run_example_has_bad_definition vars files = (refl, refl, refl)

-- ---- checks

abbrev checking : CommandLine
checking = record empty_command_line { check = true; file = Some first }

abbrev unit : List ℕ → Key
unit name = key kind.Unit name

run_example_one_key_is_sorted : (k : Key) → IsStrictlySortedBy key_cmp (k ∷ [])
unfolding IsStrictlySortedBy
run_example_one_key_is_sorted k = (tt, tt)

-- a table of one unit has one key
run_example_table_has_one_key : DeckKeyListLaw → (name : List ℕ) (entry : Entry) (t : EntryTable)
    → t ≡ (unit name, entry) ∷ []
    → deck_table_keys t ≡ unit name ∷ []
run_example_table_has_one_key law name entry t is =
    ap deck_table_keys is
    ∙ sym (law ((unit name, entry) ∷ []) (unit name ∷ [])
    (record { key_membership = each; sorted_keys = run_example_one_key_is_sorted (unit name) }))
  where
    each : (k : Key) → is_entry_key_among (unit name ∷ []) k ≡ is_entry_present ((unit name, entry) ∷ []) k
    each k = by (is_same_entry_key k (unit name))
      where
        by : (same : Bool) → (same || false) ≡ is_some (if same then Some entry else None)
        by true = refl
        by false = refl

-- the report of a check, given the keys of its table
abbrev report_over : DeckContents → List Key → List ℕ
report_over deck keys = session_lines_of_texts deck.notices ++ check_among (table_of_deck deck)
    (reply_style (run_options checking)) keys

run_example_check_by_report : (deck : DeckContents) (keys : List Key) (bytes : List ℕ) (files : FileMap)
    → deck_table_keys (table_of_deck deck) ≡ keys
    → report_over deck keys ≡ bytes
    → IsRunWith (run_over (file_plan checking first (Ok deck) files) files [] none_heard) bytes []
    (if is_empty bytes then Done else Refused)
run_example_check_by_report deck keys bytes files is reports =
    let all : report_over deck (deck_table_keys (table_of_deck deck)) ≡ bytes = ap (report_over deck) is ∙ reports in
    (all, refl, ap (λ (ls : List ℕ). if is_empty ls then Done else Refused) all)

abbrev faulty_text : List ℕ
faulty_text = codes "feet\nft 12 in\n"

-- the entry `12 in`
abbrev twelve_inches : Entry
twelve_inches = reply_example_expression_entry (codes "12 in")
    (reply_example_multiple (reply_example_numeral 12 (pos 0)) (codes "in"))

run_example_faulty_deck_is_made : (vars : NamedTexts) (files : FileMap)
    → deck_append_by_answer files first (file_fetch_answer (Some faulty_text)) (empty_deck (run_settings checking vars))
    ≡ Ok (deck_over vars files checking faulty_text)
unfolding digits pass_store_limit excerpt_of_deck_file rest_excerpt store_line_reading_of entry_in_store_line
    kind_of_line words_between_blanks heading_of_line what_of parse_of
    tree_of_token_list
    fault_from_lexemes lexemes_from tokens_in greatest_whole_passing
run_example_faulty_deck_is_made vars files = refl

run_example_faulty_table : (vars : NamedTexts) (files : FileMap)
    → table_of_deck (deck_over vars files checking faulty_text) ≡ (unit (codes "ft"), twelve_inches) ∷ []
unfolding digits active_definitions excerpt_of_deck_file rest_excerpt store_line_reading_of entry_in_store_line
    deck_surroundings_after_line kind_of_line words_between_blanks
    heading_of_line what_of
    parse_of
    tree_of_token_list fault_from_lexemes lexemes_from tokens_in greatest_whole_passing
run_example_faulty_table vars files = refl

run_example_faulty_report : (vars : NamedTexts) (files : FileMap)
    → report_over (deck_over vars files checking faulty_text) (unit (codes "ft") ∷ [])
    ≡ codes "first.units:1: bad definition\nft: unknown unit: in in ft\n"
unfolding digits active_definitions excerpt_of_deck_file rest_excerpt store_line_reading_of entry_in_store_line
    deck_surroundings_after_line kind_of_line words_between_blanks
    heading_of_line what_of
    parse_of
    tree_of_token_list fault_from_lexemes lexemes_from tokens_in greatest_whole_passing
run_example_faulty_report vars files = refl

pub run_example_check_finds_faults : DeckKeyListLaw → (vars : NamedTexts) (files : FileMap)
    → IsRunWith (run_over (plan_over checking faulty_text vars files) files [] none_heard)
    (codes "first.units:1: bad definition\nft: unknown unit: in in ft\n") [] Refused
run_example_check_finds_faults law vars files =
    let deck = deck_over vars files checking faulty_text in
    subst
    (λ (o : Result DeckContents DeckFault). IsRunWith (run_over (file_plan checking first o files) files [] none_heard)
    (codes "first.units:1: bad definition\nft: unknown unit: in in ft\n") [] Refused)
    (sym (run_example_faulty_deck_is_made vars files))
    (run_example_check_by_report deck (unit (codes "ft") ∷ []) _ files
    (run_example_table_has_one_key law (codes "ft") twelve_inches (table_of_deck deck)
    (run_example_faulty_table vars files)) (run_example_faulty_report vars files))

-- a text with one primitive, which is sound
abbrev sound_text : List ℕ
sound_text = codes "m !\n"

run_example_sound_deck_is_made : (vars : NamedTexts) (files : FileMap)
    → deck_append_by_answer files first (file_fetch_answer (Some sound_text)) (empty_deck (run_settings checking vars))
    ≡ Ok (deck_over vars files checking sound_text)
unfolding pass_store_limit excerpt_of_deck_file rest_excerpt store_line_reading_of entry_in_store_line kind_of_line
    words_between_blanks heading_of_line what_of
run_example_sound_deck_is_made vars files = refl

run_example_sound_table : (vars : NamedTexts) (files : FileMap)
    → table_of_deck (deck_over vars files checking sound_text) ≡ reply_example_primitive (codes "m") ∷ []
unfolding active_definitions excerpt_of_deck_file rest_excerpt store_line_reading_of entry_in_store_line
    deck_surroundings_after_line kind_of_line words_between_blanks heading_of_line
    what_of
run_example_sound_table vars files = refl

run_example_sound_report : (vars : NamedTexts) (files : FileMap)
    → report_over (deck_over vars files checking sound_text) (unit (codes "m") ∷ []) ≡ []
unfolding active_definitions excerpt_of_deck_file rest_excerpt store_line_reading_of entry_in_store_line
    deck_surroundings_after_line kind_of_line words_between_blanks heading_of_line
    what_of
run_example_sound_report vars files = refl

pub run_example_check_finds_none : DeckKeyListLaw → (vars : NamedTexts) (files : FileMap)
    → IsRunWith (run_over (plan_over checking sound_text vars files) files [] none_heard) [] [] Done
run_example_check_finds_none law vars files =
    let deck = deck_over vars files checking sound_text in
    subst
    (λ (o : Result DeckContents DeckFault). IsRunWith (run_over (file_plan checking first o files) files [] none_heard)
    []
    [] Done)
    (sym (run_example_sound_deck_is_made vars files))
    (run_example_check_by_report deck (unit (codes "m") ∷ []) [] files
    (run_example_table_has_one_key law (codes "m") (record { text = codes "!"; what = Primitive }) (table_of_deck deck)
    (run_example_sound_table vars files))
    (run_example_sound_report vars files))

-- ---- a session

abbrev talking : CommandLine
talking = record empty_command_line { quiet = true; file = Some first }

abbrev pub talk_text : List ℕ
talk_text = codes "feet\nm !\n"

abbrev pub talk_input : List ℕ
talk_input = codes ":define a b\na\n\n:undo\na\n\n"

pub run_example_session_talks : (vars : NamedTexts) (files : FileMap)
    → IsRunWith (run_over (plan_over talking talk_text vars files) files talk_input
    (heard_lines (input_lines talk_input)))
    (codes "unknown unit: b in a\nunknown unit: a\n") (codes "first.units:1: bad definition\n") Done
unfolding digits active_definitions pass_store_limit excerpt_of_deck_file rest_excerpt store_line_reading_of
    entry_in_store_line deck_surroundings_after_line kind_of_line
    words_between_blanks heading_of_line
    what_of parse_of tree_of_token_list fault_from_lexemes lexemes_from tokens_in greatest_whole_passing run_options
    line_content readable_session_line prompt
    colon_command session_command_in_text session_answer_to session_opening_text session_table_after_events
run_example_session_talks vars files = (refl, refl, refl)
