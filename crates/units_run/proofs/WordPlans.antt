-- The plan of the words.
use Rattle.std.proofs.Common.{◌≡◌, ◌&&◌, ◌||◌, inl, inr, ℕ, List, Bool, true, false, IfOk, Result, Ok, Err, Some, None}
use Rattle.std.proofs.Common.{refl, ap, subst, sym, ◌∙◌, if◌then◌else◌, is_some, not}
use Rattle.std.specs.declared.option.Option.{Option}
use Rattle.std.proofs.lemmas.Bool.{both_ways, false_from_ne_true, or_parts}
use Rattle.units_io.specs.FileMap.{FileMap}
use Rattle.units_io.specs.NamedValues.{NamedTexts}
use Rattle.command_line.specs.AcceptedWords.{are_command_words_accepted}
use Rattle.command_line.specs.Fields.{command_line_of}
use Rattle.command_line.specs.Usage.{usage_text}
use Rattle.command_line.specs.declared.fields.CommandLine.{CommandLine}
use Rattle.deck.specs.Decks.{DeckContents}
use Rattle.deck.specs.FileLoads.{IsDeckLoaded, MayDeckLoadFailWith}
use Rattle.deck.specs.declared.fault.DeckFault.{DeckFault}
use Rattle.deck.specs.declared.fault.DeckFault.TheVariants as fault
use Rattle.session.specs.HeardLines.{heard_input_loads_file}
use Rattle.session.specs.KnownContents.{IsSessionValueIfKnown, IsSessionValueKnownIfNeeded}
use Rattle.units_run.specs.Definitions.{no_deck_run_line}
use Rattle.units_run.specs.Needs.{is_run_of_column, is_run_of_session, run_converts_column, run_fetches_file}
use Rattle.units_run.specs.Needs.{run_input_limit, run_loads_file, run_needs_definitions, run_needs_files}
use Rattle.units_run.specs.Needs.{run_opens_session}
use Rattle.units_run.specs.ProgramPlans.{IsPlanned}
use Rattle.units_run.specs.Plans.{complaint_plan}
use Rattle.units_run.specs.Work.{file_plan, line_plan, plan_of}
use Rattle.units_run.specs.declared.plan.Plan.{Plan}
use Rattle.units_run.specs.declared.status.Status.TheVariants.{NoFile, Usage}

-- the plans of words that are valid, and of words that are not
pub plan_of_valid_words : (words : List (List ℕ)) (vars : NamedTexts) (m : FileMap) (line : CommandLine)
    → are_command_words_accepted words ≡ true
    → line ≡ command_line_of words → line_plan line vars m ≡ plan_of words vars m
unfolding plan_of
plan_of_valid_words words vars m line taken read =
    ap (λ (l : CommandLine). line_plan l vars m) read
    ∙ sym (ap (λ b. if b then line_plan (command_line_of words) vars m else complaint_plan usage_text Usage) taken)

pub plan_of_invalid_words : (words : List (List ℕ)) (vars : NamedTexts) (m : FileMap)
    → are_command_words_accepted words ≡ false
    → complaint_plan usage_text Usage ≡ plan_of words vars m
unfolding plan_of
plan_of_invalid_words words vars m taken =
    sym (ap (λ b. if b then line_plan (command_line_of words) vars m else complaint_plan usage_text Usage) taken)

-- the plan if there is no deck
pub plan_without_deck : {E : Type 0} (outcome : Result DeckContents DeckFault) (fault : DeckFault) (line : CommandLine)
    (name : List ℕ) (m : FileMap) (result : Result Plan E) (n : ℕ) → IfOk result (λ _. MayDeckLoadFailWith fault → ⊥)
    → IsDeckLoaded outcome (Err fault) → IsPlanned (complaint_plan (no_deck_run_line fault name) NoFile) m result n n
    → IsPlanned (file_plan line name outcome m) m result n n
plan_without_deck {E} outcome fault line name m (Err e) n known loaded planned = tt
plan_without_deck {E} outcome fault line name m (Ok plan) n known (inl may) planned = absurd (known may)
plan_without_deck {E} outcome fault line name m (Ok plan) n known (inr is) planned =
    subst (λ (o : Result DeckContents DeckFault). IsPlanned {E = E} (file_plan line name o m) m (Ok plan) n n) (sym is)
    planned

-- if the words name no definition file, their command line loads none
pub run_without_file_loads_none : (words : List (List ℕ)) (line : CommandLine) → are_command_words_accepted words ≡ true
    → line ≡ command_line_of words
    → run_needs_definitions words ≡ false → run_loads_file line ≡ false
run_without_file_loads_none words line taken read none =
    ap run_loads_file read ∙ sym (ap (λ b. b && run_loads_file (command_line_of words)) taken) ∙ none

-- a value that is known whenever it is needed is known for a lesser need
pub run_value_known_for_lesser_need : {X : Type 0} (needed less : Bool) (o : Option X) (x : X)
    → (needed ≡ false → less ≡ false)
    → IsSessionValueIfKnown needed o x → IsSessionValueIfKnown less o x
run_value_known_for_lesser_need needed less (Some files_if_known) x h s = s
run_value_known_for_lesser_need needed less None x h s = h s

-- a session needs files
pub session_run_needs_files : (words : List (List ℕ))
    → (are_command_words_accepted words && is_run_of_session (command_line_of words)) ≡ true
    → run_needs_files words ≡ true
session_run_needs_files words e =
    by (are_command_words_accepted words) (run_loads_file (command_line_of words))
    (is_run_of_session (command_line_of words)) e
  where
    by : (a l s : Bool) → (a && s) ≡ true → (a && (l || s)) ≡ true
    by true true s e = refl
    by true false s e = e
    by false l s e = e

-- a value that is needed is known
pub needed_run_value_is_known : {X : Type 0} (needed : Bool) (o : Option X) (x : X) → needed ≡ true
    → IsSessionValueIfKnown needed o x → o ≡ Some x
needed_run_value_is_known true None x e h = cc
needed_run_value_is_known false None x e h = cc
needed_run_value_is_known needed (Some files_if_known) x e h = ap Some h

-- a file is fetched only if the words need files
run_needs_no_second_condition : (a b : Bool) → a ≡ true → (a && b) ≡ false → b ≡ false
run_needs_no_second_condition true b e f = f
run_needs_no_second_condition false b e f = cc

run_fetches_none_by_needs : (taken loads session named : Bool) → (taken && (loads || session)) ≡ false
    → ((taken && loads) || ((taken && session) && named)) ≡ false
run_fetches_none_by_needs false loads session named e = refl
run_fetches_none_by_needs true true session named e = cc
run_fetches_none_by_needs true false true named e = cc
run_fetches_none_by_needs true false false named e = refl

pub run_without_files_fetches_none : (words : List (List ℕ)) (input : List ℕ) → run_needs_files words ≡ false
    → run_fetches_file words input ≡ false
run_without_files_fetches_none words input none =
    let line = command_line_of words in
    run_fetches_none_by_needs (are_command_words_accepted words) (run_loads_file line) (is_run_of_session line)
    (heard_input_loads_file input) none

-- files that are known if one is fetched are known if a line of the session loads one
pub run_files_known_for_session : (words : List (List ℕ)) (input : List ℕ) (files : Option FileMap) (m : FileMap)
    → run_opens_session words ≡ true → IsSessionValueIfKnown (run_fetches_file words input) files m
    → IsSessionValueKnownIfNeeded (heard_input_loads_file input) files
run_files_known_for_session words input (Some files_if_known) m opens s = tt
run_files_known_for_session words input None m opens s =
    run_needs_no_second_condition (run_opens_session words) (heard_input_loads_file input) opens
    (or_parts (run_needs_definitions words) (run_opens_session words && heard_input_loads_file input) s).1

-- files that are known if one is fetched are known if the definition file is loaded
pub run_files_known_for_definitions : (words : List (List ℕ)) (input : List ℕ) (files : Option FileMap) (m : FileMap)
    → IsSessionValueIfKnown (run_fetches_file words input) files m → IsSessionValueIfKnown (run_needs_definitions words)
    files m
run_files_known_for_definitions words input files m s =
    run_value_known_for_lesser_need (run_fetches_file words input) (run_needs_definitions words) files m
    (λ none. (or_parts (run_needs_definitions words) (run_opens_session words && heard_input_loads_file input) none).0)
    s

-- words that lead to a session do not lead to a column
run_is_not_session_and_column : (taken trial from check column : Bool)
    → (taken && (not trial && not (from || check))) ≡ true
    → (taken && ((not trial && from) && column)) ≡ true → ⊥
run_is_not_session_and_column true false true check column e f = cc
run_is_not_session_and_column true false false check column e f = cc
run_is_not_session_and_column true true from check column e f = cc
run_is_not_session_and_column false trial from check column e f = cc

pub session_run_converts_no_column : (words : List (List ℕ)) → run_opens_session words ≡ true
    → run_converts_column words ≡ true → ⊥
session_run_converts_no_column words e f =
    let line = command_line_of words in
    run_is_not_session_and_column (are_command_words_accepted words) (is_some line.trial) (is_some line.from) line.check
    (is_some line.column) e f

-- the limit of the input of a session
pub session_run_input_limit : (words : List (List ℕ)) → run_opens_session words ≡ true
    → 4294967296 ≡ run_input_limit words
session_run_input_limit words e =
    sym (ap (λ (b : Bool). if b then 16777216 else 4294967296)
    (false_from_ne_true (run_converts_column words) (session_run_converts_no_column words e)))

pub run_input_limit_of_column : (words : List (List ℕ)) → run_converts_column words ≡ true
    → 16777216 ≡ run_input_limit words
run_input_limit_of_column words e = sym (ap (λ (b : Bool). if b then 16777216 else 4294967296) e)

-- words that are not valid lead to neither
pub run_of_invalid_words_leads_nowhere : (words : List (List ℕ)) → are_command_words_accepted words ≡ false
    → (run_opens_session words || run_converts_column words) ≡ true
    → ⊥
run_of_invalid_words_leads_nowhere words untaken leads =
    let line = command_line_of words in
    both_ways (run_opens_session words || run_converts_column words) (ap
    (λ (b : Bool). (b && is_run_of_session line) || (b && is_run_of_column line)) untaken) leads
