-- The reports on a small table, worked out by hand.
use Rattle.std.specs.Prelude.{◌≡◌, ℕ, pos, List, [], ◌∷◌, codes, Some, None, Ok}
use Rattle.frac128.specs.Fraction.{whole_fraction}
use Rattle.digits_print.specs.declared.style.Style.TheVariants.{Digits}
use Rattle.expr_tree.specs.Syntax.{Syntax, Number, Word, Argument}
use Rattle.def_entry.specs.declared.key.Key.{Key}
use Rattle.def_entry.specs.declared.key.Kind.TheVariants as kind
use Rattle.def_entry.specs.Entries as entry
use Rattle.def_entry.specs.Entries.{Entry, What, Primitive, Body, ListOf}
use Rattle.def_entry.specs.Keys.{key}
use Rattle.def_entry.specs.Tables.{EntryTable}
use Rattle.tree_eval.specs.Expansion.{called_eval_word, plain_eval_word}
use Rattle.tree_eval.specs.Steps.{value_one}
use Rattle.live_table.specs.States.{AsksWords}
use Rattle.survey.specs.declared.check_result.Finding.TheVariants.{NonConforming, NotPositive}
use Rattle.survey.specs.Checks.{check_among, check_line, finding_line, queries_among}
use Rattle.survey.specs.Conformable.{conformable_among, unit_queries}
use Rattle.survey.specs.PrefixFaults.{checked_chain_from_key}
use Rattle.survey.specs.Searches.{search_among}

abbrev pub survey_unit : List ℕ → Key
survey_unit w = key kind.Unit w

abbrev pub survey_prefix : List ℕ → Key
survey_prefix w = key kind.Prefix w

abbrev pub survey_function_key : List ℕ → Key
survey_function_key w = key kind.Func w

abbrev pub survey_entry : List ℕ → What → Entry
survey_entry text what = record { text = text; what = what }

-- an entry that is a word
abbrev pub survey_entry_of_word : List ℕ → Entry
survey_entry_of_word w = survey_entry w (Body (Word w))

-- a numeral whose value does not fit
abbrev pub survey_huge_numeral : Syntax
survey_huge_numeral = Number (record { coefficient = 1; scale = pos 200 })

abbrev pub survey_bad_key : Key
survey_bad_key = survey_unit (codes "bad")

abbrev pub survey_big_key : Key
survey_big_key = survey_unit (codes "big")

abbrev pub survey_function_f : Key
survey_function_f = survey_function_key (codes "f")

abbrev pub survey_function_g : Key
survey_function_g = survey_function_key (codes "g")

abbrev pub survey_gauge_key : Key
survey_gauge_key = survey_function_key (codes "gauge")

abbrev pub survey_metre_key : Key
survey_metre_key = survey_unit (codes "m")

abbrev pub survey_key_p : Key
survey_key_p = survey_prefix (codes "p")

abbrev pub survey_key_q : Key
survey_key_q = survey_unit (codes "q")

abbrev pub survey_key_r : Key
survey_key_r = survey_prefix (codes "r")

abbrev pub survey_key_u : Key
survey_key_u = survey_unit (codes "u")

abbrev pub survey_key_v : Key
survey_key_v = survey_unit (codes "v")

abbrev pub survey_parts_key : Key
survey_parts_key = key kind.List (codes "parts")

-- the table: a unit of an unknown word, a unit that overflows, functions, a table, a meter, a prefix on a cycle, a
-- prefix that leads to a cycle, and a list
abbrev pub survey_table : EntryTable
survey_table =
    (survey_bad_key, survey_entry_of_word (codes "none"))
    ∷ (survey_big_key, survey_entry (codes "1e200") (Body survey_huge_numeral))
    ∷ (
      survey_function_f,
      survey_entry (codes "(x) units=[m;big] x") (entry.Function (record {
        in_unit = Some (Word (codes "m"));
        out_unit = Some (Word (codes "big"));
        domain = None;
        range = None;
        forward = Argument;
        inverse = None;
      })),
    )
    ∷ (survey_function_g, survey_entry (codes "() gauge") (entry.Alias (codes "gauge")))
    ∷ (
      survey_gauge_key,
      survey_entry (codes "[bad] 1 2, 3 6") (entry.Table (record {
        unit = Word (codes "bad");
        points = (whole_fraction (pos 1), whole_fraction (pos 2)) ∷ (whole_fraction (pos 3), whole_fraction (pos 6)) ∷
            [];
      })),
    )
    ∷ (survey_metre_key, survey_entry (codes "!") Primitive)
    ∷ (survey_key_p, survey_entry_of_word (codes "q"))
    ∷ (survey_key_q, survey_entry_of_word (codes "pm"))
    ∷ (survey_key_r, survey_entry_of_word (codes "u"))
    ∷ (survey_key_u, survey_entry_of_word (codes "v"))
    ∷ (survey_key_v, survey_entry_of_word (codes "u"))
    ∷ (survey_parts_key, survey_entry (codes "m; none") (ListOf (Word (codes "m") ∷ Word (codes "none") ∷ [])))
    ∷ []

-- the keys of the table, in order
abbrev pub survey_table_keys : List Key
survey_table_keys = survey_bad_key ∷ survey_big_key ∷ survey_function_f ∷ survey_function_g ∷ survey_gauge_key ∷
    survey_metre_key ∷ survey_key_p ∷ survey_parts_key ∷ survey_key_q ∷ survey_key_r ∷ survey_key_u ∷ survey_key_v ∷
    []

abbrev pub check_line_of_key : Key → List ℕ
check_line_of_key k = check_line survey_table (Digits 8) k

-- law: the faults of each kind of key, and several of them one after another
pub record CheckLaw : Type 0 where
  pub sound_key : check_line_of_key survey_metre_key ≡ []
  pub unknown_unit : check_line_of_key survey_bad_key ≡ codes "bad: unknown unit: none in bad\n"
  pub overflow : check_line_of_key survey_big_key ≡ codes "big: overflow\n"
  pub out_unit : check_line_of_key survey_function_f ≡ codes "f(): overflow\n"
  pub alias_of : check_line_of_key survey_function_g ≡ codes "g(): unknown unit: none in bad\n"
  pub fault_in_table : check_line_of_key survey_gauge_key ≡ codes "gauge(): unknown unit: none in bad\n"
  pub own_chain : check_line_of_key survey_key_p ≡ codes "p-: cycle: p- -> q -> p-\n"
  pub from_unit : check_line_of_key survey_key_q ≡ codes "q: cycle: q -> p- -> q\n"
  pub other_chain : check_line_of_key survey_key_r ≡ codes "r-: cycle: u -> v -> u\n"
  pub part : check_line_of_key survey_parts_key ≡ codes "!unitlist parts: unknown unit: none\n"
  pub unlike : finding_line (Digits 8) survey_parts_key (Ok NonConforming)
      ≡ codes "!unitlist parts: conformability error\n"
  pub not_positive : finding_line (Digits 8) survey_parts_key (Ok (NotPositive 1))
      ≡ codes "!unitlist parts: list unit not positive: 2\n"
  pub checks_in_order : check_among survey_table (Digits 8)
      (survey_bad_key ∷ survey_metre_key ∷ survey_key_p ∷ survey_parts_key ∷ [])
      ≡ codes "bad: unknown unit: none in bad\np-: cycle: p- -> q -> p-\n!unitlist parts: unknown unit: none\n"
  pub queries_asked : queries_among survey_table (survey_function_f ∷ survey_parts_key ∷ [])
      ≡ AsksWords (called_eval_word (codes "f") ∷ []) ∷ AsksWords (plain_eval_word (codes "m") ∷ [])
      ∷ AsksWords (plain_eval_word (codes "big") ∷ []) ∷ AsksWords (plain_eval_word (codes "m") ∷ [])
      ∷ AsksWords (plain_eval_word (codes "none") ∷ []) ∷ []

-- law: the rows that a search finds, units without a value that conforms, and how a chain is turned
pub record SearchRowsLaw : Type 0 where
  pub rows_inside : search_among survey_table (codes "a") survey_table_keys
      ≡ codes "\tbad\tnone\n\tgauge()\t[bad] 1 2, 3 6\n\t!unitlist parts\tm; none\n"
  pub not_in_key_text : search_among survey_table (codes "()") survey_table_keys ≡ codes "no matching names\n"
  pub anywhere : search_among survey_table [] (survey_metre_key ∷ survey_key_p ∷ []) ≡ codes "\tm\t!\n\tp-\tq\n"
  pub without_value : conformable_among survey_table value_one (survey_bad_key ∷ survey_key_p ∷ survey_big_key ∷ [])
      ≡ codes "no matching names\n"
  pub units_alone : unit_queries survey_table
      (survey_bad_key ∷ survey_key_p ∷ survey_function_f ∷ survey_metre_key ∷ survey_parts_key ∷ [])
      ≡ AsksWords (plain_eval_word (codes "bad") ∷ []) ∷ AsksWords (plain_eval_word (codes "m") ∷ []) ∷ []
  pub chain_turned : checked_chain_from_key survey_key_p
      (survey_key_u ∷ survey_key_q ∷ survey_key_p ∷ survey_key_v ∷ survey_key_u ∷ []) ≡ survey_key_p ∷ survey_key_v ∷
      survey_key_u ∷ survey_key_q ∷ survey_key_p ∷ []

abbrev pub SurveyExamplesLaw : Type 0
SurveyExamplesLaw = CheckLaw × SearchRowsLaw
