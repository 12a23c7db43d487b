-- The fault of an inquiry is never lack of memory.
use Rattle.std.proofs.Common.{◌≡◌, ◌≢◌, refl, ℕ, Bool, true, false, if◌then◌else◌, List, [], ◌∷◌}
use Rattle.std.specs.Prelude.{⊤, ◌&&◌, not, None, Option, Some, Result, Ok, Err, position}
use Rattle.units_io.specs.Outcomes.{◌>>=◌}
use Rattle.expr_tree.specs.declared.fault.ParseFault.{ParseFault}
use Rattle.expr_tree.specs.declared.fault.ParseFault.TheVariants as parse
use Rattle.expr_tree.specs.Laws.{ParseMemoryLaw}
use Rattle.expr_tree.specs.ParseResult.{parse_of}
use Rattle.expr_tree.specs.Syntax.{Syntax}
use Rattle.expr_tree.specs.Words.{words_in}
use Rattle.frac128.specs.declared.fault.FracFault.{FracFault}
use Rattle.frac128.specs.Fraction.{Fraction}
use Rattle.quantity.specs.Amount.{Amount, are_reciprocal_exponents, exponents_conform}
use Rattle.unit_list.specs.Amounts.{is_unit_not_positive, is_unlike_unit, numbers_of_units, unit_counts_in}
use Rattle.unit_list.specs.Amounts.{unit_fault_or_counts, unit_place_fault}
use Rattle.unit_list.specs.Splits.{unit_counts_of_number}
use Rattle.def_entry.specs.Tables.{EntryTable}
use Rattle.def_entry.specs.declared.key.Kind.TheVariants as kind
use Rattle.def_entry.specs.Keys.{key}
use Rattle.table_names.specs.declared.fault.NameFault.{NameFault}
use Rattle.table_names.specs.Faults.{key_fault, name_fault}
use Rattle.table_names.specs.Meanings.{expansion, key_meaning}
use Rattle.tree_eval.specs.Steps.{ValueOrFault}
use Rattle.tree_eval.specs.Value.{value}
use Rattle.live_table.specs.Answers.{live_answer_of_value, live_inverse_answer, live_inverse_value}
use Rattle.live_table.specs.States.{AsksKey}
use Rattle.reply.specs.declared.conversion.Conversion.TheVariants.{Inverse, NonConforming}
use Rattle.reply.specs.declared.fault.ReplyFault.{ReplyFault}
use Rattle.reply.specs.declared.options.Options.{Options}
use Rattle.reply.specs.declared.ratio.Ratio.{Ratio}
use Rattle.reply.specs.declared.target.Target.{Target}
use Rattle.reply.specs.declared.target.Target.TheVariants as target
use Rattle.reply.specs.Conversions.{conversion_between, conversion, converted_to, split_conversion, linear_conversion}
use Rattle.reply.specs.Conversions.{reciprocal_conversion}
use Rattle.reply.specs.Faults.{is_reply_fault_reportable}
use Rattle.reply.specs.Inquiries.{Inquiry, inquiry_after, inquiry_answer, inquiry_of_single_query, value_of_text}
use Rattle.reply.specs.Inquiries.{tree_value, inquiry_without_queries, values_of_trees}
use Rattle.reply.specs.Ratios.{conversion_ratio, reciprocal_conversion_ratio}
use Rattle.reply.specs.Targets as targets
use Rattle.reply.specs.Trees.{inquiry_parse_result, inquiry_tree, inquiry_trees}

-- the result is not lack of memory
abbrev pub IsReportableResult : {A : Type 0} → Result A ReplyFault → Type 0
IsReportableResult (Ok x) = ⊤
IsReportableResult (Err fault) = is_reply_fault_reportable fault ≡ true

-- if neither an inquiry nor its continuation lacks memory, their composition does not
followed-inquiry-has-memory : {A B : Type 0} (m : Inquiry A) (next : A → Inquiry B) → IsReportableResult m.answer
    → ((x : A) → IsReportableResult (next x).answer) → IsReportableResult (inquiry_after m.events m.answer next).answer
followed-inquiry-has-memory {A = A} m next reportable h = go m.answer reportable
  where
    go : (said : Result A ReplyFault) → IsReportableResult said
        → IsReportableResult (inquiry_after m.events said next).answer
    go (Ok x) reportable = h x
    go (Err fault) reportable = reportable

-- if neither a result nor its continuation lacks memory, their composition does not
continued-reply-has-memory : {A B : Type 0} (said : Result A ReplyFault) (next : A → Result B ReplyFault)
    → IsReportableResult said
    → ((x : A) → IsReportableResult (next x)) → IsReportableResult (said >>= next)
continued-reply-has-memory (Ok x) next reportable h = h x
continued-reply-has-memory (Err fault) next reportable h = reportable

-- the result after a test of names is not lack of memory
inquiry-answer-has-memory : (fault : Option NameFault) (w : ValueOrFault)
    → IsReportableResult (inquiry_answer (live_answer_of_value fault w))
inquiry-answer-has-memory (Some fault) w = refl
inquiry-answer-has-memory None (Ok x) = tt
inquiry-answer-has-memory None (Err fault) = refl

-- the result of evaluating trees is not lack of memory
inquiry-of-values_of_trees-has-memory : (t : EntryTable) (trees : List Syntax)
    → IsReportableResult (values_of_trees t trees).answer
inquiry-of-values_of_trees-has-memory t [] = tt
inquiry-of-values_of_trees-has-memory t (tree ∷ trees) =
    followed-inquiry-has-memory (tree_value t tree)
    (λ x. inquiry_after (values_of_trees t trees).events (values_of_trees t trees).answer
    (λ xs. inquiry_without_queries (Ok (x ∷ xs))))
    (inquiry-answer-has-memory (name_fault t (words_in tree)) (value (expansion t tree) None))
    (λ x. followed-inquiry-has-memory (values_of_trees t trees) (λ xs. inquiry_without_queries (Ok (x ∷ xs)))
    (inquiry-of-values_of_trees-has-memory t trees) (λ xs. tt))

-- the result of a linear conversion is not lack of memory
linear-conversion-has-memory : (r : Result Ratio FracFault) → IsReportableResult (linear_conversion r)
linear-conversion-has-memory (Ok x) = tt
linear-conversion-has-memory (Err fault) = refl

-- the result of a reciprocal conversion is not lack of memory
reciprocal-conversion-has-memory : (r : Result Ratio FracFault) → IsReportableResult (reciprocal_conversion r)
reciprocal-conversion-has-memory (Ok x) = tt
reciprocal-conversion-has-memory (Err fault) = refl

-- if no branch is lack of memory, the one taken is not
reply-branch-has-memory : {A : Type 0} (b : Bool) (p q : Result A ReplyFault) → IsReportableResult p
    → IsReportableResult q
    → IsReportableResult (if b then p else q)
reply-branch-has-memory true p q h k = h
reply-branch-has-memory false p q h k = k

-- the result of converting two quantities is not lack of memory
pub conversion-between-has-memory : (strict : Bool) (x y : Amount) → IsReportableResult (conversion_between strict x y)
conversion-between-has-memory strict x y =
    reply-branch-has-memory (exponents_conform x.exponents y.exponents)
    (linear_conversion (conversion_ratio x.value y.value))
    (if are_reciprocal_exponents x.exponents y.exponents && not strict
    then reciprocal_conversion (reciprocal_conversion_ratio x.value y.value)
    else Ok (NonConforming x y))
    (linear-conversion-has-memory (conversion_ratio x.value y.value))
    (reply-branch-has-memory (are_reciprocal_exponents x.exponents y.exponents && not strict)
    (reciprocal_conversion (reciprocal_conversion_ratio x.value y.value))
    (Ok (NonConforming x y)) (reciprocal-conversion-has-memory (reciprocal_conversion_ratio x.value y.value)) tt)

-- the result of counting the units of a list is not lack of memory
split-conversion-has-memory : (round : Bool) (x : Amount) (list : List ℕ) (units : List Amount)
    → IsReportableResult (split_conversion x list units (unit_counts_in round x units))
unfolding unit_counts_in
split-conversion-has-memory round x list units =
    go (position (is_unlike_unit x) units) (position is_unit_not_positive units)
    (unit_counts_of_number round x.value (numbers_of_units units))
  where
    go : (p q : Option ℕ) (counts : Result (List Fraction) FracFault)
        → IsReportableResult (split_conversion x list units (unit_fault_or_counts (unit_place_fault p q) counts))
    go (Some place) q counts = tt
    go None (Some place) counts = refl
    go None None (Ok counts) = tt
    go None None (Err fault) = refl

module _ (law : ParseMemoryLaw) where
  tree-reportable : (text : List ℕ) → IsReportableResult (inquiry_tree text)
  tree-reportable text = go (parse_of None text) (law None text)
    where
      go : (r : Result Syntax ParseFault) → r ≢ Err parse.OutOfMemory → IsReportableResult (inquiry_parse_result r)
      go (Ok tree) h = tt
      go (Err (parse.Syntax place)) h = refl
      go (Err parse.NumeralTooLong) h = refl
      go (Err parse.NestedTooDeep) h = refl
      go (Err parse.OutOfMemory) h = absurd (h refl)

  trees-reportable : (texts : List (List ℕ)) → IsReportableResult (inquiry_trees texts)
  trees-reportable [] = tt
  trees-reportable (text ∷ texts) =
      continued-reply-has-memory (inquiry_tree text) (λ tree. inquiry_trees texts >>= (λ trees. Ok (tree ∷ trees)))
      (tree-reportable text)
      (λ tree. continued-reply-has-memory (inquiry_trees texts) (λ trees. Ok (tree ∷ trees)) (trees-reportable texts)
      (λ trees. tt))

  pub text-reportable : (t : EntryTable) (text : List ℕ) → IsReportableResult (value_of_text t text).answer
  text-reportable t text =
      followed-inquiry-has-memory (inquiry_without_queries (inquiry_tree text)) (tree_value t) (tree-reportable text)
      (λ tree. inquiry-answer-has-memory (name_fault t (words_in tree)) (value (expansion t tree) None))

  converted-reportable : (t : EntryTable) (options : Options) (to : List ℕ) (target : Target) (x : Amount)
      → IsReportableResult (converted_to t options to target x).answer
  converted-reportable t options to target.Function x =
      followed-inquiry-has-memory (inquiry_of_single_query (AsksKey (key kind.Func to)) (live_inverse_answer t to x))
      (λ y. inquiry_without_queries (Ok (Inverse y)))
      (inquiry-answer-has-memory (key_fault t (key kind.Func to))
      (live_inverse_value (key_meaning t (key kind.Func to)) x)) (λ y. tt)
  converted-reportable t options to (target.Parts list) x =
      followed-inquiry-has-memory (inquiry_without_queries (inquiry_trees (targets.conversion_target_parts list)))
      (λ trees. inquiry_after (values_of_trees t trees).events (values_of_trees t trees).answer
      (λ units. inquiry_without_queries (split_conversion x list units (unit_counts_in options.round x units))))
      (trees-reportable (targets.conversion_target_parts list))
      (λ trees. followed-inquiry-has-memory (values_of_trees t trees)
      (λ units. inquiry_without_queries (split_conversion x list units (unit_counts_in options.round x units)))
      (inquiry-of-values_of_trees-has-memory t trees) (λ units. split-conversion-has-memory options.round x list units))
  converted-reportable t options to target.Unit x =
      followed-inquiry-has-memory (value_of_text t to)
      (λ y. inquiry_without_queries (conversion_between options.strict x y)) (text-reportable t to)
      (λ y. conversion-between-has-memory options.strict x y)

  pub conversion-reportable : (t : EntryTable) (options : Options) (from to : List ℕ)
      → IsReportableResult (conversion t options from to).answer
  conversion-reportable t options from to =
      followed-inquiry-has-memory (value_of_text t from) (converted_to t options to (targets.conversion_target t to))
      (text-reportable t from)
      (converted-reportable t options to (targets.conversion_target t to))
