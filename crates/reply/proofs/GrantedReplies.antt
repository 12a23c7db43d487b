-- Which conversions are granted.
use Rattle.std.proofs.Common.{◌≡◌, ◌∙◌, refl, sym, ap, ap₂, subst, ℕ, pos, Bool, true, false, true≢false, not}
use Rattle.std.proofs.Common.{if◌then◌else◌, List, Option, Some, None, Result, Ok, Err}
use Rattle.std.specs.List.{list_any}
use Rattle.std.proofs.lemmas.Bool.{not-false}
use Rattle.expr_tree.specs.Syntax.{Syntax}
use Rattle.quantity.specs.Amount.{Amount}
use Rattle.unit_list.specs.Amounts.{unit_counts_in}
use Rattle.def_entry.specs.declared.key.Key.{Key}
use Rattle.def_entry.specs.declared.key.Kind.TheVariants as kind
use Rattle.def_entry.specs.Entries.{Entry}
use Rattle.def_entry.specs.Keys.{key}
use Rattle.def_entry.specs.EntryReading.{is_entry_semicolon}
use Rattle.def_entry.specs.Tables.{EntryTable, entry_at, is_entry_present}
use Rattle.def_lines.specs.Blanks.{trimmed_of_blanks}
use Rattle.deck.specs.Tables as deck
use Rattle.tree_eval.specs.Expansions.{Callable, Callee, EvalMeaning, One, Two}
use Rattle.tree_eval.specs.Steps.{ValueOrFault}
use Rattle.tree_eval.specs.Value.{inverse_value_at}
use Rattle.table_names.specs.declared.fault.NameFault.{NameFault}
use Rattle.table_names.specs.Faults.{key_fault}
use Rattle.table_names.specs.Kinds.{MeaningKindLaw, TableNamesFitKinds, table_name_may_mean}
use Rattle.table_names.specs.Meanings.{key_meaning}
use Rattle.live_table.specs.Answers.{live_answer_of_value, live_inverse_answer, live_inverse_value}
use Rattle.live_table.specs.States.{AsksKey}
use Rattle.live_table.proofs.DeckTables.{live_deck_entries_fit_kinds}
use Rattle.frac128.specs.Fraction.{Fraction}
use Rattle.reply.specs.declared.conversion.Conversion.{Conversion}
use Rattle.reply.specs.declared.conversion.Conversion.TheVariants.{Linear, Reciprocal, Inverse, NonConforming, Split}
use Rattle.reply.specs.declared.fault.ReplyFault.{ReplyFault}
use Rattle.reply.specs.declared.options.Options.{Options}
use Rattle.reply.specs.declared.reply.Reply.{Reply}
use Rattle.reply.specs.declared.target.Target.{Target}
use Rattle.reply.specs.declared.target.Target.TheVariants.{Function, Parts, Unit}
use Rattle.reply.specs.Conversions.{conversion, conversion_between, conversion_to_list, converted_to}
use Rattle.reply.specs.Conversions.{is_conversion_granted, split_conversion}
use Rattle.reply.specs.Grants.{ConversionGrantLaw, ConvertsTo, ConvertsToFunction, ConvertsToList, ConvertsToUnit}
use Rattle.reply.specs.Grants.{IsConversion, IsConversionReply}
use Rattle.reply.specs.Inquiries.{◌>>=◌, Inquiry, inquiry_answer, inquiry_of_single_query, inquiry_without_queries}
use Rattle.reply.specs.Inquiries.{value_of_text, values_of_trees}
use Rattle.reply.specs.Lines.{conversion_text}
use Rattle.reply.specs.Options.{reply_form}
use Rattle.reply.specs.Quotients.{ConversionQuotientLaw}
use Rattle.reply.specs.Replies.{comparison_reply, conversion_reply, conversion_result_as_reply}
use Rattle.reply.specs.Targets.{conversion_target, conversion_target_parts, conversion_target_parts_or_unit}
use Rattle.reply.specs.TextValues.{IsInquiredValueOf}
use Rattle.reply.specs.Trees.{inquiry_trees}
use Rattle.reply.proofs.InquiryResults.{answer_after, inquired-value-is-unique, join-answers, of-value, of-values}
use Rattle.reply.proofs.InquiryResults.{split-answers, value-of, values-of}
use Rattle.reply.proofs.ListConversions.{of-counts, split-of}
use Rattle.reply.proofs.UnitConversions.{conversion-of, none-to-zero, of-conversion}
use Rattle.general_lemmas.proofs.Results.{same_Ok, err-ok}

-- ---- a target that is a function has one
conversion-function-is-present : (table : EntryTable) (to : List ℕ) → conversion_target table to ≡ Function
    → is_entry_present table (key kind.Func to) ≡ true
conversion-function-is-present table to h = go (is_entry_present table (key kind.Func to)) refl h
  where
    no-function : (list : Option Entry) → conversion_target_parts_or_unit list to ≡ Function → ⊥
    no-function (Some list) e = cc
    no-function None e = by (list_any is_entry_semicolon to) e
      where
        by : (b : Bool) → (if b then Parts to else Unit) ≡ Function → ⊥
        by true e = cc
        by false e = cc

    go : (b : Bool) → is_entry_present table (key kind.Func to) ≡ b
        → (if b then Function else conversion_target_parts_or_unit (entry_at table (key kind.List to)) to) ≡ Function
        → b ≡ true
    go true is e = refl
    go false is e = absurd (no-function (entry_at table (key kind.List to)) e)

-- a meaning of a function has an inverse only if it is a function
record IsInverse (m : EvalMeaning) (x y : Amount) : Type 0 where
  function : Callable
  meaning : m ≡ Callee function
  evaluates : inverse_value_at function x ≡ Ok y

conversion-inverse-of-meaning : (m : EvalMeaning) (x y : Amount) → table_name_may_mean kind.Func m ≡ true
    → live_inverse_value m x ≡ Ok y → IsInverse m x y
conversion-inverse-of-meaning (Callee f) x y may h = record { function = f; meaning = refl; evaluates = h }
conversion-inverse-of-meaning (One z) x y may h = absurd (true≢false (sym may))
conversion-inverse-of-meaning (Two z w) x y may h = absurd (true≢false (sym may))

-- ---- by the meaning of the target

module _ (table : EntryTable) (options : Options) (to : List ℕ) (x : Amount) where
  abbrev function : Key
  function = key kind.Func to

  abbrev counts_by : List ℕ → List Amount → Inquiry Conversion
  counts_by list units = inquiry_without_queries (split_conversion x list units (unit_counts_in options.round x units))

  abbrev units_by : List ℕ → List Syntax → Inquiry Conversion
  units_by list trees = values_of_trees table trees >>= counts_by list

  abbrev against : Amount → Inquiry Conversion
  against y = inquiry_without_queries (conversion_between options.strict x y)

  abbrev inverse : Amount → Inquiry Conversion
  inverse y = inquiry_without_queries (Ok (Inverse y))

  module _ (kinds : MeaningKindLaw) (fits : TableNamesFitKinds table) (present : is_entry_present table function ≡ true)
    where
      by-key : (y : Amount) (fault : Option NameFault) → key_fault table function ≡ fault
          → (w : ValueOrFault) → live_inverse_value (key_meaning table function) x ≡ w
          → inquiry_answer (live_answer_of_value fault w) ≡ Ok y → ConvertsToFunction table to x y
      by-key y None names (Ok q) evaluates h =
          let is = conversion-inverse-of-meaning (key_meaning table function) x y
          (kinds.keys table fits function present names)
          (evaluates ∙ ap Ok (same_Ok q y h)) in
          record { names = names; function = is.function; function_meaning = is.meaning; evaluates = is.evaluates }
      by-key y None names (Err fault) evaluates h = absurd (err-ok _ y h)
      by-key y (Some fault) names w evaluates h = absurd (err-ok _ y h)

  converts-of : ConversionQuotientLaw → MeaningKindLaw → TableNamesFitKinds table → (t : Target)
      → conversion_target table to ≡ t
      → (c : Conversion)
      → (converted_to table options to t x).answer ≡ Ok c → is_conversion_granted c ≡ true
      → ConvertsTo table options to t x c
  converts-of law kinds fits Function is c h g =
      let s = split-answers (inquiry_of_single_query (AsksKey function) (live_inverse_answer table to x)) inverse c h in
      subst (ConvertsTo table options to Function x) (same_Ok (Inverse s.0) c s.2)
      (by-key kinds fits (conversion-function-is-present table to is) s.0 (key_fault table function) refl
      (live_inverse_value (key_meaning table function) x) refl s.1)
  converts-of law kinds fits (Parts list) is c h g =
      let t = split-answers (inquiry_without_queries (inquiry_trees (conversion_target_parts list))) (units_by list) c h
      in
      let u = split-answers (values_of_trees table t.0) (counts_by list) c t.2 in
      let k = split-of options.round x u.0 list c u.2 g in
      subst (ConvertsTo table options to (Parts list) x) k.same (
        refl,
        record {
          units = u.0;
          evaluates = values-of table (conversion_target_parts list) t.0 u.0 t.1 u.1;
          conformable = k.has.conformable;
          units_positive = k.has.positive;
          counts_are = k.has.counted;
        },
      )
  converts-of law kinds fits Unit is c h g =
      let s = split-answers (value_of_text table to) against c h in
      record {
        y = s.0;
        evaluates = value-of table to s.0 s.1;
        converts = conversion-of law options.strict x s.0 c s.2 g;
      }

  of-list : (list : List ℕ) (counts : List Fraction) → ConvertsToList table options.round list x counts
      → (conversion_to_list table options list x).answer ≡ Ok (Split list counts)
  of-list list counts h =
      let v = of-values table (conversion_target_parts list) h.units h.evaluates in
      let c : Conversion = Split list counts in
      join-answers (inquiry_without_queries (inquiry_trees (conversion_target_parts list))) (units_by list) c v.0 v.1
      (join-answers (values_of_trees table v.0) (counts_by list) c h.units v.2
      (ap (split_conversion x list h.units) (of-counts options.round x h.units counts (record {
        conformable = h.conformable;
        positive = h.units_positive;
        counted = h.counts_are;
      }))))

  pub of-function : (y : Amount) → ConvertsToFunction table to x y
      → (converted_to table options to Function x).answer ≡ Ok (Inverse y)
  of-function y h =
      join-answers (inquiry_of_single_query (AsksKey function) (live_inverse_answer table to x)) inverse (Inverse y) y
      (ap₂ (λ f w. inquiry_answer (live_answer_of_value f w)) h.names
      (ap (λ m. live_inverse_value m x) h.function_meaning ∙ h.evaluates)) refl

  pub of-parts : (list text : List ℕ) (counts : List Fraction) → text ≡ list
      → ConvertsToList table options.round list x counts
      → (converted_to table options to (Parts list) x).answer ≡ Ok (Split text counts)
  of-parts list text counts same h = of-list list counts h ∙ ap (λ t. Ok (Split t counts)) (sym same)

  of-converts : ConversionQuotientLaw → (t : Target) (c : Conversion) → ConvertsTo table options to t x c
      → (converted_to table options to t x).answer ≡ Ok c
  of-converts law Unit c h =
      join-answers (value_of_text table to) against c h.y (of-value table to h.y h.evaluates)
      (of-conversion law options.strict x h.y c h.converts)
  of-converts law Function (Inverse y) h = of-function y h
  of-converts law Function (Linear r) h = absurd h
  of-converts law Function (Reciprocal r) h = absurd h
  of-converts law Function (Split text counts) h = absurd h
  of-converts law Function (NonConforming p q) h = absurd h
  of-converts law (Parts list) (Split text counts) h = of-parts list text counts h.0 h.1
  of-converts law (Parts list) (Linear r) h = absurd h
  of-converts law (Parts list) (Reciprocal r) h = absurd h
  of-converts law (Parts list) (Inverse y) h = absurd h
  of-converts law (Parts list) (NonConforming p q) h = absurd h

  converts-granted : (t : Target) (c : Conversion) → ConvertsTo table options to t x c → is_conversion_granted c ≡ true
  converts-granted t (Linear r) h = refl
  converts-granted t (Reciprocal r) h = refl
  converts-granted t (Inverse y) h = refl
  converts-granted t (Split text counts) h = refl
  converts-granted Unit (NonConforming p q) h = absurd h.converts
  converts-granted Function (NonConforming p q) h = absurd h
  converts-granted (Parts list) (NonConforming p q) h = absurd h

-- ---- from one text to another
module _ (table : EntryTable) (options : Options) (from to : List ℕ) where
  abbrev answer : Result Conversion ReplyFault
  answer = (conversion table options (trimmed_of_blanks from) (trimmed_of_blanks to)).answer

  abbrev further : Amount → Inquiry Conversion
  further x = converted_to table options (trimmed_of_blanks to) (conversion_target table (trimmed_of_blanks to)) x

  abbrev reply_by : Result Conversion ReplyFault → Reply
  reply_by result = conversion_result_as_reply (reply_form options) (trimmed_of_blanks from) (trimmed_of_blanks to)
      result

  -- the reply depends on the value of FROM and the meaning of the target
  pub target-reply : (t : Target) → conversion_target table (trimmed_of_blanks to) ≡ t → (x : Amount)
      → IsInquiredValueOf table (trimmed_of_blanks from) x
      → conversion_reply table options from to ≡ reply_by (converted_to table options (trimmed_of_blanks to) t x).answer
  target-reply t is x v =
      ap (λ result. reply_by (answer_after (value_of_text table (trimmed_of_blanks from)) further result))
      (of-value table (trimmed_of_blanks from) x v)
      ∙ ap (λ t. reply_by (converted_to table options (trimmed_of_blanks to) t x).answer) is

  -- if both texts have values, and the target is a unit, the reply is that for the two values
  pub unit-reply : conversion_target table (trimmed_of_blanks to) ≡ Unit → (x y : Amount)
      → IsInquiredValueOf table (trimmed_of_blanks from) x
      → IsInquiredValueOf table (trimmed_of_blanks to) y
      → conversion_reply table options from to ≡ comparison_reply options (trimmed_of_blanks from)
      (trimmed_of_blanks to) x y
  unit-reply is x y v w =
      target-reply Unit is x v
      ∙ ap (λ result. reply_by
      (answer_after (value_of_text table (trimmed_of_blanks to)) (against table options (trimmed_of_blanks to) x)
      result)) (of-value table (trimmed_of_blanks to) y w)

  module _ (law : ConversionQuotientLaw) where
    answer-of : (c : Conversion) → IsConversion table options from to c → answer ≡ Ok c
    answer-of c h =
        join-answers (value_of_text table (trimmed_of_blanks from)) further c h.x
        (of-value table (trimmed_of_blanks from) h.x h.evaluates)
        (of-converts table options (trimmed_of_blanks to) h.x law (conversion_target table (trimmed_of_blanks to)) c
        h.converts)

    granted-of : (c : Conversion) → IsConversion table options from to c → is_conversion_granted c ≡ true
    granted-of c h = converts-granted table options (trimmed_of_blanks to) h.x
        (conversion_target table (trimmed_of_blanks to)) c h.converts

    not-refused : (c : Conversion) → IsConversion table options from to c
        → (conversion_reply table options from to).refused ≡ false
    not-refused c h = ap (λ result. (reply_by result).refused) (answer-of c h) ∙ ap not (granted-of c h)

    module _ (kinds : MeaningKindLaw) (fits : TableNamesFitKinds table) where
      of-answer : (c : Conversion) → answer ≡ Ok c → is_conversion_granted c ≡ true
          → IsConversion table options from to c
      of-answer c h g =
          let s = split-answers (value_of_text table (trimmed_of_blanks from)) further c h in
          record {
            x = s.0;
            evaluates = value-of table (trimmed_of_blanks from) s.0 s.1;
            converts = converts-of table options (trimmed_of_blanks to) s.0 law kinds fits
                (conversion_target table (trimmed_of_blanks to))
                refl c
                s.2 g;
          }

      only-granted : (result : Result Conversion ReplyFault) → answer ≡ result → (reply_by result).refused ≡ false
          → (c : Conversion) × IsConversion table options from to c
      only-granted (Ok c) e h = (c, of-answer c e (not-false (is_conversion_granted c) h))
      only-granted (Err fault) e h = absurd (true≢false h)

      not-to-zero : conversion_target table (trimmed_of_blanks to) ≡ Unit → (y : Amount)
          → IsInquiredValueOf table (trimmed_of_blanks to) y
          → y.value.num ≡ pos 0 → (c : Conversion) → IsConversion table options from to c → ⊥
      not-to-zero is y v zero c h =
          let unit : ConvertsToUnit table options.strict (trimmed_of_blanks to) h.x c =
          subst (λ t. ConvertsTo table options (trimmed_of_blanks to) t h.x c) is h.converts in
          let same : y ≡ unit.y = inquired-value-is-unique table (trimmed_of_blanks to) y unit.y v unit.evaluates in
          none-to-zero options.strict h.x unit.y (ap (λ (q : Amount). q.value.num) (sym same) ∙ zero) c
          unit.converts

      refused-zero : conversion_target table (trimmed_of_blanks to) ≡ Unit → (y : Amount)
          → IsInquiredValueOf table (trimmed_of_blanks to) y
          → y.value.num ≡ pos 0 → (r : Bool) → (conversion_reply table options from to).refused ≡ r → r ≡ true
      refused-zero is y v zero true e = refl
      refused-zero is y v zero false e =
          let granted = only-granted answer refl e in
          absurd (not-to-zero is y v zero granted.0 granted.1)

      table-law : IsConversionReply table options from to (conversion_reply table options from to)
      table-law = record {
        granted_exactly = (only-granted answer refl, λ granted. not-refused granted.0 granted.1);
        conversion = λ c h.
            ap reply_by (answer-of c h)
            ∙ ap (λ b. record {
              text = conversion_text (reply_form options) (trimmed_of_blanks from) (trimmed_of_blanks to) c;
              refused = not b;
            }) (granted-of c h);
        comparison = unit-reply;
        zero_target = λ is y v zero. refused-zero is y v zero (conversion_reply table options from to).refused refl;
      }

-- the law of granted conversions
pub conversion-grant-law : ConversionQuotientLaw → MeaningKindLaw → ConversionGrantLaw
conversion-grant-law law kinds d options from to = table-law (deck.table_of_deck d) options from to law kinds
    (live_deck_entries_fit_kinds d)
