-- The first queries of the conversion of a number.
use Rattle.std.proofs.Common.{◌≡◌, ◌∙◌, ◌++◌, ℕ, true, List, [], ◌∷◌, refl, sym, ap}
use Rattle.std.proofs.lemmas.List.{append-nil}
use Rattle.std.specs.Prelude.{None, Option, Some, Result, Ok, Err}
use Rattle.def_lines.specs.Blanks.{trimmed_of_blanks}
use Rattle.def_entry.specs.Tables.{EntryTable}
use Rattle.quantity.specs.Amount.{Amount}
use Rattle.expr_tree.specs.Syntax.{Syntax}
use Rattle.expr_tree.specs.Words.{words_in}
use Rattle.table_names.specs.declared.fault.NameFault.{NameFault}
use Rattle.table_names.specs.Faults.{name_fault}
use Rattle.table_names.specs.Meanings.{expansion}
use Rattle.tree_eval.specs.Steps.{ValueOrFault}
use Rattle.tree_eval.specs.Value.{value}
use Rattle.live_table.specs.Answers.{live_answer_of_value, live_table_answer}
use Rattle.live_table.specs.States.{AsksWords, LiveEvent}
use Rattle.reply.specs.declared.fault.ReplyFault.{ReplyFault}
use Rattle.reply.specs.declared.options.Options.{Options}
use Rattle.reply.specs.Conversions.{conversion_between, converted_to}
use Rattle.reply.specs.Inquiries.{Inquiry, inquiry_after, inquiry_answer, inquiry_without_queries, tree_value}
use Rattle.reply.specs.Replies.{conversion_inquiry}
use Rattle.reply.specs.Targets.{conversion_target}
use Rattle.column_convert.specs.declared.signed_number.Signed.{Signed}
use Rattle.column_convert.specs.Cells.{cell_options, cell_text_after_minus, number_queries}
use Rattle.column_convert.specs.CachedValues.{AreColumnTextsPlain, IsCellNumber}
use Rattle.column_convert.specs.CellValues.{cell_product_inquiry, value_of_cell_product}
use Rattle.column_convert.proofs.PlainTrees.{plain_column_texts_are_no_calls}
use Rattle.column_convert.proofs.Replies.{product_converting}
use Rattle.column_convert.proofs.ValueReplies.{cell_conversion_is_of_product, unit_target}
use Rattle.column_convert.proofs.CellValues.{column_text_tree_value}

-- an expression with a value has no name fault
valued_column_text_has_no_fault : (fault : Option NameFault) (w : ValueOrFault) (x : Amount)
    → live_answer_of_value fault w ≡ Ok x → (fault ≡ None) × (w ≡ Ok x)
valued_column_text_has_no_fault (Some f) w x e = cc
valued_column_text_has_no_fault None (Ok q) x e = (refl, cc)
valued_column_text_has_no_fault None (Err f) x e = cc

pub answered_column_text_has_value : (table : EntryTable) (f : Syntax) (x : Amount) → live_table_answer table f ≡ Ok x
    → (name_fault table (words_in f) ≡ None) × (value (expansion table f) None ≡ Ok x)
answered_column_text_has_value table f x e = valued_column_text_has_no_fault (name_fault table (words_in f))
    (value (expansion table f) None) x e

-- further queries come after the first ones
cell_queries_after_first_ones : {A B : Type 0} (es : List LiveEvent) (r : Result A ReplyFault) (next : A → Inquiry B)
    → (rest : List LiveEvent) × ((inquiry_after es r next).events ≡ es ++ rest)
cell_queries_after_first_ones es (Ok x) next = ((next x).events, refl)
cell_queries_after_first_ones es (Err e) next = ([], sym (append-nil es))

module _ (table : EntryTable) (options : Options) (from to number : List ℕ) (n : Signed) (f g : Syntax)
    (plain : AreColumnTextsPlain table from to f g) (s : IsCellNumber number n) where
  queries_by_product : number_queries table options from to number
      ≡ (inquiry_after (cell_product_inquiry table n.negative n.numeral f).events
      (cell_product_inquiry table n.negative n.numeral f).answer
      (converted_to table (cell_options options) (trimmed_of_blanks to)
      (conversion_target table (trimmed_of_blanks to)))).events
  queries_by_product =
      let factor = plain.factor n.negative in
      ap (number_queries table options from to) s.spelt
      ∙ ap (λ (t : List ℕ). (conversion_inquiry table (cell_options options) t to).events)
      (cell_conversion_is_of_product table n.negative (cell_text_after_minus number) from
      (plain_column_texts_are_no_calls table from (trimmed_of_blanks to) plain.are_so).plain)
      ∙ ap (λ q. q.events)
      (product_converting table (cell_options options) n.negative n.numeral factor.decimal
      (cell_text_after_minus number)
      factor.number from to f s.numeral_is.spelt s.numeral_is.reading_is factor.number_is_numeral.spelt
      factor.number_is_numeral.reading_is
      factor.tree factor.no_product_fault)

  -- the words of FROM are queried first
  pub from_first : (rest : List LiveEvent)
      × (number_queries table options from to number ≡ AsksWords (words_in f) ∷ rest)
  from_first =
      let rest = cell_queries_after_first_ones (AsksWords (words_in f) ∷ [])
      (cell_product_inquiry table n.negative n.numeral f).answer
      (converted_to table (cell_options options) (trimmed_of_blanks to)
      (conversion_target table (trimmed_of_blanks to))) in
      (rest.0, queries_by_product ∙ rest.1)

  module _ (x p : Amount) (is : live_table_answer table f ≡ Ok x)
      (product : value_of_cell_product n.negative n.numeral (Ok x) ≡ Ok p) where
    product_known : (cell_product_inquiry table n.negative n.numeral f).answer ≡ Ok p
    product_known =
        let a = answered_column_text_has_value table f x is in
        ap (λ o. inquiry_answer
        (live_answer_of_value o (value_of_cell_product n.negative n.numeral (value (expansion table f) None)))) a.0
        ∙ ap (λ (w : ValueOrFault).
        inquiry_answer (live_answer_of_value None (value_of_cell_product n.negative n.numeral w))) a.1
        ∙ ap (λ (w : ValueOrFault). inquiry_answer (live_answer_of_value None w)) product

    -- the words of TO are queried next
    pub both_first : (rest : List LiveEvent) × (number_queries table options from to number
        ≡ AsksWords (words_in f) ∷ AsksWords (words_in g) ∷ rest)
    both_first =
        let calls = plain_column_texts_are_no_calls table from (trimmed_of_blanks to) plain.are_so in
        let next = λ (y : Amount). inquiry_without_queries (conversion_between true p y) in
        let rest = cell_queries_after_first_ones (AsksWords (words_in g) ∷ []) (tree_value table g).answer next in (
          rest.0,
          queries_by_product
              ∙ ap (λ r. (inquiry_after (AsksWords (words_in f) ∷ []) r
              (converted_to table (cell_options options) (trimmed_of_blanks to)
              (conversion_target table (trimmed_of_blanks to)))).events)
              product_known
              ∙ ap (λ next. AsksWords (words_in f) ∷ (next p).events)
              (unit_target table (cell_options options) (trimmed_of_blanks to) calls.to_plain calls.to_single
              calls.to_uncut)
              ∙ ap (λ (q : Inquiry Amount). AsksWords (words_in f) ∷ (inquiry_after q.events q.answer next).events)
              (column_text_tree_value table (trimmed_of_blanks to) g plain.to_tree)
              ∙ ap (λ es. AsksWords (words_in f) ∷ es) rest.1,
        )
