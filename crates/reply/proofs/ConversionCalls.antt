-- Conversions, by the calls that compute them.
use Rattle.std.proofs.Common.{◌≡◌, ◌∙◌, ap, subst, refl, ℕ, List}
use Rattle.std.specs.Prelude.{Result, Ok, Err}
use Rattle.expr_tree.specs.Syntax.{Syntax}
use Rattle.quantity.specs.Amount.{Amount}
use Rattle.unit_list.specs.Amounts.{unit_counts_in}
use Rattle.def_entry.specs.Tables.{EntryTable}
use Rattle.deck.specs.Decks.{DeckContents}
use Rattle.deck.specs.Tables.{table_of_deck}
use Rattle.live_table.specs.TableView.{IsRightLiveView, LiveView}
use Rattle.live_table.proofs.QuerySequence.{no_live_events_keep_view}
use Rattle.reply.specs.declared.conversion.Conversion.{Conversion}
use Rattle.reply.specs.declared.failure.Failure.{Failure}
use Rattle.reply.specs.declared.failure.Failure.TheVariants.{OutOfMemory}
use Rattle.reply.specs.declared.fault.ReplyFault.{ReplyFault}
use Rattle.reply.specs.declared.options.Options.{Options}
use Rattle.reply.specs.declared.target.Target.{Target}
use Rattle.reply.specs.Calls.{IsInquiryAnswered, IsInquiryWithoutQueriesAnswered, inquiry_identity}
use Rattle.reply.specs.Conversions.{conversion, conversion_to_list, converted_to, split_conversion}
use Rattle.reply.specs.Inquiries.{◌>>=◌, Inquiry, inquiry_without_queries, value_of_text, values_of_trees}
use Rattle.reply.specs.Targets.{conversion_target, conversion_target_parts}
use Rattle.reply.specs.Trees.{inquiry_trees}
use Rattle.reply.proofs.InquirySequence.{read-given, result-read-after-inquiry, then-answered, then-failed}
use Rattle.reply.proofs.InquirySequence.{then-stopped}

-- ---- into the units of a list
module _ (t : EntryTable) (options : Options) (list : List ℕ) (x : Amount) (a : LiveView) (n : ℕ)
    (right : IsRightLiveView a) where
  abbrev by_units : List Amount → Result Conversion ReplyFault
  by_units units = split_conversion x list units (unit_counts_in options.round x units)

  abbrev by_trees : List Syntax → Inquiry Conversion
  by_trees trees = values_of_trees t trees >>= (λ units. inquiry_without_queries (by_units units))

  abbrev parsed : Inquiry (List Syntax)
  parsed = inquiry_without_queries (inquiry_trees (conversion_target_parts list))

  -- a part is not an expression
  pub split-unparsed : {A : Type 0} (seen : A → List Syntax) (failure : Failure)
      → IsInquiryWithoutQueriesAnswered seen (inquiry_trees (conversion_target_parts list)) (Err failure)
      → IsInquiryAnswered inquiry_identity (conversion_to_list t options list x) (Err failure) a a n n
  split-unparsed seen failure h =
      then-failed inquiry_identity parsed by_trees seen failure a a n n
      (read-given seen (inquiry_trees (conversion_target_parts list)) a n (Err failure) right h)

  module _ {A : Type 0} (seen : A → List Amount) (trees : List Syntax)
      (is : inquiry_trees (conversion_target_parts list) ≡ Ok trees)
      (b : LiveView) (m : ℕ) where
    -- a part has no value
    pub split-unvalued : (failure : Failure) → IsInquiryAnswered seen (values_of_trees t trees) (Err failure) a b n m
        → IsInquiryAnswered inquiry_identity (conversion_to_list t options list x) (Err failure) a b n m
    split-unvalued failure h =
        then-answered inquiry_identity parsed by_trees trees (Err failure) a a b n n m refl is
        (no_live_events_keep_view a n right)
        (then-failed inquiry_identity (values_of_trees t trees) (λ units. inquiry_without_queries (by_units units)) seen
        failure
        a b n m h)

    -- all parts have values
    pub split-counted : (units : A) (r : Result Conversion Failure) → b.deck ≡ a.deck
        → IsInquiryAnswered seen (values_of_trees t trees) (Ok units) a b n m
        → IsInquiryWithoutQueriesAnswered inquiry_identity
        (by_units (seen units)) r
        → IsInquiryAnswered inquiry_identity (conversion_to_list t options list x) r a b n m
    split-counted units r deck h read =
        then-answered inquiry_identity parsed by_trees trees r a a b n n m refl is (no_live_events_keep_view a n right)
        (result-read-after-inquiry inquiry_identity (values_of_trees t trees) seen by_units units r a b n m deck h read)

-- ---- from a text to another
module _ (options : Options) (from to : List ℕ) (a b : LiveView) (n m : ℕ) where
  abbrev further : EntryTable → Amount → Inquiry Conversion
  further t x = converted_to t options to (conversion_target t to) x

  -- FROM has a fault
  pub convert-unvalued : (failure : Failure) → IsInquiryAnswered inquiry_identity
      (value_of_text (table_of_deck a.deck) from) (Err failure) a b n m
      → IsInquiryAnswered inquiry_identity (conversion (table_of_deck a.deck) options from to) (Err failure) a b n m
  convert-unvalued failure h =
      then-failed inquiry_identity (value_of_text (table_of_deck a.deck) from) (further (table_of_deck a.deck))
      inquiry_identity failure a b n m h

  module _ (x : Amount) (deck : b.deck ≡ a.deck)
      (h : IsInquiryAnswered inquiry_identity (value_of_text (table_of_deck a.deck) from) (Ok x) a b n m)
    where
      -- memory runs out after FROM
      pub convert-stopped : IsInquiryAnswered inquiry_identity (conversion (table_of_deck a.deck) options from to)
          (Err OutOfMemory) a b n m
      convert-stopped =
          then-stopped inquiry_identity (value_of_text (table_of_deck a.deck) from) (further (table_of_deck a.deck)) x a
          b
          n m deck h.0 h.1

      -- FROM is converted
      pub convert-done : (seen : DeckContents) (meant : Target) (r : Result Conversion Failure) (c : LiveView) (k : ℕ)
          → seen ≡ b.deck → meant ≡ conversion_target (table_of_deck seen) to
          → IsInquiryAnswered inquiry_identity (converted_to (table_of_deck b.deck) options to meant x) r b c m k
          → IsInquiryAnswered inquiry_identity (conversion (table_of_deck a.deck) options from to) r a c n k
      convert-done seen meant r c k is means g =
          then-answered inquiry_identity (value_of_text (table_of_deck a.deck) from) (further (table_of_deck a.deck)) x
          r a
          b c n m k deck h.0 h.1
          (subst (λ (d : DeckContents). IsInquiryAnswered inquiry_identity (further (table_of_deck d) x) r b c m k) deck
          (subst (λ (t : Target). IsInquiryAnswered inquiry_identity
          (converted_to (table_of_deck b.deck) options to t x) r b c m k)
          (means ∙ ap (λ (d : DeckContents). conversion_target (table_of_deck d) to) is) g))
