-- Replies, by the results of inquiries.
use Rattle.std.proofs.Common.{◌≡◌, ◌∙◌, sym, ap, subst, ℕ, true, List, Option, IfOk}
use Rattle.std.specs.Prelude.{Result, Ok, Err}
use Rattle.std.specs.declared.alloc.AllocError.{AllocError}
use Rattle.expr_tree.specs.Laws.{ParseMemoryLaw}
use Rattle.quantity.specs.Amount.{Amount}
use Rattle.def_lines.specs.Blanks.{trimmed_of_blanks}
use Rattle.def_entry.specs.declared.key.Kind.TheVariants as kind
use Rattle.def_entry.specs.Keys.{key}
use Rattle.def_entry.specs.Tables.{EntryTable, entry_at}
use Rattle.deck.specs.Decks.{DeckContents}
use Rattle.deck.specs.Tables.{table_of_deck}
use Rattle.live_table.specs.Calls.{AreLiveQueries}
use Rattle.live_table.specs.TableView.{AreLiveEventsCutOff, IsAfterLiveEvents, LiveView}
use Rattle.live_table.specs.States.{LiveEvent}
use Rattle.reply.specs.declared.conversion.Conversion.{Conversion}
use Rattle.reply.specs.declared.failure.Failure.{Failure}
use Rattle.reply.specs.declared.failure.Failure.TheVariants.{Fault, OutOfMemory}
use Rattle.reply.specs.declared.fault.ReplyFault.{ReplyFault}
use Rattle.reply.specs.declared.form.Form.{Form}
use Rattle.reply.specs.declared.options.Options.{Options}
use Rattle.reply.specs.declared.reply.Reply.{Reply}
use Rattle.reply.specs.Calls.{IsInquiryAnswered, inquiry_identity}
use Rattle.reply.specs.Conversions.{conversion}
use Rattle.reply.specs.Faults.{fault_text, is_reply_fault_reportable}
use Rattle.reply.specs.Inquiries.{value_of_text}
use Rattle.reply.specs.Options.{reply_form, reply_style}
use Rattle.reply.specs.Replies.{conversion_as_reply, conversion_queries, conversion_result_as_reply}
use Rattle.reply.specs.Replies.{definition_result_as_reply, reply_body_of_entry, reply_from_value, conversion_reply}
use Rattle.reply.specs.Replies.{definition_as_reply, definition_reply, from_value, inquiry_value_queries, refusal_reply}
use Rattle.reply.specs.declared.reply.FromValue.TheVariants.{Good, Bad}
use Rattle.reply.proofs.Runs.{inquiry_queries_made_or_cut}
use Rattle.reply.proofs.ReportableFaults.{IsReportableResult, conversion-reportable, text-reportable}

-- a fault of an inquiry is not lack of memory
inquiry_fault_is_reportable : {A : Type 0} (said : Result A ReplyFault) (fault : ReplyFault) → IsReportableResult said
    → said ≡ Err fault
    → is_reply_fault_reportable fault ≡ true
inquiry_fault_is_reportable said fault h e = subst IsReportableResult e h

-- a property of the expected reply is a property of the returned one
pub reply-holds : (P : Reply → Type 0) (given : Result Reply AllocError) (wanted : Reply) → P wanted
    → IfOk given (λ reply. reply ≡ wanted) → IfOk given P
reply-holds P (Ok reply) wanted p h = subst P (sym h) p
reply-holds P (Err fault) wanted p h = tt

-- ---- conversions
module _ (options : Options) (from to f g : List ℕ) (p : f ≡ trimmed_of_blanks from) (q : g ≡ trimmed_of_blanks to)
    (a b : LiveView)
    (n m : ℕ) where
  abbrev t : EntryTable
  t = table_of_deck a.deck

  abbrev answered : Result Conversion Failure → Type 0
  answered r = IsInquiryAnswered inquiry_identity (conversion t options f g) r a b n m

  trimmed-reply : conversion_result_as_reply (reply_form options) f g
      (conversion t options f g).answer ≡ conversion_reply t options
      from to
  trimmed-reply = λ i. conversion_result_as_reply (reply_form options) (p i) (q i)
      (conversion t options (p i) (q i)).answer

  trimmed-queries : (conversion t options f g).events ≡ conversion_queries t options from to
  trimmed-queries = λ i. (conversion t options (p i) (q i)).events

  pub conversion-granted : (form : Form) → form ≡ reply_form options → (x : Conversion) → answered (Ok x)
      → conversion_as_reply form f g x ≡ conversion_reply t options from to
  conversion-granted form is x h =
      ap (λ (w : Form). conversion_as_reply w f g x) is
      ∙ (ap (conversion_result_as_reply (reply_form options) f g) (sym h.0) ∙ trimmed-reply)

  pub conversion-refused : (form : Form) → form ≡ reply_form options → (fault : ReplyFault)
      → answered (Err (Fault fault))
      → refusal_reply form fault ≡ conversion_reply t options from to
  conversion-refused form is fault h =
      ap (λ (w : Form). refusal_reply w fault) is
      ∙ (ap (conversion_result_as_reply (reply_form options) f g) (sym h.0) ∙ trimmed-reply)

  pub conversion-fault-reportable : ParseMemoryLaw → (fault : ReplyFault) → answered (Err (Fault fault))
      → is_reply_fault_reportable fault ≡ true
  conversion-fault-reportable law fault h = inquiry_fault_is_reportable (conversion t options f g).answer fault
      (conversion-reportable law t options f g)
      h.0

  pub conversion-made : {A : Type 0} (r : Result A AllocError) → b.deck ≡ a.deck
      → IsAfterLiveEvents (conversion t options f g).events a b n m
      → AreLiveQueries (conversion_queries t options from to) r a
      b n m
  conversion-made r deck h =
      subst (λ (es : List LiveEvent). AreLiveQueries es r a b n m) trimmed-queries
      (inquiry_queries_made_or_cut r (conversion t options f g).events a b n m deck h)

  pub conversion-cut : answered (Err OutOfMemory) → AreLiveEventsCutOff (conversion_queries t options from to) a b n m
  conversion-cut h = subst (λ (es : List LiveEvent). AreLiveEventsCutOff es a b n m) trimmed-queries h

-- ---- values
module _ (options : Options) (from f : List ℕ) (p : f ≡ trimmed_of_blanks from) (a b : LiveView) (n m : ℕ) where
  abbrev u : EntryTable
  u = table_of_deck a.deck

  abbrev valued : Result Amount Failure → Type 0
  valued r = IsInquiryAnswered inquiry_identity (value_of_text u f) r a b n m

  value-queries : (value_of_text u f).events ≡ inquiry_value_queries u from
  value-queries = λ i. (value_of_text u (p i)).events

  abbrev body_in : DeckContents → List ℕ → Option (List ℕ)
  body_in d name = reply_body_of_entry (entry_at (table_of_deck d) (key kind.Unit name))

  trimmed-definition : definition_result_as_reply (reply_form options) (body_in a.deck f)
      (value_of_text u f).answer ≡ definition_reply
      u
      options from
  trimmed-definition = λ i. definition_result_as_reply (reply_form options) (body_in a.deck (p i))
      (value_of_text u (p i)).answer

  trimmed-value : reply_from_value options (value_of_text u f).answer ≡ from_value u options from
  trimmed-value = λ i. reply_from_value options (value_of_text u (p i)).answer

  pub definition-granted : (form : Form) → form ≡ reply_form options → (seen : DeckContents) → seen ≡ b.deck
      → b.deck ≡ a.deck
      → (x : Amount) → valued (Ok x) → definition_as_reply form (body_in seen f) x ≡ definition_reply u options from
  definition-granted form is seen lent deck x h =
      (λ i. definition_as_reply (is i) (body_in ((lent ∙ deck) i) f) x)
      ∙ (ap (definition_result_as_reply (reply_form options) (body_in a.deck f)) (sym h.0) ∙ trimmed-definition)

  pub definition-refused : (form : Form) → form ≡ reply_form options → (fault : ReplyFault) → valued (Err (Fault fault))
      → refusal_reply form fault ≡ definition_reply u options from
  definition-refused form is fault h =
      ap (λ (w : Form). refusal_reply w fault) is
      ∙ (ap (definition_result_as_reply (reply_form options) (body_in a.deck f)) (sym h.0) ∙ trimmed-definition)

  pub value-good : (x : Amount) → valued (Ok x) → Good x ≡ from_value u options from
  value-good x h = ap (reply_from_value options) (sym h.0) ∙ trimmed-value

  pub value-bad : (fault : ReplyFault) → valued (Err (Fault fault))
      → Bad (fault_text (reply_style options) fault) ≡ from_value u options from
  value-bad fault h = ap (reply_from_value options) (sym h.0) ∙ trimmed-value

  pub value-fault-reportable : ParseMemoryLaw → (fault : ReplyFault) → valued (Err (Fault fault))
      → is_reply_fault_reportable fault ≡ true
  value-fault-reportable law fault h = inquiry_fault_is_reportable (value_of_text u f).answer fault
      (text-reportable law u f) h.0

  pub value-made : {A : Type 0} (r : Result A AllocError) → b.deck ≡ a.deck
      → IsAfterLiveEvents (value_of_text u f).events a b n m
      → AreLiveQueries (inquiry_value_queries u from) r a b n m
  value-made r deck h =
      subst (λ (es : List LiveEvent). AreLiveQueries es r a b n m) value-queries
      (inquiry_queries_made_or_cut r (value_of_text u f).events a b n m deck h)

  pub value-cut : valued (Err OutOfMemory) → AreLiveEventsCutOff (inquiry_value_queries u from) a b n m
  value-cut h = subst (λ (es : List LiveEvent). AreLiveEventsCutOff es a b n m) value-queries h
