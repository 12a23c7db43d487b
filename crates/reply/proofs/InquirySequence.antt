-- Inquiries in turn.
use Rattle.std.proofs.Common.{◌≡◌, inl, inr, sym, ap, subst, refl, ℕ, []}
use Rattle.std.specs.Prelude.{Result, Ok, Err}
use Rattle.live_table.specs.declared.fault.QueryFault.{QueryFault}
use Rattle.live_table.specs.declared.fault.QueryFault.TheVariants as query
use Rattle.quantity.specs.Amount.{Amount}
use Rattle.live_table.specs.Answers.{IsLiveQueryResult}
use Rattle.live_table.specs.Calls.{IsLiveQuery}
use Rattle.live_table.specs.TableView.{AreLiveEventsCutOff, IsAfterLiveEvents, IsRightLiveView, LiveView}
use Rattle.live_table.specs.States.{LiveEvent}
use Rattle.live_table.proofs.QuerySequence.{live_event_runs_in_turn, no_live_events_keep_view}
use Rattle.live_table.proofs.NameQueries.{live_events_cut_at_start}
use Rattle.live_table.proofs.Runs.{live_event_run_law}
use Rattle.reply.specs.declared.failure.Failure.{Failure}
use Rattle.reply.specs.declared.failure.Failure.TheVariants.{Fault, OutOfMemory}
use Rattle.reply.specs.declared.fault.ReplyFault.{ReplyFault}
use Rattle.reply.specs.Calls.{IsInquiryAnswered, IsInquiryWithoutQueriesAnswered, inquiry_identity, inquiry_result}
use Rattle.reply.specs.Inquiries.{◌>>=◌, Inquiry, inquiry_after, inquiry_answer, inquiry_of_single_query}
use Rattle.reply.specs.Inquiries.{inquiry_without_queries}

-- a query that was answered is an inquiry
module _ (e : LiveEvent) (said : Result Amount QueryFault) (a b : LiveView) (n m : ℕ) where
  pub query_inquired : (r : Result Amount QueryFault) → IsLiveQueryResult r said → IsLiveQuery e r a b n m
      → IsInquiryAnswered inquiry_identity (inquiry_of_single_query e said) (inquiry_result r) a b n m
  query_inquired (Ok x) h q = elim h [ inl p ↦ cc | inr p ↦ (ap inquiry_answer (sym p), q) ]
  query_inquired (Err (query.Name f)) h q = elim h [ inl p ↦ cc | inr p ↦ (ap inquiry_answer (sym p), q) ]
  query_inquired (Err (query.Value f)) h q = elim h [ inl p ↦ cc | inr p ↦ (ap inquiry_answer (sym p), q) ]
  query_inquired (Err query.OutOfMemory) h q = q

-- a result that is read without a query is an inquiry that makes none
module _ {A B : Type 0} (seen : A → B) (said : Result B ReplyFault) (a : LiveView) (n : ℕ) where
  pub read-given : (r : Result A Failure) → IsRightLiveView a → IsInquiryWithoutQueriesAnswered seen said r
      → IsInquiryAnswered seen (inquiry_without_queries said) r a a n n
  read-given (Ok x) right h = (h, no_live_events_keep_view a n right)
  read-given (Err (Fault fault)) right h = (h, no_live_events_keep_view a n right)
  read-given (Err OutOfMemory) right h = live_events_cut_at_start [] a n right

module _ {A B C : Type 0} (seen : C → B) (m : Inquiry A) (next : A → Inquiry B) where
  abbrev both : Result A ReplyFault → Inquiry B
  both said = inquiry_after m.events said next

  -- an inquiry after one that has a result
  pub then-answered : (x : A) (r : Result C Failure) (a b c : LiveView) (n k l : ℕ) → b.deck ≡ a.deck → m.answer ≡ Ok x
      → IsAfterLiveEvents m.events a b n k → IsInquiryAnswered seen (next x) r b c k l
      → IsInquiryAnswered seen (m >>= next) r a c n l
  then-answered x r a b c n k l deck is p h =
      subst (λ (s : Result A ReplyFault). IsInquiryAnswered seen (both s) r a c n l) (sym is) (go r h)
    where
      go : (r : Result C Failure) → IsInquiryAnswered seen (next x) r b c k l
          → IsInquiryAnswered seen (both (Ok x)) r a c n l
      go (Ok y) h = (h.0, live_event_runs_in_turn m.events (next x).events a b c n k l p h.1)
      go (Err (Fault fault)) h = (h.0, live_event_runs_in_turn m.events (next x).events a b c n k l p h.1)
      go (Err OutOfMemory) h = live_event_run_law.cut_behind m.events (next x).events a b c n k l deck p h

  -- lack of memory cuts off the first inquiry
  cut : (said : Result A ReplyFault) (a b : LiveView) (n k : ℕ) → AreLiveEventsCutOff m.events a b n k
      → IsInquiryAnswered seen (both said) (Err OutOfMemory) a b n k
  cut (Ok x) a b n k p = live_event_run_law.cut_before m.events (next x).events a b n k p
  cut (Err fault) a b n k p = p

  -- a failure of the first inquiry is a failure of both
  pub then-failed : {D : Type 0} (to : D → A) (failure : Failure) (a b : LiveView) (n k : ℕ)
      → IsInquiryAnswered to m (Err failure) a b n k → IsInquiryAnswered seen (m >>= next) (Err failure) a b n k
  then-failed to (Fault fault) a b n k h =
      subst (λ (s : Result A ReplyFault). IsInquiryAnswered seen (both s) (Err (Fault fault)) a b n k) (sym h.0)
      (refl, h.1)
  then-failed to OutOfMemory a b n k h = cut m.answer a b n k h

  -- lack of memory between the two cuts off both
  pub then-stopped : (x : A) (a b : LiveView) (n k : ℕ) → b.deck ≡ a.deck → m.answer ≡ Ok x
      → IsAfterLiveEvents m.events a b n k
      → IsInquiryAnswered seen (m >>= next) (Err OutOfMemory) a b n k
  then-stopped x a b n k deck is p =
      subst (λ (s : Result A ReplyFault). IsInquiryAnswered seen (both s) (Err OutOfMemory) a b n k) (sym is)
      (live_event_run_law.cut_between m.events (next x).events a b n k deck p)

-- a result that is read after an inquiry that has one
pub result-read-after-inquiry : {A B C D : Type 0} (seen : C → B) (m : Inquiry A) (to : D → A)
    (said : A → Result B ReplyFault)
    (x : D)
    (r : Result C Failure) (a b : LiveView) (n k : ℕ) → b.deck ≡ a.deck → IsInquiryAnswered to m (Ok x) a b n k
    → IsInquiryWithoutQueriesAnswered seen (said (to x)) r
    → IsInquiryAnswered seen (m >>= (λ x. inquiry_without_queries (said x))) r a b n k
result-read-after-inquiry seen m to said x r a b n k deck h read =
    then-answered seen m (λ x. inquiry_without_queries (said x)) (to x) r a b b n k k deck h.0 h.1
    (read-given seen (said (to x)) b k r h.1.is_right read)
