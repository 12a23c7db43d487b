-- The finding at a key, from the answer of an inquiry.
use Rattle.std.proofs.Common.{◌≡◌, ◌∙◌, ◌++◌, List, ap, refl, sym, ℕ}
use Rattle.std.specs.Prelude.{Result, Ok, Err, OnOk}
use Rattle.std.specs.declared.alloc.AllocError.{AllocError}
use Rattle.live_table.specs.declared.fault.QueryFault.{QueryFault}
use Rattle.live_table.specs.declared.fault.QueryFault.TheVariants.{Name, Value, OutOfMemory}
use Rattle.live_table.specs.Calls.{AreLiveQueries}
use Rattle.live_table.specs.TableView.{LiveView}
use Rattle.def_entry.specs.declared.key.Key.{Key}
use Rattle.digits_print.specs.declared.style.Style.{Style}
use Rattle.survey.specs.declared.check_result.Finding.{Finding}
use Rattle.survey.specs.Checks.{finding_line}
use Rattle.reply.specs.Calls.{IsInquiryAnswered, inquiry_identity, inquiry_result}
use Rattle.reply.specs.Inquiries.{Inquiry, inquiry_answer}
use Rattle.reply.proofs.Runs.{inquiry_queries_made_or_cut}

module _ {A : Type 0} (m : Inquiry A) (a b : LiveView) (n l : ℕ) where
  -- a result other than running out of memory is the answer
  pub is-answer : (r : Result A QueryFault) → (r ≡ Err OutOfMemory → ⊥) → IsInquiryAnswered inquiry_identity m
      (inquiry_result r) a b n l
      → m.answer ≡ inquiry_answer r
  is-answer (Ok x) memory h = h.0
  is-answer (Err (Name fault)) memory h = h.0
  is-answer (Err (Value fault)) memory h = h.0
  is-answer (Err OutOfMemory) memory h = absurd (memory refl)

  -- all queries were made, whether or not memory ran out afterwards
  pub are-made : (r : Result A QueryFault) → b.deck ≡ a.deck → IsInquiryAnswered inquiry_identity m (inquiry_result r) a
      b n l
      → (q : Result (Unit {0}) AllocError) → OnOk q (r ≡ Err OutOfMemory → ⊥) → AreLiveQueries m.events q a b n l
  are-made (Ok x) deck h q memory = inquiry_queries_made_or_cut q m.events a b n l deck h.1
  are-made (Err (Name fault)) deck h q memory = inquiry_queries_made_or_cut q m.events a b n l deck h.1
  are-made (Err (Value fault)) deck h q memory = inquiry_queries_made_or_cut q m.events a b n l deck h.1
  are-made (Err OutOfMemory) deck h (Ok u) memory = absurd (memory refl)
  are-made (Err OutOfMemory) deck h (Err e) memory = h

-- a line for the result is a line for the answer of the inquiry
pub finding-line-of-answer : (style : Style) (k : Key) (m : Inquiry Finding) (a b : LiveView) (n l : ℕ)
    (before after : List ℕ)
    (r : Result Finding QueryFault) → IsInquiryAnswered inquiry_identity m (inquiry_result r) a b n l
    → (q : Result (Unit {0}) AllocError)
    → OnOk q (after ≡ before ++ finding_line style k (inquiry_answer r)) → OnOk q (r ≡ Err OutOfMemory → ⊥)
    → OnOk q (after ≡ before ++ finding_line style k m.answer)
finding-line-of-answer style k m a b n l before after r h (Ok u) line memory =
    line ∙ ap (λ x. before ++ finding_line style k x) (sym (is-answer m a b n l r memory h))
finding-line-of-answer style k m a b n l before after r h (Err e) line memory = tt
