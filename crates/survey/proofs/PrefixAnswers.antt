-- The answer for the body of a prefix, reported for the prefix.
use Rattle.std.proofs.Common.{◌≡◌, ℕ, List}
use Rattle.std.specs.Prelude.{Ok, Err}
use Rattle.def_entry.specs.declared.key.Key.{Key}
use Rattle.quantity.specs.Amount.{Amount}
use Rattle.table_names.specs.declared.fault.NameFault.{NameFault}
use Rattle.live_table.specs.declared.fault.QueryFault.TheVariants as query
use Rattle.live_table.specs.TableView.{LiveView}
use Rattle.reply.specs.Calls.{IsInquiryAnswered, inquiry_failure, inquiry_identity}
use Rattle.reply.specs.Inquiries.{Inquiry, inquiry_without_queries}
use Rattle.reply.proofs.InquirySequence.{then-failed}
use Rattle.reply.proofs.Runs.{inquiry_queries_cut_after_last}
use Rattle.survey.specs.declared.check_result.Finding.TheVariants.{Sound}
use Rattle.survey.specs.Checks.{checked_prefix_values, sound_finding}

module _ {A : Type 0} (seen : A → List Amount) (k : Key) (m : Inquiry (List Amount)) (a b : LiveView) (n l : ℕ) where
  -- the names of the body have a fault, and memory runs out before it can be reported
  pub prefix-unreported : (fault : NameFault) → b.deck ≡ a.deck
      → IsInquiryAnswered seen m (Err (inquiry_failure (query.Name fault))) a b n l
      → IsInquiryAnswered inquiry_identity (sound_finding (checked_prefix_values k m))
      (Err (inquiry_failure query.OutOfMemory)) a b n l
  prefix-unreported fault deck h =
      then-failed inquiry_identity (checked_prefix_values k m) (λ _. inquiry_without_queries (Ok Sound)) seen
      (inquiry_failure query.OutOfMemory) a b n l
      (inquiry_queries_cut_after_last m.events a b n l deck h.1)
