-- The count of failed fetches in the transcript of a load.
use Rattle.std.proofs.Common.{◌≡◌, ◌++◌, [], ℕ, List, sym, ap, ◌∙◌, Result, Ok, Err, inl, inr}
use Rattle.std.proofs.lemmas.List.{append-nil}
use Rattle.deck_lines.specs.Excerpts.{Excerpt}
use Rattle.deck_lines.specs.LineLoads.{faults_after_load, load_of_file}
use Rattle.deck_lines.specs.Transcripts.{FilesModel, HasTranscript, IsLoad, IsPartLoad, IsPartTranscript, IsTranscript}
use Rattle.deck_lines.specs.declared.draft.LoadFault.{LoadFault}
use Rattle.deck_lines.specs.declared.draft.LoadFault.TheVariants.{DeckFull, ReadFailed, OutOfMemory}
use Rattle.deck_lines.proofs.FailedLoads.{load_failure_law}

module _ {State : Type 0} (model : FilesModel State) (from to : State) (name bytes : List ℕ) (before : Excerpt) where
  -- a transcript of a load counts the failed fetches, if the files count them as the outcome says
  transcript_counts_faults : (outcome : Result Excerpt LoadFault)
      → HasTranscript (IsPartTranscript (model.bytes from) model.is_fetch from to) (load_of_file name bytes before)
      outcome
      → model.faults to ≡ faults_after_load (model.faults from) outcome
      → HasTranscript (IsTranscript model from to) (load_of_file name bytes before) outcome
  transcript_counts_faults outcome h counted =
      let ends = ap (load_of_file name bytes before) (sym (append-nil h.0)) ∙ h.2 [] in
      (h.0, (h.1, counted ∙ sym (load_failure_law name bytes before outcome h.0 (model.faults from) ends)), h.2)

  -- the result of a load counts the failed fetches, if the files count them as the result says
  pub load_counts_faults : {T : Type 0} (left : T → Excerpt) (r : Result T LoadFault)
      → IsPartLoad OutOfMemory (IsPartTranscript (model.bytes from) model.is_fetch from to)
      (load_of_file name bytes before) left r
      → model.faults to ≡ faults_after_load (model.faults from) r
      → IsLoad model from to OutOfMemory (load_of_file name bytes before) left r
  load_counts_faults left (Ok value) h counted = transcript_counts_faults (Ok (left value)) h counted
  load_counts_faults left (Err OutOfMemory) (inl is) counted = inl (is, counted)
  load_counts_faults left (Err DeckFull) (inl is) counted = cc
  load_counts_faults left (Err ReadFailed) (inl is) counted = cc
  load_counts_faults left (Err OutOfMemory) (inr h) counted = inr (transcript_counts_faults (Err OutOfMemory) h counted)
  load_counts_faults left (Err DeckFull) (inr h) counted = inr (transcript_counts_faults (Err DeckFull) h counted)
  load_counts_faults left (Err ReadFailed) (inr h) counted = inr (transcript_counts_faults (Err ReadFailed) h counted)
