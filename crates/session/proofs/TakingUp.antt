-- How the lines of a block are cut as its bytes are fed.
use Rattle.std.proofs.Common.{◌≡◌, ◌==◌, ◌++◌, ◌∙◌, [], ℕ, List, Bool, true, false, refl, sym, ap, subst, append_assoc}
use Rattle.std.proofs.Common.{Ok, Err, IfOk, Some, length}
use Rattle.std.specs.Prelude.{Result}
use Rattle.std.specs.declared.option.Option.{Option}
use Rattle.std.specs.List.{list_any}
use Rattle.std.proofs.lemmas.List.{append-nil, nil_from_length}
use Rattle.std.proofs.lemmas.Bool.{eqb-true}
use Rattle.session.specs.HeardLines.{HeardInputNamesNoFile, heard_line_names_file, heard_lines}
use Rattle.session.specs.HeardLines.{is_last_read_session_line, is_last_session_line, readable_session_line}
use Rattle.session.specs.Input.{input_lines, whole_input_lines}
use Rattle.session.specs.SessionProgress.{HoldsInputRest, IsInputTakenUp}
use Rattle.session.specs.declared.fault.SessionFault.{SessionFault}
use Rattle.session.proofs.Blocks.{session_feed_keeps_block}

-- no line of an equal input names a file
pub equal_heard_input_names_no_file : (i input : List ℕ) → i ≡ input → HeardInputNamesNoFile input
    → HeardInputNamesNoFile i
equal_heard_input_names_no_file i input e none = ap (λ t. list_any heard_line_names_file (heard_lines (input_lines t)))
    e ∙ none

-- whether an answered line is the last depends on its bytes
pub last_session_line_by_bytes : (result : Result Bool SessionFault) (line : Option (List ℕ)) (one same : List ℕ)
    (held : Option (List ℕ)) → line ≡ readable_session_line one → one ≡ same → held ≡ Some []
    → IfOk result (λ done. done ≡ is_last_read_session_line line)
    → IfOk result (λ done. (done ≡ is_last_session_line same) × (held ≡ Some []))
last_session_line_by_bytes (Ok done) line one same held e s h last =
    (last ∙ ap is_last_read_session_line e ∙ ap is_last_session_line s, h)
last_session_line_by_bytes (Err fault) line one same held e s h last = tt

-- nothing of the block was fed yet
pub input_block_is_not_yet_fed : (taken block : List ℕ) (held : Option (List ℕ)) → HoldsInputRest taken held
    → (done : List ℕ) × (block ≡ done ++ block) × HoldsInputRest (taken ++ done) held
input_block_is_not_yet_fed taken block held h =
    ([], refl, subst (λ t. HoldsInputRest t held) (sym (append-nil taken)) h)

-- the whole block was fed
pub input_block_is_wholly_fed : (taken block ready rest : List ℕ) (held : Option (List ℕ)) → block ≡ ready ++ rest
    → (length rest == 0) ≡ true → HoldsInputRest (taken ++ ready) held → HoldsInputRest (taken ++ block) held
input_block_is_wholly_fed taken block ready rest held b none h =
    subst (λ t. HoldsInputRest (taken ++ t) held)
    (sym (b ∙ ap (λ t. ready ++ t) (nil_from_length rest (eqb-true (length rest) 0 none)) ∙ append-nil ready)) h

-- bytes of the rest of a block were fed
module _ (taken block ready rest left : List ℕ) (held : Option (List ℕ)) (b : block ≡ ready ++ rest)
    (fed : Result Bool SessionFault) (up : IsInputTakenUp fed (taken ++ ready) rest left held) where
  -- one of their lines is the last
  pub block_last : fed ≡ Ok true → list_any is_last_session_line (whole_input_lines (taken ++ block)) ≡ true
  block_last is =
      ap (λ t. list_any is_last_session_line (whole_input_lines t))
      (sym (session_feed_keeps_block taken block ready rest b))
      ∙ subst (λ (r : Result Bool SessionFault). IsInputTakenUp r (taken ++ ready) rest left held) is up

  -- the session goes on
  pub holds_on : fed ≡ Ok false → (done : List ℕ) × (block ≡ done ++ left) × HoldsInputRest (taken ++ done) held
  holds_on is =
      let on : (done : List ℕ) × (rest ≡ done ++ left) × HoldsInputRest ((taken ++ ready) ++ done) held =
      subst (λ (r : Result Bool SessionFault). IsInputTakenUp r (taken ++ ready) rest left held) is up in (
        ready ++ on.0,
        b ∙ ap (λ t. ready ++ t) on.1 ∙ sym (append_assoc ready on.0 left),
        subst (λ t. HoldsInputRest t held) (append_assoc taken ready on.0) on.2,
      )
