-- The session of a trial.
use Rattle.std.proofs.Common.{◌≡◌, ◌++◌, ◌==◌, [], ℕ, List, Bool, true, false, Result, Ok, Err, IfOk, Some, refl, sym}
use Rattle.std.proofs.Common.{ap, subst, ◌∙◌, arith, append_assoc, length, codes}
use Rattle.std.specs.declared.option.Option.{Option}
use Rattle.std.proofs.lemmas.List.{append-nil, nil_from_length}
use Rattle.std.proofs.lemmas.Bool.{eqb-true}
use Rattle.units_io.specs.FileMap.{no_files_in_map}
use Rattle.deck.specs.Decks.{DeckContents}
use Rattle.deck.specs.declared.settings.Settings.{Settings}
use Rattle.live_table.specs.TableView.{LiveView}
use Rattle.reply.specs.declared.options.Options.{Options}
use Rattle.session.specs.Sessions.{SessionState}
use Rattle.session.specs.SessionProgress.{IsAtPointOfTalk, IsTalkAtWholeLines, IsTalkFed, IsTalkOver, SessionBase}
use Rattle.session.specs.SessionProgress.{SessionNow}
use Rattle.session.specs.Talks.{SessionTrace, talk_over_input}
use Rattle.session.specs.TrialEffects.{IsTalkSpoken, IsTrialSummary}
use Rattle.session.specs.TextDecks.{text_deck}
use Rattle.session.specs.TrialLines.{trial_definitions, trial_rounds_text}
use Rattle.session.specs.Trials.{Trial, quiet_trial_session, silent_talk, trial_deck, trial_over, trial_session}
use Rattle.session.specs.Trials.{trial_summary}
use Rattle.session.specs.BetweenPieces.{session_base_at_start}
use Rattle.session.specs.declared.session_output.OutputBuffers.{OutputBuffers}
use Rattle.session.proofs.HeldLine.{short_session_line_is_readable}
use Rattle.session.proofs.OutputPieces.{fed_talk_goes_on, fed_talk_is_over}

-- a session without output and with nothing held is at its beginning
pub silent_talk_at_start :
    (session : SessionState) (buffers : OutputBuffers) (held : Option (List ℕ)) (steps : ℕ) → buffers.out.items ≡ []
    → buffers.err.items ≡ []
    → held ≡ Some []
    → IsTalkAtWholeLines (session_base_at_start (Some no_files_in_map) steps) (silent_talk session) [] held
    (record { output_buffers = buffers; session = session; files = Some no_files_in_map; steps = steps })
silent_talk_at_start session buffers held steps o e h = record {
  is_at = record { out = sym o; err = sym e; session = refl; files = refl; steps = omega arith };
  going = refl;
  held_part = h ∙ sym (short_session_line_is_readable [] (omega arith));
}

-- the session is after a talk, and has written all of it
pub talk_is_spoken_at_its_point : (talk : SessionTrace) (now : SessionNow) (steps : ℕ)
    → IsAtPointOfTalk (session_base_at_start (Some no_files_in_map) steps) talk now
    → IsTalkSpoken talk now.output_buffers now.session steps now.steps
talk_is_spoken_at_its_point talk now steps at = record { out = sym at.out; session = at.session; steps = at.steps }

-- the session is after the last line of a talk, and has written all of it
pub talk_is_spoken_when_over : (first : SessionTrace) (lines : List ℕ) (now : SessionNow) (steps : ℕ)
    → IsTalkOver (session_base_at_start (Some no_files_in_map) steps) first lines
    (lines ++ []) now
    → IsTalkSpoken (talk_over_input first lines) now.output_buffers now.session steps now.steps
talk_is_spoken_when_over first lines now steps over =
    talk_is_spoken_at_its_point (talk_over_input first lines) now steps
    (subst (λ bytes. IsAtPointOfTalk (session_base_at_start (Some no_files_in_map) steps) (talk_over_input first bytes)
    now) (append-nil lines) over.is_at)

-- some of the lines were fed, and then more
module _ (base : SessionBase) (first : SessionTrace) (lines done rest : List ℕ) (b : lines ≡ done ++ rest) where
  pub lines_on : (over : Bool) (left : List ℕ) (held : Option (List ℕ)) (now : SessionNow) → over ≡ false
      → IsTalkFed (Ok over) base first done rest left [] held now
      → (more : List ℕ) × (lines ≡ more ++ left) × IsTalkAtWholeLines base first more held now
  lines_on over left held now is fed =
      let on = fed_talk_goes_on (Ok over) base first done rest left [] held now (ap Ok is) fed in (
        done ++ on.0,
        b ∙ ap (λ t. done ++ t) on.1 ∙ sym (append_assoc done on.0 left),
        on.2,
      )

  pub lines_over : (over : Bool) (left : List ℕ) (held : Option (List ℕ)) (now : SessionNow) → over ≡ true
      → IsTalkFed (Ok over) base first done rest left [] held now → IsTalkOver base first lines (lines ++ []) now
  lines_over over left held now is fed =
      subst (λ t. IsTalkOver base first t (t ++ []) now) (sym b)
      (fed_talk_is_over (Ok over) base first done rest left [] held now (ap Ok is) fed)

  -- no bytes are left
  pub lines_done : (held : Option (List ℕ)) (now : SessionNow) → (length rest == 0) ≡ true
      → IsTalkAtWholeLines base first done held now
      → IsTalkAtWholeLines base first lines held now
  lines_done held now none s =
      subst (λ t. IsTalkAtWholeLines base first t held now)
      (sym (b ∙ ap (λ t. done ++ t) (nil_from_length rest (eqb-true (length rest) 0 none)) ∙ append-nil done)) s

-- the summary of a trial, unless memory ran out
pub trial_summary_is_given : {E : Type 0} (result : Result (List ℕ) E) (n bytes : ℕ) (table : LiveView)
    (trial_session : Trial)
    (old new : ℕ)
    → ((text : List ℕ) → text ≡ trial_summary n bytes table → IsTrialSummary trial_session text old new)
    → IfOk result (λ text. text ≡ trial_summary n bytes table)
    → IfOk result (λ text. IsTrialSummary trial_session text old new)
trial_summary_is_given (Ok text) n bytes table trial_session old new tells is = tells text is
trial_summary_is_given (Err fault) n bytes table trial_session old new tells is = tt

-- a trial over the deck of its definitions
pub trial_over_its_deck : (options : Options) (settings : Settings) (n : ℕ) (deck : DeckContents)
    (source lines : List ℕ)
    (first last : SessionState) (buffers : OutputBuffers) (bytes : ℕ) (table : LiveView) (text : List ℕ) (old new : ℕ)
    → source ≡ trial_definitions n → deck ≡ text_deck (codes "trial") source settings
    → first ≡ quiet_trial_session options deck
    → lines ≡ trial_rounds_text n n → IsTalkSpoken (talk_over_input (silent_talk first) lines) buffers last old new
    → bytes ≡ length buffers.out.items
    → table ≡ last.table → text ≡ trial_summary n bytes table → IsTrialSummary (trial_session options settings n) text
    old new
unfolding trial_session
trial_over_its_deck options settings n deck source lines first last buffers bytes table text old new e d f l t b s h =
    let made : deck ≡ trial_deck settings n = d ∙ ap (λ bytes. text_deck (codes "trial") bytes settings) e in
    let talk = talk_over_input (silent_talk (quiet_trial_session options deck)) (trial_rounds_text n n) in
    let talked : IsTalkSpoken talk buffers last old new =
    subst (λ (known : SessionState). IsTalkSpoken (talk_over_input (silent_talk known) (trial_rounds_text n n)) buffers
    last old new) f
    (subst (λ ls. IsTalkSpoken (talk_over_input (silent_talk first) ls) buffers last old new) l t) in
    let tells : IsTrialSummary (trial_over options n deck) text old new = record {
      text = h ∙ ap (λ k. trial_summary n k table) (b ∙ ap length talked.out)
          ∙ ap (trial_summary n (length talk.out)) (s ∙ ap (λ (known : SessionState). known.table) talked.session);
      steps = talked.steps;
    } in
    subst (λ (c : DeckContents). IsTrialSummary (trial_over options n c) text old new) made tells
