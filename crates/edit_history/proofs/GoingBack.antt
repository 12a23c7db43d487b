-- Steps that were made, and the steps back.
use Rattle.std.proofs.Common.{◌≡◌, ◌⊎◌, inl, inr, ◌++◌, ◌∷◌, ◌+◌, ◌-◌, ◌≤◌, [], ℕ, List, Bool, true, false, cond}
use Rattle.std.proofs.Common.{length, refl, sym, ap, subst, ◌∙◌, arith, length-append, Option, Some, Result, Ok, Err}
use Rattle.std.specs.Option.{option_and_then}
use Rattle.def_lines.specs.Blanks.{trimmed_of_blanks}
use Rattle.def_lines.specs.Kinds.{LineKindWithArguments, kind_of_line}
use Rattle.def_lines.specs.Kinds as line
use Rattle.def_entry.specs.declared.fault.EntryFault.{EntryFault}
use Rattle.def_entry.specs.declared.fault.EntryFault.TheVariants.{BadForm}
use Rattle.def_entry.specs.declared.key.Key.{Key}
use Rattle.def_entry.specs.Entries.{Entry}
use Rattle.def_entry.specs.EntryReading.{entry_of, has_entry}
use Rattle.deck_lines.specs.ClosedBlocks.{AreBlocksClosed}
use Rattle.deck_lines.specs.Limits.{pass_store_limit}
use Rattle.deck_lines.specs.Marks.{plain_store_line}
use Rattle.deck_lines.specs.Origins.{exchanged_store_lines}
use Rattle.deck_lines.specs.Readings.{defined_by, entry_in_store_line, store_line_reading_by_kind}
use Rattle.deck_lines.specs.Readings.{store_line_reading_of, store_line_reading_of_entry}
use Rattle.deck_lines.specs.declared.line.DeckLine.{DeckLine}
use Rattle.deck.specs.Decks.{DeckContents}
use Rattle.deck.specs.Edits.{deck_after_defining, deck_with_line, edit_by_entry}
use Rattle.deck.specs.Splices.{DeckSpliceInverseLaw, deck_after_splicing, inverse_deck_splice, lines_from_deck_place}
use Rattle.deck.specs.Tables.{last_definition_place}
use Rattle.deck.specs.LineRemoval.{CanUndefineDeckLine, deck_place_of_defined_key}
use Rattle.deck.specs.declared.fault.DeckFault.TheVariants.{BadLine}
use Rattle.deck.specs.declared.settings.Settings.{Settings}
use Rattle.deck.specs.declared.splice.Splice.{Splice}
use Rattle.edit_history.specs.Steps.{CanMakeUndoStep, IsLastRecordedDefinition, undo_step_splice}
use Rattle.edit_history.specs.Steps.{version_after_undo_step}
use Rattle.edit_history.specs.Versions.{HistoryVersion, deck_of_history_version, history_version}
use Rattle.edit_history.specs.declared.step.Step.{Step}
use Rattle.edit_history.specs.declared.step.Step.TheVariants.{Undefine}
use Rattle.edit_history.proofs.Defining.{redone_definition_is_accepted, redone_definition_is_appended}
use Rattle.edit_history.proofs.Exchanges.{exchange_step}
use Rattle.edit_history.proofs.Stepping.{can_go_back, lines_back, splice, undo_cut_leaves_lines_before}
use Rattle.edit_history.proofs.Stepping.{undo_lines_can_be_exchanged}

-- a version with these parts
abbrev pub version : List DeckLine → Settings → HistoryVersion
version lines settings = record { lines = lines; settings = settings }

pub equal_history_versions : (lines others : List DeckLine) (settings same : Settings) → lines ≡ others
    → settings ≡ same
    → version lines settings ≡ version others same
equal_history_versions lines others settings same e f = λ i. record { lines = e i; settings = f i }

-- a step was made, and the step back restores the version before it
pub record IsMade (s back : Step) (old new : DeckContents) : Type 0 where
  pub made : new ≡ deck_after_splicing (undo_step_splice s (history_version old)) old
  pub can : CanMakeUndoStep back (history_version new)
  pub again : version_after_undo_step back (history_version new) ≡ history_version old

-- an exchange of lines was made
pub undo_exchange_is_made : DeckSpliceInverseLaw → (at cut : ℕ) (put : List DeckLine) (settings : Settings)
    (undo : Splice)
    (back : Step)
    (old new : DeckContents)
    → new ≡ deck_after_splicing (splice at cut put settings) old
    → undo ≡ inverse_deck_splice (splice at cut put settings) old
    → settings ≡ old.settings
    → back ≡ exchange_step undo.at undo.cut undo.put → at + cut ≤ length old.lines → AreBlocksClosed old.lines
    → pass_store_limit old.lines ≡ false
    → IsMade (exchange_step at cut put) back old new
undo_exchange_is_made law at cut put settings undo back old new is inverse_is same back_is places closed within =
    record {
      made = done;
      can = subst (λ b. CanMakeUndoStep b (history_version new)) (sym back_by)
          (record { splice = can_go_back law s old new done places closed within; step_right = tt });
      again =
          ap (λ b. version_after_undo_step b (history_version new)) back_by
          ∙ equal_history_versions _ old.lines new.settings old.settings (lines_back law s old new done places)
          (ap (λ (d : DeckContents). d.settings) done);
    }
  where
    s : Splice
    s = splice at cut put old.settings

    done : new ≡ deck_after_splicing s old
    done = is ∙ ap (λ (t : Settings). deck_after_splicing (splice at cut put t) old) same

    back_by : back ≡ exchange_step at (length put) (lines_from_deck_place at cut old.lines)
    back_by = back_is ∙ ap (λ (u : Splice). exchange_step u.at u.cut u.put) inverse_is

-- the step back from a line that `define` appended
module _ (text : List ℕ) (bare : trimmed_of_blanks text ≡ text) (covered : Option ℕ) (old new : DeckContents)
    (accepted : deck_after_defining text old ≡ Ok new)
    (place : covered ≡ deck_place_of_defined_key text old) (closed : AreBlocksClosed old.lines)
    (within : pass_store_limit old.lines ≡ false)
  where
    new_is : new ≡ deck_with_line text old
    new_is = redone_definition_is_appended text old new accepted

    lines_are : new.lines ≡ old.lines ++ plain_store_line 0 text ∷ []
    lines_are = ap (λ (d : DeckContents). d.lines) new_is

    one_more : length new.lines ≡ length old.lines + 1
    one_more = omega (arith, ap length lines_are, length-append old.lines (plain_store_line 0 text ∷ []))

    cut : exchanged_store_lines (length new.lines - 1) 1 [] new.lines ≡ old.lines
    cut = undo_cut_leaves_lines_before (length new.lines - 1) 1 old.lines (plain_store_line 0 text ∷ []) new.lines
        lines_are
        (omega (arith, one_more)) (omega (arith, one_more))

    pub can_undefine : CanMakeUndoStep (Undefine covered) (history_version new)
    can_undefine = record {
      splice = undo_lines_can_be_exchanged (length new.lines - 1) 1 [] new.lines old.lines (omega (arith, one_more)) cut
          closed within;
      step_right = record {
        text = text;
        earlier_version = history_version old;
        definition = record {
          bare = bare;
          text_accepted = redone_definition_is_accepted text old.lines old.settings old.notices [] new accepted;
        };
        text_is_last = ap history_version new_is;
        place = place;
      };
    }

    pub undefine_again : version_after_undo_step (Undefine covered) (history_version new) ≡ history_version old
    undefine_again = equal_history_versions _ old.lines new.settings old.settings cut
        (ap (λ (d : DeckContents). d.settings) new_is)

-- lines of kinds that have an entry are definitions or unit lists
redone_entry_kinds : (kind : LineKindWithArguments) → has_entry kind ≡ true
    → (kind ≡ line.Definition) ⊎ (kind ≡ line.UnitList)
redone_entry_kinds line.Definition h = inl refl
redone_entry_kinds line.UnitList h = inr refl
redone_entry_kinds (line.Include n) h = cc
redone_entry_kinds line.UnknownDirective h = cc
redone_entry_kinds line.BadDirective h = cc
redone_entry_kinds (line.Locale l) h = cc
redone_entry_kinds (line.Var v vs) h = cc
redone_entry_kinds (line.VarNot v vs) h = cc
redone_entry_kinds line.Utf8 h = cc
redone_entry_kinds line.EndLocale h = cc
redone_entry_kinds line.EndVar h = cc
redone_entry_kinds line.EndUtf8 h = cc
redone_entry_kinds line.Blank h = cc
redone_entry_kinds (line.Set v x) h = cc
redone_entry_kinds (line.Message t) h = cc
redone_entry_kinds line.Prompt h = cc

-- a line that `define` accepts defines a key
pub redone_definition_has_key : (text : List ℕ) (d e : DeckContents) → deck_after_defining text d ≡ Ok e
    → (p : Key × Entry) × (entry_in_store_line (plain_store_line 0 text) ≡ Some p)
unfolding entry_in_store_line store_line_reading_of
redone_definition_has_key text d e h = by_kind (has_entry (kind_of_line text)) refl h
  where
    by_reading : (kind_of_line text ≡ line.Definition) ⊎ (kind_of_line text ≡ line.UnitList)
        → (r : Result (Key × Entry) EntryFault) → entry_of text ≡ r
        → edit_by_entry r (deck_with_line text d) ≡ Ok e
        → (p : Key × Entry) × (defined_by (store_line_reading_by_kind text (kind_of_line text)) ≡ Some p)
    by_reading k (Err fault) q g = cc
    by_reading (inl k) (Ok p) q g = (
      p,
      ap (λ x. defined_by (store_line_reading_by_kind text x)) k
          ∙ ap (λ r. defined_by (store_line_reading_of_entry r)) q,
    )
    by_reading (inr k) (Ok p) q g = (
      p,
      ap (λ x. defined_by (store_line_reading_by_kind text x)) k
          ∙ ap (λ r. defined_by (store_line_reading_of_entry r)) q,
    )

    by_kind : (b : Bool) → has_entry (kind_of_line text) ≡ b
        → cond b (edit_by_entry (entry_of text) (deck_with_line text d))
        (Err (BadLine BadForm)) ≡ Ok e
        → (p : Key × Entry) × (defined_by (store_line_reading_by_kind text (kind_of_line text)) ≡ Some p)
    by_kind true q g = by_reading (redone_entry_kinds (kind_of_line text) q) (entry_of text) refl g
    by_kind false q g = cc

-- the last line can be removed if `define` appended it
pub last_definition_can_be_undone : (uncovered : Option ℕ) (old : DeckContents) → IsLastRecordedDefinition uncovered
    (history_version old)
    → CanUndefineDeckLine uncovered old
last_definition_can_be_undone uncovered old last =
    let p = redone_definition_has_key last.text (deck_of_history_version last.earlier_version)
    (deck_with_line last.text (deck_of_history_version last.earlier_version))
    last.definition.text_accepted
    in
    record {
      lines_before = last.earlier_version.lines;
      line = plain_store_line 0 last.text;
      key = p.0.0;
      entry = p.0.1;
      lines = ap (λ (v : HistoryVersion). v.lines) last.text_is_last;
      defines = p.1;
      place = last.place
          ∙ ap (option_and_then
          (λ e. last_definition_place last.earlier_version.settings last.earlier_version.lines e.0)) p.1
          ∙ ap (λ (s : Settings). last_definition_place s last.earlier_version.lines p.0.0)
          (sym (ap (λ (v : HistoryVersion). v.settings) last.text_is_last));
    }
