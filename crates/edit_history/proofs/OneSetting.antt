-- Steps that change one setting.
use Rattle.std.proofs.Common.{◌≡◌, [], ℕ, List, false, refl, sym, ap, subst, ◌∙◌, arith, Ok}
use Rattle.std.specs.Prelude.{Result}
use Rattle.deck_lines.specs.ClosedBlocks.{AreBlocksClosed}
use Rattle.deck_lines.specs.Limits.{pass_store_limit}
use Rattle.deck.specs.Decks.{DeckContents}
use Rattle.deck.specs.Edits.{deck_after_switching}
use Rattle.deck.specs.SettingChanges.{settings_with_locale, settings_with_variable, settings_without_last_variable}
use Rattle.deck.specs.Splices.{CanSpliceDeck, deck_after_splicing}
use Rattle.deck.specs.declared.fault.DeckFault.{DeckFault}
use Rattle.deck.specs.declared.settings.Settings.{Settings}
use Rattle.deck.specs.declared.splice.Splice.{Splice}
use Rattle.edit_history.specs.StepEffects.{UndoStepPutsSettings}
use Rattle.edit_history.specs.Steps.{undo_settings_splice, undo_step_splice}
use Rattle.edit_history.specs.Versions.{deck_of_history_version, history_version}
use Rattle.edit_history.specs.declared.step.Step.{Step}
use Rattle.edit_history.specs.declared.step.Step.TheVariants.{Set, UnsetLast, Locale, Nothing}
use Rattle.edit_history.proofs.GoingBack.{IsMade, equal_history_versions}
use Rattle.edit_history.proofs.Noting.{LeadsBack, recorded_deck_is_unique}
use Rattle.edit_history.proofs.Stepping.{undo_lines_can_be_exchanged}

pub undo_step_puts_same_settings : (from to : Settings) → from ≡ to → UndoStepPutsSettings Nothing from to
undo_step_puts_same_settings from to is =
    record { splice = λ v e. ap undo_settings_splice (e ∙ is); step_right = λ v. tt }

-- after a change of settings, a step that puts the previous settings leads back
pub undo_settings_lead_back : (back : Step) (settings : Settings) (before after : DeckContents)
    → ◌≡◌ {A = Result DeckContents DeckFault} (Ok (deck_after_switching settings before)) (Ok after)
    → UndoStepPutsSettings back settings before.settings
    → AreBlocksClosed before.lines → pass_store_limit before.lines ≡ false → LeadsBack back before after
undo_settings_lead_back back settings before after outcome puts closed within = record {
  can = record {
    splice = subst (λ (s : Splice). CanSpliceDeck s (deck_of_history_version (history_version after))) (sym splice)
        (undo_lines_can_be_exchanged 0 0 [] after.lines before.lines (omega arith) lines closed within);
    step_right = puts.step_right (history_version after);
  };
  again =
      ap (λ (s : Splice). history_version (deck_after_splicing s (deck_of_history_version (history_version after))))
      splice
      ∙ equal_history_versions after.lines before.lines before.settings before.settings lines refl;
}
  where
    is : deck_after_switching settings before ≡ after
    is = recorded_deck_is_unique (deck_after_switching settings before) after outcome

    lines : after.lines ≡ before.lines
    lines = sym (ap (λ (d : DeckContents). d.lines) is)

    splice : undo_step_splice back (history_version after) ≡ undo_settings_splice before.settings
    splice = puts.splice (history_version after) (sym (ap (λ (d : DeckContents). d.settings) is))

-- a step that puts these settings in force was made, and there is a step back
pub undo_setting_is_made : (s back : Step) (settings : Settings) (old new : DeckContents)
    → undo_step_splice s (history_version old) ≡ undo_settings_splice settings
    → ◌≡◌ {A = Result DeckContents DeckFault} (Ok (deck_after_switching settings old)) (Ok new)
    → UndoStepPutsSettings back settings old.settings
    → AreBlocksClosed old.lines → pass_store_limit old.lines ≡ false → IsMade s back old new
undo_setting_is_made s back settings old new splice outcome puts closed within =
    let leads = undo_settings_lead_back back settings old new outcome puts closed within in
    record {
      made = sym (recorded_deck_is_unique (deck_after_switching settings old) new outcome)
          ∙ ap (λ (sp : Splice). deck_after_splicing sp old) (sym splice);
      can = leads.can;
      again = leads.again;
    }

-- putting these settings in force in one deck gives the other
abbrev pub Switches : Settings → (old new : DeckContents) → Type 0
Switches settings old new = ◌≡◌ {A = Result DeckContents DeckFault} (Ok (deck_after_switching settings old)) (Ok new)

-- a variable was given a value, with the name and value of a pair
pub undo_variable_is_made : (pair : List ℕ × List ℕ) (back : Step) (seen : Settings) (name value named valued : List ℕ)
    (old new : DeckContents)
    → name ≡ pair.0 → value ≡ pair.1 → named ≡ pair.0 → valued ≡ pair.1 → seen ≡ old.settings
    → UndoStepPutsSettings back (settings_with_variable seen name value) seen
    → Switches (settings_with_variable old.settings named valued) old new
    → AreBlocksClosed old.lines → pass_store_limit old.lines ≡ false → IsMade (Set pair) back old new
undo_variable_is_made pair back seen name value named valued old new is_name is_value is_named is_valued same puts
    outcome
    closed within =
    undo_setting_is_made (Set pair) back (settings_with_variable old.settings pair.0 pair.1) old new refl
    (subst (λ (n : List ℕ). Switches (settings_with_variable old.settings n pair.1) old new) is_named
    (subst (λ (v : List ℕ). Switches (settings_with_variable old.settings named v) old new) is_valued outcome))
    (subst (λ (n : List ℕ). UndoStepPutsSettings back (settings_with_variable old.settings n pair.1) old.settings)
    is_name
    (subst (λ (v : List ℕ). UndoStepPutsSettings back (settings_with_variable old.settings name v) old.settings)
    is_value
    (subst (λ (s : Settings). UndoStepPutsSettings back (settings_with_variable s name value) s) same puts))) closed
    within

-- the last variable was removed
pub undo_removes_last_variable : (back : Step) (seen : Settings) (old new : DeckContents) → seen ≡ old.settings
    → UndoStepPutsSettings back (settings_without_last_variable seen) seen
    → Switches (settings_without_last_variable old.settings) old new
    → AreBlocksClosed old.lines → pass_store_limit old.lines ≡ false → IsMade UnsetLast back old new
undo_removes_last_variable back seen old new same puts outcome closed within =
    undo_setting_is_made UnsetLast back (settings_without_last_variable old.settings) old new refl outcome
    (subst (λ (s : Settings). UndoStepPutsSettings back (settings_without_last_variable s) s) same puts) closed within

-- a locale was put in force, given by its bytes
pub undo_locale_is_made : (locale bytes again : List ℕ) (back : Step) (seen : Settings) (old new : DeckContents)
    → bytes ≡ locale → again ≡ locale → seen ≡ old.settings
    → UndoStepPutsSettings back (settings_with_locale seen bytes) seen
    → Switches (settings_with_locale old.settings again) old new
    → AreBlocksClosed old.lines → pass_store_limit old.lines ≡ false → IsMade (Locale locale) back old new
undo_locale_is_made locale bytes again back seen old new is is_again same puts outcome closed within =
    undo_setting_is_made (Locale locale) back (settings_with_locale old.settings locale) old new refl
    (subst (λ (l : List ℕ). Switches (settings_with_locale old.settings l) old new) is_again outcome)
    (subst (λ (l : List ℕ). UndoStepPutsSettings back (settings_with_locale old.settings l) old.settings) is
    (subst (λ (s : Settings). UndoStepPutsSettings back (settings_with_locale s bytes) s) same puts)) closed within

-- the current locale was put in force again
pub undo_of_same_locale : (locale : List ℕ) (old new : DeckContents) → locale ≡ old.settings.locale
    → Switches (settings_with_locale old.settings locale) old new
    → AreBlocksClosed old.lines → pass_store_limit old.lines ≡ false → IsMade Nothing Nothing old new
undo_of_same_locale locale old new here outcome closed within =
    undo_setting_is_made Nothing Nothing old.settings old new refl
    (subst (λ (l : List ℕ). Switches (settings_with_locale old.settings l) old new) here outcome)
    (undo_step_puts_same_settings old.settings old.settings refl) closed within
