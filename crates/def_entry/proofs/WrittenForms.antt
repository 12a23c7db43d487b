-- The forms of lines are read the way they are written.
use Rattle.std.proofs.Common.{◌≡◌, ◌≢◌, inl, inr, ◌==◌, ◌&&◌, ◌∷◌, [], ◌++◌, ◌-◌, ℕ, List, Bool, true, false, not, cond}
use Rattle.std.proofs.Common.{length, take, codes, map, Option, Some, None, refl, sym, ap, ◌∙◌, subst}
use Rattle.std.specs.List.{ends_with, join_with_byte, list_all, onto_first, slice_split}
use Rattle.std.specs.Prelude.{nat_eq}
use Rattle.std.proofs.lemmas.Bool.{and_parts}
use Rattle.std.proofs.lemmas.Bool.Decides.{Decides-eqb}
use Rattle.std.proofs.lemmas.Slice.Eq.{ends_is}
use Rattle.std.proofs.lemmas.List.Splits.{join_with_byte-slice_split, slice_split-cons_no, slice_split-cons_yes}
use Rattle.def_lines.specs.Blanks.{trimmed_of_blanks}
use Rattle.def_entry.specs.declared.key.Kind.TheVariants as kind
use Rattle.def_entry.specs.Cuts.{cut_at, entry_text_lacks}
use Rattle.def_entry.specs.FormGrammar.{AreBodies, AreListEntryParts, IsAliasTarget, IsBracketedEntryText}
use Rattle.def_entry.specs.Forms.{Form, form_of, form_of_bodies, some_text}
use Rattle.def_entry.specs.OptionGrammar.{AreOptions}
use Rattle.def_entry.specs.Options.{Options, options_at}
use Rattle.def_entry.specs.EntryReading.{is_entry_semicolon, without_call}
use Rattle.def_entry.specs.Steps.{◌>>=◌}
use Rattle.def_entry.proofs.CutParts.{entry_parts-none, entry_parts-some}
use Rattle.def_entry.proofs.CutTexts.{entry_cut-at, entry_cut-is, entry_cut-lacks, entry_cut-none}
use Rattle.def_entry.proofs.KeyTexts.{spelling_contains_name}
use Rattle.def_entry.proofs.OptionRuns.{options_read}
use Rattle.def_entry.proofs.WrittenIntervals.{option_bind_some}

-- a text that is not empty is present
pub some-entry-text : (text bare : List ℕ) → text ≡ bare → bare ≢ [] → some_text text ≡ Some bare
some-entry-text [] bare e some = absurd (some (sym e))
some-entry-text (b ∷ text) bare e some = ap Some e

-- a text that is present is not empty
pub entry-text-some : (text bare : List ℕ) → some_text text ≡ Some bare → (text ≡ bare) × (bare ≢ [])
entry-text-some [] bare e = cc
entry-text-some (b ∷ text) bare e = let same : b ∷ text ≡ bare = cc in (same, λ none. cons_some b text (same ∙ none))
  where
    cons_some : (c : ℕ) (t : List ℕ) → c ∷ t ≡ [] → ⊥
    cons_some c t e = cc

-- a text that is cut at the closing bracket is written in brackets
pub entry_brackets : (open_byte close_byte b : ℕ) (inner inside behind : List ℕ) → b ≡ open_byte
    → cut_at close_byte inner ≡ Some (inside, behind)
    → IsBracketedEntryText open_byte close_byte (b ∷ inner) inside behind
entry_brackets open_byte close_byte b inner inside behind e cut =
    let is : (inner ≡ inside ++ (close_byte ∷ behind)) × (entry_text_lacks close_byte inside ≡ true) =
    entry_cut-is close_byte inner inside behind cut in
    record { text_in_brackets = (λ i. e i ∷ is.0 i); clear = is.1 }

-- the target of an alias

-- the target of an alias is read without a final call
pub alias-target-at : (text target : List ℕ) → IsAliasTarget text target → without_call text ≡ target
alias-target-at text target (inl e) =
    let ends : ends_with nat_eq text (codes "()") ≡ true =
    (ends_is Decides-eqb text (codes "()") (ends_with nat_eq text (codes "()")) refl).1 target e in
    ap (λ t. cond t (take (length text - 2) text) text) ends
    ∙ ap (λ t. take (length t - 2) t) e
    ∙ spelling_contains_name kind.Func target
alias-target-at text target (inr e) = ap (λ t. cond t (take (length text - 2) text) text) e.1 ∙ e.0

-- the text of an alias without a final call is its target
pub alias-target-is : (text : List ℕ) → IsAliasTarget text (without_call text)
alias-target-is text = go (ends_with nat_eq text (codes "()")) refl
  where
    go : (t : Bool) → ends_with nat_eq text (codes "()") ≡ t → IsAliasTarget text (without_call text)
    go true e =
        let with_call : without_call text ≡ take (length text - 2) text =
        ap (λ t. cond t (take (length text - 2) text) text) e in
        inl ((ends_is Decides-eqb text (codes "()") (ends_with nat_eq text (codes "()")) refl).0 e
        ∙ ap (λ t. t ++ codes "()") (sym with_call))
    go false e =
        let with_none : without_call text ≡ text = ap (λ t. cond t (take (length text - 2) text) text) e in
        inr (sym with_none, e)

-- bodies

-- a form, given its parts
abbrev form_by : Options → List ℕ → Option (List ℕ) → Form
form_by o forward inverse = record { options = o; forward = forward; inverse = inverse }

-- bodies are read the way they are written
bodies-at : (o : Options) (text forward : List ℕ) (inverse : Option (List ℕ)) → AreBodies text forward inverse
    → form_of_bodies o (cut_at 59 text) text ≡ Some (form_by o forward inverse)
bodies-at o text forward None is =
    ap (λ c. form_of_bodies o c text) (entry_cut-lacks 59 text is.1)
    ∙ (λ i. some-entry-text (trimmed_of_blanks text) forward is.0.0 is.0.1 i >>= (λ f. Some (form_by o f None)))
bodies-at o text forward (Some inverse) is =
    let front : List ℕ = is.0 in
    let behind : List ℕ = is.1 in
    ap (λ c. form_of_bodies o c text) (ap (cut_at 59) is.2 ∙ entry_cut-at 59 front behind is.3)
    ∙ (λ i. some-entry-text (trimmed_of_blanks front) forward is.4.0 is.4.1 i
    >>= (λ f. some_text (trimmed_of_blanks behind) >>= (λ v. Some (form_by o f (Some v)))))
    ∙ (λ i. some-entry-text (trimmed_of_blanks behind) inverse is.5.0 is.5.1 i >>=
    (λ v. Some (form_by o forward (Some v))))

-- the bodies of a form that is read
record Bodied (o : Options) (text : List ℕ) (form : Form) : Type 0 where
  options : form.options ≡ o
  bodies : AreBodies text form.forward form.inverse

-- bodies that are read are written that way
bodies-is : (o : Options) (text : List ℕ) (form : Form) → form_of_bodies o (cut_at 59 text) text ≡ Some form
    → Bodied o text form
bodies-is o text form e = go (cut_at 59 text) refl e
  where
    some_is : (x y : Form) → Some x ≡ Some y → x ≡ y
    some_is x y e = cc

    one : (forward : List ℕ) → cut_at 59 text ≡ None → some_text (trimmed_of_blanks text) ≡ Some forward
        → Bodied o text (form_by o forward None)
    one forward cut is = record {
      options = refl;
      bodies =
          (entry-text-some (trimmed_of_blanks text) forward is, entry_cut-none 59 text cut);
    }

    two : (front behind forward inverse : List ℕ) → cut_at 59 text ≡ Some (front, behind)
        → some_text (trimmed_of_blanks front) ≡ Some forward
        → some_text (trimmed_of_blanks behind) ≡ Some inverse
        → Bodied o text (form_by o forward (Some inverse))
    two front behind forward inverse cut first second =
        let is : (text ≡ front ++ (59 ∷ behind)) × (entry_text_lacks 59 front ≡ true) =
        entry_cut-is 59 text front behind cut in
        record {
          options = refl;
          bodies = (
            front,
            behind,
            is.0,
            is.1,
            entry-text-some (trimmed_of_blanks front) forward first,
            entry-text-some (trimmed_of_blanks behind) inverse second,
          );
        }

    go : (found : Option (List ℕ × List ℕ)) → cut_at 59 text ≡ found → form_of_bodies o found text ≡ Some form
        → Bodied o text form
    go None cut e =
        let step = option_bind_some (some_text (trimmed_of_blanks text)) (λ f. Some (form_by o f None)) form e in
        subst (Bodied o text) (some_is (form_by o step.0 None) form step.2) (one step.0 cut step.1)
    go (Some parts) cut e =
        let step = option_bind_some (some_text (trimmed_of_blanks parts.0))
        (λ f. some_text (trimmed_of_blanks parts.1) >>= (λ v. Some (form_by o f (Some v)))) form e in
        let last = option_bind_some (some_text (trimmed_of_blanks parts.1)) (λ v. Some (form_by o step.0 (Some v))) form
        step.2 in
        subst (Bodied o text) (some_is (form_by o step.0 (Some last.0)) form last.2)
        (two parts.0 parts.1 step.0 last.0 cut step.1 last.1)

-- the form of a function is read the way it is written
pub entry-form-at : (behind bodies : List ℕ) (form : Form) → AreOptions behind bodies form.options
    → AreBodies bodies form.forward form.inverse
    → form_of behind ≡ Some form
unfolding form_of
entry-form-at behind bodies form options are =
    (λ i. (options_read behind bodies form.options).1 options i
    >>= (λ found. form_of_bodies found.0 (cut_at 59 found.1) found.1))
    ∙ bodies-at form.options bodies form.forward form.inverse are

-- the options and the bodies of a form
pub record Formed (behind : List ℕ) (form : Form) : Type 0 where
  pub bodies : List ℕ
  pub options_are : AreOptions behind bodies form.options
  pub bodies_are : AreBodies bodies form.forward form.inverse

-- a form that is read is written that way
pub entry-form-is : (behind : List ℕ) (form : Form) → form_of behind ≡ Some form → Formed behind form
unfolding form_of
entry-form-is behind form e =
    let step = option_bind_some (options_at behind) (λ found. form_of_bodies found.0 (cut_at 59 found.1) found.1) form e
    in
    done step.0.0 step.0.1 step.1 (bodies-is step.0.0 step.0.1 form step.2)
  where
    done : (o : Options) (bodies : List ℕ) → options_at behind ≡ Some (o, bodies) → Bodied o bodies form
        → Formed behind form
    done o bodies found is = record {
      bodies = bodies;
      options_are = subst (AreOptions behind bodies) (sym is.options) ((options_read behind bodies o).0 found);
      bodies_are = is.bodies;
    }

-- parts

-- pieces without a `;` are the texts between the `;`
list-entry-pieces-at : (piece : List ℕ) (pieces : List (List ℕ))
    → list_all (entry_text_lacks 59) (piece ∷ pieces) ≡ true
    → slice_split is_entry_semicolon (join_with_byte 59 (piece ∷ pieces)) ≡ piece ∷ pieces
list-entry-pieces-at piece [] clear = entry_parts-none 59 piece
    (entry_cut-lacks 59 piece (and_parts (entry_text_lacks 59 piece) true clear).0)
list-entry-pieces-at piece (next ∷ pieces) clear =
    let parts : (entry_text_lacks 59 piece ≡ true) × (list_all (entry_text_lacks 59) (next ∷ pieces) ≡ true) =
    and_parts (entry_text_lacks 59 piece) (list_all (entry_text_lacks 59) (next ∷ pieces)) clear in
    entry_parts-some 59 (piece ++ (59 ∷ join_with_byte 59 (next ∷ pieces))) piece (join_with_byte 59 (next ∷ pieces))
    (entry_cut-at 59 piece (join_with_byte 59 (next ∷ pieces)) parts.0)
    ∙ ap (λ ps. piece ∷ ps) (list-entry-pieces-at next pieces parts.1)

-- parts are read the way they are written
pub list-entry-parts-at : (text : List ℕ) (parts : List (List ℕ)) → AreListEntryParts text parts
    → parts ≡ map trimmed_of_blanks (slice_split is_entry_semicolon text)
list-entry-parts-at text parts is = is.parts_are ∙ go is.pieces is.join_of_pieces is.clear
  where
    go : (pieces : List (List ℕ)) → text ≡ join_with_byte 59 pieces → list_all (entry_text_lacks 59) pieces ≡ true
        → map trimmed_of_blanks pieces ≡ map trimmed_of_blanks (slice_split is_entry_semicolon text)
    go [] joined clear = absurd (is.text_not_empty joined)
    go (piece ∷ pieces) joined clear =
        ap (map trimmed_of_blanks)
        (sym (ap (slice_split is_entry_semicolon) joined ∙ list-entry-pieces-at piece pieces clear))

-- the pieces do not contain the byte that separates them
list-entry-split-clear : (text : List ℕ) → list_all (entry_text_lacks 59) (slice_split is_entry_semicolon text) ≡ true
list-entry-split-clear [] = refl
list-entry-split-clear (b ∷ text) = go (b == 59) refl (slice_split is_entry_semicolon text) refl
    (list-entry-split-clear text)
  where
    first_clear : (t : Bool) → t ≡ true → (t && true && true) ≡ true
    first_clear true e = refl
    first_clear false e = cc

    go : (t : Bool) → (b == 59) ≡ t → (pieces : List (List ℕ)) → slice_split is_entry_semicolon text ≡ pieces
        → list_all (entry_text_lacks 59) (slice_split is_entry_semicolon text) ≡ true
        → list_all (entry_text_lacks 59) (slice_split is_entry_semicolon (b ∷ text)) ≡ true
    go true e pieces f rest = ap (list_all (entry_text_lacks 59)) (slice_split-cons_yes is_entry_semicolon b text e)
        ∙ rest
    go false e [] f rest = ap (list_all (entry_text_lacks 59))
        (slice_split-cons_no is_entry_semicolon b text e ∙ ap (onto_first b) f)
        ∙ first_clear (not (b == 59)) (ap not e)
    go false e (piece ∷ pieces) f rest =
        ap (list_all (entry_text_lacks 59)) (slice_split-cons_no is_entry_semicolon b text e ∙ ap (onto_first b) f)
        ∙ (λ i. (not (e i) && entry_text_lacks 59 piece) && list_all (entry_text_lacks 59) pieces)
        ∙ (ap (list_all (entry_text_lacks 59)) (sym f) ∙ rest)

-- parts that are read are written that way
pub list-entry-parts-is : (text : List ℕ) → text ≢ []
    → AreListEntryParts text (map trimmed_of_blanks (slice_split is_entry_semicolon text))
list-entry-parts-is text some = record {
  pieces = slice_split is_entry_semicolon text;
  join_of_pieces = sym (join_with_byte-slice_split 59 text);
  clear = list-entry-split-clear text;
  parts_are = refl;
  text_not_empty = some;
}
