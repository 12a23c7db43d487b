-- Lines give the keys, the entries and the faults with which they are written.
use Rattle.std.proofs.Common.{◌≡◌, inl, inr, ◌∷◌, [], ℕ, List, true, false, not}
use Rattle.std.proofs.Common.{Result, Ok, Err, refl, sym, ap, ◌∙◌, subst}
use Rattle.std.proofs.lemmas.Bool.{and_parts}
use Rattle.units_io.specs.Blanks.{is_blank_text_byte}
use Rattle.units_io.specs.Outcomes.{◌>>=◌}
use Rattle.def_lines.specs.Blanks.{trimmed_of_blanks}
use Rattle.def_lines.proofs.TrimmedTexts.{before_blanks-word, trimmed-begins_without_blank}
use Rattle.expr_tree.specs.declared.fault.ParseFault.{ParseFault}
use Rattle.def_entry.specs.declared.fault.EntryFault.{EntryFault}
use Rattle.def_entry.specs.declared.fault.EntryFault.TheVariants.{BadForm, BadName, BadTable, Parse, OutOfMemory}
use Rattle.def_entry.specs.declared.key.Key.{Key}
use Rattle.def_entry.specs.declared.key.Kind.TheVariants as kind
use Rattle.def_entry.specs.Entries.{Entry, What}
use Rattle.def_entry.specs.EntryGrammar.{EntryLaw, HasEntryFault, HasHeadingNames, HasPointPairs}
use Rattle.def_entry.specs.EntryGrammar.{IsEntry, IsEntryDefinitionOf, IsHeadingFault, OneEntryLaw, entry_expressions}
use Rattle.def_entry.specs.FormGrammar.{IsEntrySpelledAs, WrittenEntryForm}
use Rattle.def_entry.specs.HeadingGrammar.{HasWrittenHeading, UnitHeading, PrefixHeading, FuncHeading, ListHeading}
use Rattle.def_entry.specs.HeadingGrammar.{WrittenHeading, heading_of, is_heading}
use Rattle.def_entry.specs.Headings.{Heading, begins_with_entry_bracket, heading_of_line}
use Rattle.def_entry.specs.Keys.{key}
use Rattle.def_entry.specs.EntryReading.{entry_by_heading, entry_of, what_of}
use Rattle.def_entry.proofs.Meanings.{FormPoints, Has, HasNone, entry_form-point_pairs, meaning, ok-entry-definition}
use Rattle.def_entry.proofs.Meanings.{runs-entry-form, entry-definition-ok}
use Rattle.def_entry.proofs.Runs.{Faulty, no-entry-expression-fault, one-entry-expression-fault}
use Rattle.def_entry.proofs.WrittenHeadings.{bracketed_heading_text_not_apart, heading-written, headings}
use Rattle.def_entry.proofs.WrittenNames.{NamesOf, Names, NoName, BadNameOf, bad-heading-name, heading-lacks-name}
use Rattle.def_entry.proofs.WrittenNames.{names-of-heading, entry-definition-named}
use Rattle.def_entry.proofs.ReadForms.{FormOf, InForm, NoForm, entry-form-of, written-entry-definition}
use Rattle.general_lemmas.proofs.Results.{err-ok, same_Err}

-- the text of a function starts with a bracket

-- a text that starts with a bracket still does when it is trimmed
bracketed-entry-trimmed : (text : List ℕ) → begins_with_entry_bracket text ≡ true
    → begins_with_entry_bracket (trimmed_of_blanks text) ≡ true
bracketed-entry-trimmed [] opened = cc
bracketed-entry-trimmed (b ∷ text) opened =
    let word : is_blank_text_byte b ≡ false = (bracketed_heading_text_not_apart (b ∷ text) opened).0 in
    ap begins_with_entry_bracket (trimmed-begins_without_blank (b ∷ text) (ap not word)
    ∙ before_blanks-word b text word) ∙ opened

-- the text in the heading of a function starts with a bracket
bracketed-heading : (w : WrittenHeading) → is_heading w ≡ true → (heading_of w).kind ≡ kind.Func
    → begins_with_entry_bracket (heading_of w).text ≡ true
bracketed-heading (UnitHeading l name behind) whole e = cc
bracketed-heading (PrefixHeading l name behind) whole e = cc
bracketed-heading (FuncHeading l name behind) whole e = bracketed-entry-trimmed behind
    (and_parts _ (begins_with_entry_bracket behind) whole).1
bracketed-heading (ListHeading before between name behind) whole e = cc

-- the text of a line with the heading of a function starts with a bracket
bracketed-heading-of-line : (line : List ℕ) (h : Heading) → HasWrittenHeading line h → h.kind ≡ kind.Func
    → begins_with_entry_bracket h.text ≡ true
bracketed-heading-of-line line h is =
    subst (λ (g : Heading). g.kind ≡ kind.Func → begins_with_entry_bracket g.text ≡ true) (sym is.reads_as_heading)
    (bracketed-heading is.written_heading is.well_formed)

-- a line has the heading with which it is written
written-heading-is : (line : List ℕ) (h : Heading) → HasWrittenHeading line h → heading_of_line line ≡ h
written-heading-is line h is = ap heading_of_line is.spelled_line ∙ heading-written is.written_heading is.well_formed
    ∙ sym is.reads_as_heading

-- the result for a heading

-- a form is never read as a bad form
entry-form-is-never-bad : (name : List ℕ) (form : WrittenEntryForm) → meaning name form ≡ Err BadForm → ⊥
entry-form-is-never-bad name form e = go (entry_form-point_pairs name form)
  where
    table : ◌≡◌ {A = EntryFault} BadTable BadForm → ⊥
    table e = cc

    parse : (x : ParseFault) → ◌≡◌ {A = EntryFault} BadForm (Parse x) → ⊥
    parse x e = cc

    go : FormPoints name form → ⊥
    go (HasNone never f) = table (same_Err BadTable BadForm (sym f ∙ e))
    go (Has has) = let faulty : Faulty (entry_expressions name form) BadForm =
        (runs-entry-form name form has).err BadForm e in parse faulty.of faulty.is

-- if all names are valid, a form that is written is read
entry-definition-written : (h : Heading) (form : WrittenEntryForm) → HasHeadingNames h
    → IsEntrySpelledAs h.kind h.text form
    → what_of h ≡ meaning h.name form
entry-definition-written h form good is = entry-definition-named h good.own_name
    ∙ written-entry-definition h.kind h.name h.text form good.further_names is

-- the result of reading a heading: its definition, or its first fault
pub data ReadOf (h : Heading) : Type 0 where
  Gives : HasHeadingNames h → (form : WrittenEntryForm) → IsEntrySpelledAs h.kind h.text form → (what : What)
      → IsEntryDefinitionOf h.name form what
      → what_of h ≡ Ok what
      → ReadOf h
  Fails : (x : EntryFault) → IsHeadingFault h x → what_of h ≡ Err x → ReadOf h

-- each heading has such a result
heading-is-read : (h : Heading) → (h.kind ≡ kind.Func → begins_with_entry_bracket h.text ≡ true) → ReadOf h
heading-is-read h opened = by_names (names-of-heading h)
  where
    by_meaning : HasHeadingNames h → (form : WrittenEntryForm) → IsEntrySpelledAs h.kind h.text form
        → HasPointPairs form
        → (given : Result What EntryFault)
        → meaning h.name form ≡ given → ReadOf h
    by_meaning good form is has (Ok what) e =
        Gives good form is what (entry-definition-ok h.name form what e) (entry-definition-written h form good is ∙ e)
    by_meaning good form is has (Err x) e =
        let faulty : Faulty (entry_expressions h.name form) x = (runs-entry-form h.name form has).err x e in
        Fails (Parse faulty.of) (good, (form, is, has, faulty.first))
        (entry-definition-written h form good is ∙ e ∙ ap Err faulty.is)

    by_points : HasHeadingNames h → (form : WrittenEntryForm) → IsEntrySpelledAs h.kind h.text form
        → FormPoints h.name form → ReadOf h
    by_points good form is (HasNone never e) =
        Fails BadTable (good, (form, is, never)) (entry-definition-written h form good is ∙ e)
    by_points good form is (Has has) = by_meaning good form is has (meaning h.name form) refl

    by_form : HasHeadingNames h → FormOf h.kind h.name h.text → ReadOf h
    by_form good (NoForm e) =
        Fails BadForm
        (inr (
          good,
          λ form is. entry-form-is-never-bad h.name form
              (sym (written-entry-definition h.kind h.name h.text form good.further_names is) ∙ e),
        ))
        (entry-definition-named h good.own_name ∙ e)
    by_form good (InForm form is) = by_points good form is (entry_form-point_pairs h.name form)

    by_names : NamesOf h → ReadOf h
    by_names (NoName is) = Fails BadForm (inl is) (heading-lacks-name h is)
    by_names (BadNameOf w is) = Fails (BadName w) is (bad-heading-name h w is)
    by_names (Names good) = by_form good (entry-form-of h.kind h.name h.text opened good.further_names)

-- the first fault of a heading is the result of reading it
heading-fault-at : (h : Heading) (x : EntryFault) → (h.kind ≡ kind.Func → begins_with_entry_bracket h.text ≡ true)
    → IsHeadingFault h x
    → what_of h ≡ Err x
heading-fault-at h (BadName w) opened is = bad-heading-name h w is
heading-fault-at h BadForm opened (inl is) = heading-lacks-name h is
heading-fault-at h BadForm opened (inr is) = go (entry-form-of h.kind h.name h.text opened is.0.further_names)
  where
    go : FormOf h.kind h.name h.text → what_of h ≡ Err BadForm
    go (InForm form written) = absurd (is.1 form written)
    go (NoForm e) = entry-definition-named h is.0.own_name ∙ e
heading-fault-at h BadTable opened is = entry-definition-written h is.1.0 is.0 is.1.1
    ∙ go (entry_form-point_pairs h.name is.1.0)
  where
    go : FormPoints h.name is.1.0 → meaning h.name is.1.0 ≡ Err BadTable
    go (Has has) = absurd (is.1.2 has)
    go (HasNone never e) = e
heading-fault-at h (Parse x) opened is = entry-definition-written h is.1.0 is.0 is.1.1 ∙ go (meaning h.name is.1.0) refl
  where
    go : (given : Result What EntryFault) → meaning h.name is.1.0 ≡ given → given ≡ Err (Parse x)
    go (Ok what) e =
        absurd (no-entry-expression-fault (entry_expressions h.name is.1.0) x
        ((runs-entry-form h.name is.1.0 is.1.2).ok what e) is.1.3)
    go (Err y) e =
        let faulty : Faulty (entry_expressions h.name is.1.0) y = (runs-entry-form h.name is.1.0 is.1.2).err y e in
        ap Err (faulty.is ∙ ap Parse
        (one-entry-expression-fault (entry_expressions h.name is.1.0) faulty.of x faulty.first is.1.3))
heading-fault-at h OutOfMemory opened is = absurd is

-- the result for a line

-- the key and the entry of a heading with this meaning
abbrev entry_with : Heading → What → Result (Key × Entry) EntryFault
entry_with h what = Ok (key h.kind h.name, record { text = h.text; what = what })

-- equal results have the same key and the same entry
same_key_and_entry : (k l : Key) (e f : Entry) → ◌≡◌ {A = Result (Key × Entry) EntryFault} (Ok (k, e)) (Ok (l, f))
    → (k ≡ l) × (e ≡ f)
same_key_and_entry k l e f is = (ap key_of_pair is, ap entry_of_pair is)
  where
    key_of_pair : Result (Key × Entry) EntryFault → Key
    key_of_pair (Ok p) = p.0
    key_of_pair (Err x) = k

    entry_of_pair : Result (Key × Entry) EntryFault → Entry
    entry_of_pair (Ok p) = p.1
    entry_of_pair (Err x) = e

-- a line gives the entry with which it is written
entry-at : (line : List ℕ) (k : Key) (e : Entry) → IsEntry line k e → entry_of line ≡ Ok (k, e)
entry-at line k e is =
    let h : Heading = is.heading in
    ap entry_by_heading (written-heading-is line is.heading is.line_has_heading)
    ∙ ap (λ w. w >>= entry_with is.heading)
    (entry-definition-written is.heading is.form is.names is.spelled_form
    ∙ ok-entry-definition is.heading.name is.form e.what is.form_defines)
    ∙ (λ i. Ok (sym is.key_is i, record { text = sym is.text_of_heading i; what = e.what }))

-- a line gives its first fault
entry-fault-of-line : (line : List ℕ) (x : EntryFault) → HasEntryFault line x → entry_of line ≡ Err x
entry-fault-of-line line x is =
    ap entry_by_heading (written-heading-is line is.heading is.line_has_heading)
    ∙ ap (λ w. w >>= entry_with is.heading)
    (heading-fault-at is.heading x (bracketed-heading-of-line line is.heading is.line_has_heading) is.fault_of_heading)

-- the law of entries
pub entries_are_as_written : EntryLaw
entries_are_as_written line entry = (λ k e. (to k e, entry-at line k e), λ x. (fault_to x, entry-fault-of-line line x))
  where
    headed : HasWrittenHeading line (heading_of_line line)
    headed = (headings line (heading_of_line line) entry).0 refl

    to : (k : Key) (e : Entry) → entry_of line ≡ Ok (k, e) → IsEntry line k e
    to k e given = go (heading-is-read (heading_of_line line)
        (bracketed-heading-of-line line (heading_of_line line) headed))
      where
        go : ReadOf (heading_of_line line) → IsEntry line k e
        go (Fails x is f) = absurd (err-ok x (k, e) (sym (ap (λ w. w >>= entry_with (heading_of_line line)) f) ∙ given))
        go (Gives good form is what says f) =
            let same : (key (heading_of_line line).kind (heading_of_line line).name ≡ k)
            × (record { text = (heading_of_line line).text; what = what } ≡ e) =
            same_key_and_entry (key (heading_of_line line).kind (heading_of_line line).name) k
            (record { text = (heading_of_line line).text; what = what }) e
            (sym (ap (λ w. w >>= entry_with (heading_of_line line)) f) ∙ given) in
            record {
              heading = heading_of_line line;
              line_has_heading = headed;
              key_is = sym same.0;
              text_of_heading = sym (ap (λ (x : Entry). x.text) same.1);
              names = good;
              form = form;
              spelled_form = is;
              form_defines = subst (IsEntryDefinitionOf (heading_of_line line).name form)
                  (ap (λ (x : Entry). x.what) same.1)
                  says;
            }

    fault_to : (x : EntryFault) → entry_of line ≡ Err x → HasEntryFault line x
    fault_to x given = go
        (heading-is-read (heading_of_line line) (bracketed-heading-of-line line (heading_of_line line) headed))
      where
        go : ReadOf (heading_of_line line) → HasEntryFault line x
        go (Gives good form is what says f) =
            absurd (err-ok x (
              key (heading_of_line line).kind (heading_of_line line).name,
              record { text = (heading_of_line line).text; what = what },
            ) (sym given ∙ ap (λ w. w >>= entry_with (heading_of_line line)) f))
        go (Fails y is f) =
            let same : y ≡ x = same_Err y x (sym (ap (λ w. w >>= entry_with (heading_of_line line)) f) ∙ given) in
            record {
              heading = heading_of_line line;
              line_has_heading = headed;
              fault_of_heading = subst (IsHeadingFault (heading_of_line line)) same is;
            }

-- the law of one entry
pub one_entry : OneEntryLaw
one_entry = record {
  entries = λ line k l e f is other. same_key_and_entry k l e f (sym (entry-at line k e is) ∙ entry-at line l f other);
  faults = λ line x y is other. same_Err x y (sym (entry-fault-of-line line x is) ∙ entry-fault-of-line line y other);
  entry_or_fault = λ line k e x is other.
      err-ok x (k, e) (sym (entry-fault-of-line line x other) ∙ entry-at line k e is);
}
