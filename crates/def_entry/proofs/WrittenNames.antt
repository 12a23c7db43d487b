-- The names of lines, and the first of them that is not valid.
use Rattle.std.proofs.Common.{◌≡◌, ◌≢◌, ◌==◌, ◌∷◌, [], ℕ, List, Bool, true, false, cond, Option, Some, None, Result, Ok}
use Rattle.std.proofs.Common.{Err, refl, sym, ap, ◌∙◌, subst, true≢false}
use Rattle.std.proofs.lemmas.Bool.{eqb-true}
use Rattle.units_io.specs.Outcomes.{◌>>=◌}
use Rattle.def_lines.specs.Blanks.{trimmed_of_blanks}
use Rattle.expr_tree.specs.Names.{is_name}
use Rattle.def_entry.specs.declared.fault.EntryFault.{EntryFault}
use Rattle.def_entry.specs.declared.fault.EntryFault.TheVariants.{BadForm, BadName}
use Rattle.def_entry.specs.declared.key.Kind.{Kind}
use Rattle.def_entry.specs.declared.key.Kind.TheVariants as kind
use Rattle.def_entry.specs.Cuts.{cut_at}
use Rattle.def_entry.specs.Entries.{What, Alias}
use Rattle.def_entry.specs.EntryGrammar.{HasBadHeadingName, OwnName, FurtherName, HasFurtherEntryName}
use Rattle.def_entry.specs.EntryGrammar.{HasInnerEntryName, Parameter, Target, HasHeadingNames, IsHeadingWithoutName}
use Rattle.def_entry.specs.FormGrammar.{IsAliasTarget, IsBracketedEntryText}
use Rattle.def_entry.specs.Forms.{form_of, some_text}
use Rattle.def_entry.specs.Headings.{Heading}
use Rattle.def_entry.specs.Outcomes.{name_or_entry_fault, or_entry_fault}
use Rattle.def_entry.specs.EntryReading.{entry_definition_in, function_of, function_or_alias_in}
use Rattle.def_entry.specs.EntryReading.{function_or_table_entry_in, heading_name_in, parted_function_or_alias}
use Rattle.def_entry.specs.EntryReading.{parted_table_entry, what_of, without_call}
use Rattle.def_entry.proofs.CutTexts.{entry_cut-at}
use Rattle.def_entry.proofs.WrittenForms.{alias-target-at, alias-target-is, entry-text-some, entry_brackets}
use Rattle.def_entry.proofs.WrittenForms.{some-entry-text}

-- the name in the text of a function, as it is read

-- the name in the parentheses of a function, or the target of an alias after them
abbrev call_name : List ℕ → List ℕ → Option (List ℕ)
call_name [] behind = some_text (without_call (trimmed_of_blanks behind))
call_name (b ∷ parameter) behind = Some (b ∷ parameter)

-- the further name of a text, given the parts before and after its closing parenthesis
abbrev inner_of : Option (List ℕ × List ℕ) → Option (List ℕ)
inner_of None = None
inner_of (Some parts) = call_name (trimmed_of_blanks parts.0) parts.1

-- the further name of a text
abbrev inner_name : List ℕ → Option (List ℕ)
inner_name [] = None
inner_name (b ∷ text) = cond (b == 40) (inner_of (cut_at 41 text)) None

-- a further name that is written is read
inner-entry-name-at : (text w : List ℕ) → HasInnerEntryName text w → inner_name text ≡ Some w
inner-entry-name-at text w (Parameter inside behind is bare) =
    ap inner_name is.text_in_brackets ∙ ap inner_of (entry_cut-at 41 inside behind is.clear)
    ∙ go (trimmed_of_blanks inside) bare.0
  where
    go : (parameter : List ℕ) → parameter ≡ w → call_name parameter behind ≡ Some w
    go [] e = absurd (bare.1 (sym e))
    go (b ∷ parameter) e = ap Some e
inner-entry-name-at text w (Target is) =
    ap inner_name is.has_brackets.text_in_brackets
    ∙ ap inner_of (entry_cut-at 41 is.bracket_text is.text_after is.has_brackets.clear)
    ∙ ap (λ p. call_name p is.text_after) is.blank_brackets
    ∙ some-entry-text (without_call (trimmed_of_blanks is.text_after)) w
    (alias-target-at (trimmed_of_blanks is.text_after) w is.target_is)
    is.target_not_empty

-- a further name that is read is written
inner-entry-name-is : (text w : List ℕ) → inner_name text ≡ Some w → HasInnerEntryName text w
inner-entry-name-is [] w e = cc
inner-entry-name-is (b ∷ text) w e = go (b == 40) refl (cut_at 41 text) refl e
  where
    inner : (inside behind parameter : List ℕ) → IsBracketedEntryText 40 41 (b ∷ text) inside behind
        → trimmed_of_blanks inside ≡ parameter
        → call_name parameter behind ≡ Some w
        → HasInnerEntryName (b ∷ text) w
    inner inside behind [] is bare e =
        let some : (without_call (trimmed_of_blanks behind) ≡ w) × (w ≢ []) =
        entry-text-some (without_call (trimmed_of_blanks behind)) w e in
        Target (record {
          bracket_text = inside;
          text_after = behind;
          has_brackets = is;
          blank_brackets = bare;
          target_is = subst (IsAliasTarget (trimmed_of_blanks behind)) some.0
              (alias-target-is (trimmed_of_blanks behind));
          target_not_empty = some.1;
        })
    inner inside behind (c ∷ parameter) is bare e =
        let some : (c ∷ parameter ≡ w) × (w ≢ []) = entry-text-some (c ∷ parameter) w e in
        Parameter inside behind is (bare ∙ some.0, some.1)

    go : (s : Bool) → (b == 40) ≡ s → (found : Option (List ℕ × List ℕ)) → cut_at 41 text ≡ found
        → cond s (inner_of found) None ≡ Some w
        → HasInnerEntryName (b ∷ text) w
    go false f found cut e = cc
    go true f None cut e = cc
    go true f (Some parts) cut e =
        inner parts.0 parts.1 (trimmed_of_blanks parts.0)
        (entry_brackets 40 41 b text parts.0 parts.1 (eqb-true b 40 f) cut) refl e

-- a bad name is the fault

-- a bad name is rejected before anything after it
bad_heading_name_is_refused : (w : List ℕ) (go : List ℕ → Result What EntryFault) → is_name w ≡ false
    → (name_or_entry_fault w >>= go) ≡ Err (BadName w)
bad_heading_name_is_refused w go not_one = ap (λ t. cond t (Ok w) (Err (BadName w)) >>= go) not_one

-- if a name is valid, reading continues
pub valid_heading_name_goes_on : (w : List ℕ) (go : List ℕ → Result What EntryFault) → is_name w ≡ true
    → (name_or_entry_fault w >>= go) ≡ go w
valid_heading_name_goes_on w go is_one = ap (λ t. cond t (Ok w) (Err (BadName w)) >>= go) is_one

-- a bad further name of a function is rejected
bad-function-entry-name : (name text w : List ℕ) → inner_name text ≡ Some w → is_name w ≡ false
    → function_or_table_entry_in name text ≡ Err (BadName w)
bad-function-entry-name name [] w e not_one = cc
bad-function-entry-name name (b ∷ text) w e not_one = go (b == 40) (cut_at 41 text) e
  where
    inner : (parameter behind : List ℕ) → call_name parameter behind ≡ Some w
        → function_or_alias_in name parameter behind ≡ Err (BadName w)
    inner [] behind e =
        ap (λ o. or_entry_fault BadForm o >>= (λ target. name_or_entry_fault target >>= (λ other. Ok (Alias other)))) e
        ∙ bad_heading_name_is_refused w (λ other. Ok (Alias other)) not_one
    inner (c ∷ parameter) behind e =
        let same : c ∷ parameter ≡ w = (entry-text-some (c ∷ parameter) w e).0 in
        ap (λ p. name_or_entry_fault p >>=
        (λ q. or_entry_fault BadForm (form_of behind) >>= (λ form. function_of name q form)))
        same
        ∙ bad_heading_name_is_refused w (λ q. or_entry_fault BadForm (form_of behind) >>=
        (λ form. function_of name q form)) not_one

    go : (s : Bool) (found : Option (List ℕ × List ℕ)) → cond s (inner_of found) None ≡ Some w
        → cond s (parted_function_or_alias name found) (parted_table_entry (cut_at 93 text)) ≡ Err (BadName w)
    go false found e = cc
    go true None e = cc
    go true (Some parts) e = inner (trimmed_of_blanks parts.0) parts.1 e

-- a bad name of the key is rejected
bad_own_heading_name : (k : Kind) (name w text : List ℕ) → ((k ≡ kind.List) × (name ≡ []) → ⊥) → name ≡ w
    → is_name w ≡ false
    → (heading_name_in k name >>= (λ n. entry_definition_in k n text)) ≡ Err (BadName w)
bad_own_heading_name kind.Unit name w text some e not_one =
    ap (λ n. name_or_entry_fault n >>= (λ n. entry_definition_in kind.Unit n text)) e
    ∙ bad_heading_name_is_refused w (λ n. entry_definition_in kind.Unit n text) not_one
bad_own_heading_name kind.Prefix name w text some e not_one =
    ap (λ n. name_or_entry_fault n >>= (λ n. entry_definition_in kind.Prefix n text)) e
    ∙ bad_heading_name_is_refused w (λ n. entry_definition_in kind.Prefix n text) not_one
bad_own_heading_name kind.Func name w text some e not_one =
    ap (λ n. name_or_entry_fault n >>= (λ n. entry_definition_in kind.Func n text)) e
    ∙ bad_heading_name_is_refused w (λ n. entry_definition_in kind.Func n text) not_one
bad_own_heading_name kind.List [] w text some e not_one = absurd (some (refl, refl))
bad_own_heading_name kind.List (b ∷ name) w text some e not_one =
    ap (λ n. name_or_entry_fault n >>= (λ n. entry_definition_in kind.List n text)) e
    ∙ bad_heading_name_is_refused w (λ n. entry_definition_in kind.List n text) not_one

-- if the name of a heading is valid, the definition is that of the text after it
definition_of_named_heading : (k : Kind) (name text : List ℕ) → is_name name ≡ true
    → (heading_name_in k name >>= (λ n. entry_definition_in k n text)) ≡ entry_definition_in k name text
definition_of_named_heading kind.Unit name text is_one = valid_heading_name_goes_on name
    (λ n. entry_definition_in kind.Unit n text) is_one
definition_of_named_heading kind.Prefix name text is_one = valid_heading_name_goes_on name
    (λ n. entry_definition_in kind.Prefix n text) is_one
definition_of_named_heading kind.Func name text is_one = valid_heading_name_goes_on name
    (λ n. entry_definition_in kind.Func n text) is_one
definition_of_named_heading kind.List [] text is_one = absurd (true≢false (sym is_one))
definition_of_named_heading kind.List (b ∷ name) text is_one = valid_heading_name_goes_on (b ∷ name)
    (λ n. entry_definition_in kind.List n text) is_one

-- if the name of the key is valid, the definition of the line is that of its text
pub entry-definition-named : (h : Heading) → is_name h.name ≡ true
    → what_of h ≡ entry_definition_in h.kind h.name h.text
unfolding what_of
entry-definition-named h is_one = definition_of_named_heading h.kind h.name h.text is_one

-- a bad further name is rejected
bad_further_entry_name : (k : Kind) (name text w : List ℕ) → HasFurtherEntryName k text w → is_name w ≡ false
    → entry_definition_in k name text ≡ Err (BadName w)
bad_further_entry_name kind.Func name text w is not_one = bad-function-entry-name name text w
    (inner-entry-name-at text w is) not_one
bad_further_entry_name _ name text w is not_one = absurd is

-- the first bad name is the fault of the heading
pub bad-heading-name : (h : Heading) (w : List ℕ) → HasBadHeadingName h w → what_of h ≡ Err (BadName w)
unfolding what_of
bad-heading-name h w (OwnName some e not_one) = bad_own_heading_name h.kind h.name w h.text some e not_one
bad-heading-name h w (FurtherName own is not_one) = definition_of_named_heading h.kind h.name h.text own
    ∙ bad_further_entry_name h.kind h.name h.text w is not_one

-- a list without a name is a bad form
list_entry_lacks_name : (k : Kind) (name text : List ℕ) → k ≡ kind.List → name ≡ []
    → (heading_name_in k name >>= (λ n. entry_definition_in k n text)) ≡ Err BadForm
list_entry_lacks_name k name text e f = (λ i. heading_name_in (e i) (f i) >>= (λ n. entry_definition_in (e i) n text))

-- a heading that lacks a name is a bad form
pub heading-lacks-name : (h : Heading) → IsHeadingWithoutName h → what_of h ≡ Err BadForm
unfolding what_of
heading-lacks-name h is = list_entry_lacks_name h.kind h.name h.text is.0 is.1

-- the names of a heading are valid, or it lacks its name, or one of them is bad
pub data NamesOf (h : Heading) : Type 0 where
  Names : HasHeadingNames h → NamesOf h
  NoName : IsHeadingWithoutName h → NamesOf h
  BadNameOf : (w : List ℕ) → HasBadHeadingName h w → NamesOf h

-- the names of a heading whose own name is valid
names_of_valid_heading : (k : Kind) (name text : List ℕ) → is_name name ≡ true
    → NamesOf (record { kind = k; name = name; text = text })
names_of_valid_heading kind.Func name text is_one = go (inner_name text) refl
  where
    by : (w : List ℕ) → inner_name text ≡ Some w → (t : Bool) → is_name w ≡ t
        → NamesOf (record { kind = kind.Func; name = name; text = text })
    by w e true f = Names (record {
      own_name = is_one;
      further_names = λ v is. let same : Some w ≡ Some v = sym e ∙ inner-entry-name-at text v is in
          ap is_name (sym (some_is w v same))
          ∙ f;
    })
      where
        some_is : (x y : List ℕ) → Some x ≡ Some y → x ≡ y
        some_is x y e = cc
    by w e false f = BadNameOf w (FurtherName is_one (inner-entry-name-is text w e) f)

    go : (found : Option (List ℕ)) → inner_name text ≡ found
        → NamesOf (record { kind = kind.Func; name = name; text = text })
    go None e = Names
        (record {
          own_name = is_one;
          further_names = λ v is. let none : None ≡ Some v =
              sym e ∙ inner-entry-name-at text v is in absurd (cc none);
        })
    go (Some w) e = by w e (is_name w) refl
names_of_valid_heading kind.Unit name text is_one =
    Names (record { own_name = is_one; further_names = λ w is. absurd is })
names_of_valid_heading kind.Prefix name text is_one =
    Names (record { own_name = is_one; further_names = λ w is. absurd is })
names_of_valid_heading kind.List name text is_one =
    Names (record { own_name = is_one; further_names = λ w is. absurd is })

-- the names of a heading whose own name is bad
names_of_bad_heading : (k : Kind) (name text : List ℕ) → is_name name ≡ false
    → NamesOf (record { kind = k; name = name; text = text })
names_of_bad_heading kind.List [] text not_one = NoName (refl, refl)
names_of_bad_heading kind.List (b ∷ name) text not_one =
    BadNameOf (b ∷ name) (OwnName (λ is. cons_none b name is.1) refl not_one)
  where
    cons_none : (c : ℕ) (t : List ℕ) → c ∷ t ≡ [] → ⊥
    cons_none c t e = cc
names_of_bad_heading kind.Unit name text not_one = BadNameOf name (OwnName (λ is. not_list is.0) refl not_one)
  where
    not_list : kind.Unit ≡ kind.List → ⊥
    not_list e = cc
names_of_bad_heading kind.Prefix name text not_one = BadNameOf name (OwnName (λ is. not_list is.0) refl not_one)
  where
    not_list : kind.Prefix ≡ kind.List → ⊥
    not_list e = cc
names_of_bad_heading kind.Func name text not_one = BadNameOf name (OwnName (λ is. not_list is.0) refl not_one)
  where
    not_list : kind.Func ≡ kind.List → ⊥
    not_list e = cc

-- the names of each heading
pub names-of-heading : (h : Heading) → NamesOf h
names-of-heading h = go (is_name h.name) refl
  where
    go : (t : Bool) → is_name h.name ≡ t → NamesOf h
    go true is_one = names_of_valid_heading h.kind h.name h.text is_one
    go false not_one = names_of_bad_heading h.kind h.name h.text not_one
