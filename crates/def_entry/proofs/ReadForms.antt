-- Forms are read the way they are written.
use Rattle.std.proofs.Common.{◌≡◌, ◌≢◌, ◌==◌, ◌||◌, ◌∷◌, [], ℕ, List, Bool, true, false, cond, codes}
use Rattle.std.proofs.Common.{map, Option, Some, None, Ok, Err, refl, sym, ap, ◌∙◌, subst}
use Rattle.std.specs.Str.{bytes_eq}
use Rattle.std.specs.List.{slice_split}
use Rattle.std.proofs.lemmas.Bool.{eqb-true}
use Rattle.std.proofs.lemmas.Slice.Eq.{bytes_eq-Decides}
use Rattle.units_io.specs.Outcomes.{◌>>=◌}
use Rattle.def_lines.specs.Blanks.{trimmed_of_blanks}
use Rattle.expr_tree.specs.Names.{is_name}
use Rattle.def_entry.specs.declared.fault.EntryFault.TheVariants.{BadForm}
use Rattle.def_entry.specs.declared.key.Kind.{Kind}
use Rattle.def_entry.specs.declared.key.Kind.TheVariants as kind
use Rattle.def_entry.specs.Cuts.{cut_at}
use Rattle.def_entry.specs.Entries.{Primitive, Dimensionless, Body, Alias, ListOf}
use Rattle.def_entry.specs.EntryGrammar.{HasFurtherEntryName, Parameter, Target}
use Rattle.def_entry.specs.FormGrammar.{IsAliasTarget, IsBracketedEntryText, IsEntrySpelledAs}
use Rattle.def_entry.specs.FormGrammar.{WrittenEntryForm, PrimitiveForm, DimensionlessForm, BodyForm, FunctionForm}
use Rattle.def_entry.specs.FormGrammar.{AliasForm, TableForm, ListForm}
use Rattle.def_entry.specs.Forms.{Form, form_of, some_text}
use Rattle.def_entry.specs.Headings.{begins_with_entry_bracket}
use Rattle.def_entry.specs.Outcomes.{entry_tree, name_or_entry_fault, or_entry_fault}
use Rattle.def_entry.specs.EntryReading.{alias_in, body_in, function_of, function_or_alias_in}
use Rattle.def_entry.specs.EntryReading.{function_or_table_entry_in, is_entry_semicolon, entry_definition_in}
use Rattle.def_entry.specs.EntryReading.{entry_trees, list_entry_in, parted_function_or_alias, parted_table_entry}
use Rattle.def_entry.specs.EntryReading.{table_entry_in, unit_body_in, without_call}
use Rattle.def_entry.proofs.CutTexts.{entry_cut-at}
use Rattle.def_entry.proofs.Meanings.{list_trees, meaning}
use Rattle.def_entry.proofs.WrittenForms.{Formed, alias-target-at, entry-form-at, entry-form-is, entry_brackets}
use Rattle.def_entry.proofs.WrittenForms.{list-entry-parts-at, list-entry-parts-is, some-entry-text}
use Rattle.def_entry.proofs.WrittenForms.{alias-target-is, entry-text-some}
use Rattle.def_entry.proofs.WrittenNames.{valid_heading_name_goes_on}
use Rattle.general_lemmas.proofs.Bytes.{ne_bytes_eq}

-- a text with a first byte is not empty
entry_text_with_byte_not_empty : (b : ℕ) (text : List ℕ) → b ∷ text ≢ []
entry_text_with_byte_not_empty b text e = cc

-- the body of a unit or a prefix
body-at : (text body : List ℕ) → text ≡ body → text ≢ []
    → body_in text ≡ (entry_tree None body >>= (λ tree. Ok (Body tree)))
body-at [] body e some = absurd (some refl)
body-at (b ∷ text) body e some = ap (λ t. entry_tree None t >>= (λ tree. Ok (Body tree))) e

-- the trees of parts are those of the trimmed parts
entry_parts-trees : (pieces : List (List ℕ)) → entry_trees pieces ≡ list_trees (map trimmed_of_blanks pieces)
entry_parts-trees [] = refl
entry_parts-trees (piece ∷ pieces) =
    ap (λ rest. entry_tree None (trimmed_of_blanks piece) >>= (λ tree. rest >>= (λ trees. Ok (tree ∷ trees))))
    (entry_parts-trees pieces)

-- a list is read from its parts
list-entry-at : (text : List ℕ) (parts : List (List ℕ))
    → parts ≡ map trimmed_of_blanks (slice_split is_entry_semicolon text) → text ≢ []
    → list_entry_in text ≡ (list_trees parts >>= (λ trees. Ok (ListOf trees)))
list-entry-at [] parts e some = absurd (some refl)
list-entry-at (b ∷ text) parts e some =
    ap (λ r. r >>= (λ trees. Ok (ListOf trees)))
    (entry_parts-trees (slice_split is_entry_semicolon (b ∷ text)) ∙ ap list_trees (sym e))

-- a function is read from its parameter and its form
function-entry-at : (name parameter behind : List ℕ) (form : Form) → parameter ≢ [] → is_name parameter ≡ true
    → form_of behind ≡ Some form
    → function_or_alias_in name parameter behind ≡ function_of name parameter form
function-entry-at name [] behind form some is_one e = absurd (some refl)
function-entry-at name (b ∷ parameter) behind form some is_one e =
    valid_heading_name_goes_on (b ∷ parameter) (λ p. or_entry_fault BadForm (form_of behind) >>=
    (λ form. function_of name p form))
    is_one
    ∙ ap (λ f. or_entry_fault BadForm f >>= (λ form. function_of name (b ∷ parameter) form)) e

-- an alias is read from its target
alias-at : (behind target : List ℕ) → without_call (trimmed_of_blanks behind) ≡ target → target ≢ []
    → is_name target ≡ true
    → alias_in behind ≡ Ok (Alias target)
alias-at behind target e some is_one =
    ap (λ o. or_entry_fault BadForm o >>= (λ t. name_or_entry_fault t >>= (λ other. Ok (Alias other))))
    (some-entry-text (without_call (trimmed_of_blanks behind)) target e some)
    ∙ valid_heading_name_goes_on target (λ other. Ok (Alias other)) is_one

-- a table is read from its unit and its points
table-entry-at : (name text unit points : List ℕ) → text ≡ unit → unit ≢ []
    → table_entry_in text points ≡ meaning name (TableForm unit points)
table-entry-at name text unit points e some =
    ap (λ o. or_entry_fault BadForm o >>= (λ u. meaning name (TableForm u points))) (some-entry-text text unit e some)

-- a text with a written form is read as the meaning of that form
pub written-entry-definition : (k : Kind) (name text : List ℕ) (form : WrittenEntryForm)
    → ((w : List ℕ) → HasFurtherEntryName k text w → is_name w ≡ true)
    → IsEntrySpelledAs k text form
    → entry_definition_in k name text ≡ meaning name form
written-entry-definition kind.Unit name text PrimitiveForm good is = ap unit_body_in is
written-entry-definition kind.Unit name text DimensionlessForm good is = ap unit_body_in is
written-entry-definition kind.Unit name text (BodyForm body) good is =
    ap (λ t. cond t (Ok Primitive) (cond (bytes_eq text (codes "!dimensionless")) (Ok Dimensionless) (body_in text)))
    (ne_bytes_eq text (codes "!") is.2)
    ∙ ap (λ t. cond t (Ok Dimensionless) (body_in text)) (ne_bytes_eq text (codes "!dimensionless") is.3)
    ∙ body-at text body is.0 is.1
written-entry-definition kind.Prefix name text (BodyForm body) good is = body-at text body is.0 is.1
written-entry-definition kind.Func name text (FunctionForm parameter form) good is =
    ap (function_or_table_entry_in name) is.has_brackets.text_in_brackets
    ∙ ap (parted_function_or_alias name) (entry_cut-at 41 is.bracket_text is.text_after is.has_brackets.clear)
    ∙ ap (λ p. function_or_alias_in name p is.text_after) is.parameter_is.0
    ∙ function-entry-at name parameter is.text_after form is.parameter_is.1
    (good parameter (Parameter is.bracket_text is.text_after is.has_brackets is.parameter_is))
    (entry-form-at is.text_after is.bodies form is.options_are is.bodies_are)
written-entry-definition kind.Func name text (AliasForm target) good is =
    ap (function_or_table_entry_in name) is.has_brackets.text_in_brackets
    ∙ ap (parted_function_or_alias name) (entry_cut-at 41 is.bracket_text is.text_after is.has_brackets.clear)
    ∙ ap (λ p. function_or_alias_in name p is.text_after) is.blank_brackets
    ∙ alias-at is.text_after target (alias-target-at (trimmed_of_blanks is.text_after) target is.target_is)
    is.target_not_empty
    (good target (Target is))
written-entry-definition kind.Func name text (TableForm unit points) good is =
    ap (function_or_table_entry_in name) is.has_brackets.text_in_brackets
    ∙ ap parted_table_entry (entry_cut-at 93 is.bracket_text points is.has_brackets.clear)
    ∙ table-entry-at name (trimmed_of_blanks is.bracket_text) unit points is.unit_is.0 is.unit_is.1
written-entry-definition kind.List name text (ListForm parts) good is =
    list-entry-at text parts (list-entry-parts-at text parts is)
    is.text_not_empty
written-entry-definition _ name text _ good is = absurd is

-- a text has a written form, or is read as a bad form
pub data FormOf (k : Kind) (name text : List ℕ) : Type 0 where
  InForm : (form : WrittenEntryForm) → IsEntrySpelledAs k text form → FormOf k name text
  NoForm : entry_definition_in k name text ≡ Err BadForm → FormOf k name text

-- the text of a unit has a written form or is read as a bad form
unit-entry-form : (name text : List ℕ) → FormOf kind.Unit name text
unit-entry-form name [] = NoForm refl
unit-entry-form name (b ∷ text) =
    go (bytes_eq (b ∷ text) (codes "!")) refl (bytes_eq (b ∷ text) (codes "!dimensionless")) refl
  where
    differ : (word : List ℕ) → bytes_eq (b ∷ text) word ≡ false → (b ∷ text) ≢ word
    differ word e is = let there : true ≡ false = sym ((bytes_eq-Decides (b ∷ text) word).1 is) ∙ e in cc

    go : (s : Bool) → bytes_eq (b ∷ text) (codes "!") ≡ s → (t : Bool)
        → bytes_eq (b ∷ text) (codes "!dimensionless") ≡ t
        → FormOf kind.Unit name (b ∷ text)
    go true e t f = InForm PrimitiveForm ((bytes_eq-Decides (b ∷ text) (codes "!")).0 e)
    go false e true f = InForm DimensionlessForm ((bytes_eq-Decides (b ∷ text) (codes "!dimensionless")).0 f)
    go false e false f =
        InForm (BodyForm (b ∷ text))
        (refl, entry_text_with_byte_not_empty b text, differ (codes "!") e, differ (codes "!dimensionless") f)

-- the text of a function or an alias has a written form or is read as a bad form
function-entry-form : (name : List ℕ) (b : ℕ) (text inside behind parameter : List ℕ)
    → IsBracketedEntryText 40 41 (b ∷ text) inside behind
    → trimmed_of_blanks inside ≡ parameter
    → function_or_table_entry_in name (b ∷ text) ≡ function_or_alias_in name parameter behind
    → ((w : List ℕ) → HasFurtherEntryName kind.Func (b ∷ text) w → is_name w ≡ true)
    → FormOf kind.Func name (b ∷ text)
function-entry-form name b text inside behind [] is bare read good =
    go (some_text (without_call (trimmed_of_blanks behind))) refl
  where
    go : (target : Option (List ℕ)) → some_text (without_call (trimmed_of_blanks behind)) ≡ target
        → FormOf kind.Func name (b ∷ text)
    go None e = NoForm (read
        ∙ ap (λ o. or_entry_fault BadForm o >>= (λ t. name_or_entry_fault t >>= (λ other. Ok (Alias other))))
        e)
    go (Some target) e =
        let some : (without_call (trimmed_of_blanks behind) ≡ target) × (target ≢ []) =
        entry-text-some (without_call (trimmed_of_blanks behind)) target e in
        InForm (AliasForm target) (record {
          bracket_text = inside;
          text_after = behind;
          has_brackets = is;
          blank_brackets = bare;
          target_is = subst (IsAliasTarget (trimmed_of_blanks behind)) some.0
              (alias-target-is (trimmed_of_blanks behind));
          target_not_empty = some.1;
        })
function-entry-form name b text inside behind (c ∷ parameter) is bare read good = go (form_of behind) refl
  where
    go : (found : Option Form) → form_of behind ≡ found → FormOf kind.Func name (b ∷ text)
    go None e =
        NoForm
        (read
        ∙ valid_heading_name_goes_on (c ∷ parameter) (λ p. or_entry_fault BadForm (form_of behind) >>=
        (λ form. function_of name p form))
        (good (c ∷ parameter) (Parameter inside behind is (bare, entry_text_with_byte_not_empty c parameter)))
        ∙ ap (λ f. or_entry_fault BadForm f >>= (λ form. function_of name (c ∷ parameter) form)) e)
    go (Some form) e =
        let formed : Formed behind form = entry-form-is behind form e in
        InForm (FunctionForm (c ∷ parameter) form) (record {
          bracket_text = inside;
          text_after = behind;
          bodies = formed.bodies;
          has_brackets = is;
          parameter_is = (bare, entry_text_with_byte_not_empty c parameter);
          options_are = formed.options_are;
          bodies_are = formed.bodies_are;
        })

-- the text of a table has a written form or is read as a bad form
table-entry-form : (name : List ℕ) (b : ℕ) (text inside points unit : List ℕ)
    → IsBracketedEntryText 91 93 (b ∷ text) inside points
    → trimmed_of_blanks inside ≡ unit
    → function_or_table_entry_in name (b ∷ text) ≡ table_entry_in unit points → FormOf kind.Func name (b ∷ text)
table-entry-form name b text inside points [] is bare read = NoForm read
table-entry-form name b text inside points (c ∷ unit) is bare read =
    InForm (TableForm (c ∷ unit) points)
    (record { bracket_text = inside; has_brackets = is; unit_is = (bare, entry_text_with_byte_not_empty c unit) })

-- the text of a function, an alias or a table has a written form or is read as a bad form
function-or-table-entry-form : (name text : List ℕ) → begins_with_entry_bracket text ≡ true
    → ((w : List ℕ) → HasFurtherEntryName kind.Func text w → is_name w ≡ true)
    → FormOf kind.Func name text
function-or-table-entry-form name [] opened good = NoForm refl
function-or-table-entry-form name (b ∷ text) opened good = go (b == 40) refl (cut_at 41 text) refl (cut_at 93 text) refl
  where
    bracket_else : (s t : Bool) → s ≡ false → (s || t) ≡ true → t ≡ true
    bracket_else true t e f = cc
    bracket_else false t e f = f

    go : (s : Bool) → (b == 40) ≡ s → (round : Option (List ℕ × List ℕ)) → cut_at 41 text ≡ round
        → (other : Option (List ℕ × List ℕ))
        → cut_at 93 text ≡ other
        → FormOf kind.Func name (b ∷ text)
    go true e None f other g =
        NoForm (ap (λ s. cond s (parted_function_or_alias name (cut_at 41 text)) (parted_table_entry (cut_at 93 text)))
        e
        ∙ ap (parted_function_or_alias name) f)
    go true e (Some parts) f other g =
        function-entry-form name b text parts.0 parts.1 (trimmed_of_blanks parts.0)
        (entry_brackets 40 41 b text parts.0 parts.1 (eqb-true b 40 e) f) refl
        (ap (λ s. cond s (parted_function_or_alias name (cut_at 41 text)) (parted_table_entry (cut_at 93 text))) e
        ∙ ap (parted_function_or_alias name) f) good
    go false e round f None g =
        NoForm (ap (λ s. cond s (parted_function_or_alias name (cut_at 41 text)) (parted_table_entry (cut_at 93 text)))
        e
        ∙ ap parted_table_entry g)
    go false e round f (Some parts) g =
        table-entry-form name b text parts.0 parts.1 (trimmed_of_blanks parts.0)
        (entry_brackets 91 93 b text parts.0 parts.1 (eqb-true b 91 (bracket_else (b == 40) (b == 91) e opened)) g) refl
        (ap (λ s. cond s (parted_function_or_alias name (cut_at 41 text)) (parted_table_entry (cut_at 93 text))) e
        ∙ ap parted_table_entry g)

-- the text of each kind of key has a written form or is read as a bad form
pub entry-form-of : (k : Kind) (name text : List ℕ) → (k ≡ kind.Func → begins_with_entry_bracket text ≡ true)
    → ((w : List ℕ) → HasFurtherEntryName k text w → is_name w ≡ true) → FormOf k name text
entry-form-of kind.Unit name text opened good = unit-entry-form name text
entry-form-of kind.Prefix name [] opened good = NoForm refl
entry-form-of kind.Prefix name (b ∷ text) opened good = InForm (BodyForm (b ∷ text))
    (refl, entry_text_with_byte_not_empty b text)
entry-form-of kind.Func name text opened good = function-or-table-entry-form name text (opened refl) good
entry-form-of kind.List name [] opened good = NoForm refl
entry-form-of kind.List name (b ∷ text) opened good =
    InForm (ListForm (map trimmed_of_blanks (slice_split is_entry_semicolon (b ∷ text))))
    (list-entry-parts-is (b ∷ text) (entry_text_with_byte_not_empty b text))
