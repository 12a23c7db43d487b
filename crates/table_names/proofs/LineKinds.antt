-- The entries of lines fit the kinds of their keys.
use Rattle.std.proofs.Common.{◌≡◌, ℕ, Bool, true, false, cond, List, [], ◌∷◌, Some, None, Result, Ok, Err, refl, subst}
use Rattle.expr_tree.specs.Syntax.{Syntax}
use Rattle.std.specs.List.{slice_split}
use Rattle.def_lines.specs.Blanks.{trimmed_of_blanks}
use Rattle.units_io.specs.Outcomes.{◌>>=◌}
use Rattle.def_entry.specs.declared.fault.EntryFault.{EntryFault}
use Rattle.def_entry.specs.declared.fault.EntryFault.TheVariants.{BadForm}
use Rattle.def_entry.specs.declared.key.Key.{Key}
use Rattle.def_entry.specs.declared.key.Kind.{Kind}
use Rattle.def_entry.specs.declared.key.Kind.TheVariants as kind
use Rattle.def_entry.specs.Cuts.{cut_at}
use Rattle.def_entry.specs.Entries as what
use Rattle.def_entry.specs.Entries.{Entry, What}
use Rattle.def_entry.specs.Headings.{Heading, heading_of_line}
use Rattle.def_entry.specs.Forms.{form_of}
use Rattle.def_entry.specs.Keys.{key}
use Rattle.def_entry.specs.Outcomes.{entry_tree, name_or_entry_fault, or_entry_fault}
use Rattle.def_entry.specs.EntryReading as read
use Rattle.def_entry.specs.EntryReading.{entry_definition_in, entry_of, what_of}
use Rattle.table_names.specs.Kinds.{table_name_may_have}

-- a result, if it is `Ok`, is a definition that a key of this kind may have
abbrev Says : Kind → Result What EntryFault → Type 0
Says k r = (w : What) → r ≡ Ok w → table_name_may_have k w ≡ true

module _ (k : Kind) where
  definition_has_kind : (w : What) → table_name_may_have k w ≡ true → Says k (Ok w)
  definition_has_kind w h x e = let q : w ≡ x = cc in subst (λ z. table_name_may_have k z ≡ true) q h

  fault_has_no_kind : (fault : EntryFault) → Says k (Err fault)
  fault_has_no_kind fault x e = cc

  then_says : {A : Type 0} (r : Result A EntryFault) (f : A → Result What EntryFault) → ((x : A) → Says k (f x))
      → Says k (r >>= f)
  then_says (Ok x) f h = h x
  then_says (Err fault) f h = fault_has_no_kind fault

  either_says : (b : Bool) (r s : Result What EntryFault) → Says k r → Says k s → Says k (cond b r s)
  either_says true r s h g = h
  either_says false r s h g = g

  body_says : ((e : Syntax) → table_name_may_have k (what.Body e) ≡ true) → (text : List ℕ) → Says k (read.body_in text)
  body_says h text =
      then_says (read.nonempty_entry_text text) _
      (λ body. then_says (entry_tree None body) _ (λ tree. definition_has_kind (what.Body tree) (h tree)))

-- the text of a unit gives a definition that a unit may have
unit_text_fits_table_name : (text : List ℕ) → Says kind.Unit (read.unit_body_in text)
unit_text_fits_table_name text =
    either_says kind.Unit _ _ _ (definition_has_kind kind.Unit what.Primitive refl)
    (either_says kind.Unit _ _ _ (definition_has_kind kind.Unit what.Dimensionless refl)
    (body_says kind.Unit (λ e. refl) text))

-- the text of an alias gives a definition that a function may have
alias_text_fits_table_name : (text : List ℕ) → Says kind.Func (read.alias_in text)
alias_text_fits_table_name text =
    then_says kind.Func (read.nonempty_entry_text (read.without_call (trimmed_of_blanks text))) _ (λ target.
    then_says kind.Func (name_or_entry_fault target) _ (λ name. definition_has_kind kind.Func (what.Alias name) refl))

-- the text of a function after its parameter gives a definition that a function may have
call_text_fits_table_name : (name inside behind : List ℕ)
    → Says kind.Func (read.function_or_alias_in name inside behind)
call_text_fits_table_name name [] behind = alias_text_fits_table_name behind
call_text_fits_table_name name (b ∷ bytes) behind =
    then_says kind.Func (name_or_entry_fault (b ∷ bytes)) _ (λ parameter.
    then_says kind.Func (or_entry_fault BadForm (form_of behind)) _ (λ form.
    then_says kind.Func (read.option_units_in form.options.units) _ (λ units.
    then_says kind.Func (entry_tree (Some parameter) form.forward) _ (λ forward.
    then_says kind.Func (read.inverse_body_in name form.inverse) _ (λ inverse.
    definition_has_kind kind.Func (read.function_entry_definition form units forward inverse) refl)))))

-- the text of a table after its unit gives a definition that a function may have
table_text_fits_table_name : (text behind : List ℕ) → Says kind.Func (read.table_entry_in text behind)
table_text_fits_table_name text behind =
    then_says kind.Func (read.nonempty_entry_text text) _
    (λ unit. then_says kind.Func (read.point_pairs_in behind) _ (λ points.
    then_says kind.Func (entry_tree None unit) _ (λ tree.
    definition_has_kind kind.Func (what.Table (record { unit = tree; points = points })) refl)))

-- the text of a function, alias or table gives a definition that a function may have
func_text_fits_table_name : (name text : List ℕ) → Says kind.Func (read.function_or_table_entry_in name text)
func_text_fits_table_name name [] = fault_has_no_kind kind.Func _
func_text_fits_table_name name (b ∷ text) =
    either_says kind.Func _ _ _
    (then_says kind.Func (or_entry_fault BadForm (cut_at 41 text)) _
    (λ parts. call_text_fits_table_name name (trimmed_of_blanks parts.0) parts.1))
    (then_says kind.Func (or_entry_fault BadForm (cut_at 93 text)) _
    (λ parts. table_text_fits_table_name (trimmed_of_blanks parts.0) parts.1))

-- the text of a list gives a definition that a list may have
list_text_fits_table_name : (text : List ℕ) → Says kind.List (read.list_entry_in text)
list_text_fits_table_name text =
    then_says kind.List (read.nonempty_entry_text text) _ (λ parts.
    then_says kind.List (read.entry_trees (slice_split read.is_entry_semicolon parts)) _
    (λ trees. definition_has_kind kind.List (what.ListOf trees) refl))

-- the text for a key of each kind gives a definition that the key may have
key_text_fits_table_name : (k : Kind) (name text : List ℕ) → Says k (entry_definition_in k name text)
key_text_fits_table_name kind.Unit name text = unit_text_fits_table_name text
key_text_fits_table_name kind.Prefix name text = body_says kind.Prefix (λ e. refl) text
key_text_fits_table_name kind.Func name text = func_text_fits_table_name name text
key_text_fits_table_name kind.List name text = list_text_fits_table_name text

-- a heading with its text gives a definition that its kind may have
heading_fits_table_name : (h : Heading) → Says h.kind (what_of h)
unfolding what_of
heading_fits_table_name h = then_says h.kind (read.heading_name_in h.kind h.name) _
    (λ name. key_text_fits_table_name h.kind name h.text)

-- the key and the entry of a heading with this definition
abbrev entry_for : Heading → What → Key × Entry
entry_for h w = (key h.kind h.name, record { text = h.text; what = w })

-- an entry that is read after a heading has a definition that its key may have
entry_fits_table_name :
    (h : Heading) (r : Result What EntryFault) → Says h.kind r
    → (k : Key) (e : Entry) → (r >>= (λ w. Ok (entry_for h w))) ≡ Ok (k, e) → table_name_may_have k.kind e.what ≡ true
entry_fits_table_name h (Ok w) says k e is =
    let q : entry_for h w ≡ (k, e) = cc in
    subst (λ (p : Key × Entry). table_name_may_have p.0.kind p.1.what ≡ true) q (says w refl)
entry_fits_table_name h (Err fault) says k e is = cc

-- the entry of each line has a definition that its key may have
pub line_fits_table_name : (line : List ℕ) (k : Key) (e : Entry) → entry_of line ≡ Ok (k, e)
    → table_name_may_have k.kind e.what ≡ true
line_fits_table_name line k e is = entry_fits_table_name (heading_of_line line) (what_of (heading_of_line line))
    (heading_fits_table_name (heading_of_line line))
    k e is
