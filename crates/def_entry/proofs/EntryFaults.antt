-- The fault of a line is never an out-of-memory fault.
use Rattle.std.proofs.Common.{◌≡◌, ◌==◌, ℕ, List, [], ◌∷◌, Bool, true, false, if◌then◌else◌, Option, Some, None, Result}
use Rattle.std.proofs.Common.{Ok, Err, codes, refl, sym, ap, ◌∙◌}
use Rattle.std.specs.List.{slice_split}
use Rattle.units_io.specs.Outcomes.{◌>>=◌}
use Rattle.def_lines.specs.Blanks.{trimmed_of_blanks}
use Rattle.std.specs.Str.{bytes_eq}
use Rattle.expr_tree.specs.declared.fault.ParseFault.{ParseFault}
use Rattle.expr_tree.specs.declared.fault.ParseFault.TheVariants as parse
use Rattle.expr_tree.specs.Names.{is_name}
use Rattle.expr_tree.specs.ParseResult.{parse_of}
use Rattle.expr_tree.specs.Syntax.{Syntax}
use Rattle.expr_tree.proofs.ParseFaults as texts
use Rattle.def_entry.specs.declared.fault.EntryFault.{EntryFault}
use Rattle.def_entry.specs.declared.fault.EntryFault.TheVariants.{BadName, BadForm, BadTable}
use Rattle.def_entry.specs.declared.key.Kind.{Kind}
use Rattle.def_entry.specs.declared.key.Kind.TheVariants as kind
use Rattle.def_entry.specs.Cuts.{cut_at}
use Rattle.def_entry.specs.Entries.{Primitive, Dimensionless, Body, Alias, Table, ListOf}
use Rattle.def_entry.specs.Faults.{EntryMemoryLaw, is_entry_fault_of_line}
use Rattle.def_entry.specs.Forms.{Form, form_of, some_text}
use Rattle.def_entry.specs.Headings.{Heading, heading_of_line}
use Rattle.def_entry.specs.Keys.{key}
use Rattle.def_entry.specs.Options.{Units}
use Rattle.def_entry.specs.Outcomes.{entry_tree, name_or_entry_fault, or_entry_fault, parsed_entry}
use Rattle.def_entry.specs.PointLists.{points_of, table_points}
use Rattle.def_entry.specs.EntryReading.{alias_in, body_in, entry_of, function_entry_definition, function_or_alias_in}
use Rattle.def_entry.specs.EntryReading.{function_or_table_entry_in, function_of, inverse_body_in, heading_name_in}
use Rattle.def_entry.specs.EntryReading.{is_entry_semicolon, list_entry_in, parted_function_or_alias}
use Rattle.def_entry.specs.EntryReading.{parted_table_entry, point_pairs_in, table_entry_in, entry_definition_in}
use Rattle.def_entry.specs.EntryReading.{entry_trees, nonempty_entry_text, option_units_in, unit_body_in, unit_tree}
use Rattle.def_entry.specs.EntryReading.{what_of, without_call}

-- the result is a value, or a fault other than an out-of-memory fault
abbrev tells : {A : Type 0} → Result A EntryFault → Bool
tells (Ok x) = true
tells (Err fault) = is_entry_fault_of_line fault

-- if neither a step nor its continuation is an out-of-memory fault, their sequence is not
entry_step_not_of_memory : {A B : Type 0} (given : Result A EntryFault) (go : A → Result B EntryFault)
    → tells given ≡ true
    → ((x : A) → tells (go x) ≡ true)
    → tells (given >>= go) ≡ true
entry_step_not_of_memory (Ok x) go first next = next x
entry_step_not_of_memory (Err fault) go first next = first

-- if neither branch of a choice is an out-of-memory fault, the choice is not
entry_choice_not_of_memory : {A : Type 0} (t : Bool) (one other : Result A EntryFault) → tells one ≡ true
    → tells other ≡ true
    → tells (if t then one else other) ≡ true
entry_choice_not_of_memory true one other e f = e
entry_choice_not_of_memory false one other e f = f

-- if a fault is not an out-of-memory fault, a value that may be missing with this fault is not
or_entry_fault_not_of_memory : {A : Type 0} (fault : EntryFault) (given : Option A)
    → is_entry_fault_of_line fault ≡ true
    → tells (or_entry_fault fault given) ≡ true
or_entry_fault_not_of_memory fault None e = e
or_entry_fault_not_of_memory fault (Some x) e = refl

-- the result for a name is never an out-of-memory fault
entry_name_not_of_memory : (w : List ℕ) → tells (name_or_entry_fault w) ≡ true
entry_name_not_of_memory w = entry_choice_not_of_memory (is_name w) (Ok w) (Err (BadName w)) refl refl

-- the result for a tree is never an out-of-memory fault
entry_tree_not_of_memory : (binder : Option (List ℕ)) (text : List ℕ) → tells (entry_tree binder text) ≡ true
entry_tree_not_of_memory binder text = go (parse_of binder text) refl
  where
    go : (given : Result Syntax ParseFault) → parse_of binder text ≡ given → tells (parsed_entry given) ≡ true
    go (Ok tree) e = refl
    go (Err (parse.Syntax place)) e = refl
    go (Err parse.NumeralTooLong) e = refl
    go (Err parse.NestedTooDeep) e = refl
    go (Err parse.OutOfMemory) e = absurd (texts.parse_fault_not_of_memory binder text e)

-- the result for a required text is never an out-of-memory fault
entry_text_not_of_memory : (text : List ℕ) → tells (nonempty_entry_text text) ≡ true
entry_text_not_of_memory text = or_entry_fault_not_of_memory BadForm (some_text text) refl

-- the result for a body is never an out-of-memory fault
entry_body_not_of_memory : (text : List ℕ) → tells (body_in text) ≡ true
entry_body_not_of_memory text =
    entry_step_not_of_memory (nonempty_entry_text text) (λ body. entry_tree None body >>= (λ tree. Ok (Body tree)))
    (entry_text_not_of_memory text)
    (λ body. entry_step_not_of_memory (entry_tree None body) (λ tree. Ok (Body tree))
    (entry_tree_not_of_memory None body) (λ tree. refl))

-- the result for a unit is never an out-of-memory fault
unit_body_not_of_memory : (text : List ℕ) → tells (unit_body_in text) ≡ true
unit_body_not_of_memory text =
    entry_choice_not_of_memory (bytes_eq text (codes "!")) (Ok Primitive)
    (if bytes_eq text (codes "!dimensionless") then Ok Dimensionless else body_in text) refl
    (entry_choice_not_of_memory (bytes_eq text (codes "!dimensionless")) (Ok Dimensionless) (body_in text) refl
    (entry_body_not_of_memory text))

-- the result for an alias is never an out-of-memory fault
alias_entry_not_of_memory : (text : List ℕ) → tells (alias_in text) ≡ true
alias_entry_not_of_memory text =
    entry_step_not_of_memory (nonempty_entry_text (without_call (trimmed_of_blanks text)))
    (λ target. name_or_entry_fault target >>= (λ name. Ok (Alias name)))
    (entry_text_not_of_memory (without_call (trimmed_of_blanks text)))
    (λ target. entry_step_not_of_memory (name_or_entry_fault target) (λ name. Ok (Alias name))
    (entry_name_not_of_memory target) (λ name. refl))

-- the result for the tree of a unit is never an out-of-memory fault
option_unit_tree_not_of_memory : (text : List ℕ) → tells (unit_tree text) ≡ true
option_unit_tree_not_of_memory [] = refl
option_unit_tree_not_of_memory (b ∷ text) =
    entry_step_not_of_memory (entry_tree None (b ∷ text)) (λ tree. Ok (Some tree))
    (entry_tree_not_of_memory None (b ∷ text)) (λ tree. refl)

-- the result for the trees of both units is never an out-of-memory fault
option_units_not_of_memory : (units : Option Units) → tells (option_units_in units) ≡ true
option_units_not_of_memory None = refl
option_units_not_of_memory (Some units) =
    entry_step_not_of_memory (unit_tree units.in_unit)
    (λ first. unit_tree units.out_unit >>= (λ second. Ok (first, second)))
    (option_unit_tree_not_of_memory units.in_unit)
    (λ first. entry_step_not_of_memory (unit_tree units.out_unit) (λ second. Ok (first, second))
    (option_unit_tree_not_of_memory units.out_unit)
    (λ second. refl))

-- the result for an inverse is never an out-of-memory fault
inverse_body_not_of_memory : (name : List ℕ) (text : Option (List ℕ)) → tells (inverse_body_in name text) ≡ true
inverse_body_not_of_memory name None = refl
inverse_body_not_of_memory name (Some text) =
    entry_step_not_of_memory (entry_tree (Some name) text) (λ tree. Ok (Some tree))
    (entry_tree_not_of_memory (Some name) text) (λ tree. refl)

-- the result for a function by expressions is never an out-of-memory fault
function_entry_not_of_memory : (name parameter : List ℕ) (form : Form) → tells (function_of name parameter form) ≡ true
function_entry_not_of_memory name parameter form =
    entry_step_not_of_memory (option_units_in form.options.units)
    (λ units. entry_tree (Some parameter) form.forward
    >>= (λ forward. inverse_body_in name form.inverse >>=
    (λ inverse. Ok (function_entry_definition form units forward inverse))))
    (option_units_not_of_memory form.options.units)
    (λ units. entry_step_not_of_memory (entry_tree (Some parameter) form.forward)
    (λ forward. inverse_body_in name form.inverse >>=
    (λ inverse. Ok (function_entry_definition form units forward inverse)))
    (entry_tree_not_of_memory (Some parameter) form.forward)
    (λ forward. entry_step_not_of_memory (inverse_body_in name form.inverse)
    (λ inverse. Ok (function_entry_definition form units forward inverse))
    (inverse_body_not_of_memory name form.inverse) (λ inverse. refl)))

-- the result for the text after a parameter is never an out-of-memory fault
function_or_alias_not_of_memory : (name parameter behind : List ℕ)
    → tells (function_or_alias_in name parameter behind) ≡ true
function_or_alias_not_of_memory name [] behind = alias_entry_not_of_memory behind
function_or_alias_not_of_memory name (b ∷ bytes) behind =
    entry_step_not_of_memory (name_or_entry_fault (b ∷ bytes))
    (λ parameter. or_entry_fault BadForm (form_of behind) >>= (λ form. function_of name parameter form))
    (entry_name_not_of_memory (b ∷ bytes))
    (λ parameter. entry_step_not_of_memory (or_entry_fault BadForm (form_of behind))
    (λ form. function_of name parameter form)
    (or_entry_fault_not_of_memory BadForm (form_of behind) refl)
    (λ form. function_entry_not_of_memory name parameter form))

-- the result for points is never an out-of-memory fault
point_pairs_not_of_memory : (text : List ℕ) → tells (point_pairs_in text) ≡ true
point_pairs_not_of_memory text =
    entry_step_not_of_memory (or_entry_fault BadTable (points_of text))
    (λ points. or_entry_fault BadTable (table_points points))
    (or_entry_fault_not_of_memory BadTable (points_of text) refl)
    (λ points. or_entry_fault_not_of_memory BadTable (table_points points) refl)

-- the result for a table is never an out-of-memory fault
table_entry_not_of_memory : (text behind : List ℕ) → tells (table_entry_in text behind) ≡ true
table_entry_not_of_memory text behind =
    entry_step_not_of_memory (nonempty_entry_text text)
    (λ unit. point_pairs_in behind
    >>= (λ points. entry_tree None unit >>= (λ tree. Ok (Table (record { unit = tree; points = points })))))
    (entry_text_not_of_memory text)
    (λ unit. entry_step_not_of_memory (point_pairs_in behind)
    (λ points. entry_tree None unit >>= (λ tree. Ok (Table (record { unit = tree; points = points }))))
    (point_pairs_not_of_memory behind)
    (λ points. entry_step_not_of_memory (entry_tree None unit)
    (λ tree. Ok (Table (record { unit = tree; points = points })))
    (entry_tree_not_of_memory None unit) (λ tree. refl)))

-- the result for any function is never an out-of-memory fault
function_or_table_not_of_memory : (name text : List ℕ) → tells (function_or_table_entry_in name text) ≡ true
function_or_table_not_of_memory name [] = refl
function_or_table_not_of_memory name (b ∷ text) =
    entry_choice_not_of_memory (b == 40) (parted_function_or_alias name (cut_at 41 text))
    (parted_table_entry (cut_at 93 text))
    (entry_step_not_of_memory (or_entry_fault BadForm (cut_at 41 text))
    (λ (parts : List ℕ × List ℕ). function_or_alias_in name (trimmed_of_blanks parts.0) parts.1)
    (or_entry_fault_not_of_memory BadForm (cut_at 41 text) refl)
    (λ parts. function_or_alias_not_of_memory name (trimmed_of_blanks parts.0) parts.1))
    (entry_step_not_of_memory (or_entry_fault BadForm (cut_at 93 text))
    (λ (parts : List ℕ × List ℕ). table_entry_in (trimmed_of_blanks parts.0) parts.1)
    (or_entry_fault_not_of_memory BadForm (cut_at 93 text) refl)
    (λ parts. table_entry_not_of_memory (trimmed_of_blanks parts.0) parts.1))

-- the result for trees is never an out-of-memory fault
entry_trees_not_of_memory : (parts : List (List ℕ)) → tells (entry_trees parts) ≡ true
entry_trees_not_of_memory [] = refl
entry_trees_not_of_memory (part ∷ parts) = go (entry_trees_not_of_memory parts)
  where
    go : tells (entry_trees parts) ≡ true → tells (entry_trees (part ∷ parts)) ≡ true
    go rest =
        entry_step_not_of_memory (entry_tree None (trimmed_of_blanks part))
        (λ tree. entry_trees parts >>= (λ trees. Ok (tree ∷ trees)))
        (entry_tree_not_of_memory None (trimmed_of_blanks part))
        (λ tree. entry_step_not_of_memory (entry_trees parts) (λ trees. Ok (tree ∷ trees)) rest (λ trees. refl))

-- the result for a list is never an out-of-memory fault
list_entry_not_of_memory : (text : List ℕ) → tells (list_entry_in text) ≡ true
list_entry_not_of_memory text =
    entry_step_not_of_memory (nonempty_entry_text text) (λ parts. entry_trees (slice_split is_entry_semicolon parts) >>=
    (λ trees. Ok (ListOf trees)))
    (entry_text_not_of_memory text)
    (λ parts. entry_step_not_of_memory (entry_trees (slice_split is_entry_semicolon parts)) (λ trees. Ok (ListOf trees))
    (entry_trees_not_of_memory (slice_split is_entry_semicolon parts)) (λ trees. refl))

-- the result for a text of each kind is never an out-of-memory fault
entry_definition_not_of_memory : (k : Kind) (name text : List ℕ) → tells (entry_definition_in k name text) ≡ true
entry_definition_not_of_memory kind.Unit name text = unit_body_not_of_memory text
entry_definition_not_of_memory kind.Prefix name text = entry_body_not_of_memory text
entry_definition_not_of_memory kind.Func name text = function_or_table_not_of_memory name text
entry_definition_not_of_memory kind.List name text = list_entry_not_of_memory text

-- the result for the name of a heading is never an out-of-memory fault
heading_name_not_of_memory : (k : Kind) (name : List ℕ) → tells (heading_name_in k name) ≡ true
heading_name_not_of_memory kind.Unit name = entry_name_not_of_memory name
heading_name_not_of_memory kind.Prefix name = entry_name_not_of_memory name
heading_name_not_of_memory kind.Func name = entry_name_not_of_memory name
heading_name_not_of_memory kind.List [] = refl
heading_name_not_of_memory kind.List (b ∷ name) = entry_name_not_of_memory (b ∷ name)

-- the result for a heading is never an out-of-memory fault
heading_not_of_memory : (h : Heading) → tells (what_of h) ≡ true
unfolding what_of
heading_not_of_memory h =
    entry_step_not_of_memory (heading_name_in h.kind h.name) (λ name. entry_definition_in h.kind name h.text)
    (heading_name_not_of_memory h.kind h.name)
    (λ name. entry_definition_not_of_memory h.kind name h.text)

-- the result for each line is never an out-of-memory fault
entry_of_line_not_of_memory : (line : List ℕ) → tells (entry_of line) ≡ true
entry_of_line_not_of_memory line =
    let h = heading_of_line line in
    entry_step_not_of_memory (what_of h) (λ what. Ok (key h.kind h.name, record { text = h.text; what = what }))
    (heading_not_of_memory h)
    (λ what. refl)

-- the law that the fault of a line is never an out-of-memory fault
pub entry_fault_not_of_memory : EntryMemoryLaw
entry_fault_not_of_memory line fault said = sym (ap tells said) ∙ entry_of_line_not_of_memory line
