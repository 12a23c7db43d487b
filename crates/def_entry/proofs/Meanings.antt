-- The meaning of the form of a line, as it is read.
use Rattle.std.proofs.Common.{◌≡◌, ◌∷◌, [], ◌++◌, ℕ, List, Bool, true, false, cond, map, Option, Some, None, Result, Ok}
use Rattle.std.proofs.Common.{Err, refl, sym, ap, ◌∙◌, subst}
use Rattle.units_io.specs.Outcomes.{◌>>=◌}
use Rattle.expr_tree.specs.Syntax.{Syntax}
use Rattle.piecewise.specs.Lines.{Point}
use Rattle.piecewise.specs.Points.{is_table_of_points}
use Rattle.def_entry.specs.declared.fault.EntryFault.{EntryFault}
use Rattle.def_entry.specs.declared.fault.EntryFault.TheVariants.{BadTable}
use Rattle.def_entry.specs.Entries.{FunctionDef, What, Primitive, Dimensionless, Body, Function, Alias, Table, ListOf}
use Rattle.def_entry.specs.EntryGrammar.{AreEntryTreesOf, ArePointPairsOfText, HasPointPairs, IsEntryDefinitionOf}
use Rattle.def_entry.specs.EntryGrammar.{IsEntryTreeOf, IsFunctionEntryOf, optional_entry_expression, entry_expressions}
use Rattle.def_entry.specs.EntryGrammar.{in_unit_option_text, out_unit_option_text}
use Rattle.def_entry.specs.FormGrammar.{WrittenEntryForm, PrimitiveForm, DimensionlessForm, BodyForm, FunctionForm}
use Rattle.def_entry.specs.FormGrammar.{AliasForm, TableForm, ListForm}
use Rattle.def_entry.specs.Forms.{Form, some_text}
use Rattle.def_entry.specs.Options.{Units}
use Rattle.def_entry.specs.Outcomes.{entry_tree, or_entry_fault}
use Rattle.def_entry.specs.PointLists.{points_of, table_points}
use Rattle.def_entry.specs.EntryReading.{function_entry_definition, function_of, inverse_body_in, option_units_in}
use Rattle.def_entry.specs.EntryReading.{point_pairs_in, unit_tree}
use Rattle.def_entry.proofs.WrittenPoints.{point_pairs_law}
use Rattle.def_entry.proofs.Runs.{Runs, entry-tree-ok, entry_bind_ok, ok-entry-tree, runs-entry-done, runs-entry-map}
use Rattle.def_entry.proofs.Runs.{runs-entry-then, runs-entry-tree}

-- the trees of some parts
abbrev pub list_trees : List (List ℕ) → Result (List Syntax) EntryFault
list_trees [] = Ok []
list_trees (part ∷ parts) = entry_tree None part >>= (λ tree. list_trees parts >>= (λ trees. Ok (tree ∷ trees)))

-- a table, given its unit and its points
abbrev table_of : List ℕ → List Point → Result What EntryFault
table_of unit points = entry_tree None unit >>= (λ tree. Ok (Table (record { unit = tree; points = points })))

-- the meaning of a form
abbrev pub meaning : List ℕ → WrittenEntryForm → Result What EntryFault
meaning name PrimitiveForm = Ok Primitive
meaning name DimensionlessForm = Ok Dimensionless
meaning name (BodyForm body) = entry_tree None body >>= (λ tree. Ok (Body tree))
meaning name (FunctionForm parameter form) = function_of name parameter form
meaning name (AliasForm target) = Ok (Alias target)
meaning name (TableForm unit points) = point_pairs_in points >>= (λ ps. table_of unit ps)
meaning name (ListForm parts) = list_trees parts >>= (λ trees. Ok (ListOf trees))

-- points

-- points that are written are read
pub point_pairs-at : (text : List ℕ) (points : List Point) → ArePointPairsOfText text points
    → point_pairs_in text ≡ Ok points
point_pairs-at text points is =
    ap (λ o. or_entry_fault BadTable o >>= (λ ps. or_entry_fault BadTable (table_points ps)))
    ((point_pairs_law text points).1 is.0)
    ∙ ap (λ t. or_entry_fault BadTable (cond t (Some points) None)) is.1

-- the text has the points of a table, or does not
pub data PointsOf (text : List ℕ) : Type 0 where
  Points : (points : List Point) → ArePointPairsOfText text points → PointsOf text
  NoPoints : ((points : List Point) → ArePointPairsOfText text points → ⊥) → point_pairs_in text ≡ Err BadTable
      → PointsOf text

-- a text has points or is not a table
pub point_pairs-of : (text : List ℕ) → PointsOf text
point_pairs-of text = go (points_of text) refl where
  apart : (points : List Point) → ◌≡◌ {A = Option (List Point)} None (Some points) → ⊥
  apart points e = cc

  same : (ps qs : List Point) → ◌≡◌ {A = Option (List Point)} (Some ps) (Some qs) → ps ≡ qs
  same ps qs e = cc

  differ : false ≡ true → ⊥
  differ e = cc

  by : (points : List Point) → points_of text ≡ Some points → (t : Bool) → is_table_of_points points ≡ t
      → PointsOf text
  by points e true f = Points points ((point_pairs_law text points).0 e, f)
  by points e false f = NoPoints
      (λ qs is. differ (sym f ∙ ap is_table_of_points (same points qs (sym e ∙ (point_pairs_law text qs).1 is.0))
      ∙ is.1))
      (ap (λ o. or_entry_fault BadTable o >>= (λ ps. or_entry_fault BadTable (table_points ps))) e
      ∙ ap (λ t. or_entry_fault BadTable (cond t (Some points) None)) f)

  go : (found : Option (List Point)) → points_of text ≡ found → PointsOf text
  go None e = NoPoints (λ qs is. apart qs (sym e ∙ (point_pairs_law text qs).1 is.0))
      (ap (λ o. or_entry_fault BadTable o >>= (λ ps. or_entry_fault BadTable (table_points ps))) e)
  go (Some points) e = by points e (is_table_of_points points) refl

-- faults of expressions

-- reading a unit reads its expression, if it has one
runs-option-unit : (text : List ℕ) → Runs (unit_tree text) (optional_entry_expression None (some_text text))
runs-option-unit [] = runs-entry-done None
runs-option-unit (b ∷ text) = runs-entry-map (entry_tree None (b ∷ text)) (λ tree. Some tree) ((None, b ∷ text) ∷ [])
    (runs-entry-tree None (b ∷ text))

-- reading both units reads their expressions
runs-option-units : (units : Option Units) → Runs (option_units_in units)
    (optional_entry_expression None (in_unit_option_text units) ++ optional_entry_expression None
    (out_unit_option_text units))
runs-option-units None = runs-entry-done (None, None)
runs-option-units (Some units) =
    runs-entry-then (unit_tree units.in_unit) (λ first. unit_tree units.out_unit >>= (λ second. Ok (first, second)))
    (optional_entry_expression None (some_text units.in_unit))
    (optional_entry_expression None (some_text units.out_unit)) (runs-option-unit units.in_unit)
    (λ first. runs-entry-map (unit_tree units.out_unit) (λ second. (first, second))
    (optional_entry_expression None (some_text units.out_unit)) (runs-option-unit units.out_unit))

-- reading an inverse reads its expression
runs-inverse-body : (name : List ℕ) (text : Option (List ℕ))
    → Runs (inverse_body_in name text) (optional_entry_expression (Some name) text)
runs-inverse-body name None = runs-entry-done None
runs-inverse-body name (Some text) =
    runs-entry-map (entry_tree (Some name) text) (λ tree. Some tree) ((Some name, text) ∷ [])
    (runs-entry-tree (Some name) text)

-- reading a list reads the expressions of its parts
runs-list-entry : (parts : List (List ℕ)) → Runs (list_trees parts) (map (λ part. (None, part)) parts)
runs-list-entry [] = runs-entry-done []
runs-list-entry (part ∷ parts) =
    runs-entry-then (entry_tree None part) (λ tree. list_trees parts >>= (λ trees. Ok (tree ∷ trees)))
    ((None, part) ∷ [])
    (map (λ part. (None, part)) parts) (runs-entry-tree None part)
    (λ tree. runs-entry-map (list_trees parts) (λ trees. tree ∷ trees) (map (λ part. (None, part)) parts)
    (runs-list-entry parts))

-- reading a function reads the expressions of its units and its bodies
runs-function-entry : (name parameter : List ℕ) (form : Form)
    → Runs (function_of name parameter form) (entry_expressions name (FunctionForm parameter form))
runs-function-entry name parameter form = runs-entry-then (option_units_in form.options.units)
    (λ units. entry_tree (Some parameter) form.forward
    >>= (λ forward. inverse_body_in name form.inverse >>=
    (λ inverse. Ok (function_entry_definition form units forward inverse))))
    (optional_entry_expression None (in_unit_option_text form.options.units) ++ optional_entry_expression None
    (out_unit_option_text form.options.units))
    ((Some parameter, form.forward) ∷ optional_entry_expression (Some name) form.inverse)
    (runs-option-units form.options.units)
    (λ units. runs-entry-then (entry_tree (Some parameter) form.forward)
    (λ forward. inverse_body_in name form.inverse >>=
    (λ inverse. Ok (function_entry_definition form units forward inverse)))
    ((Some parameter, form.forward) ∷ [])
    (optional_entry_expression (Some name) form.inverse)
    (runs-entry-tree (Some parameter) form.forward)
    (λ forward. runs-entry-map (inverse_body_in name form.inverse)
    (λ inverse. function_entry_definition form units forward inverse)
    (optional_entry_expression (Some name) form.inverse) (runs-inverse-body name form.inverse)))

-- if a form has points or needs none, reading it reads its expressions
pub runs-entry-form : (name : List ℕ) (form : WrittenEntryForm) → HasPointPairs form
    → Runs (meaning name form) (entry_expressions name form)
runs-entry-form name PrimitiveForm has = runs-entry-done Primitive
runs-entry-form name DimensionlessForm has = runs-entry-done Dimensionless
runs-entry-form name (BodyForm body) has =
    runs-entry-map (entry_tree None body) (λ tree. Body tree) ((None, body) ∷ []) (runs-entry-tree None body)
runs-entry-form name (FunctionForm parameter form) has = runs-function-entry name parameter form
runs-entry-form name (AliasForm target) has = runs-entry-done (Alias target)
runs-entry-form name (TableForm unit text) has = subst (λ given. Runs given ((None, unit) ∷ []))
    (sym (ap (λ p. p >>= (λ ps. table_of unit ps)) (point_pairs-at text has.0 has.1)))
    (runs-entry-map (entry_tree None unit) (λ tree. Table (record { unit = tree; points = has.0 })) ((None, unit) ∷ [])
    (runs-entry-tree None unit))
runs-entry-form name (ListForm parts) has =
    runs-entry-map (list_trees parts) (λ trees. ListOf trees) (map (λ part. (None, part)) parts) (runs-list-entry parts)

-- a form has points or needs none, or is a table without points
pub data FormPoints (name : List ℕ) (form : WrittenEntryForm) : Type 0 where
  Has : HasPointPairs form → FormPoints name form
  HasNone : (HasPointPairs form → ⊥) → meaning name form ≡ Err BadTable → FormPoints name form

-- each form has points or needs none, or is a table without points
pub entry_form-point_pairs : (name : List ℕ) (form : WrittenEntryForm) → FormPoints name form
entry_form-point_pairs name (TableForm unit text) = go (point_pairs-of text) where
  go : PointsOf text → FormPoints name (TableForm unit text)
  go (Points points is) = Has (points, is)
  go (NoPoints never e) = HasNone (λ has. never has.0 has.1) (ap (λ p. p >>= (λ ps. table_of unit ps)) e)
entry_form-point_pairs name PrimitiveForm = Has tt
entry_form-point_pairs name DimensionlessForm = Has tt
entry_form-point_pairs name (BodyForm body) = Has tt
entry_form-point_pairs name (FunctionForm parameter form) = Has tt
entry_form-point_pairs name (AliasForm target) = Has tt
entry_form-point_pairs name (ListForm parts) = Has tt

-- meanings

-- a tree that is read is the tree of its text
some-entry-tree : (binder : Option (List ℕ)) (text : List ℕ) (tree : Option Syntax)
    → (entry_tree binder text >>= (λ t. Ok (Some t))) ≡ Ok tree
    → IsEntryTreeOf binder (Some text) tree
some-entry-tree binder text tree e =
    let step = entry_bind_ok (entry_tree binder text) (λ t. Ok (Some t)) tree e in
    (step.0, entry-tree-ok binder text step.0 step.1, same tree (Some step.0) step.2)
  where
    same : (x y : Option Syntax) → ◌≡◌ {A = Result (Option Syntax) EntryFault} (Ok y) (Ok x) → x ≡ y
    same x y e = cc

-- the tree of a text is read
entry-tree-some : (binder : Option (List ℕ)) (text : List ℕ) (tree : Option Syntax)
    → IsEntryTreeOf binder (Some text) tree
    → (entry_tree binder text >>= (λ t. Ok (Some t))) ≡ Ok tree
entry-tree-some binder text tree is = ap (λ r. r >>= (λ t. Ok (Some t))) (ok-entry-tree binder text is.0 is.1)
    ∙ ap Ok (sym is.2)

-- a unit that is read has its tree
option-unit-ok : (text : List ℕ) (tree : Option Syntax) → unit_tree text ≡ Ok tree
    → IsEntryTreeOf None (some_text text) tree
option-unit-ok [] tree e = cc
option-unit-ok (b ∷ text) tree e = some-entry-tree None (b ∷ text) tree e

-- a unit with its tree is read
ok-option-unit : (text : List ℕ) (tree : Option Syntax) → IsEntryTreeOf None (some_text text) tree
    → unit_tree text ≡ Ok tree
ok-option-unit [] tree is = ap Ok (sym is)
ok-option-unit (b ∷ text) tree is = entry-tree-some None (b ∷ text) tree is

-- the trees of two units in a result

-- the tree of the first unit
abbrev first_tree : Result (Option Syntax × Option Syntax) EntryFault → Option Syntax
first_tree (Ok p) = p.0
first_tree (Err f) = None

-- the tree of the second unit
abbrev second_tree : Result (Option Syntax × Option Syntax) EntryFault → Option Syntax
second_tree (Ok p) = p.1
second_tree (Err f) = None

-- units that are read have their trees
option-units-ok : (units : Option Units) (first second : Option Syntax) → option_units_in units ≡ Ok (first, second)
    → IsEntryTreeOf None (in_unit_option_text units) first × IsEntryTreeOf None (out_unit_option_text units) second
option-units-ok None first second e = (sym (ap first_tree e), sym (ap second_tree e))
option-units-ok (Some units) first second e =
    let one = entry_bind_ok (unit_tree units.in_unit) (λ a. unit_tree units.out_unit >>= (λ b. Ok (a, b)))
    (first, second) e in
    let two = entry_bind_ok (unit_tree units.out_unit) (λ b. Ok (one.0, b)) (first, second) one.2 in
    let a : one.0 ≡ first = ap first_tree two.2 in
    let b : two.0 ≡ second = ap second_tree two.2 in (
      subst (IsEntryTreeOf None (some_text units.in_unit)) a (option-unit-ok units.in_unit one.0 one.1),
      subst (IsEntryTreeOf None (some_text units.out_unit)) b (option-unit-ok units.out_unit two.0 two.1),
    )

-- units with their trees are read
ok-option-units : (units : Option Units) (first second : Option Syntax)
    → IsEntryTreeOf None (in_unit_option_text units) first
    → IsEntryTreeOf None (out_unit_option_text units) second
    → option_units_in units ≡ Ok (first, second)
ok-option-units None first second is other = (λ i. Ok (sym is i, sym other i))
ok-option-units (Some units) first second is other =
    ap (λ r. r >>= (λ a. unit_tree units.out_unit >>= (λ b. Ok (a, b)))) (ok-option-unit units.in_unit first is)
    ∙ ap (λ r. r >>= (λ b. Ok (first, b))) (ok-option-unit units.out_unit second other)

-- an inverse that is read has its tree
inverse-body-ok : (name : List ℕ) (text : Option (List ℕ)) (tree : Option Syntax) → inverse_body_in name text ≡ Ok tree
    → IsEntryTreeOf (Some name) text tree
inverse-body-ok name None tree e = cc
inverse-body-ok name (Some text) tree e = some-entry-tree (Some name) text tree e

-- an inverse with its tree is read
ok-inverse-body : (name : List ℕ) (text : Option (List ℕ)) (tree : Option Syntax) → IsEntryTreeOf (Some name) text tree
    → inverse_body_in name text ≡ Ok tree
ok-inverse-body name None tree is = ap Ok (sym is)
ok-inverse-body name (Some text) tree is = entry-tree-some (Some name) text tree is

-- equal results have equal meanings
same_entry_definition : (x y : What) → ◌≡◌ {A = Result What EntryFault} (Ok x) (Ok y) → x ≡ y
same_entry_definition x y e = cc

-- the definition of a function, given its trees
abbrev function_def : Form → Option Syntax × Option Syntax → Syntax → Option Syntax → FunctionDef
function_def form units forward inverse = record {
  in_unit = units.0;
  out_unit = units.1;
  domain = form.options.domain;
  range = form.options.range;
  forward = forward;
  inverse = inverse;
}

-- a function that is read is the meaning of its form
function-entry-ok : (name parameter : List ℕ) (form : Form) (what : What) → function_of name parameter form ≡ Ok what
    → IsEntryDefinitionOf name (FunctionForm parameter form) what
function-entry-ok name parameter form what e =
    let one = entry_bind_ok (option_units_in form.options.units)
    (λ units. entry_tree (Some parameter) form.forward
    >>= (λ forward. inverse_body_in name form.inverse >>=
    (λ inverse. Ok (function_entry_definition form units forward inverse))))
    what e in
    let two = entry_bind_ok (entry_tree (Some parameter) form.forward)
    (λ forward. inverse_body_in name form.inverse >>=
    (λ inverse. Ok (function_entry_definition form one.0 forward inverse))) what
    one.2 in
    let three = entry_bind_ok (inverse_body_in name form.inverse)
    (λ inverse. Ok (function_entry_definition form one.0 two.0 inverse))
    what two.2 in
    let units : IsEntryTreeOf None (in_unit_option_text form.options.units) one.0.0
    × IsEntryTreeOf None (out_unit_option_text form.options.units) one.0.1 =
    option-units-ok form.options.units one.0.0 one.0.1 one.1 in
    let said : IsEntryDefinitionOf name (FunctionForm parameter form) (Function (function_def form one.0 two.0 three.0))
    =
    record {
      in_unit = units.0;
      out_unit = units.1;
      domain = refl;
      range = refl;
      forward = entry-tree-ok (Some parameter) form.forward two.0 two.1;
      inverse = inverse-body-ok name form.inverse three.0 three.1;
    } in
    subst (IsEntryDefinitionOf name (FunctionForm parameter form))
    (same_entry_definition (Function (function_def form one.0 two.0 three.0)) what three.2) said

-- the meaning of the form of a function is read
ok-function-entry : (name parameter : List ℕ) (form : Form) (f : FunctionDef) → IsFunctionEntryOf name parameter form f
    → function_of name parameter form ≡ Ok (Function f)
ok-function-entry name parameter form f is = ap (λ r. r >>= (λ units. entry_tree (Some parameter) form.forward
    >>= (λ forward. inverse_body_in name form.inverse >>=
    (λ inverse. Ok (function_entry_definition form units forward inverse)))))
    (ok-option-units form.options.units f.in_unit f.out_unit is.in_unit is.out_unit)
    ∙ ap (λ r. r >>= (λ forward. inverse_body_in name form.inverse
    >>= (λ inverse. Ok (function_entry_definition form (f.in_unit, f.out_unit) forward inverse))))
    (ok-entry-tree (Some parameter) form.forward f.forward is.forward)
    ∙ ap (λ r. r >>= (λ inverse. Ok (function_entry_definition form (f.in_unit, f.out_unit) f.forward inverse)))
    (ok-inverse-body name form.inverse f.inverse is.inverse)
    ∙ (λ i. Ok (Function (record {
      in_unit = f.in_unit;
      out_unit = f.out_unit;
      domain = sym is.domain i;
      range = sym is.range i;
      forward = f.forward;
      inverse = f.inverse;
    })))

-- trees that are read are those of the parts
list-entry-ok : (parts : List (List ℕ)) (trees : List Syntax) → list_trees parts ≡ Ok trees
    → AreEntryTreesOf parts trees
list-entry-ok [] [] e = tt
list-entry-ok [] (t ∷ trees) e = cc
list-entry-ok (part ∷ parts) trees e =
    let one = entry_bind_ok (entry_tree None part) (λ tree. list_trees parts >>= (λ trees. Ok (tree ∷ trees))) trees e
    in
    let two = entry_bind_ok (list_trees parts) (λ trees. Ok (one.0 ∷ trees)) trees one.2 in
    subst (AreEntryTreesOf (part ∷ parts)) (same (one.0 ∷ two.0) trees two.2)
    (entry-tree-ok None part one.0 one.1, list-entry-ok parts two.0 two.1)
  where
    same : (x y : List Syntax) → ◌≡◌ {A = Result (List Syntax) EntryFault} (Ok x) (Ok y) → x ≡ y
    same x y e = cc

-- the trees of the parts are read
ok-list-entry : (parts : List (List ℕ)) (trees : List Syntax) → AreEntryTreesOf parts trees
    → list_trees parts ≡ Ok trees
ok-list-entry [] [] is = refl
ok-list-entry [] (t ∷ trees) is = absurd is
ok-list-entry (part ∷ parts) [] is = absurd is
ok-list-entry (part ∷ parts) (t ∷ trees) is =
    ap (λ r. r >>= (λ tree. list_trees parts >>= (λ trees. Ok (tree ∷ trees)))) (ok-entry-tree None part t is.0)
    ∙ ap (λ r. r >>= (λ trees. Ok (t ∷ trees))) (ok-list-entry parts trees is.1)

-- the definition read from a form is its meaning
pub entry-definition-ok : (name : List ℕ) (form : WrittenEntryForm) (what : What) → meaning name form ≡ Ok what
    → IsEntryDefinitionOf name form what
entry-definition-ok name PrimitiveForm what e = subst (IsEntryDefinitionOf name PrimitiveForm)
    (same_entry_definition Primitive what e) tt
entry-definition-ok name DimensionlessForm what e = subst (IsEntryDefinitionOf name DimensionlessForm)
    (same_entry_definition Dimensionless what e)
    tt
entry-definition-ok name (BodyForm body) what e =
    let step = entry_bind_ok (entry_tree None body) (λ tree. Ok (Body tree)) what e in
    subst (IsEntryDefinitionOf name (BodyForm body)) (same_entry_definition (Body step.0) what step.2)
    (entry-tree-ok None body step.0 step.1)
entry-definition-ok name (FunctionForm parameter form) what e = function-entry-ok name parameter form what e
entry-definition-ok name (AliasForm target) what e = subst (IsEntryDefinitionOf name (AliasForm target))
    (same_entry_definition (Alias target) what e) refl
entry-definition-ok name (TableForm unit text) what e = go (point_pairs-of text) where
  go : PointsOf text → IsEntryDefinitionOf name (TableForm unit text) what
  go (NoPoints never f) = let none : (Err BadTable >>= (λ ps. table_of unit ps)) ≡ Ok what =
      ap (λ p. p >>= (λ ps. table_of unit ps)) (sym f) ∙ e in cc
  go (Points points is) =
      let step = entry_bind_ok (entry_tree None unit) (λ tree. Ok (Table (record { unit = tree; points = points })))
      what
      (ap (λ p. p >>= (λ ps. table_of unit ps)) (sym (point_pairs-at text points is)) ∙ e) in
      subst (IsEntryDefinitionOf name (TableForm unit text))
      (same_entry_definition (Table (record { unit = step.0; points = points })) what step.2)
      (entry-tree-ok None unit step.0 step.1, is)
entry-definition-ok name (ListForm parts) what e =
    let step = entry_bind_ok (list_trees parts) (λ trees. Ok (ListOf trees)) what e in
    subst (IsEntryDefinitionOf name (ListForm parts)) (same_entry_definition (ListOf step.0) what step.2)
    (list-entry-ok parts step.0 step.1)

-- the meaning of a form is read
pub ok-entry-definition : (name : List ℕ) (form : WrittenEntryForm) (what : What) → IsEntryDefinitionOf name form what
    → meaning name form ≡ Ok what
ok-entry-definition name PrimitiveForm Primitive is = refl
ok-entry-definition name DimensionlessForm Dimensionless is = refl
ok-entry-definition name (BodyForm body) (Body e) is = ap (λ r. r >>= (λ tree. Ok (Body tree)))
    (ok-entry-tree None body e is)
ok-entry-definition name (FunctionForm parameter form) (Function f) is = ok-function-entry name parameter form f is
ok-entry-definition name (AliasForm target) (Alias other) is = (λ i. Ok (Alias (is i)))
ok-entry-definition name (TableForm unit text) (Table t) is =
    ap (λ p. p >>= (λ ps. table_of unit ps)) (point_pairs-at text t.points is.1)
    ∙ ap (λ r. r >>= (λ tree. Ok (Table (record { unit = tree; points = t.points }))))
    (ok-entry-tree None unit t.unit is.0)
ok-entry-definition name (ListForm parts) (ListOf es) is = ap (λ r. r >>= (λ trees. Ok (ListOf trees)))
    (ok-list-entry parts es is)
ok-entry-definition name _ _ is = absurd is
