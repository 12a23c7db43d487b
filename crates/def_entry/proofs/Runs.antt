-- The first fault of expressions that are parsed in sequence.
use Rattle.std.proofs.Common.{◌≡◌, inl, inr, ◌∷◌, [], ◌++◌, ℕ, List, Option, Result, Ok, Err, refl, sym, ap, ◌∙◌, subst}
use Rattle.std.proofs.lemmas.List.{append-nil}
use Rattle.units_io.specs.Outcomes.{◌>>=◌}
use Rattle.expr_tree.specs.declared.fault.ParseFault.{ParseFault}
use Rattle.expr_tree.specs.ParseResult.{parse_of}
use Rattle.expr_tree.specs.Syntax.{Syntax}
use Rattle.def_entry.specs.declared.fault.EntryFault.{EntryFault}
use Rattle.def_entry.specs.declared.fault.EntryFault.TheVariants.{Parse}
use Rattle.def_entry.specs.EntryGrammar.{IsEntryExpressionFault}
use Rattle.def_entry.specs.Outcomes.{entry_tree, parsed_entry}

-- an expression, given by its binder and its text
abbrev pub Expression : Type 0
Expression = Option (List ℕ) × List ℕ

-- each expression has a tree
abbrev pub AllParse : List Expression → Type 0
AllParse [] = Unit {0}
AllParse (e ∷ es) = ((tree : Syntax) × (parse_of e.0 e.1 ≡ Ok tree)) × AllParse es

-- the fault is the first fault of the expressions
pub record Faulty (es : List Expression) (fault : EntryFault) : Type 0 where
  pub of : ParseFault
  pub is : fault ≡ Parse of
  pub first : IsEntryExpressionFault es of

-- the result succeeds if each expression has a tree, and is the first fault otherwise
pub record Runs {A : Type 0} (given : Result A EntryFault) (es : List Expression) : Type 0 where
  pub ok : (x : A) → given ≡ Ok x → AllParse es
  pub err : (fault : EntryFault) → given ≡ Err fault → Faulty es fault

-- if all expressions of two lists parse, so do those of their concatenation
both_entry_expressions_parse : (es fs : List Expression) → AllParse es → AllParse fs → AllParse (es ++ fs)
both_entry_expressions_parse [] fs first second = second
both_entry_expressions_parse (e ∷ es) fs first second = (first.0, both_entry_expressions_parse es fs first.1 second)

-- the first fault of the front is that of all expressions
front_entry_expression_fault : (es fs : List Expression) (x : ParseFault) → IsEntryExpressionFault es x
    → IsEntryExpressionFault (es ++ fs) x
front_entry_expression_fault [] fs x is = absurd is
front_entry_expression_fault (e ∷ es) fs x (inl is) = inl is
front_entry_expression_fault (e ∷ es) fs x (inr is) = inr (is.0, front_entry_expression_fault es fs x is.1)

-- if all expressions of the front parse, the first fault is that of the others
later_entry_expression_fault : (es fs : List Expression) (x : ParseFault) → AllParse es → IsEntryExpressionFault fs x
    → IsEntryExpressionFault (es ++ fs) x
later_entry_expression_fault [] fs x first is = is
later_entry_expression_fault (e ∷ es) fs x first is = inr (first.0, later_entry_expression_fault es fs x first.1 is)

-- the first fault is unique, and there is none if each expression has a tree

-- if all expressions parse, there is no fault
pub no-entry-expression-fault : (es : List Expression) (x : ParseFault) → AllParse es → IsEntryExpressionFault es x → ⊥
no-entry-expression-fault [] x all is = is
no-entry-expression-fault (e ∷ es) x all (inl is) = let tree : parse_of e.0 e.1 ≡ Ok all.0.0 =
    all.0.1 in absurd (apart (all.0.0) (sym tree ∙ is))
  where
    apart : (t : Syntax) → ◌≡◌ {A = Result Syntax ParseFault} (Ok t) (Err x) → ⊥
    apart t e = cc
no-entry-expression-fault (e ∷ es) x all (inr is) = no-entry-expression-fault es x all.1 is.1

-- the first fault is unique
pub one-entry-expression-fault : (es : List Expression) (x y : ParseFault) → IsEntryExpressionFault es x
    → IsEntryExpressionFault es y → x ≡ y
one-entry-expression-fault [] x y is other = absurd is
one-entry-expression-fault (e ∷ es) x y (inl is) (inl other) = let same : ◌≡◌ {A = Result Syntax ParseFault} (Err x)
    (Err y) =
    sym is ∙ other in cc
one-entry-expression-fault (e ∷ es) x y (inl is) (inr other) = let no_way : ◌≡◌ {A = Result Syntax ParseFault} (Err x)
    (Ok other.0.0) =
    sym is ∙ other.0.1 in cc
one-entry-expression-fault (e ∷ es) x y (inr is) (inl other) = let no_way : ◌≡◌ {A = Result Syntax ParseFault}
    (Ok is.0.0) (Err y) =
    sym is.0.1 ∙ other in cc
one-entry-expression-fault (e ∷ es) x y (inr is) (inr other) = one-entry-expression-fault es x y is.1 other.1

-- a single expression
pub runs-entry-tree : (binder : Option (List ℕ)) (text : List ℕ) → Runs (entry_tree binder text) ((binder, text) ∷ [])
runs-entry-tree binder text = go (parse_of binder text) refl
  where
    go : (given : Result Syntax ParseFault) → parse_of binder text ≡ given
        → Runs (parsed_entry given) ((binder, text) ∷ [])
    go (Ok tree) e = record { ok = λ x f. ((tree, e), tt); err = λ fault f. cc }
    go (Err x) e = record {
      ok = λ y f. cc;
      err = λ fault f. let same : fault ≡ Parse x =
          cc in record { of = x; is = same; first = inl e };
    }

-- one step after another
pub runs-entry-then : {A B : Type 0} (given : Result A EntryFault) (step : A → Result B EntryFault)
    (es fs : List Expression)
    → Runs given es
    → ((x : A) → Runs (step x) fs)
    → Runs (given >>= step) (es ++ fs)
runs-entry-then (Ok x) step es fs first next = record {
  ok = λ y e. both_entry_expressions_parse es fs (first.ok x refl) ((next x).ok y e);
  err = λ fault e.
      let last : Faulty fs fault = (next x).err fault e in
      record {
        of = last.of;
        is = last.is;
        first = later_entry_expression_fault es fs last.of (first.ok x refl)
            last.first;
      };
}
runs-entry-then {A = A} {B = B} (Err fault) step es fs first next = record {
  ok = λ y e. absurd (apart fault y e);
  err = λ other e.
      let same : fault ≡ other = same_fault fault other e in
      let front : Faulty es fault = first.err fault refl in
      record {
        of = front.of;
        is = sym same ∙ front.is;
        first = front_entry_expression_fault es fs front.of front.first;
      };
}
  where
    apart : (f : EntryFault) (y : B) → ◌≡◌ {A = Result B EntryFault} (Err f) (Ok y) → ⊥
    apart f y e = cc

    same_fault : (f g : EntryFault) → ◌≡◌ {A = Result B EntryFault} (Err f) (Err g) → f ≡ g
    same_fault f g e = cc

-- a result without a fault
pub runs-entry-done : {A : Type 0} (x : A) → Runs {A = A} (Ok x) []
runs-entry-done x = record { ok = λ y e. tt; err = λ fault e. cc }

-- a result that is converted
pub runs-entry-map : {A B : Type 0} (given : Result A EntryFault) (make : A → B) (es : List Expression) → Runs given es
    → Runs (given >>= (λ x. Ok (make x))) es
runs-entry-map {A = A} {B = B} given make es first =
    subst (Runs (given >>= (λ x. Ok (make x)))) (append-nil es)
    (runs-entry-then given (λ x. Ok (make x)) es [] first (λ x. runs-entry-done (make x)))

-- if a step and its continuation succeed, the step succeeds
pub entry_bind_ok : {A B : Type 0} (given : Result A EntryFault) (step : A → Result B EntryFault) (y : B)
    → (given >>= step) ≡ Ok y
    → (x : A) × (given ≡ Ok x) × (step x ≡ Ok y)
entry_bind_ok (Ok x) step y e = (x, refl, e)
entry_bind_ok (Err fault) step y e = cc

-- the tree of an expression

-- a tree that is read was parsed
pub entry-tree-ok : (binder : Option (List ℕ)) (text : List ℕ) (tree : Syntax) → entry_tree binder text ≡ Ok tree
    → parse_of binder text ≡ Ok tree
entry-tree-ok binder text tree e = go (parse_of binder text) refl e
  where
    go : (given : Result Syntax ParseFault) → parse_of binder text ≡ given → parsed_entry given ≡ Ok tree
        → parse_of binder text ≡ Ok tree
    go (Ok other) f e = let same : other ≡ tree = cc in f ∙ ap Ok same
    go (Err x) f e = cc

-- a tree that was parsed is read
pub ok-entry-tree : (binder : Option (List ℕ)) (text : List ℕ) (tree : Syntax) → parse_of binder text ≡ Ok tree
    → entry_tree binder text ≡ Ok tree
ok-entry-tree binder text tree e = ap parsed_entry e
