-- The meaning of each kind of tree.
use Rattle.std.specs.Prelude.{◌≡◌, ℕ, List}
use Rattle.std.specs.Global.{Box}
use Rattle.frac128.specs.Decimals.{NumeralDecimal}
use Rattle.expr_tree.specs.declared.operator.RootKind.{RootKind}
use Rattle.expr_tree.specs.declared.tree.Factors.{Factors}
use Rattle.expr_tree.specs.declared.tree.Quotient.{Quotient}
use Rattle.expr_tree.specs.declared.tree.Terms.{Terms}
use Rattle.expr_tree.specs.declared.tree.Tree.{Tree}
use Rattle.expr_tree.specs.declared.tree.Tree.TheVariants.{Number, Bar, Word, Argument, Call, Inverse, Root, Group}
use Rattle.expr_tree.specs.declared.tree.Tree.TheVariants.{Negate, Power, Juxtaposed, Product, Sum}
use Rattle.expr_tree.specs.declared.tree.Trees.{Trees}
use Rattle.expr_tree.specs.Syntax as tree
use Rattle.expr_tree.specs.Trees.{syntax, members_syntax, factors_syntax, terms_syntax, syntax_of_trees}
use Rattle.expr_tree.specs.Trees.{syntax_of_factors, syntax_of_terms}

-- law: the meaning of a tree of each kind, by the meanings of its parts
pub record SyntaxViewLaw : Type 0 where
  pub number : (x : NumeralDecimal) → syntax (Number x) ≡ tree.Number x
  pub bar : (q : Box Quotient) → syntax (Bar q) ≡ tree.Bar q.value.top q.value.bottom
  pub word : (w : List ℕ) → syntax (Word w) ≡ tree.Word w
  pub argument : syntax Argument ≡ tree.Argument
  pub call : (w : Box (List ℕ)) (e : Box Tree) → syntax (Call w e) ≡ tree.Call w.value (syntax e.value)
  pub inverse : (w : Box (List ℕ)) (e : Box Tree) → syntax (Inverse w e) ≡ tree.Inverse w.value (syntax e.value)
  pub root : (kind : RootKind) (e : Box Tree) → syntax (Root kind e) ≡ tree.Root kind (syntax e.value)
  pub group : (e : Box Tree) → syntax (Group e) ≡ tree.Group (syntax e.value)
  pub negate : (e : Box Tree) → syntax (Negate e) ≡ tree.Negate (syntax e.value)
  pub power : (e f : Box Tree) → syntax (Power e f) ≡ tree.Power (syntax e.value) (syntax f.value)
  pub juxtaposition : (es : Trees) → syntax (Juxtaposed es) ≡ tree.Juxtaposed (members_syntax (syntax_of_trees es))
  pub product : (fs : Factors) → syntax (Product fs) ≡ tree.Product (factors_syntax (syntax_of_factors fs))
  pub sum : (ts : Terms) → syntax (Sum ts) ≡ tree.Sum (terms_syntax (syntax_of_terms ts))
