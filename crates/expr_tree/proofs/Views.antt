-- The meaning of each kind of tree.
use Rattle.std.proofs.Common.{◌≡◌, ℕ, List, sym, ap, ◌∙◌, Global, Box}
use Rattle.frac128.specs.Decimals.{NumeralDecimal}
use Rattle.expr_tree.specs.declared.operator.RootKind.{RootKind}
use Rattle.expr_tree.specs.declared.tree.Quotient.{Quotient}
use Rattle.expr_tree.specs.declared.tree.Tree.{Tree}
use Rattle.expr_tree.specs.declared.tree.Tree.TheVariants as made
use Rattle.expr_tree.specs.declared.tree.Tree.TheOpen as one
use Rattle.expr_tree.specs.declared.tree.Tree.TheFolds.{fold-roll-Tree, fold_out-Trees, fold_out-Factors}
use Rattle.expr_tree.specs.declared.tree.Tree.TheFolds.{fold_out-Terms}
use Rattle.expr_tree.specs.declared.tree.Trees.{Trees}
use Rattle.expr_tree.specs.declared.tree.Factors.{Factors as FactorList}
use Rattle.expr_tree.specs.declared.tree.Terms.{Terms as TermList}
use Rattle.expr_tree.specs.Syntax.{Syntax, Members, Factors, Terms}
use Rattle.expr_tree.specs.Syntax as tree
use Rattle.expr_tree.specs.Views.{SyntaxViewLaw}
use Rattle.expr_tree.specs.Trees.{syntax, tree_level_syntax, members_syntax, factors_syntax, terms_syntax}
use Rattle.expr_tree.specs.Trees.{syntax_of_trees, syntax_of_factors, syntax_of_terms}

-- the meaning of a number
pub syntax_of_number : (n : NumeralDecimal) → syntax (made.Number n) ≡ tree.Number n
syntax_of_number n = ap syntax (sym (made.rolls-Number n))
    ∙ fold-roll-Tree Syntax Factors Terms Members tree_level_syntax (λ fs. factors_syntax fs.items.items)
    (λ ts. terms_syntax ts.items.items)
    (λ es. members_syntax es.items.items) (one.Number n)

-- the meaning of a fraction
pub syntax_of_bar : (q : Box Quotient Global) → syntax (made.Bar q) ≡ tree.Bar q.value.top q.value.bottom
syntax_of_bar q = ap syntax (sym (made.rolls-Bar q))
    ∙ fold-roll-Tree Syntax Factors Terms Members tree_level_syntax (λ fs. factors_syntax fs.items.items)
    (λ ts. terms_syntax ts.items.items)
    (λ es. members_syntax es.items.items) (one.Bar q)

-- the meaning of a word
pub syntax_of_word : (w : List ℕ) → syntax (made.Word w) ≡ tree.Word w
syntax_of_word w = ap syntax (sym (made.rolls-Word w))
    ∙ fold-roll-Tree Syntax Factors Terms Members tree_level_syntax (λ fs. factors_syntax fs.items.items)
    (λ ts. terms_syntax ts.items.items)
    (λ es. members_syntax es.items.items) (one.Word w)

-- the meaning of the argument
pub syntax_of_argument : syntax made.Argument ≡ tree.Argument
syntax_of_argument = ap syntax (sym made.rolls-Argument)
    ∙ fold-roll-Tree Syntax Factors Terms Members tree_level_syntax (λ fs. factors_syntax fs.items.items)
    (λ ts. terms_syntax ts.items.items)
    (λ es. members_syntax es.items.items) one.Argument

-- the meaning of a call
pub syntax_of_call : (w : Box (List ℕ) Global) (e : Box Tree Global)
    → syntax (made.Call w e) ≡ tree.Call w.value (syntax e.value)
syntax_of_call w e = ap syntax (sym (made.rolls-Call w e))
    ∙ fold-roll-Tree Syntax Factors Terms Members tree_level_syntax (λ fs. factors_syntax fs.items.items)
    (λ ts. terms_syntax ts.items.items)
    (λ es. members_syntax es.items.items) (one.Call w e)

-- the meaning of an inverse
pub syntax_of_inverse : (w : Box (List ℕ) Global) (e : Box Tree Global)
    → syntax (made.Inverse w e) ≡ tree.Inverse w.value (syntax e.value)
syntax_of_inverse w e = ap syntax (sym (made.rolls-Inverse w e))
    ∙ fold-roll-Tree Syntax Factors Terms Members tree_level_syntax (λ fs. factors_syntax fs.items.items)
    (λ ts. terms_syntax ts.items.items)
    (λ es. members_syntax es.items.items) (one.Inverse w e)

-- the meaning of a root
pub syntax_of_root : (n : RootKind) (e : Box Tree Global) → syntax (made.Root n e) ≡ tree.Root n (syntax e.value)
syntax_of_root n e = ap syntax (sym (made.rolls-Root n e))
    ∙ fold-roll-Tree Syntax Factors Terms Members tree_level_syntax (λ fs. factors_syntax fs.items.items)
    (λ ts. terms_syntax ts.items.items)
    (λ es. members_syntax es.items.items) (one.Root n e)

-- the meaning of a group
pub syntax_of_group : (e : Box Tree Global) → syntax (made.Group e) ≡ tree.Group (syntax e.value)
syntax_of_group e = ap syntax (sym (made.rolls-Group e))
    ∙ fold-roll-Tree Syntax Factors Terms Members tree_level_syntax (λ fs. factors_syntax fs.items.items)
    (λ ts. terms_syntax ts.items.items)
    (λ es. members_syntax es.items.items) (one.Group e)

-- the meaning of a negated operand
pub syntax_of_negate : (e : Box Tree Global) → syntax (made.Negate e) ≡ tree.Negate (syntax e.value)
syntax_of_negate e = ap syntax (sym (made.rolls-Negate e))
    ∙ fold-roll-Tree Syntax Factors Terms Members tree_level_syntax (λ fs. factors_syntax fs.items.items)
    (λ ts. terms_syntax ts.items.items)
    (λ es. members_syntax es.items.items) (one.Negate e)

-- the meaning of a power
pub syntax_of_power : (e f : Box Tree Global) → syntax (made.Power e f) ≡ tree.Power (syntax e.value) (syntax f.value)
syntax_of_power e f = ap syntax (sym (made.rolls-Power e f))
    ∙ fold-roll-Tree Syntax Factors Terms Members tree_level_syntax (λ fs. factors_syntax fs.items.items)
    (λ ts. terms_syntax ts.items.items)
    (λ es. members_syntax es.items.items) (one.Power e f)

-- the meaning of operands side by side
pub syntax_of_juxtaposed : (es : Trees) → syntax (made.Juxtaposed es) ≡ tree.Juxtaposed
    (members_syntax (syntax_of_trees es))
syntax_of_juxtaposed es = ap syntax (sym (made.rolls-Juxtaposed es))
    ∙ (fold-roll-Tree Syntax Factors Terms Members tree_level_syntax (λ fs. factors_syntax fs.items.items)
    (λ ts. terms_syntax ts.items.items)
    (λ es. members_syntax es.items.items) (one.Juxtaposed es)
    ∙ ap tree.Juxtaposed
    (fold_out-Trees Syntax Factors Terms Members tree_level_syntax (λ fs. factors_syntax fs.items.items)
    (λ ts. terms_syntax ts.items.items)
    (λ es. members_syntax es.items.items) es))

-- the meaning of a product
pub syntax_of_product : (fs : FactorList) → syntax (made.Product fs) ≡ tree.Product
    (factors_syntax (syntax_of_factors fs))
syntax_of_product fs = ap syntax (sym (made.rolls-Product fs))
    ∙ (fold-roll-Tree Syntax Factors Terms Members tree_level_syntax (λ fs. factors_syntax fs.items.items)
    (λ ts. terms_syntax ts.items.items)
    (λ es. members_syntax es.items.items) (one.Product fs)
    ∙ ap tree.Product
    (fold_out-Factors Syntax Factors Terms Members tree_level_syntax (λ fs. factors_syntax fs.items.items)
    (λ ts. terms_syntax ts.items.items)
    (λ es. members_syntax es.items.items) fs))

-- the meaning of a sum
pub syntax_of_sum : (ts : TermList) → syntax (made.Sum ts) ≡ tree.Sum (terms_syntax (syntax_of_terms ts))
syntax_of_sum ts = ap syntax (sym (made.rolls-Sum ts))
    ∙ (fold-roll-Tree Syntax Factors Terms Members tree_level_syntax (λ fs. factors_syntax fs.items.items)
    (λ ts. terms_syntax ts.items.items)
    (λ es. members_syntax es.items.items) (one.Sum ts)
    ∙ ap tree.Sum (fold_out-Terms Syntax Factors Terms Members tree_level_syntax (λ fs. factors_syntax fs.items.items)
    (λ ts. terms_syntax ts.items.items) (λ es. members_syntax es.items.items) ts))

-- the law of the meanings of all kinds
pub syntax_view_law : SyntaxViewLaw
syntax_view_law = record {
  number = syntax_of_number;
  bar = syntax_of_bar;
  word = syntax_of_word;
  argument = syntax_of_argument;
  call = syntax_of_call;
  inverse = syntax_of_inverse;
  root = syntax_of_root;
  group = syntax_of_group;
  negate = syntax_of_negate;
  power = syntax_of_power;
  juxtaposition = syntax_of_juxtaposed;
  product = syntax_of_product;
  sum = syntax_of_sum;
}

-- the equations of all kinds, for recursion over trees
pub ruleset views = (
  syntax_of_number,
  syntax_of_bar,
  syntax_of_word,
  syntax_of_argument,
  syntax_of_call,
  syntax_of_inverse,
  syntax_of_root,
  syntax_of_group,
  syntax_of_negate,
  syntax_of_power,
  syntax_of_juxtaposed,
  syntax_of_product,
  syntax_of_sum,
)
