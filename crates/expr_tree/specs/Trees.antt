-- The meaning of trees and of their lists, as `Syntax`.
use Rattle.std.specs.Prelude.{List, [], ◌∷◌, map}
use Rattle.expr_tree.specs.declared.operator.Scale.{Scale}
use Rattle.expr_tree.specs.declared.operator.Sign.{Sign}
use Rattle.expr_tree.specs.declared.tree.Tree.{Tree}
use Rattle.expr_tree.specs.declared.tree.Trees.{Trees, out-Trees}
use Rattle.expr_tree.specs.declared.tree.Factors.{Factors as FactorList, out-Factors}
use Rattle.expr_tree.specs.declared.tree.Terms.{Terms as TermList, out-Terms}
use Rattle.expr_tree.specs.declared.tree.Tree.TheOpen as one
use Rattle.expr_tree.specs.declared.tree.Tree.TheFolds.{fold-Tree}
use Rattle.expr_tree.specs.Syntax.{Syntax, Number, Bar, Word, Argument, Call, Inverse, Root, Group, Negate, Power}
use Rattle.expr_tree.specs.Syntax.{Juxtaposed, Product, Sum}
use Rattle.expr_tree.specs.Syntax.{Members, NoMember, Member, Factors, NoFactor, Factor, Terms, NoTerm, Term}

-- operands side by side
abbrev pub members_syntax : List Syntax → Members
members_syntax [] = NoMember
members_syntax (e ∷ es) = Member e (members_syntax es)

-- the members of a product
abbrev pub factors_syntax : List (Scale × Syntax) → Factors
factors_syntax [] = NoFactor
factors_syntax (f ∷ fs) = Factor f.0 f.1 (factors_syntax fs)

-- the members of a sum
abbrev pub terms_syntax : List (Sign × Syntax) → Terms
terms_syntax [] = NoTerm
terms_syntax (t ∷ ts) = Term t.0 t.1 (terms_syntax ts)

-- the meaning of a tree whose parts are replaced by their meanings
abbrev pub tree_level_syntax : one.Tree-F Syntax Factors Terms Members → Syntax
tree_level_syntax (one.Number x) = Number x
tree_level_syntax (one.Bar q) = Bar q.value.top q.value.bottom
tree_level_syntax (one.Word w) = Word w
tree_level_syntax one.Argument = Argument
tree_level_syntax (one.Call w e) = Call w.value e.value
tree_level_syntax (one.Inverse w e) = Inverse w.value e.value
tree_level_syntax (one.Root kind e) = Root kind e.value
tree_level_syntax (one.Group e) = Group e.value
tree_level_syntax (one.Negate e) = Negate e.value
tree_level_syntax (one.Power e f) = Power e.value f.value
tree_level_syntax (one.Juxtaposed es) = Juxtaposed es
tree_level_syntax (one.Product fs) = Product fs
tree_level_syntax (one.Sum ts) = Sum ts

-- the meaning of a tree
abbrev pub syntax : Tree → Syntax
syntax = fold-Tree Syntax Factors Terms Members tree_level_syntax (λ fs. factors_syntax fs.items.items)
    (λ ts. terms_syntax ts.items.items)
    (λ es. members_syntax es.items.items)

-- the meaning of a member of a product
abbrev pub factor_syntax : Scale × Tree → Scale × Syntax
factor_syntax f = (f.0, syntax f.1)

-- the meaning of a member of a sum
abbrev pub term_syntax : Sign × Tree → Sign × Syntax
term_syntax t = (t.0, syntax t.1)

-- the meanings of the trees of a list
abbrev pub syntax_of_trees : Trees → List Syntax
syntax_of_trees es = map syntax (out-Trees es).items.items

-- the meanings of the members of a product
abbrev pub syntax_of_factors : FactorList → List (Scale × Syntax)
syntax_of_factors fs = map factor_syntax (out-Factors fs).items.items

-- the meanings of the members of a sum
abbrev pub syntax_of_terms : TermList → List (Sign × Syntax)
syntax_of_terms ts = map term_syntax (out-Terms ts).items.items
