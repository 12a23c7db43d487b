-- The members of each kind of list are a chain.
use Rattle.std.proofs.Common.{◌≡◌, List, [], ◌∷◌, ◌++◌, map, refl, ap, ◌∙◌}
use Rattle.expr_tree.specs.declared.operator.Scale.{Scale}
use Rattle.expr_tree.specs.declared.operator.Sign.{Sign}
use Rattle.expr_tree.specs.declared.word_list.WordUse.{WordUse}
use Rattle.expr_tree.specs.Syntax as tree
use Rattle.expr_tree.specs.Syntax.{Syntax}
use Rattle.expr_tree.specs.Trees.{factors_syntax, members_syntax, terms_syntax}
use Rattle.expr_tree.specs.Words.{words_in, words_in_factors, words_in_members, words_in_terms}
use Rattle.tree_eval.specs.declared.step.Step.{Step}
use Rattle.tree_eval.specs.declared.step.Step.TheVariants.{Multiply}
use Rattle.tree_eval.specs.Expansions.{Chain, EvalMeaning, Link}
use Rattle.tree_eval.specs.Expansion.{expand, factor_links, member_links, scale_operand_step, sign_operand_step}
use Rattle.tree_eval.specs.Expansion.{term_links}
use Rattle.tree_eval.specs.Operands.{chain, links, operand_by_side, scaled_operand, signed_operand, words_of_operands}

-- the words of juxtaposed operands are those of a chain of products
operand_chain_words : (es : List Syntax) → words_in_members (members_syntax es) ≡ words_of_operands
    (map operand_by_side es)
operand_chain_words [] = refl
operand_chain_words (e ∷ es) = ap (λ ws. words_in e ++ ws) (operand_chain_words es)

-- the words of a product are those of its chain
product_operand_words : (fs : List (Scale × Syntax)) → words_in_factors (factors_syntax fs) ≡ words_of_operands
    (map scaled_operand fs)
product_operand_words [] = refl
product_operand_words (f ∷ fs) = ap (λ ws. words_in f.1 ++ ws) (product_operand_words fs)

-- the words of a sum are those of its chain
sum_operand_words : (ts : List (Sign × Syntax)) → words_in_terms (terms_syntax ts) ≡ words_of_operands
    (map signed_operand ts)
sum_operand_words [] = refl
sum_operand_words (t ∷ ts) = ap (λ ws. words_in t.1 ++ ws) (sum_operand_words ts)

module _ (means : WordUse → EvalMeaning) where
  links_of_members : (es : List Syntax) → member_links means (members_syntax es) ≡ links means (map operand_by_side es)
  links_of_members [] = refl
  links_of_members (e ∷ es) = ap (Link Multiply (expand means e)) (links_of_members es)

  links_of_factors : (fs : List (Scale × Syntax)) → factor_links means (factors_syntax fs) ≡ links means
      (map scaled_operand fs)
  links_of_factors [] = refl
  links_of_factors (f ∷ fs) = ap (Link (scale_operand_step f.0) (expand means f.1)) (links_of_factors fs)

  links_of_terms : (ts : List (Sign × Syntax)) → term_links means (terms_syntax ts) ≡ links means
      (map signed_operand ts)
  links_of_terms [] = refl
  links_of_terms (t ∷ ts) = ap (Link (sign_operand_step t.0) (expand means t.1)) (links_of_terms ts)

  juxtaposed_chain : (es : List Syntax) → expand means (tree.Juxtaposed (members_syntax es)) ≡ chain means
      (map operand_by_side es)
  juxtaposed_chain [] = refl
  juxtaposed_chain (e ∷ es) = ap (Chain (expand means e)) (links_of_members es)

  product_chain : (fs : List (Scale × Syntax)) → expand means (tree.Product (factors_syntax fs)) ≡ chain means
      (map scaled_operand fs)
  product_chain [] = refl
  product_chain (f ∷ fs) = ap (Chain (expand means f.1)) (links_of_factors fs)

  sum_chain : (ts : List (Sign × Syntax)) → expand means (tree.Sum (terms_syntax ts)) ≡ chain means
      (map signed_operand ts)
  sum_chain [] = refl
  sum_chain (t ∷ ts) = ap (Chain (expand means t.1)) (links_of_terms ts)

  -- a tree is a chain of these members
  pub record IsChain (e : Syntax) (os : List (Step × Syntax)) : Type 0 where
    pub words : words_in e ≡ words_of_operands os
    pub expands : expand means e ≡ chain means os

  pub juxtaposed_is : {e : Syntax} (es : List Syntax) → e ≡ tree.Juxtaposed (members_syntax es)
      → IsChain e (map operand_by_side es)
  juxtaposed_is es h = record {
    words = ap words_in h ∙ operand_chain_words es;
    expands = ap (expand means) h ∙ juxtaposed_chain es;
  }

  pub product_is : {e : Syntax} (fs : List (Scale × Syntax)) → e ≡ tree.Product (factors_syntax fs)
      → IsChain e (map scaled_operand fs)
  product_is fs h = record {
    words = ap words_in h ∙ product_operand_words fs;
    expands = ap (expand means) h ∙ product_chain fs;
  }

  pub sum_is : {e : Syntax} (ts : List (Sign × Syntax)) → e ≡ tree.Sum (terms_syntax ts)
      → IsChain e (map signed_operand ts)
  sum_is ts h = record {
    words = ap words_in h ∙ sum_operand_words ts;
    expands = ap (expand means) h ∙ sum_chain ts;
  }
