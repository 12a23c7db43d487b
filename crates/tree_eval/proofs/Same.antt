-- An expansion depends on the meanings of its words, and on nothing else.
use Rattle.std.proofs.Common.{◌≡◌, ℕ, zero, suc, max, List, [], ◌∷◌, ◌++◌, Option, Some, None, refl, ap}
use Rattle.def_entry.specs.Entries as entry
use Rattle.def_entry.specs.Entries.{What}
use Rattle.expr_tree.specs.declared.word_list.WordUse.{WordUse}
use Rattle.expr_tree.specs.Syntax as tree
use Rattle.expr_tree.specs.Syntax.{Syntax, Members, NoMember, Member, Factors, NoFactor, Factor, Terms, NoTerm, Term}
use Rattle.expr_tree.specs.Words.{words_in, words_in_factors, words_in_members, words_in_terms}
use Rattle.tree_eval.specs.declared.holder.Part.{Part}
use Rattle.tree_eval.specs.declared.holder.Part.TheVariants as part
use Rattle.tree_eval.specs.declared.step.Step.TheVariants.{Multiply}
use Rattle.tree_eval.specs.Entries.{eval_part_words, evaluated_alias, evaluated_meaning, function_eval_words}
use Rattle.tree_eval.specs.Entries.{greatest_rank, rank_of_meaning, eval_tree_words_if}
use Rattle.tree_eval.specs.Expansions as x
use Rattle.tree_eval.specs.Expansions.{EvalMeaning}
use Rattle.tree_eval.specs.Expansion.{called_eval_word, expand, expand_if, factor_links, operand_call_expansion}
use Rattle.tree_eval.specs.Expansion.{operand_inverse_expansion, inverted_eval_word, eval_meaning_expansion}
use Rattle.tree_eval.specs.Expansion.{member_links, plain_eval_word, scale_operand_step, sign_operand_step, term_links}
use Rattle.tree_eval.specs.Laws.{AgreeOnEvalMeanings}
use Rattle.general_lemmas.proofs.Places.{get_left, get_right}

module _ (m n : WordUse → EvalMeaning) where
  agree_left : (ws vs : List WordUse) → AgreeOnEvalMeanings m n (ws ++ vs) → AgreeOnEvalMeanings m n ws
  agree_left ws vs h k u e = h k u (get_left ws vs k u e)

  agree_right : (ws vs : List WordUse) → AgreeOnEvalMeanings m n (ws ++ vs) → AgreeOnEvalMeanings m n vs
  agree_right ws vs h k u e = h _ u (get_right ws vs k u e)

  agree_rest : (w : WordUse) (ws : List WordUse) → AgreeOnEvalMeanings m n (w ∷ ws) → AgreeOnEvalMeanings m n ws
  agree_rest w ws h k u e = h (suc k) u e

  agree_append : (ws vs : List WordUse) → AgreeOnEvalMeanings m n ws → AgreeOnEvalMeanings m n vs
      → AgreeOnEvalMeanings m n (ws ++ vs)
  agree_append [] vs a b k u e = b k u e
  agree_append (w ∷ ws) vs a b zero u e = a zero u e
  agree_append (w ∷ ws) vs a b (suc k) u e = agree_append ws vs (λ j. a (suc j)) b k u e

  mutual
    pub expand_same : (e : Syntax) → AgreeOnEvalMeanings m n (words_in e) → expand m e ≡ expand n e
    expand_same (tree.Number k) h = refl
    expand_same (tree.Bar k l) h = refl
    expand_same (tree.Word w) h = ap eval_meaning_expansion (h 0 (plain_eval_word w) refl)
    expand_same tree.Argument h = refl
    expand_same (tree.Call w e) h =
        let a : m (called_eval_word w) ≡ n (called_eval_word w) = h 0 (called_eval_word w) refl in
        let b : expand m e ≡ expand n e = expand_same e (agree_rest (called_eval_word w) (words_in e) h)
        in λ i. operand_call_expansion (a i) (b i)
    expand_same (tree.Inverse w e) h =
        let a : m (inverted_eval_word w) ≡ n (inverted_eval_word w) = h 0 (inverted_eval_word w) refl in
        let b : expand m e ≡ expand n e = expand_same e (agree_rest (inverted_eval_word w) (words_in e) h)
        in λ i. operand_inverse_expansion (a i) (b i)
    expand_same (tree.Root kind e) h = ap (x.Root kind) (expand_same e h)
    expand_same (tree.Group e) h = ap x.Group (expand_same e h)
    expand_same (tree.Negate e) h = ap x.Negated (expand_same e h)
    expand_same (tree.Power e f) h =
        let p : expand m e ≡ expand n e = expand_same e (agree_left (words_in e) (words_in f) h) in
        let q : expand m f ≡ expand n f =
        expand_same f (agree_right (words_in e) (words_in f) h) in λ i. x.Power (p i) (q i)
    expand_same (tree.Juxtaposed NoMember) h = refl
    expand_same (tree.Juxtaposed (Member e es)) h =
        let p : expand m e ≡ expand n e = expand_same e (agree_left (words_in e) (words_in_members es) h) in
        let q : member_links m es ≡ member_links n es =
        members_same es (agree_right (words_in e) (words_in_members es) h) in λ i. x.Chain (p i) (q i)
    expand_same (tree.Product NoFactor) h = refl
    expand_same (tree.Product (Factor s e fs)) h =
        let p : expand m e ≡ expand n e = expand_same e (agree_left (words_in e) (words_in_factors fs) h) in
        let q : factor_links m fs ≡ factor_links n fs =
        factors_same fs (agree_right (words_in e) (words_in_factors fs) h) in λ i. x.Chain (p i) (q i)
    expand_same (tree.Sum NoTerm) h = refl
    expand_same (tree.Sum (Term s e ts)) h =
        let p : expand m e ≡ expand n e = expand_same e (agree_left (words_in e) (words_in_terms ts) h) in
        let q : term_links m ts ≡ term_links n ts = terms_same ts (agree_right (words_in e) (words_in_terms ts) h)
        in λ i. x.Chain (p i) (q i)

    members_same : (es : Members) → AgreeOnEvalMeanings m n (words_in_members es)
        → member_links m es ≡ member_links n es
    members_same NoMember h = refl
    members_same (Member e es) h =
        let p : expand m e ≡ expand n e = expand_same e (agree_left (words_in e) (words_in_members es) h) in
        let q : member_links m es ≡ member_links n es =
        members_same es (agree_right (words_in e) (words_in_members es) h) in λ i. x.Link Multiply (p i) (q i)

    factors_same : (fs : Factors) → AgreeOnEvalMeanings m n (words_in_factors fs)
        → factor_links m fs ≡ factor_links n fs
    factors_same NoFactor h = refl
    factors_same (Factor s e fs) h =
        let p : expand m e ≡ expand n e = expand_same e (agree_left (words_in e) (words_in_factors fs) h) in
        let q : factor_links m fs ≡ factor_links n fs =
        factors_same fs (agree_right (words_in e) (words_in_factors fs) h) in
        λ i. x.Link (scale_operand_step s) (p i) (q i)

    terms_same : (ts : Terms) → AgreeOnEvalMeanings m n (words_in_terms ts) → term_links m ts ≡ term_links n ts
    terms_same NoTerm h = refl
    terms_same (Term s e ts) h =
        let p : expand m e ≡ expand n e = expand_same e (agree_left (words_in e) (words_in_terms ts) h) in
        let q : term_links m ts ≡ term_links n ts = terms_same ts (agree_right (words_in e) (words_in_terms ts) h)
        in λ i. x.Link (sign_operand_step s) (p i) (q i)

  if_same : (o : Option Syntax) → AgreeOnEvalMeanings m n (eval_tree_words_if o) → expand_if m o ≡ expand_if n o
  if_same None h = refl
  if_same (Some e) h = ap x.Present (expand_same e h)

  rank_same : (us : List WordUse) → AgreeOnEvalMeanings m n us → greatest_rank m us ≡ greatest_rank n us
  rank_same [] h = refl
  rank_same (u ∷ us) h =
      let a : m u ≡ n u = h 0 u refl in
      let b : greatest_rank m us ≡ greatest_rank n us =
      rank_same us (agree_rest u us h) in λ i. max (rank_of_meaning (a i)) (b i)

  pub meaning_same : (name : List ℕ) (w : What) → ((p : Part) → AgreeOnEvalMeanings m n (eval_part_words w p))
      → evaluated_meaning m name w ≡ evaluated_meaning n name w
  meaning_same name entry.Primitive h = refl
  meaning_same name entry.Dimensionless h = refl
  meaning_same name (entry.Body e) h = ap x.One (expand_same e (h part.Body))
  meaning_same name (entry.Function d) h =
      let a : expand_if m d.in_unit ≡ expand_if n d.in_unit = if_same d.in_unit (h part.InUnit) in
      let b : expand_if m d.out_unit ≡ expand_if n d.out_unit = if_same d.out_unit (h part.OutUnit) in
      let f : expand m d.forward ≡ expand n d.forward = expand_same d.forward (h part.Forward) in
      let v : expand_if m d.inverse ≡ expand_if n d.inverse = if_same d.inverse (h part.Inverse) in
      let r : greatest_rank m (function_eval_words d) ≡ greatest_rank n (function_eval_words d) =
      rank_same (function_eval_words d)
      (agree_append ((eval_tree_words_if d.in_unit ++ eval_tree_words_if d.out_unit) ++ words_in d.forward)
      (eval_tree_words_if d.inverse)
      (agree_append (eval_tree_words_if d.in_unit ++ eval_tree_words_if d.out_unit) (words_in d.forward)
      (agree_append (eval_tree_words_if d.in_unit) (eval_tree_words_if d.out_unit) (h part.InUnit) (h part.OutUnit))
      (h part.Forward))
      (h part.Inverse)) in
      λ i. x.Callee (x.Function name (suc (r i)) (a i) (b i) d.domain d.range (f i) (v i))
  meaning_same name (entry.Alias target) h = ap (evaluated_alias name)
      (h part.Forward 0 (inverted_eval_word target) refl)
  meaning_same name (entry.Table d) h =
      let r : greatest_rank m (words_in d.unit) ≡ greatest_rank n (words_in d.unit) =
      rank_same (words_in d.unit) (h part.TableUnit) in
      let u : expand m d.unit ≡ expand n d.unit = expand_same d.unit (h part.TableUnit) in
      λ i. x.Callee (x.Table name (suc (r i)) (u i) d.points)
  meaning_same name (entry.ListOf parts) h = refl
