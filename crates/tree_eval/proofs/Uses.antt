-- A word with its operand, by the reported meaning of the word.
use Rattle.std.proofs.Common.{◌≡◌, ◌<◌, ◌+◌, ◌*◌, ◌∷◌, ℕ, suc, List, Bool, Option, Result, Some, length}
use Rattle.std.proofs.Common.{refl, sym, ap, ◌∙◌, subst, arith}
use Rattle.std.specs.Prelude.{IsTrue, slice_get}
use Rattle.expr_tree.specs.declared.word_list.WordUse.{WordUse}
use Rattle.expr_tree.specs.Syntax as tree
use Rattle.expr_tree.specs.Syntax.{Syntax}
use Rattle.expr_tree.specs.Words.{words_in}
use Rattle.quantity.specs.Amount.{Amount}
use Rattle.tree_eval.specs.Answers.{GivesValueOrFault}
use Rattle.tree_eval.specs.declared.direction.Direction.{Direction}
use Rattle.tree_eval.specs.declared.direction.Direction.TheVariants.{Forward, Inverse}
use Rattle.tree_eval.specs.declared.fault.EvalFault.{EvalFault}
use Rattle.tree_eval.specs.declared.meaning.Meaning.{Meaning as ReportedMeaning}
use Rattle.tree_eval.specs.declared.meaning.Meaning.TheVariants as reports
use Rattle.tree_eval.specs.Directions.{operand_expansion}
use Rattle.tree_eval.specs.Environment.{IsEvalWordRun, IsReportedEvalMeaning}
use Rattle.tree_eval.specs.Expansions.{Callable, EvalMeaning, Expanded}
use Rattle.tree_eval.specs.Expansion.{called_eval_word, expand, inverted_eval_word}
use Rattle.tree_eval.specs.WordValues.{IsUsableEvalMeaning}
use Rattle.tree_eval.specs.Value.{value}
use Rattle.tree_eval.proofs.Alone.{eval_word_at_place}
use Rattle.tree_eval.proofs.Calls.{reported_eval_meaning_is_usable}
use Rattle.tree_eval.proofs.Places.{first_eval_word_at_run, first_eval_word_within, rest_eval_words_at_run}
use Rattle.tree_eval.proofs.Weight.{weight, weight_callable, weight_of_use, weight_of_meaning}

-- a word with its operand is heavier than its reported meaning with the operand
operand_use_weight : (direction : Direction) (has : ℕ → Bool) (callee : ℕ → Callable) (m : EvalMeaning)
    (t : ReportedMeaning)
    (y : Expanded)
    → IsReportedEvalMeaning has callee m t → weight_of_meaning callee t + weight y < weight
    (operand_expansion direction m y)
operand_use_weight Forward has callee m (reports.One o) y h =
    let w : weight (operand_expansion Forward m y) ≡ suc (suc (weight h.0) + (weight y + 0)) =
    ap (λ k. weight (operand_expansion Forward k y)) h.1 in
    omega (arith, w)
operand_use_weight Forward has callee m (reports.Two p u) y h =
    let w : weight (operand_expansion Forward m y) ≡ suc (suc (weight h.0 + weight h.1) + (weight y + 0)) =
    ap (λ k. weight (operand_expansion Forward k y)) h.2 in omega (arith, w)
operand_use_weight Forward has callee m (reports.Function id) y h =
    let w : weight (operand_expansion Forward m y) ≡ suc (weight_callable (callee id) + weight y) =
    ap (λ k. weight (operand_expansion Forward k y)) h.1 in omega (arith, w)
operand_use_weight Inverse has callee m (reports.One o) y h =
    let w : weight (operand_expansion Inverse m y) ≡ suc (suc (weight h.0) + (weight y + 0)) =
    ap (λ k. weight (operand_expansion Inverse k y)) h.1 in
    omega (arith, w)
operand_use_weight Inverse has callee m (reports.Two p u) y h =
    let w : weight (operand_expansion Inverse m y) ≡ suc (suc (weight h.0 + weight h.1) + (weight y + 0)) =
    ap (λ k. weight (operand_expansion Inverse k y)) h.2 in omega (arith, w)
operand_use_weight Inverse has callee m (reports.Function id) y h =
    let w : weight (operand_expansion Inverse m y) ≡ suc (weight_callable (callee id) + weight y) =
    ap (λ k. weight (operand_expansion Inverse k y)) h.1 in omega (arith, w)

-- a word with its operand as a tree
abbrev pub use_of : Direction → List ℕ → Syntax → Syntax
use_of Forward = tree.Call
use_of Inverse = tree.Inverse

-- the word of a function before an operand, or after a `~`
abbrev word_of : Direction → List ℕ → WordUse
word_of Forward = called_eval_word
word_of Inverse = inverted_eval_word

-- the words of a call or an inverse are that of the function and those of the operand
words_of_operand_use : (direction : Direction) (w : List ℕ) (x : Syntax)
    → words_in (use_of direction w x) ≡ word_of direction w
    ∷ words_in x
words_of_operand_use Forward w x = refl
words_of_operand_use Inverse w x = refl

-- the expansion of a call or an inverse is the word operated on that of the operand
expansion_of_operand_use : (direction : Direction) (means : WordUse → EvalMeaning) (w : List ℕ) (x : Syntax)
    → expand means (use_of direction w x) ≡ operand_expansion direction (means (word_of direction w)) (expand means x)
expansion_of_operand_use Forward means w x = refl
expansion_of_operand_use Inverse means w x = refl

-- a tree that is a word with its operand, and whose words are at a place
module _ (direction : Direction) (us : List WordUse) (p : ℕ) {e : Syntax} (w : List ℕ) (x : Syntax)
    (is : e ≡ use_of direction w x) (here : IsEvalWordRun us p (words_in e)) where
  -- the word is at the place, and the words of the operand are after it
  both_stand : IsEvalWordRun us p (word_of direction w ∷ words_in x)
  both_stand = subst (IsEvalWordRun us p) (ap words_in is ∙ words_of_operand_use direction w x) here

  module _ (means : WordUse → EvalMeaning) where
    -- the word of the tree is the one at the place
    word_at : slice_get us p ≡ Some (word_of direction w)
    word_at = first_eval_word_at_run us p (word_of direction w) (words_in x) both_stand

    -- the expansion of the tree is the word operated on its operand
    use_expands : expand means e ≡ operand_expansion direction (means (word_of direction w)) (expand means x)
    use_expands = ap (expand means) is ∙ expansion_of_operand_use direction means w x

    -- a call with the operand is permitted: the word is within the words, those of the operand are after it, and the
    -- two are lighter
    pub record IsUseAtRun : Type 0 where
      pub within : p < length us
      pub lighter : 8 * weight_of_use means direction (slice_get us p) (expand means x) + 1
          < 8 * weight (expand means e) + 2
      pub stand : IsEvalWordRun us (p + 1) (words_in x)

    -- a call with the operand is permitted at the place
    pub use_at_run : IsUseAtRun
    use_at_run =
        let v : weight_of_use means direction (slice_get us p) (expand means x) ≡ weight (expand means e) =
        ap (λ o. weight_of_use means direction o (expand means x)) word_at ∙ sym (ap weight use_expands) in
        record {
          within = first_eval_word_within us p (word_of direction w) (words_in x) both_stand;
          lighter = omega (arith, v);
          stand = rest_eval_words_at_run us p (word_of direction w) (words_in x) both_stand;
        }

    -- a result for the word at the place with the operand is a result for the tree
    pub use_gives : (a : Option Amount) {A : Type 0} (seen : A → Amount) (r : Result A EvalFault)
        → ((u : WordUse) → slice_get us p ≡ Some u
        → GivesValueOrFault seen r (value (operand_expansion direction (means u) (expand means x)) a))
        → GivesValueOrFault seen r (value (expand means e) a)
    use_gives a seen r h =
        subst (λ y. GivesValueOrFault seen r (value y a)) (sym use_expands) (h (word_of direction w) word_at)

-- the words of the operand are at the place that a call has reached after the word
pub operand_stands : (us : List WordUse) (p q : ℕ) (ws : List WordUse) → IsEvalWordRun us (p + 1) ws → q ≡ p + 1
    → IsEvalWordRun us q ws
operand_stands us p q ws here n = subst (λ k. IsEvalWordRun us k ws) (sym n) here

-- the word at a place, with the meaning that is reported for it
module _ (us : List WordUse) (p : ℕ) (within : p < length us) (means : WordUse → EvalMeaning) (has : ℕ → Bool)
    (callee : ℕ → Callable) (t : ReportedMeaning)
    (report : (u : WordUse) → slice_get us p ≡ Some u → IsReportedEvalMeaning has callee (means u) t) where
  -- the reported meaning is usable
  pub use_is_usable : IsUsableEvalMeaning has t
  use_is_usable =
      let s = eval_word_at_place us p within in
      reported_eval_meaning_is_usable has callee (means s.0) t (report s.0 s.1)

  -- the number of a reported function is that of one
  pub use_has_function : {id : ℕ} → t ≡ reports.Function id → IsTrue (has id)
  use_has_function is = subst (IsUsableEvalMeaning has) is use_is_usable

  module _ (direction : Direction) (y : Expanded) where
    -- the word with an operand is heavier than its reported meaning with the operand
    use_weight : weight_of_meaning callee t + weight y < weight_of_use means direction (slice_get us p) y
    use_weight =
        let s = eval_word_at_place us p within in
        subst (λ o. weight_of_meaning callee t + weight y < weight_of_use means direction o y) (sym s.1)
        (operand_use_weight direction has callee (means s.0) t y (report s.0 s.1))

    -- the operand is lighter, also as a member of a chain
    pub operand_lighter : 8 * weight y + 3 < 8 * weight_of_use means direction (slice_get us p) y + 1
    operand_lighter = let w = use_weight in omega (arith, w)

    -- the function is lighter
    pub function_lighter : {id : ℕ} → t ≡ reports.Function id
        → 8 * weight_callable (callee id) + 4 < 8 * weight_of_use means direction (slice_get us p) y + 1
    function_lighter {id} is =
        let w = use_weight in
        let v : weight_of_meaning callee t ≡ weight_callable (callee id) = ap (weight_of_meaning callee) is in
        omega (arith, w, v)
