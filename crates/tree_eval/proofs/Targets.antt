-- The functions that aliases name.
use Rattle.std.proofs.Common.{◌≡◌, ◌<◌, ℕ, List, [], ◌∷◌, Bool, Some, length, refl, sym, ◌∙◌, ap, arith}
use Rattle.std.specs.Prelude.{slice_get}
use Rattle.def_entry.specs.Entries as entry
use Rattle.def_entry.specs.Entries.{What}
use Rattle.expr_tree.specs.declared.word_list.WordUse.{WordUse}
use Rattle.tree_eval.specs.declared.holder.Holder.{Holder}
use Rattle.tree_eval.specs.declared.holder.Holder.TheVariants.{Of}
use Rattle.tree_eval.specs.declared.holder.Part.TheVariants as part
use Rattle.tree_eval.specs.declared.meaning.Meaning.{Meaning as ReportedMeaning}
use Rattle.tree_eval.specs.declared.meaning.Meaning.TheVariants as reports
use Rattle.tree_eval.specs.Entries.{eval_part_words, evaluated_alias, evaluated_meaning}
use Rattle.tree_eval.specs.Environment.{IsEvalFunction, IsReportedEvalMeaning}
use Rattle.tree_eval.specs.Expansions.{Callable, EvalMeaning, One, Two, Callee, eval_callable_name}
use Rattle.tree_eval.specs.Expansion.{inverted_eval_word}

-- a list that is not empty has a word at place 0
pub eval_words_have_first_word : (ws : List WordUse) → 0 < length ws → (u : WordUse) × (slice_get ws 0 ≡ Some u)
eval_words_have_first_word [] h = let z : ⊥ = omega (arith, h) in absurd z
eval_words_have_first_word (u ∷ ws) h = (u, refl)

-- the reported meaning of a word that is a function is the number of the function
pub reported_callable_has_number : (has : ℕ → Bool) (callee : ℕ → Callable) (m : EvalMeaning) (t : ReportedMeaning)
    (f : Callable)
    → IsReportedEvalMeaning has callee m t → m ≡ Callee f
    → ((x : ℕ) → t ≡ reports.Function x → ⊥) → ⊥
reported_callable_has_number has callee m (reports.One o) f h e n = let p : One h.0 ≡ Callee f = sym h.1 ∙ e in cc
reported_callable_has_number has callee m (reports.Two p u) f h e n = let q : Two h.0 h.1 ≡ Callee f = sym h.2 ∙ e in cc
reported_callable_has_number has callee m (reports.Function id) f h e n = n id refl

-- the target of an alias that is a function is a function
evaluated_alias_target : (name : List ℕ) (m : EvalMeaning) (f : Callable) → evaluated_alias name m ≡ Callee f
    → (x : Callable) × (m ≡ Callee x)
evaluated_alias_target name (One x) f e = cc
evaluated_alias_target name (Two x y) f e = cc
evaluated_alias_target name (Callee g) f e = (g, refl)

-- the word of an alias is a function
pub alias_eval_word_is_callable : (words : Holder → List WordUse) (means : WordUse → EvalMeaning) (id : ℕ)
    (f : Callable) (what : What)
    (target : List ℕ)
    → IsEvalFunction words means id f what → what ≡ entry.Alias target
    → (u : WordUse) → slice_get (words (Of id part.Forward)) 0 ≡ Some u → (x : Callable) × (means u ≡ Callee x)
alias_eval_word_is_callable words means id f what target h e u s =
    let w : words (Of id part.Forward) ≡ inverted_eval_word target ∷ [] = h.words_held part.Forward
    ∙ ap (λ y. eval_part_words y part.Forward) e in
    let p : Some (inverted_eval_word target) ≡ Some u = ap (λ y. slice_get y 0) (sym w) ∙ s in
    let q : inverted_eval_word target ≡ u = cc in
    let a : evaluated_alias (eval_callable_name f) (means (inverted_eval_word target)) ≡ Callee f =
    ap (evaluated_meaning means (eval_callable_name f))
    (sym e)
    ∙ h.is_meant in
    let r : (x : Callable) × (means (inverted_eval_word target) ≡ Callee x) =
    evaluated_alias_target (eval_callable_name f) (means (inverted_eval_word target)) f a in
    (r.0, ap means (sym q) ∙ r.1)
