-- The meaning of a key, by its entry.
use Rattle.std.specs.Prelude.{ℕ, suc, max, List, [], ◌∷◌, ◌++◌, Option, Some, None}
use Rattle.def_entry.specs.Entries as entry
use Rattle.def_entry.specs.Entries.{What, FunctionDef}
use Rattle.expr_tree.specs.declared.word_list.WordUse.{WordUse}
use Rattle.expr_tree.specs.Syntax.{Syntax}
use Rattle.expr_tree.specs.Words.{words_in}
use Rattle.tree_eval.specs.declared.holder.Part.{Part}
use Rattle.tree_eval.specs.declared.holder.Part.TheVariants as part
use Rattle.tree_eval.specs.Expansions.{EvalMeaning, One, Callee, Primitive, Dimensionless, Function, Alias, Table}
use Rattle.tree_eval.specs.Expansions.{callable_rank}
use Rattle.tree_eval.specs.Expansion.{expand, expand_if, inverted_eval_word}

abbrev pub eval_tree_words_if : Option Syntax → List WordUse
eval_tree_words_if None = []
eval_tree_words_if (Some e) = words_in e

-- the words of one of the trees of an entry; the target of an alias is the word of its forward tree
abbrev pub eval_part_words : What → Part → List WordUse
eval_part_words (entry.Body e) part.Body = words_in e
eval_part_words (entry.Function d) part.InUnit = eval_tree_words_if d.in_unit
eval_part_words (entry.Function d) part.OutUnit = eval_tree_words_if d.out_unit
eval_part_words (entry.Function d) part.Forward = words_in d.forward
eval_part_words (entry.Function d) part.Inverse = eval_tree_words_if d.inverse
eval_part_words (entry.Alias target) part.Forward = inverted_eval_word target ∷ []
eval_part_words (entry.Table d) part.TableUnit = words_in d.unit
eval_part_words _ _ = []

-- the words of all trees of a function
abbrev pub function_eval_words : FunctionDef → List WordUse
function_eval_words d = eval_tree_words_if d.in_unit ++ eval_tree_words_if d.out_unit ++ words_in d.forward
    ++ eval_tree_words_if d.inverse

-- the rank of a meaning, or 0 if it is not a function
abbrev pub rank_of_meaning : EvalMeaning → ℕ
rank_of_meaning (Callee f) = callable_rank f
rank_of_meaning _ = 0

-- the greatest rank among the functions that the words name, or 0 if there are none
abbrev pub greatest_rank : (WordUse → EvalMeaning) → List WordUse → ℕ
greatest_rank means [] = 0
greatest_rank means (u ∷ us) = max (rank_of_meaning (means u)) (greatest_rank means us)

-- an alias of a function; a meaning that is not a function has no alias
abbrev pub evaluated_alias : List ℕ → EvalMeaning → EvalMeaning
evaluated_alias name (Callee f) = Callee (Alias name (suc (callable_rank f)) f)
evaluated_alias name m = m

-- the meaning of the key with this name and this entry; a list has no meaning of its own, and counts as 1
abbrev pub evaluated_meaning : (WordUse → EvalMeaning) → List ℕ → What → EvalMeaning
evaluated_meaning means name entry.Primitive = One (Primitive name)
evaluated_meaning means name entry.Dimensionless = One Dimensionless
evaluated_meaning means name (entry.Body e) = One (expand means e)
evaluated_meaning means name (entry.Function d) =
    Callee (Function name (suc (greatest_rank means (function_eval_words d)))
    (expand_if means d.in_unit) (expand_if means d.out_unit) d.domain d.range
    (expand means d.forward) (expand_if means d.inverse))
evaluated_meaning means name (entry.Alias target) = evaluated_alias name (means (inverted_eval_word target))
evaluated_meaning means name (entry.Table d) = Callee (Table name (suc (greatest_rank means (words_in d.unit)))
    (expand means d.unit) d.points)
evaluated_meaning means name (entry.ListOf parts) = One Dimensionless
