-- The words of the trees of an entry among all its words, and their steps.
use Rattle.std.proofs.Common.{◌≡◌, ◌+◌, ◌*◌, ℕ, zero, suc, List, [], ◌∷◌, ◌++◌, length, Option, Some, refl}
use Rattle.std.proofs.Common.{◌∙◌, ap, subst, arith, length-append}
use Rattle.std.specs.List.{slice_get}
use Rattle.expr_tree.specs.declared.word_list.WordUse.{WordUse}
use Rattle.expr_tree.specs.Words.{words_in}
use Rattle.def_entry.specs.declared.key.Key.{Key}
use Rattle.def_entry.specs.Entries as what
use Rattle.def_entry.specs.Entries.{FunctionDef, What}
use Rattle.def_entry.specs.Tables.{EntryTable}
use Rattle.name_walk.specs.declared.step.Step.{Step}
use Rattle.tree_eval.specs.declared.holder.Part.{Part}
use Rattle.tree_eval.specs.declared.holder.Part.TheVariants as part
use Rattle.tree_eval.specs.Entries.{eval_part_words, eval_tree_words_if, function_eval_words}
use Rattle.tree_eval.specs.Expansion.{inverted_eval_word}
use Rattle.table_names.specs.declared.fault.NameFault.{NameFault}
use Rattle.table_names.specs.Words.{table_words_of_what}
use Rattle.table_names.specs.NumberedNames.{AreWords, IsWord}
use Rattle.live_table.specs.Callees.{node_part_start}
use Rattle.general_lemmas.proofs.Places.{get_left, get_right}

-- ---- the words of a part come after those of the parts before it
from_zero : (ws : List WordUse) (k : ℕ) (u : WordUse) → slice_get ws k ≡ Some u → slice_get ws (0 + k) ≡ Some u
from_zero ws k u e = let z : 0 + k ≡ k = omega arith in ap (slice_get ws) z ∙ e

module _ (d : FunctionDef) (k : ℕ) (u : WordUse) where
  abbrev ins : List WordUse
  ins = eval_tree_words_if d.in_unit

  abbrev outs : List WordUse
  outs = eval_tree_words_if d.out_unit

  abbrev forwards : List WordUse
  forwards = words_in d.forward

  abbrev inverses : List WordUse
  inverses = eval_tree_words_if d.inverse

  in_first : slice_get ins k ≡ Some u → slice_get (function_eval_words d) (0 + k) ≡ Some u
  in_first e = from_zero (function_eval_words d) k u (get_left (ins ++ outs ++ forwards) inverses k u
      (get_left (ins ++ outs) forwards k u (get_left ins outs k u e)))

  out_next : slice_get outs k ≡ Some u → slice_get (function_eval_words d) (length ins + k) ≡ Some u
  out_next e = get_left (ins ++ outs ++ forwards) inverses (length ins + k) u
      (get_left (ins ++ outs) forwards (length ins + k) u (get_right ins outs k u e))

  forward_next : slice_get forwards k ≡ Some u → slice_get (function_eval_words d) (length ins + length outs + k) ≡ Some
      u
  forward_next e =
      subst (λ (n : ℕ). slice_get (function_eval_words d) (n + k) ≡ Some u) (length-append ins outs)
      (get_left (ins ++ outs ++ forwards) inverses (length (ins ++ outs) + k) u
      (get_right (ins ++ outs) forwards k u e))

  inverse_last : slice_get inverses k ≡ Some u → slice_get (function_eval_words d) (length ins + length outs + length
      forwards + k) ≡ Some u
  inverse_last e =
      let z : length (ins ++ outs ++ forwards) ≡ length ins + length outs + length forwards =
      length-append (ins ++ outs) forwards ∙ ap (λ n. n + length forwards) (length-append ins outs) in
      subst (λ (n : ℕ). slice_get (function_eval_words d) (n + k) ≡ Some u) z
      (get_right (ins ++ outs ++ forwards) inverses k u e)

-- the words of a part are among those of its entry
pub part_words_are_in_node_entry : (w : What) (p : Part) (k : ℕ) (u : WordUse)
    → slice_get (eval_part_words w p) k ≡ Some u
    → slice_get (table_words_of_what w) (node_part_start w p + k) ≡ Some u
part_words_are_in_node_entry (what.Body x) part.Body k u e = from_zero (words_in x) k u e
part_words_are_in_node_entry (what.Function d) part.InUnit k u e = in_first d k u e
part_words_are_in_node_entry (what.Function d) part.OutUnit k u e = out_next d k u e
part_words_are_in_node_entry (what.Function d) part.Forward k u e = forward_next d k u e
part_words_are_in_node_entry (what.Function d) part.Inverse k u e = inverse_last d k u e
part_words_are_in_node_entry (what.Alias target) part.Forward k u e = from_zero (inverted_eval_word target ∷ []) k u e
part_words_are_in_node_entry (what.Table d) part.TableUnit k u e = from_zero (words_in d.unit) k u e
part_words_are_in_node_entry what.Primitive p k u e = cc
part_words_are_in_node_entry what.Dimensionless p k u e = cc
part_words_are_in_node_entry (what.ListOf parts) p k u e = cc
part_words_are_in_node_entry (what.Body x) part.InUnit k u e = cc
part_words_are_in_node_entry (what.Body x) part.OutUnit k u e = cc
part_words_are_in_node_entry (what.Body x) part.Forward k u e = cc
part_words_are_in_node_entry (what.Body x) part.Inverse k u e = cc
part_words_are_in_node_entry (what.Body x) part.TableUnit k u e = cc
part_words_are_in_node_entry (what.Function d) part.TableUnit k u e = cc
part_words_are_in_node_entry (what.Function d) part.Body k u e = cc
part_words_are_in_node_entry (what.Alias target) part.InUnit k u e = cc
part_words_are_in_node_entry (what.Alias target) part.OutUnit k u e = cc
part_words_are_in_node_entry (what.Alias target) part.Inverse k u e = cc
part_words_are_in_node_entry (what.Alias target) part.TableUnit k u e = cc
part_words_are_in_node_entry (what.Alias target) part.Body k u e = cc
part_words_are_in_node_entry (what.Table d) part.InUnit k u e = cc
part_words_are_in_node_entry (what.Table d) part.OutUnit k u e = cc
part_words_are_in_node_entry (what.Table d) part.Forward k u e = cc
part_words_are_in_node_entry (what.Table d) part.Inverse k u e = cc
part_words_are_in_node_entry (what.Table d) part.Body k u e = cc

-- ---- the steps of the word at a place
pub record IsStepped (table : EntryTable) (key : ℕ → Key) (dead_end : ℕ → Option Key → NameFault) (u : WordUse)
    (xs : List Step) (k : ℕ) : Type 0 where
  pub x : Step
  pub y : Step
  pub at_first : slice_get xs (2 * k) ≡ Some x
  pub at_second : slice_get xs (2 * k + 1) ≡ Some y
  pub word : IsWord table key dead_end u x y

-- twice the successor is two more
two_more : (k : ℕ) → 2 * suc k ≡ suc (suc (2 * k))
two_more k = omega arith

-- twice the successor, plus one, is two more
two_more_odd : (k : ℕ) → 2 * suc k + 1 ≡ suc (suc (2 * k + 1))
two_more_odd k = omega arith

-- each word has its two steps
pub node_word_has_two_steps : (table : EntryTable) (key : ℕ → Key) (d : ℕ → Option Key → NameFault) (us : List WordUse)
    (xs : List Step)
    → AreWords table key d us xs
    → (k : ℕ) (u : WordUse) → slice_get us k ≡ Some u → IsStepped table key d u xs k
node_word_has_two_steps table key d [] [] w k u e = cc
node_word_has_two_steps table key d [] (x ∷ xs) w k u e = cc
node_word_has_two_steps table key d (v ∷ us) [] w k u e = absurd w
node_word_has_two_steps table key d (v ∷ us) (x ∷ []) w k u e = absurd w
node_word_has_two_steps table key d (v ∷ us) (x ∷ y ∷ xs) w zero u e =
    let q : v ≡ u = cc in
    record {
      x = x;
      y = y;
      at_first = refl;
      at_second = refl;
      word = subst
          (λ (z : WordUse). IsWord table key d z x y) q w.0;
    }
node_word_has_two_steps table key d (v ∷ us) (x ∷ y ∷ xs) w (suc k) u e =
    let r : IsStepped table key d u xs k = node_word_has_two_steps table key d us xs w.1 k u e in
    record {
      x = r.x;
      y = r.y;
      at_first = ap (slice_get (x ∷ y ∷ xs)) (two_more k) ∙ r.at_first;
      at_second = ap (slice_get (x ∷ y ∷ xs)) (two_more_odd k) ∙ r.at_second;
      word = r.word;
    }
