-- The meaning of a closed key.
use Rattle.std.proofs.Common.{◌≡◌, ℕ, zero, suc, List, ◌++◌, length, Contains, Option, Some, None}
use Rattle.std.proofs.Common.{is_some, false, refl, sym, ◌∙◌, ap, inl, inr}
use Rattle.std.proofs.lemmas.Bool.{cases_Bool}
use Rattle.std.proofs.lemmas.List.Elements.{Contains-append_left, Contains-append_right}
use Rattle.expr_tree.specs.declared.word_list.WordUse.{WordUse}
use Rattle.def_entry.specs.declared.key.Key.{Key}
use Rattle.def_entry.specs.Entries as what
use Rattle.def_entry.specs.Entries.{Entry, FunctionDef, What}
use Rattle.def_entry.specs.Tables.{EntryTable, entry_at, is_entry_present}
use Rattle.tree_eval.specs.declared.holder.Part.{Part}
use Rattle.tree_eval.specs.declared.holder.Part.TheVariants as part
use Rattle.tree_eval.specs.Entries.{eval_part_words, eval_tree_words_if, function_eval_words}
use Rattle.tree_eval.specs.Expansions.{EvalMeaning}
use Rattle.tree_eval.proofs.Same.{meaning_same}
use Rattle.expr_tree.specs.Words.{words_in}
use Rattle.table_names.specs.ClosedKeys.{IsClosedKey}
use Rattle.table_names.specs.Leads.{table_word_targets}
use Rattle.table_names.specs.Meanings.{ClosedMeaningLaw, entry_meaning, key_meaning}
use Rattle.table_names.specs.Meanings.{meaning_within, one_meaning, targets_meaning, word_meaning_by}
use Rattle.table_names.specs.Words.{table_words_of_entry, table_words_of_what}
use Rattle.table_names.proofs.EndingWays.{EndsWithin}
use Rattle.table_names.proofs.Paths.{closed_key_ending, present_key_ending}
use Rattle.general_lemmas.proofs.Members.{no_member, member_at, map_same}

-- a word of one of the trees of a function is a word of the function
module _ (d : FunctionDef) (u : WordUse) where
  abbrev upto_out : List WordUse
  upto_out = eval_tree_words_if d.in_unit ++ eval_tree_words_if d.out_unit

  abbrev upto_forward : List WordUse
  upto_forward = upto_out ++ words_in d.forward

  from_out : Contains upto_out u → Contains (function_eval_words d) u
  from_out i = Contains-append_left upto_forward (eval_tree_words_if d.inverse) u
      (Contains-append_left upto_out (words_in d.forward) u i)

  function_word : (p : Part) → Contains (eval_part_words (what.Function d) p) u → Contains (function_eval_words d) u
  function_word part.InUnit i =
      from_out (Contains-append_left (eval_tree_words_if d.in_unit) (eval_tree_words_if d.out_unit) u i)
  function_word part.OutUnit i =
      from_out (Contains-append_right (eval_tree_words_if d.in_unit) (eval_tree_words_if d.out_unit) u i)
  function_word part.Forward i =
      Contains-append_left upto_forward (eval_tree_words_if d.inverse) u
      (Contains-append_right upto_out (words_in d.forward) u i)
  function_word part.Inverse i = Contains-append_right upto_forward (eval_tree_words_if d.inverse) u i
  function_word part.TableUnit i = absurd (no_member u i)
  function_word part.Body i = absurd (no_member u i)

-- a word of one of the trees of an entry is a word of the entry
part_word_is_table_word : (w : What) (p : Part) (u : WordUse) → Contains (eval_part_words w p) u
    → Contains (table_words_of_what w) u
part_word_is_table_word what.Primitive p u i = absurd (no_member u i)
part_word_is_table_word what.Dimensionless p u i = absurd (no_member u i)
part_word_is_table_word (what.Body e) part.InUnit u i = absurd (no_member u i)
part_word_is_table_word (what.Body e) part.OutUnit u i = absurd (no_member u i)
part_word_is_table_word (what.Body e) part.Forward u i = absurd (no_member u i)
part_word_is_table_word (what.Body e) part.Inverse u i = absurd (no_member u i)
part_word_is_table_word (what.Body e) part.TableUnit u i = absurd (no_member u i)
part_word_is_table_word (what.Body e) part.Body u i = i
part_word_is_table_word (what.Function d) p u i = function_word d u p i
part_word_is_table_word (what.Alias target) part.InUnit u i = absurd (no_member u i)
part_word_is_table_word (what.Alias target) part.OutUnit u i = absurd (no_member u i)
part_word_is_table_word (what.Alias target) part.Forward u i = i
part_word_is_table_word (what.Alias target) part.Inverse u i = absurd (no_member u i)
part_word_is_table_word (what.Alias target) part.TableUnit u i = absurd (no_member u i)
part_word_is_table_word (what.Alias target) part.Body u i = absurd (no_member u i)
part_word_is_table_word (what.Table d) part.InUnit u i = absurd (no_member u i)
part_word_is_table_word (what.Table d) part.OutUnit u i = absurd (no_member u i)
part_word_is_table_word (what.Table d) part.Forward u i = absurd (no_member u i)
part_word_is_table_word (what.Table d) part.Inverse u i = absurd (no_member u i)
part_word_is_table_word (what.Table d) part.TableUnit u i = i
part_word_is_table_word (what.Table d) part.Body u i = absurd (no_member u i)
part_word_is_table_word (what.ListOf parts) p u i = absurd (no_member u i)

-- equal meanings of the words of an entry give its key equal meanings
pub entry_meaning_by_equal_words :
    (means other : WordUse → EvalMeaning) (name : List ℕ) (o : Option Entry)
    → ((u : WordUse) → Contains (table_words_of_entry o) u → means u ≡ other u)
    → entry_meaning means name o ≡ entry_meaning other name o
entry_meaning_by_equal_words means other name None h = refl
entry_meaning_by_equal_words means other name (Some e) h =
    meaning_same means other name e.what
    (λ p k u at. h u (part_word_is_table_word e.what p u (member_at (eval_part_words e.what p) k u at)))

-- a key without an entry means 1
absent_meaning : (means : WordUse → EvalMeaning) (name : List ℕ) (o : Option Entry) → is_some o ≡ false
    → entry_meaning means name o ≡ one_meaning
absent_meaning means name None e = refl
absent_meaning means name (Some x) e = cc

module _ (table : EntryTable) where
  -- two sufficient depths give the same meaning
  pub meaning_at : (j k : ℕ) (n : Key) → EndsWithin table j n → EndsWithin table k n
      → meaning_within table j n ≡ meaning_within table k n
  meaning_at zero k n f g = absurd f
  meaning_at (suc j) zero n f g = absurd g
  meaning_at (suc j) (suc k) n f g =
      entry_meaning_by_equal_words (word_meaning_by table (meaning_within table j))
      (word_meaning_by table (meaning_within table k)) n.name (entry_at table n)
      (λ u i. ap targets_meaning
      (map_same (meaning_within table j) (meaning_within table k) (table_word_targets table u)
      (λ m t. meaning_at j k m ((f u i).into m t) ((g u i).into m t))))

  absent_within : (k : ℕ) (n : Key) → is_entry_present table n ≡ false → meaning_within table k n ≡ one_meaning
  absent_within zero n e = refl
  absent_within (suc k) n e =
      absent_meaning (word_meaning_by table (meaning_within table k)) n.name (entry_at table n) e

  -- the number of keys is a sufficient depth: one more gives the same meaning
  pub enough : (n : Key) → IsClosedKey table n → meaning_within table (suc (length table)) n ≡ key_meaning table n
  enough n closed =
      elim (cases_Bool (is_entry_present table n)) [
        | inl there ↦
            meaning_at (suc (length table)) (length table) n
            (closed_key_ending table n closed) (present_key_ending table n there closed)
        | inr absent ↦ absent_within (suc (length table)) n absent ∙ sym (absent_within (length table) n absent)
      ]

-- the law of the meanings of closed keys
pub closed_meaning_law : ClosedMeaningLaw
closed_meaning_law table n closed = sym (enough table n closed)
