-- The value of the expression of a key is the outcome of the key.
use Rattle.std.proofs.Common.{◌≡◌, ◌∷◌, [], ℕ, List, Contains, map, Option, Some, None, Ok, Err, refl}
use Rattle.std.proofs.Common.{sym, ap, ◌∙◌, subst, true}
use Rattle.std.specs.Prelude.{◌&&◌, if◌then◌else◌}
use Rattle.std.specs.Option.{is_some}
use Rattle.std.proofs.lemmas.Option.{same_Some}
use Rattle.expr_tree.specs.Syntax.{Syntax, Word}
use Rattle.expr_tree.specs.Words.{words_in}
use Rattle.def_entry.specs.declared.key.Key.{Key}
use Rattle.def_entry.specs.declared.key.Kind.{Kind}
use Rattle.def_entry.specs.declared.key.Kind.TheVariants as kind
use Rattle.def_entry.specs.Entries as what
use Rattle.def_entry.specs.Entries.{Entry, What}
use Rattle.def_entry.specs.Keys.{key}
use Rattle.def_entry.specs.Tables.{EntryTable, entry_at, is_entry_present}
use Rattle.name_lookup.specs.Candidates.{first_present, part_candidates}
use Rattle.tree_eval.specs.Entries.{evaluated_meaning}
use Rattle.tree_eval.specs.Expansions.{Dimensionless, EvalMeaning, Expanded, One, Primitive}
use Rattle.tree_eval.specs.Expansion.{eval_meaning_expansion, plain_eval_word}
use Rattle.tree_eval.specs.Outcomes.{outcome_of_eval_meaning, outcome_of_value, value_in_outcome}
use Rattle.tree_eval.specs.Steps.{ValueOrFault}
use Rattle.tree_eval.specs.Value.{value}
use Rattle.table_names.specs.ClosedKeys.{AreClosedWords, IsClosedKey}
use Rattle.table_names.specs.ClosedLaws.{ClosedWordLaw}
use Rattle.table_names.specs.Leads.{table_word_targets}
use Rattle.table_names.specs.Meanings.{ClosedMeaningLaw, entry_meaning, expansion, key_meaning, outcome}
use Rattle.table_names.specs.Meanings.{targets_meaning, word_meaning}
use Rattle.table_names.specs.Words.{table_words_of_entry, table_words_of_what}
use Rattle.live_table.specs.Answers.{live_answer_of_value, live_table_answer}
use Rattle.value_sources.specs.Values.{SourceValueLaw, named_source_unit, source_syntax_by, source_syntax_in}
use Rattle.general_lemmas.proofs.Members.{member_first}

source_value_of_outcome : (r : ValueOrFault) → r ≡ value_in_outcome (outcome_of_value r)
source_value_of_outcome (Ok q) = refl
source_value_of_outcome (Err fault) = refl

-- the meaning of a key that is an expression
source_value_of_one_meaning : (t : EntryTable) (n : Key) (x : Expanded) → key_meaning t n ≡ One x
    → value x None ≡ value_in_outcome (outcome t n)
source_value_of_one_meaning t n x e = source_value_of_outcome (value x None)
    ∙ ap (λ (m : EvalMeaning). value_in_outcome (outcome_of_eval_meaning m)) (sym e)

-- ---- a key with an expression
module _ (t : EntryTable) (n : Key) (e : Syntax) (d : Entry) (there : entry_at t n ≡ Some d) (is : d.what ≡ what.Body e)
    (closing : ClosedWordLaw) (meaning : ClosedMeaningLaw) (closed : AreClosedWords t (words_in e)) where
  body_closed : IsClosedKey t n
  body_closed = (closing.key t n).1 (subst (AreClosedWords t)
      (sym (ap table_words_of_entry there ∙ ap table_words_of_what is)) closed)

  body_meaning : key_meaning t n ≡ One (expansion t e)
  body_meaning =
      meaning t n body_closed
      ∙ (ap (entry_meaning (word_meaning t) n.name) there
      ∙ ap (evaluated_meaning (word_meaning t) n.name) is)

  body_value : live_table_answer t e ≡ live_answer_of_value None (value_in_outcome (outcome t n))
  body_value =
      ap (λ o. live_answer_of_value o (value (expansion t e) None)) closed
      ∙ ap (live_answer_of_value None) (source_value_of_one_meaning t n (expansion t e) body_meaning)

-- ---- a primitive unit
-- the word of a unit that has an entry leads to it
primitive_source_unit_target : (t : EntryTable) (w : List ℕ) (d : Entry) → entry_at t (key kind.Unit w) ≡ Some d
    → table_word_targets t (plain_eval_word w) ≡ key kind.Unit w ∷ []
primitive_source_unit_target t w d there =
    ap (λ (o : Option Entry). if is_some o && true then key kind.Unit w ∷ []
    else first_present (is_entry_present t) ((key kind.Func w ∷ []) ∷ part_candidates w)) there

module _ (t : EntryTable) (w : List ℕ) (d : Entry) (there : entry_at t (key kind.Unit w) ≡ Some d)
    (closing : ClosedWordLaw) (meaning : ClosedMeaningLaw) (closed : AreClosedWords t (plain_eval_word w ∷ [])) where
  led : table_word_targets t (plain_eval_word w) ≡ key kind.Unit w ∷ []
  led = primitive_source_unit_target t w d there

  word_means : word_meaning t (plain_eval_word w) ≡ key_meaning t (key kind.Unit w)
  word_means = ap (λ (ks : List Key). targets_meaning (map (key_meaning t) ks)) led

  unit_closed : IsClosedKey t (key kind.Unit w)
  unit_closed =
      ((closing.words t (plain_eval_word w ∷ [])).0 closed (plain_eval_word w)
      (member_first (plain_eval_word w) (plain_eval_word w) [] refl)).into (key kind.Unit w)
      (subst (λ (ks : List Key). Contains ks (key kind.Unit w)) (sym led)
      (member_first (key kind.Unit w) (key kind.Unit w) [] refl))

  unit_value : (x : Expanded) → evaluated_meaning (word_meaning t) w d.what ≡ One x
      → live_table_answer t (Word w) ≡ live_answer_of_value None (value_in_outcome (outcome t (key kind.Unit w)))
  unit_value x is =
      let means : key_meaning t (key kind.Unit w) ≡ One x =
      meaning t (key kind.Unit w) unit_closed ∙ (ap (entry_meaning (word_meaning t) w) there ∙ is) in
      ap (λ o. live_answer_of_value o (value (eval_meaning_expansion (word_meaning t (plain_eval_word w))) None)) closed
      ∙ ap (live_answer_of_value None)
      (ap (λ (m : EvalMeaning). value (eval_meaning_expansion m) None) (word_means ∙ means)
      ∙ source_value_of_one_meaning t (key kind.Unit w) x means)

-- ---- by the definition of the key
module _ (closing : ClosedWordLaw) (meaning : ClosedMeaningLaw) (t : EntryTable) where
  primitive_value : (k : Kind) (w : List ℕ) (d : Entry) (x : Expanded) (e : Syntax)
      → entry_at t (key k w) ≡ Some d → evaluated_meaning (word_meaning t) w d.what ≡ One x
      → named_source_unit k w ≡ Some e
      → AreClosedWords t (words_in e) → live_table_answer t e ≡ live_answer_of_value None
      (value_in_outcome (outcome t (key k w)))
  primitive_value kind.Unit w d x e there is named closed =
      let same : Word w ≡ e = same_Some (Word w) e named in
      subst (λ (s : Syntax). live_table_answer t s ≡ live_answer_of_value None
      (value_in_outcome (outcome t (key kind.Unit w)))) same
      (unit_value t w d there closing meaning
      (subst (λ (s : Syntax). AreClosedWords t (words_in s)) (sym same) closed) x is)
  primitive_value kind.Prefix w d x e there is named closed = cc
  primitive_value kind.Func w d x e there is named closed = cc
  primitive_value kind.List w d x e there is named closed = cc

  entry_value : (n : Key) (text : List ℕ) (w : What) (e : Syntax)
      → entry_at t n ≡ Some (record { text = text; what = w }) → source_syntax_in n.kind n.name w ≡ Some e
      → AreClosedWords t (words_in e) → live_table_answer t e ≡ live_answer_of_value None
      (value_in_outcome (outcome t n))
  entry_value n text what.Primitive e there is closed =
      primitive_value n.kind n.name _ (Primitive n.name) e there refl is closed
  entry_value n text what.Dimensionless e there is closed =
      primitive_value n.kind n.name _ Dimensionless e there refl is closed
  entry_value n text (what.Body b) e there is closed =
      body_value t n e _ there (ap what.Body (same_Some b e is)) closing meaning closed
  entry_value n text (what.Function d) e there is closed = cc
  entry_value n text (what.Alias target) e there is closed = cc
  entry_value n text (what.Table d) e there is closed = cc
  entry_value n text (what.ListOf parts) e there is closed = cc

  given_value : (n : Key) (o : Option Entry) (e : Syntax) → entry_at t n ≡ o → source_syntax_by n.kind n.name o ≡ Some e
      → AreClosedWords t (words_in e) → live_table_answer t e ≡ live_answer_of_value None
      (value_in_outcome (outcome t n))
  given_value n None e there is closed = cc
  given_value n (Some d) e there is closed = entry_value n d.text d.what e there is closed

pub source_value_law : ClosedWordLaw → ClosedMeaningLaw → SourceValueLaw
source_value_law closing meaning t n e is closed = given_value closing meaning t n (entry_at t n) e refl is closed
