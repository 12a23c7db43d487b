-- The meanings of the names of a table, by rules. A name that breaks a rule has no meaning.
use Rattle.std.specs.Prelude.{◌≡◌, ℕ, suc, false, List, [], ◌∷◌, Contains, Some}
use Rattle.expr_tree.specs.declared.word_list.WordUse.{WordUse}
use Rattle.expr_tree.specs.Names.{is_refused}
use Rattle.expr_tree.specs.Words.{words_in}
use Rattle.def_entry.specs.declared.key.Key.{Key}
use Rattle.def_entry.specs.Entries as what
use Rattle.def_entry.specs.Entries.{Entry, What}
use Rattle.def_entry.specs.Tables.{EntryTable, entry_at}
use Rattle.tree_eval.specs.Entries.{function_eval_words, greatest_rank}
use Rattle.tree_eval.specs.Expansions.{Callable, Callee, Dimensionless, EvalMeaning, Expanded, One, Primitive, Two}
use Rattle.tree_eval.specs.Expansions.{callable_rank}
use Rattle.tree_eval.specs.Expansions as callable
use Rattle.tree_eval.specs.Expansion.{expand, expand_if, inverted_eval_word}
use Rattle.table_names.specs.Leads.{table_word_targets}
use Rattle.table_names.specs.Words.{table_words_of_what}

-- The meaning of an entry with this name, given the meanings of its words: a primitive unit means itself, a
-- dimensionless one 1, and a body its expression with each word replaced by its meaning. A function or a table means
-- its trees, with a rank one above the greatest rank of its words; an alias means its target, which has to be a
-- function, with a rank one above the target's. A list has no meaning.
abbrev pub IsMeaning : (WordUse → EvalMeaning) → List ℕ → What → EvalMeaning → Type 0
IsMeaning means name what.Primitive m = m ≡ One (Primitive name)
IsMeaning means name what.Dimensionless m = m ≡ One Dimensionless
IsMeaning means name (what.Body e) m = m ≡ One (expand means e)
IsMeaning means name (what.Function d) m =
    m ≡ Callee (callable.Function name (suc (greatest_rank means (function_eval_words d)))
    (expand_if means d.in_unit) (expand_if means d.out_unit) d.domain d.range
    (expand means d.forward) (expand_if means d.inverse))
IsMeaning means name (what.Alias target) m =
    (f : Callable) × (means (inverted_eval_word target) ≡ Callee f)
    × (m ≡ Callee (callable.Alias name (suc (callable_rank f)) f))
IsMeaning means name (what.Table d) m =
    m ≡ Callee (callable.Table name (suc (greatest_rank means (words_in d.unit))) (expand means d.unit) d.points)
IsMeaning means name (what.ListOf parts) m = ⊥

mutual
  -- A key stands for what its entry means, if each word of the entry stands for something.
  pub data StandsFor (table : EntryTable) : Key → EvalMeaning → Type 0 where
    ByEntry : {n : Key} {m : EvalMeaning} (e : Entry) (means : WordUse → EvalMeaning) → entry_at table n ≡ Some e
        → ((u : WordUse) → Contains (table_words_of_what e.what) u → WordStandsFor table u (means u))
        → IsMeaning means n.name e.what m → StandsFor table n m

  -- A word that is not a refused name stands for the meaning of its one target, or of a prefix and a unit.
  pub data WordStandsFor (table : EntryTable) : WordUse → EvalMeaning → Type 0 where
    ByOneTarget : {u : WordUse} {m : EvalMeaning} (n : Key) → is_refused u.text ≡ false
        → table_word_targets table u ≡ n ∷ []
        → StandsFor table n m → WordStandsFor table u m
    ByPrefixAndUnit : {u : WordUse} {m : EvalMeaning} (n k : Key) (x y : Expanded) → is_refused u.text ≡ false
        → table_word_targets table u ≡ n ∷ k ∷ [] → StandsFor table n (One x) → StandsFor table k (One y) → m ≡ Two x y
        → WordStandsFor table u m
