-- Expansions over a table whose points have an x with a denominator above 0.
use Rattle.std.proofs.Common.{◌≡◌, refl, ℕ, zero, suc, List, [], ◌∷◌, map, length, Option, Some, None}
use Rattle.std.specs.List.{AllByRecursion as Each}
use Rattle.expr_tree.specs.declared.word_list.WordUse.{WordUse}
use Rattle.expr_tree.specs.Syntax as tree
use Rattle.expr_tree.specs.Syntax.{Syntax, Members, NoMember, Member, Factors, NoFactor, Factor, Terms, NoTerm, Term}
use Rattle.def_entry.specs.declared.key.Key.{Key}
use Rattle.def_entry.specs.Entries as what
use Rattle.def_entry.specs.Entries.{Entry, What}
use Rattle.def_entry.specs.Tables.{EntryTable, entry_at}
use Rattle.tree_eval.specs.Entries.{evaluated_alias, evaluated_meaning}
use Rattle.tree_eval.specs.Expansions.{Callee, EvalMeaning, Expanded, One, Two}
use Rattle.tree_eval.specs.Expansion.{called_eval_word, expand, expand_if, factor_links, operand_call_expansion}
use Rattle.tree_eval.specs.Expansion.{operand_inverse_expansion, inverted_eval_word, eval_meaning_expansion}
use Rattle.tree_eval.specs.Expansion.{member_links, plain_eval_word, term_links}
use Rattle.table_names.specs.Leads.{table_word_targets}
use Rattle.table_names.specs.Meanings.{entry_meaning, expansion, meaning_within, targets_meaning, word_meaning_by}
use Rattle.reply.proofs.PositivePoints.{HasTablePoints}
use Rattle.reply.proofs.PositiveValues.{AreSound, IsSound, IsSoundCall, IsSoundIf}

abbrev IsSoundMeaning : EvalMeaning → Type 0
IsSoundMeaning (One x) = IsSound x
IsSoundMeaning (Two x y) = IsSound x × IsSound y
IsSoundMeaning (Callee f) = IsSoundCall f

-- ---- words
sound-reply-plain-expansion : (m : EvalMeaning) → IsSoundMeaning m → IsSound (eval_meaning_expansion m)
sound-reply-plain-expansion (One x) h = h
sound-reply-plain-expansion (Two x y) h = h
sound-reply-plain-expansion (Callee f) h = h

sound-reply-call-expansion : (m : EvalMeaning) (y : Expanded) → IsSoundMeaning m → IsSound y
    → IsSound (operand_call_expansion m y)
sound-reply-call-expansion (Callee f) y h k = (h, k)
sound-reply-call-expansion (One x) y h k = (h, (k, tt))
sound-reply-call-expansion (Two x z) y h k = (h, (k, tt))

sound-reply-inverse-expansion : (m : EvalMeaning) (y : Expanded) → IsSoundMeaning m → IsSound y
    → IsSound (operand_inverse_expansion m y)
sound-reply-inverse-expansion (Callee f) y h k = (h, k)
sound-reply-inverse-expansion (One x) y h k = (h, (k, tt))
sound-reply-inverse-expansion (Two x z) y h k = (h, (k, tt))

sound-reply-alias-meaning : (name : List ℕ) (m : EvalMeaning) → IsSoundMeaning m
    → IsSoundMeaning (evaluated_alias name m)
sound-reply-alias-meaning name (Callee f) h = h
sound-reply-alias-meaning name (One x) h = h
sound-reply-alias-meaning name (Two x y) h = h

-- ---- trees
module _ (means : WordUse → EvalMeaning) (sound : (u : WordUse) → IsSoundMeaning (means u)) where
  mutual
    pub sound-tree : (e : Syntax) → IsSound (expand means e)
    sound-tree (tree.Number x) = tt
    sound-tree (tree.Bar x y) = tt
    sound-tree (tree.Word w) = sound-reply-plain-expansion (means (plain_eval_word w)) (sound (plain_eval_word w))
    sound-tree tree.Argument = tt
    sound-tree (tree.Call w e) =
        sound-reply-call-expansion (means (called_eval_word w)) (expand means e) (sound (called_eval_word w))
        (sound-tree e)
    sound-tree (tree.Inverse w e) =
        sound-reply-inverse-expansion (means (inverted_eval_word w)) (expand means e) (sound (inverted_eval_word w))
        (sound-tree e)
    sound-tree (tree.Root kind e) = sound-tree e
    sound-tree (tree.Group e) = sound-tree e
    sound-tree (tree.Negate e) = sound-tree e
    sound-tree (tree.Power e f) = (sound-tree e, sound-tree f)
    sound-tree (tree.Juxtaposed NoMember) = tt
    sound-tree (tree.Juxtaposed (Member e es)) = (sound-tree e, sound-members es)
    sound-tree (tree.Product NoFactor) = tt
    sound-tree (tree.Product (Factor s e fs)) = (sound-tree e, sound-factors fs)
    sound-tree (tree.Sum NoTerm) = tt
    sound-tree (tree.Sum (Term s e ts)) = (sound-tree e, sound-terms ts)

    sound-members : (es : Members) → AreSound (member_links means es)
    sound-members NoMember = tt
    sound-members (Member e es) = (sound-tree e, sound-members es)

    sound-factors : (fs : Factors) → AreSound (factor_links means fs)
    sound-factors NoFactor = tt
    sound-factors (Factor s e fs) = (sound-tree e, sound-factors fs)

    sound-terms : (ts : Terms) → AreSound (term_links means ts)
    sound-terms NoTerm = tt
    sound-terms (Term s e ts) = (sound-tree e, sound-terms ts)

  sound-if : (e : Option Syntax) → IsSoundIf (expand_if means e)
  sound-if None = tt
  sound-if (Some e) = sound-tree e

  sound-entry : (name : List ℕ) (w : What) → HasTablePoints w → IsSoundMeaning (evaluated_meaning means name w)
  sound-entry name what.Primitive h = tt
  sound-entry name what.Dimensionless h = tt
  sound-entry name (what.Body e) h = sound-tree e
  sound-entry name (what.Function d) h = (sound-tree d.forward, sound-if d.inverse)
  sound-entry name (what.Alias target) h =
      sound-reply-alias-meaning name (means (inverted_eval_word target)) (sound (inverted_eval_word target))
  sound-entry name (what.Table d) h = h
  sound-entry name (what.ListOf parts) h = tt

-- ---- names
sound-reply-targets-meaning : (ms : List EvalMeaning) → Each IsSoundMeaning ms → IsSoundMeaning (targets_meaning ms)
sound-reply-targets-meaning [] h = tt
sound-reply-targets-meaning (m ∷ []) h = h.0
sound-reply-targets-meaning (One x ∷ One y ∷ []) h = (h.0, h.1.0)
sound-reply-targets-meaning (One x ∷ One y ∷ m ∷ ms) h = tt
sound-reply-targets-meaning (One x ∷ Two y z ∷ ms) h = tt
sound-reply-targets-meaning (One x ∷ Callee f ∷ ms) h = tt
sound-reply-targets-meaning (Two x y ∷ m ∷ ms) h = tt
sound-reply-targets-meaning (Callee f ∷ m ∷ ms) h = tt

sound-reply-meanings-of-keys : (of_key : Key → EvalMeaning) → ((n : Key) → IsSoundMeaning (of_key n)) → (ns : List Key)
    → Each IsSoundMeaning (map of_key ns)
sound-reply-meanings-of-keys of_key h [] = tt
sound-reply-meanings-of-keys of_key h (n ∷ ns) = (h n, sound-reply-meanings-of-keys of_key h ns)

-- the points of all tables of a table of definitions
abbrev pub HasPointsOf : EntryTable → Type 0
HasPointsOf table = (k : Key) (e : Entry) → entry_at table k ≡ Some e → HasTablePoints e.what

module _ (table : EntryTable) (points : HasPointsOf table) where
  sound-word : (of_key : Key → EvalMeaning) → ((n : Key) → IsSoundMeaning (of_key n)) → (u : WordUse)
      → IsSoundMeaning (word_meaning_by table of_key u)
  sound-word of_key h u = sound-reply-targets-meaning (map of_key (table_word_targets table u))
      (sound-reply-meanings-of-keys of_key h (table_word_targets table u))

  sound-found : (of_key : Key → EvalMeaning) → ((n : Key) → IsSoundMeaning (of_key n)) → (n : Key) (o : Option Entry)
      → entry_at table n ≡ o → IsSoundMeaning (entry_meaning (word_meaning_by table of_key) n.name o)
  sound-found of_key h n None is = tt
  sound-found of_key h n (Some e) is =
      sound-entry (word_meaning_by table of_key) (sound-word of_key h) n.name e.what (points n e is)

  sound-within : (depth : ℕ) (n : Key) → IsSoundMeaning (meaning_within table depth n)
  sound-within zero n = tt
  sound-within (suc depth) n =
      sound-found (meaning_within table depth) (sound-within depth) n (entry_at table n) refl

  pub sound-expansion : (e : Syntax) → IsSound (expansion table e)
  sound-expansion e =
      sound-tree (word_meaning_by table (meaning_within table (length table)))
      (sound-word (meaning_within table (length table)) (sound-within (length table))) e
