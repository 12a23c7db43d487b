-- The kinds of the targets of words.
use Rattle.std.proofs.Common.{◌≡◌, ◌≢◌, ◌&&◌, ℕ, zero, suc, Bool, true, false, cond, List, [], ◌∷◌, ◌++◌, length, take}
use Rattle.std.proofs.Common.{drop, flat_map, Contains, refl, sym, ap, subst, inl, inr}
use Rattle.std.specs.List.{list_all}
use Rattle.expr_tree.specs.declared.word_list.WordKind.{WordKind}
use Rattle.expr_tree.specs.declared.word_list.WordKind.TheVariants as place
use Rattle.expr_tree.specs.declared.word_list.WordUse.{WordUse}
use Rattle.def_entry.specs.declared.key.Key.{Key}
use Rattle.def_entry.specs.declared.key.Kind.TheVariants as kind
use Rattle.def_entry.specs.Keys.{key}
use Rattle.def_entry.specs.SameKeys.{is_same_key_kind}
use Rattle.def_entry.specs.Tables.{EntryTable, is_entry_present}
use Rattle.name_lookup.specs.Candidates.{candidates, first_present, part_candidates, prefix_candidate}
use Rattle.name_lookup.specs.Candidates.{prefix_candidates, prefix_candidates_within, singular_candidates}
use Rattle.name_lookup.specs.Plurals.{singulars}
use Rattle.tree_eval.specs.Expansion.{inverted_eval_word}
use Rattle.table_names.specs.Leads.{table_word_targets}
use Rattle.general_lemmas.proofs.Members.{no_member, member_cases}

-- the key is not a list
abbrev pub IsNoList : Key → Type 0
IsNoList k = is_same_key_kind k.kind kind.List ≡ false

-- there are no keys, there is one key that is not a list, or there are a prefix and a unit
abbrev pub AreTargets : List Key → Type 0
AreTargets [] = Unit {0}
AreTargets (n ∷ []) = IsNoList n
AreTargets (n ∷ m ∷ []) = (n.kind ≡ kind.Prefix) × (m.kind ≡ kind.Unit)
AreTargets (n ∷ m ∷ o ∷ ks) = ⊥

-- each candidate has this form
abbrev AreCandidates : List (List Key) → Type 0
AreCandidates [] = Unit {0}
AreCandidates (c ∷ cs) = AreTargets c × AreCandidates cs

-- the first present candidate has this form
first_table_targets_have_kinds : (has : Key → Bool) (cs : List (List Key)) → AreCandidates cs
    → AreTargets (first_present has cs)
first_table_targets_have_kinds has [] h = tt
first_table_targets_have_kinds has (c ∷ cs) h = either (list_all has c) c (first_present has cs) h.0
    (first_table_targets_have_kinds has cs h.1)
  where
    either : (b : Bool) (ks ls : List Key) → AreTargets ks → AreTargets ls → AreTargets (cond b ks ls)
    either true ks ls p q = p
    either false ks ls p q = q

joined_table_targets_have_kinds : (cs ds : List (List Key)) → AreCandidates cs → AreCandidates ds
    → AreCandidates (cs ++ ds)
joined_table_targets_have_kinds [] ds g h = h
joined_table_targets_have_kinds (c ∷ cs) ds g h = (g.0, joined_table_targets_have_kinds cs ds g.1 h)

-- the candidate of a prefix, or of a prefix and a unit, has this form
prefix_table_targets_have_kinds : (front rest : List ℕ) → AreTargets (prefix_candidate front rest)
prefix_table_targets_have_kinds front [] = refl
prefix_table_targets_have_kinds front (b ∷ bs) = (refl, refl)

prefixes_table_targets_have_kinds : (k : ℕ) (word : List ℕ) → AreCandidates (prefix_candidates_within k word)
prefixes_table_targets_have_kinds zero word = tt
prefixes_table_targets_have_kinds (suc k) word =
    (prefix_table_targets_have_kinds (take (suc k) word) (drop (suc k) word), prefixes_table_targets_have_kinds k word)

singular_table_targets_have_kinds : (words : List (List ℕ)) → AreCandidates (flat_map singular_candidates words)
singular_table_targets_have_kinds [] = tt
singular_table_targets_have_kinds (w ∷ ws) =
    joined_table_targets_have_kinds (singular_candidates w) (flat_map singular_candidates ws)
    (refl, prefixes_table_targets_have_kinds (length w) w)
    (singular_table_targets_have_kinds ws)

part_table_targets_have_kinds : (word : List ℕ) → AreCandidates (part_candidates word)
part_table_targets_have_kinds word =
    joined_table_targets_have_kinds (flat_map singular_candidates (singulars word)) (prefix_candidates word)
    (singular_table_targets_have_kinds (singulars word))
    (prefixes_table_targets_have_kinds (length word) word)

-- all candidates of a word have this form
table_candidates_have_kinds : (at : WordKind) (word : List ℕ) → AreCandidates (candidates at word)
table_candidates_have_kinds place.Plain word = (refl, (refl, part_table_targets_have_kinds word))
table_candidates_have_kinds place.Call word = (refl, (refl, part_table_targets_have_kinds word))
table_candidates_have_kinds place.Inverse word = (refl, tt)

-- the targets of each word have this form
pub table_word_targets_have_kinds : (table : EntryTable) (u : WordUse) → AreTargets (table_word_targets table u)
table_word_targets_have_kinds table u = first_table_targets_have_kinds (is_entry_present table)
    (candidates u.kind u.text) (table_candidates_have_kinds u.kind u.text)

-- keys of this form are not lists
table_target_member_is_no_list : (ks : List Key) → AreTargets ks → (n : Key) → Contains ks n → IsNoList n
table_target_member_is_no_list [] h n i = absurd (no_member n i)
table_target_member_is_no_list (k ∷ []) h n i =
    elim (member_cases n k [] i) [
      | inl e ↦ subst (λ (x : Key). IsNoList x) (sym e) h
      | inr j ↦ absurd (no_member n j)
    ]
table_target_member_is_no_list (k ∷ l ∷ []) h n i =
    elim (member_cases n k (l ∷ []) i) [
      | inl e ↦ subst (λ (x : Key). IsNoList x) (sym e) (ap (λ x. is_same_key_kind x kind.List) h.0)
      | inr j ↦ elim (member_cases n l [] j) [
        | inl f ↦ subst (λ (x : Key). IsNoList x) (sym f) (ap (λ x. is_same_key_kind x kind.List) h.1)
        | inr o ↦ absurd (no_member n o)
      ]
    ]
table_target_member_is_no_list (k ∷ l ∷ m ∷ ks) h n i = absurd h

-- no target is a list
pub table_word_target_is_no_list : (table : EntryTable) (u : WordUse) (n : Key)
    → Contains (table_word_targets table u) n → IsNoList n
table_word_target_is_no_list table u n i = table_target_member_is_no_list (table_word_targets table u)
    (table_word_targets_have_kinds table u) n i

-- the target of a word after a `~`, if it has any, is its function
pub inverted_table_word_target :
    (table : EntryTable) (w : List ℕ) → table_word_targets table (inverted_eval_word w) ≢ []
    → table_word_targets table (inverted_eval_word w) ≡ key kind.Func w ∷ []
inverted_table_word_target table w = by (is_entry_present table (key kind.Func w))
  where
    by : (b : Bool) → cond (b && true) (key kind.Func w ∷ []) [] ≢ []
        → cond (b && true) (key kind.Func w ∷ []) [] ≡ key kind.Func w ∷ []
    by true some = refl
    by false some = absurd (some refl)
