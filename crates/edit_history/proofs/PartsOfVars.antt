-- Parts of lists of variables.
use Rattle.std.proofs.Common.{◌≡◌, ◌⊎◌, inl, inr, ◌++◌, ◌∷◌, ◌+◌, ◌-◌, ◌<◌, ◌≤◌, [], zero, suc, ℕ, List, length, take}
use Rattle.std.proofs.Common.{drop, get_or, slice_get, Some, None, refl, sym, ap, subst, ◌∙◌, arith, append_assoc}
use Rattle.std.proofs.Common.{drop-drop, take-append-drop, take_all, Bool, true}
use Rattle.std.specs.Bool.{OnTrue}
use Rattle.std.specs.Str.{bytes_eq}
use Rattle.std.proofs.lemmas.Bool.{OnTrue_from}
use Rattle.std.proofs.lemmas.List.{append-nil, drop_more, take_more_same, take_rest}
use Rattle.std.proofs.lemmas.Option.{get_or_from_slice_get, same_Some, slice_get-get_or, slice_get_within}
use Rattle.std.proofs.lemmas.Slice.Eq.{bytes_eq-Decides}
use Rattle.units_io.specs.NamedValues.{HasDistinctTextNames, HasNoTextOfName, NamedTexts, with_named_text}
use Rattle.units_io.proofs.Names.{HasNoName-before, with_named_text-new}
use Rattle.edit_history.specs.SettingSwitches.{history_exchanged_variables}
use Rattle.edit_history.specs.VarsParts.{IsSameHistoryPair, history_pairs_between, history_with_pairs}

-- setting the pairs of two lists, one after the other, is setting those of both together
history_with_pairs-append : (pairs first others : NamedTexts) → history_with_pairs (history_with_pairs pairs first)
    others
    ≡ history_with_pairs pairs (first ++ others)
history_with_pairs-append pairs [] others = refl
history_with_pairs-append pairs (p ∷ first) others = history_with_pairs-append (with_named_text pairs p.0 p.1) first
    others

-- setting pairs with new names appends them
history_with_pairs-new : (pairs others : NamedTexts) → HasDistinctTextNames (pairs ++ others)
    → history_with_pairs pairs others ≡ pairs ++ others
history_with_pairs-new pairs [] distinct = sym (append-nil pairs)
history_with_pairs-new pairs (p ∷ others) distinct =
    ap (λ (ps : NamedTexts). history_with_pairs ps others)
    (with_named_text-new pairs p.0 p.1 (HasNoName-before pairs p others distinct))
    ∙ history_with_pairs-new (pairs ++ p ∷ []) others
    (subst HasDistinctTextNames (sym (append_assoc pairs (p ∷ []) others)) distinct)
    ∙ append_assoc pairs (p ∷ []) others

HasNoName-take : (n : ℕ) (pairs : NamedTexts) (name : List ℕ) → HasNoTextOfName pairs name
    → HasNoTextOfName (take n pairs) name
HasNoName-take zero pairs name none = tt
HasNoName-take (suc n) [] name none = tt
HasNoName-take (suc n) (p ∷ pairs) name none = (none.0, HasNoName-take n pairs name none.1)

HasDistinctNames-take : (n : ℕ) (pairs : NamedTexts) → HasDistinctTextNames pairs → HasDistinctTextNames (take n pairs)
HasDistinctNames-take zero pairs distinct = tt
HasDistinctNames-take (suc n) [] distinct = tt
HasDistinctNames-take (suc n) (p ∷ pairs) distinct =
    (HasNoName-take n pairs p.0 distinct.0, HasDistinctNames-take n pairs distinct.1)

HasDistinctNames-drop : (n : ℕ) (pairs : NamedTexts) → HasDistinctTextNames pairs → HasDistinctTextNames (drop n pairs)
HasDistinctNames-drop zero pairs distinct = distinct
HasDistinctNames-drop (suc n) [] distinct = tt
HasDistinctNames-drop (suc n) (p ∷ pairs) distinct = HasDistinctNames-drop n pairs distinct.1

-- copying a part into an empty list gives the part
pub history_part_is_copied : (first end : ℕ) (vars : NamedTexts) → HasDistinctTextNames vars
    → history_with_pairs [] (history_pairs_between first end vars) ≡ history_pairs_between first end vars
history_part_is_copied first end vars distinct =
    history_with_pairs-new [] (history_pairs_between first end vars)
    (HasDistinctNames-take (end - first) (drop first vars) (HasDistinctNames-drop first vars distinct))

-- replacing what differs by the differing part of the others gives the others
pub history_part_replaces_difference : (first cut end : ℕ) (vars others : NamedTexts)
    → take first vars ≡ take first others
    → drop cut vars ≡ drop end others → first ≤ end
    → history_exchanged_variables first cut (history_pairs_between first end others) vars ≡ others
history_part_replaces_difference first cut end vars others front back within =
    ap (λ (ps : NamedTexts). ps ++ (part ++ drop cut vars)) front
    ∙ ap (λ (ps : NamedTexts). take first others ++ (part ++ ps)) (back ∙ rest_after_front)
    ∙ ap (λ (ps : NamedTexts). take first others ++ ps) (take-append-drop (end - first) (drop first others))
    ∙ take-append-drop first others
  where
    part : NamedTexts
    part = history_pairs_between first end others

    rest_after_front : drop end others ≡ drop (end - first) (drop first others)
    rest_after_front =
        let there : end ≡ first + (end - first) = omega (arith, within) in
        ap (λ n. drop n others) there ∙ sym (drop-drop (end - first) first others)

-- a part that begins at the first pair
history_part_from_start : (end : ℕ) (vars : NamedTexts) → history_pairs_between 0 end vars ≡ take end vars
history_part_from_start end vars = let all : end - 0 ≡ end = omega arith in ap (λ n. take n vars) all

-- copying the three parts of changed variables, one after another, gives the changed variables
pub history_parts_are_copied : (first end : ℕ) (put vars : NamedTexts)
    → HasDistinctTextNames (history_exchanged_variables first end put vars)
    → history_with_pairs (history_with_pairs (history_with_pairs [] (history_pairs_between 0 first vars))
    (history_pairs_between 0 (length put) put))
    (history_pairs_between end (length vars) vars)
    ≡ history_exchanged_variables first end put vars
history_parts_are_copied first end put vars distinct =
    history_with_pairs-append (history_with_pairs [] (history_pairs_between 0 first vars))
    (history_pairs_between 0 (length put) put)
    (history_pairs_between end (length vars) vars)
    ∙ history_with_pairs-append [] (history_pairs_between 0 first vars)
    (history_pairs_between 0 (length put) put ++ history_pairs_between end (length vars) vars)
    ∙ ap (λ (ps : NamedTexts).
    history_with_pairs []
    (ps ++ (history_pairs_between 0 (length put) put ++ history_pairs_between end (length vars) vars)))
    (history_part_from_start first vars)
    ∙ ap (λ (ps : NamedTexts).
    history_with_pairs [] (take first vars ++ (ps ++ history_pairs_between end (length vars) vars)))
    (history_part_from_start (length put) put ∙ take_all (length put) put (omega arith))
    ∙ ap (λ (ps : NamedTexts). history_with_pairs [] (take first vars ++ (put ++ ps))) (take_rest vars end)
    ∙ history_with_pairs-new [] (history_exchanged_variables first end put vars) distinct

-- copying the three parts gives the changed variables, for lists and lengths that are equal to these
pub history_parts_are_put_together : (first end put_length length_before : ℕ) (put vars none made more all : NamedTexts)
    → none ≡ []
    → made ≡ history_with_pairs none (history_pairs_between 0 first vars)
    → put_length ≡ length put → more ≡ history_with_pairs made (history_pairs_between 0 put_length put)
    → length_before ≡ length vars → all ≡ history_with_pairs more (history_pairs_between end length_before vars)
    → HasDistinctTextNames (history_exchanged_variables first end put vars)
    → all ≡ history_exchanged_variables first end put vars
history_parts_are_put_together first end put_length length_before put vars none made more all empty front here middle
    there back
    distinct =
    back ∙ ap (λ n. history_with_pairs more (history_pairs_between end n vars)) there
    ∙ ap (λ (ps : NamedTexts). history_with_pairs ps (history_pairs_between end (length vars) vars))
    (middle ∙ ap (λ n. history_with_pairs made (history_pairs_between 0 n put)) here
    ∙ ap (λ (ps : NamedTexts). history_with_pairs ps (history_pairs_between 0 (length put) put))
    (front ∙ ap (λ (ps : NamedTexts). history_with_pairs ps (history_pairs_between 0 first vars)) empty))
    ∙ history_parts_are_copied first end put vars distinct

-- a part is its first pair and the rest of the part
pub history_pairs_between_step : (i end : ℕ) (vars : NamedTexts) (p : List ℕ × List ℕ) → i < end
    → slice_get vars i ≡ Some p
    → history_pairs_between i end vars ≡ p ∷ history_pairs_between (i + 1) end vars
history_pairs_between_step i end vars p below is =
    let fewer : end - i ≡ suc (end - (i + 1)) = omega (arith, below) in
    ap (take (end - i)) (drop_more vars i p (slice_get_within vars i p is)
    ∙ ap (λ q. q ∷ drop (i + 1) vars) (get_or_from_slice_get vars i p p is))
    ∙ ap (λ n. take n (p ∷ drop (i + 1) vars)) fewer

-- the part is empty
pub no_history_pairs_between : (i end : ℕ) (vars : NamedTexts) → (end ≤ i) ⊎ (slice_get vars i ≡ None)
    → history_pairs_between i end vars ≡ []
no_history_pairs_between i end vars (inl past) =
    let none : end - i ≡ 0 = omega (arith, past) in ap (λ n. take n (drop i vars)) none
no_history_pairs_between i end vars (inr none) = ap (take (end - i)) (gone i vars none) ∙ take_none (end - i)
  where
    gone : (i : ℕ) (vars : NamedTexts) → slice_get vars i ≡ None → drop i vars ≡ []
    gone zero [] e = refl
    gone zero (p ∷ vars) e = cc
    gone (suc i) [] e = refl
    gone (suc i) (p ∷ vars) e = gone i vars e

    take_none : (n : ℕ) → take {A = List ℕ × List ℕ} n [] ≡ []
    take_none zero = refl
    take_none (suc n) = refl

-- two pairs are equal if tests say that their names and values are
pub same_history_pair : (vars others : NamedTexts) (i j : ℕ) (name value other_name other_value : List ℕ)
    (names values : Bool)
    → slice_get vars i ≡ Some (name, value) → slice_get others j ≡ Some (other_name, other_value)
    → names ≡ bytes_eq name other_name → names ≡ true → values ≡ bytes_eq value other_value
    → OnTrue values (IsSameHistoryPair vars i others j)
same_history_pair vars others i j name value other_name other_value names values here there named is valued =
    OnTrue_from values (IsSameHistoryPair vars i others j) (λ also. record {
      here = slice_get_within vars i (name, value) here;
      index_within = slice_get_within others j (other_name, other_value) there;
      pair_same = here ∙ ap (λ n. Some (n, value)) ((bytes_eq-Decides name other_name).0 (sym named ∙ is))
          ∙ ap (λ v. Some (other_name, v)) ((bytes_eq-Decides value other_value).0 (sym valued ∙ also)) ∙ sym there;
    })

-- equal pairs are equal when read with a default
same_history_pair_is_read : (vars others : NamedTexts) (i j : ℕ) (d : List ℕ × List ℕ)
    → IsSameHistoryPair vars i others j
    → get_or vars i d ≡ get_or others j d
same_history_pair_is_read vars others i j d is =
    same_Some _ _ (sym (slice_get-get_or vars i d is.here) ∙ is.pair_same ∙ slice_get-get_or others j d is.index_within)

-- an equal pair extends the equal front
pub equal_history_front_step : (vars others : NamedTexts) (i : ℕ) → IsSameHistoryPair vars i others i
    → take i vars ≡ take i others
    → take (i + 1) vars ≡ take (i + 1) others
equal_history_front_step vars others i is same =
    take_more_same vars others i ([], []) is.here is.index_within same
    (same_history_pair_is_read vars others i i ([], []) is)

-- an equal pair extends the equal end
pub equal_history_end_step : (vars others : NamedTexts) (m n : ℕ) → 0 < m → 0 < n
    → IsSameHistoryPair vars (m - 1) others (n - 1)
    → drop m vars ≡ drop n others → drop (m - 1) vars ≡ drop (n - 1) others
equal_history_end_step vars others m n some more is same =
    let here : m - 1 + 1 ≡ m = omega (arith, some) in
    let there : n - 1 + 1 ≡ n = omega (arith, more) in
    drop_more vars (m - 1) ([], []) is.here
    ∙ ap (λ p. p ∷ drop (m - 1 + 1) vars) (same_history_pair_is_read vars others (m - 1) (n - 1) ([], []) is)
    ∙ ap (λ (ps : NamedTexts). get_or others (n - 1) ([], []) ∷ ps)
    (ap (λ k. drop k vars) here ∙ same ∙ ap (λ k. drop k others) (sym there))
    ∙ sym (drop_more others (n - 1) ([], []) is.index_within)
