-- The plan of a word tries its candidates in order.
use Rattle.std.proofs.Common.{◌≡◌, ◌&&◌, ℕ, zero, suc, Bool, true, false, cond, List, [], ◌∷◌, ◌++◌, length, take, drop}
use Rattle.std.proofs.Common.{codes, flat_map, refl, sym, ap, subst, append_assoc, append-nil}
use Rattle.expr_tree.specs.declared.word_list.WordKind.TheVariants as place
use Rattle.def_entry.specs.declared.key.Key.{Key}
use Rattle.def_entry.specs.declared.key.Kind.{Kind}
use Rattle.def_entry.specs.declared.key.Kind.TheVariants as kind
use Rattle.def_entry.specs.Keys.{key}
use Rattle.name_lookup.specs.Candidates.{LookupResult, all_looked_at, first_present, found_targets, part_candidates}
use Rattle.name_lookup.specs.Candidates.{prefix_candidate}
use Rattle.name_lookup.specs.Candidates.{prefix_candidates, prefix_candidates_within, singular_candidates}
use Rattle.name_lookup.specs.Laws.{CandidatesLaw}
use Rattle.name_lookup.specs.Order.{try_key, try_kinds, try_parts, try_prefixes, try_stem, try_stem_if, with_prefix}
use Rattle.name_lookup.specs.Plans.{Asks, Gives, LookupPlan, lookup_result_after, run_lookup_plan}
use Rattle.name_lookup.specs.Plurals.{has_plural_ending, stem_without_end}

module _ (has : Key → Bool) where
  -- a plan has the result of these candidates
  abbrev Tries : LookupPlan → List (List Key) → Type 0
  Tries p cs = run_lookup_plan has p ≡ found_targets has cs

  -- a plan that tries one key tries it as the first candidate
  key_tried : (k : Key) (next : LookupPlan) (cs : List (List Key)) → Tries next cs
      → Tries (try_key k next) ((k ∷ []) ∷ cs)
  key_tried k next cs h = by (has k)
    where
      by : (b : Bool) → lookup_result_after k
          (cond b (record { targets = k ∷ []; keys_looked_at = [] }) (run_lookup_plan has next))
          ≡ record {
            targets = cond (b && true) (k ∷ []) (first_present has cs);
            keys_looked_at = (k ∷ cond b [] []) ++ cond (b && true) [] (all_looked_at has cs);
          }
      by true = refl
      by false = ap (lookup_result_after k) h

  -- a plan that tries a prefix with the rest of its word tries the candidate of both
  prefix_tried : (front rest : List ℕ) (next : LookupPlan) (cs : List (List Key)) → Tries next cs
      → Tries (Asks (key kind.Prefix front) (with_prefix (key kind.Prefix front) rest next) next)
      (prefix_candidate front rest ∷ cs)
  prefix_tried front [] next cs h = key_tried (key kind.Prefix front) next cs h
  prefix_tried front (b ∷ bs) next cs h = by (has p) (has u)
    where
      p : Key
      p = key kind.Prefix front

      u : Key
      u = key kind.Unit (b ∷ bs)

      by : (c d : Bool)
          → lookup_result_after p (cond c
          (lookup_result_after u
          (cond d (record { targets = p ∷ u ∷ []; keys_looked_at = [] }) (run_lookup_plan has next)))
          (run_lookup_plan has next))
          ≡ record {
            targets = cond (c && (d && true)) (p ∷ u ∷ []) (first_present has cs);
            keys_looked_at = (p ∷ cond c (u ∷ cond d [] []) []) ++ cond (c && (d && true)) [] (all_looked_at has cs);
          }
      by true true = refl
      by true false = ap (λ (x : LookupResult). lookup_result_after p (lookup_result_after u x)) h
      by false d = ap (lookup_result_after p) h

  -- a plan that tries the prefixes of a word tries their candidates
  prefixes_tried : (k : ℕ) (word : List ℕ) (next : LookupPlan) (cs : List (List Key)) → Tries next cs
      → Tries (try_prefixes k word next) (prefix_candidates_within k word ++ cs)
  prefixes_tried zero word next cs h = h
  prefixes_tried (suc k) word next cs h =
      prefix_tried (take (suc k) word) (drop (suc k) word) (try_prefixes k word next)
      (prefix_candidates_within k word ++ cs)
      (prefixes_tried k word next cs h)

  -- tries stems one after another
  abbrev try_each : List (List ℕ) → LookupPlan → LookupPlan
  try_each [] next = next
  try_each (v ∷ vs) next = try_stem v (try_each vs next)

  each_tried : (vs : List (List ℕ)) (next : LookupPlan) (cs : List (List Key)) → Tries next cs
      → Tries (try_each vs next) (flat_map singular_candidates vs ++ cs)
  each_tried [] next cs h = h
  each_tried (v ∷ vs) next cs h =
      subst (λ (x : List (List Key)). Tries (try_stem v (try_each vs next)) ((key kind.Unit v ∷ []) ∷ x))
      (sym (append_assoc (prefix_candidates v) (flat_map singular_candidates vs) cs))
      (key_tried (key kind.Unit v) (try_prefixes (length v) v (try_each vs next))
      (prefix_candidates v ++ (flat_map singular_candidates vs ++ cs))
      (prefixes_tried (length v) v (try_each vs next) (flat_map singular_candidates vs ++ cs)
      (each_tried vs next cs h)))

  -- a plan that tries up to three stems tries their candidates
  three_tried : (a b c : Bool) (u v w : List ℕ) (next : LookupPlan) (cs : List (List Key)) → Tries next cs
      → Tries (try_stem_if a u (try_stem_if b v (try_stem_if c w next)))
      (flat_map singular_candidates (cond a (u ∷ []) [] ++ cond b (v ∷ []) [] ++ cond c (w ∷ []) []) ++ cs)
  three_tried true true true u v w next cs h = each_tried (u ∷ v ∷ w ∷ []) next cs h
  three_tried true true false u v w next cs h = each_tried (u ∷ v ∷ []) next cs h
  three_tried true false true u v w next cs h = each_tried (u ∷ w ∷ []) next cs h
  three_tried true false false u v w next cs h = each_tried (u ∷ []) next cs h
  three_tried false true true u v w next cs h = each_tried (v ∷ w ∷ []) next cs h
  three_tried false true false u v w next cs h = each_tried (v ∷ []) next cs h
  three_tried false false true u v w next cs h = each_tried (w ∷ []) next cs h
  three_tried false false false u v w next cs h = h

  -- a plan that tries two kinds and then the parts of a word tries their candidates
  kinds_tried : (one two : Kind) (word : List ℕ)
      → Tries (try_kinds one two word (Gives [])) ((key one word ∷ []) ∷ (key two word ∷ []) ∷ part_candidates word)
  kinds_tried one two word =
      key_tried (key one word) (try_key (key two word) (try_parts word (Gives [])))
      ((key two word ∷ []) ∷ part_candidates word)
      (key_tried (key two word) (try_parts word (Gives [])) (part_candidates word)
      (three_tried (has_plural_ending 2 (codes "s") word) (has_plural_ending 3 (codes "es") word)
      (has_plural_ending 4 (codes "ies") word)
      (stem_without_end 1 word) (stem_without_end 2 word) (stem_without_end 3 word ++ codes "y")
      (try_prefixes (length word) word (Gives []))
      (prefix_candidates word)
      (subst (λ (x : List (List Key)). Tries (try_prefixes (length word) word (Gives [])) x)
      (append-nil (prefix_candidates word))
      (prefixes_tried (length word) word (Gives []) [] refl))))

-- the law of candidates
pub candidates_law : CandidatesLaw
candidates_law has place.Plain word = kinds_tried has kind.Unit kind.Func word
candidates_law has place.Call word = kinds_tried has kind.Func kind.Unit word
candidates_law has place.Inverse word = key_tried has (key kind.Func word) (Gives []) [] refl
